-- That what a home decides is what one store says, and that what it changes may act.
use Rattle.std.specs.Prelude.{◌≡◌, ℕ, true, Some, List, ◌∷◌, ◌++◌}
use Rattle.dom_history.specs.declared.op.Op.{Op}
use Rattle.dom_history.specs.declared.op.Reply.{Reply}
use Rattle.dom_history.specs.Objects.{is_node}
use Rattle.dom_history.specs.Legal.{MayAct}
use Rattle.history_moves.specs.Asking.{HomeSays}
use Rattle.node_runs.specs.Setups.{Setup}
use Rattle.node_runs.specs.Notes.{Note}
use Rattle.node_runs.specs.Runs.{Noted, World}
use Rattle.node_runs.specs.RunHistories.{settled_op, change_reply}
use Rattle.run_laws.specs.ToldAnswers.{TellsReply}
use Rattle.run_laws.specs.NotedEffects.{noted_past}

-- a decision that settles an operation: what it tells is what one store says, and what it changed may act
abbrev pub IsHomeReply : Setup → List Noted → ℕ → Note → Type 0
IsHomeReply s older home (Note.Decided p number ask answer) =
    (op : Op) → settled_op home ask ≡ Some op
    → ((reply : Reply) → TellsReply op reply answer → HomeSays s.opening (noted_past older) p op reply)
    × ((reply : Reply) → change_reply answer ≡ Some reply → MayAct s.opening (noted_past older) p op reply)
IsHomeReply s older home note = Unit {0}

abbrev pub AreHomeReplies : Setup → World → Type 0
AreHomeReplies s w = (newer older : List Noted) (j : Noted) → w.trace ≡ newer ++ j ∷ older → is_node s.opening j.place.node ≡ true → IsHomeReply s older j.place.node j.note
