-- What is said of all turns, whatever is chosen, in which no tick is above the greatest one.
use Rattle.std.specs.Prelude.{◌≡◌, ℕ, Some, List, ◌∷◌}
use Rattle.dom_history.specs.declared.plan.FateRow.{FateRow}
use Rattle.dom_history.specs.Events.{Happening}
use Rattle.node_runs.specs.Setups.{Setup, IsSetup}
use Rattle.node_runs.specs.NodesKeep.{IsTimely}
use Rattle.node_runs.specs.Runs.{World}
use Rattle.world_runs.specs.Turns.{turn, after_turns}

-- it holds in each world to which turns of this set-up by this plan lead
abbrev pub AfterTurns : Setup → List FateRow → (World → Type 0) → Type 0
AfterTurns s plan P = (cs : List ℕ) (w : World) → after_turns s plan cs ≡ Some w → IsTimely w → P w

-- and so of every set-up and plan
abbrev pub AfterEveryTurn : (Setup → List FateRow → World → Type 0) → Type 0
AfterEveryTurn P = (s : Setup) (plan : List FateRow) → IsSetup s → AfterTurns s plan (P s plan)

-- it holds of the worlds before and after each turn
abbrev pub AtEveryTurn : (Setup → List FateRow → World → World → Type 0) → Type 0
AtEveryTurn P =
    (s : Setup) (plan : List FateRow) → IsSetup s → (cs : List ℕ) (old new : World) (choice : ℕ) →
    after_turns s plan cs ≡ Some old → IsTimely old → turn s plan old choice ≡ Some new → P s plan old new

-- and of the event that the turn does
abbrev pub AtEveryTurnsEvent : (Setup → List FateRow → World → World → Happening → Type 0) → Type 0
AtEveryTurnsEvent P = AtEveryTurn (λ s plan old new. (e : Happening) → new.done ≡ e ∷ old.done → P s plan old new e)
