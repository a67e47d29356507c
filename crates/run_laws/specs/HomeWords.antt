-- That what a home decides is what the history before that place says: whether a lock is granted, and which rows a list tells.
use Rattle.std.specs.Prelude.{◌≡◌, ℕ, true, List, ◌∷◌, ◌++◌}
use Rattle.uid_names.specs.Names.{ProcName}
use Rattle.uid_names.specs.Openings.{Start}
use Rattle.uid_names.specs.Rows.{rows_after}
use Rattle.dom_history.specs.declared.op.Op.TheVariants as ops
use Rattle.dom_history.specs.StoreEffects.{StoreEffect}
use Rattle.dom_history.specs.Locks.{rows}
use Rattle.dom_history.specs.Objects.{is_node}
use Rattle.dom_history.specs.Replies.{home_lock_reply, list_reply}
use Rattle.ring_messages.specs.Bodies.{Ask, Answer}
use Rattle.node_runs.specs.Setups.{Setup}
use Rattle.node_runs.specs.Notes.{Note}
use Rattle.node_runs.specs.Runs.{Noted, World}
use Rattle.run_laws.specs.ToldAnswers.{TellsReply}
use Rattle.run_laws.specs.HistoryHomes.{past_then}

abbrev pub AnswersSo : Start → List StoreEffect → ℕ → ProcName → Ask → Answer → Type 0
AnswersSo opening past home p (Ask.Lock u m) answer = TellsReply (ops.Lock u m) (home_lock_reply opening past p u m) answer
AnswersSo opening past home p (Ask.ListLocks after) answer = TellsReply (ops.List home after) (list_reply (rows_after after (rows home past))) answer
AnswersSo opening past home p ask answer = Unit {0}

abbrev pub SaysSo : Start → List StoreEffect → ℕ → Note → Type 0
SaysSo opening past home (Note.Decided p number ask answer) = AnswersSo opening past home p ask answer
SaysSo opening past home note = Unit {0}

-- each decision of a node, by what the history has before it
abbrev pub AreHomeWords : Setup → World → Type 0
AreHomeWords s w = (newer older : List Noted) (j : Noted) → w.trace ≡ newer ++ j ∷ older → is_node s.opening j.place.node ≡ true → SaysSo s.opening (past_then w older) j.place.node j.note
