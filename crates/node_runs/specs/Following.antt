-- That each process does what its program wants, and that its program is told what fits.
use Rattle.std.specs.Prelude.{◌≡◌, Option, Some, None}
use Rattle.dom_history.specs.declared.op.Want.{Want}
use Rattle.dom_history.specs.declared.op.Want.TheVariants.{Do}
use Rattle.dom_history.specs.Follows.{Heard}
use Rattle.dom_history.specs.Ranges.{AreNamedReplies}
use Rattle.node_runs.specs.NodeStates.{OpenOp, ProcState}
use Rattle.node_runs.specs.Told.{AreFitting}

-- an open operation is what the program wants
abbrev pub IsWanted : Want → Option OpenOp → Type 0
IsWanted want None = Unit {0}
IsWanted want (Some o) = want ≡ Do o.began.op

-- a process: its open operation is what its program wants, and its program was told what fits, and of no object but
-- real ones
pub record IsFollowed (asks : Heard → Want) (q : ProcState) : Type 0 where
  pub wanted : IsWanted (asks q.heard) q.doing
  pub fitting : AreFitting asks q.heard
  pub named : AreNamedReplies q.heard
