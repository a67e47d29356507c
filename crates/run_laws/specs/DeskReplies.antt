-- That what is done at a desk is what one store does, and that a link fault may end what began.
use Rattle.std.specs.Prelude.{◌≡◌, List, ◌∷◌, ◌++◌}
use Rattle.uid_names.specs.Names.{ProcName}
use Rattle.dom_history.specs.declared.op.Op.{Op}
use Rattle.dom_history.specs.declared.op.Op.TheVariants as ops
use Rattle.dom_history.specs.declared.op.Reply.TheVariants.{LinkFault}
use Rattle.dom_history.specs.StoreEffects.{own}
use Rattle.dom_history.specs.Replies.{Before}
use Rattle.dom_history.specs.Legal.{IsAllowed}
use Rattle.history_moves.specs.Asking.{MayAsk}
use Rattle.node_runs.specs.Setups.{Setup}
use Rattle.node_runs.specs.Notes.{Note}
use Rattle.node_runs.specs.Runs.{Noted, World}
use Rattle.run_laws.specs.NotedEffects.{noted_past}
use Rattle.run_laws.specs.NotedDeeds.{noted_deeds}

-- what stood before an operation of p, after these notes
abbrev pub before_note : Setup → List Noted → ProcName → Before
before_note s older p = record { opening = s.opening; past = noted_past older; told = own p (noted_deeds older) }

-- an operation that is open may have asked its home; a load or store is one that one store would have done
abbrev pub MayBeThere : Before → ProcName → Op → Type 0
MayBeThere b p (ops.Load spot n) = IsAllowed b p (ops.Load spot n) LinkFault
MayBeThere b p (ops.Store spot bytes) = IsAllowed b p (ops.Store spot bytes) LinkFault
MayBeThere b p op = MayAsk b.told op

abbrev pub IsOneStoreNote : Setup → List Noted → Note → Type 0
IsOneStoreNote s older (Note.Did p phase op reply) = IsAllowed (before_note s older p) p op reply
IsOneStoreNote s older (Note.Began p op) = MayBeThere (before_note s older p) p op
IsOneStoreNote s older note = Unit {0}

abbrev pub AreDeskReplies : Setup → World → Type 0
AreDeskReplies s w = (newer older : List Noted) (j : Noted) → w.trace ≡ newer ++ j ∷ older → IsOneStoreNote s older j.note
