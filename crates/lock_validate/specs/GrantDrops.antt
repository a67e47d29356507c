-- At which answers pages are dropped.
use Rattle.std.specs.Prelude.{◌≡◌, false}
use Rattle.version_stamps.specs.Stamps.{stamp_of}
use Rattle.fault_handler.specs.Desks.{DeskState, any_keeps}
use Rattle.fault_handler.specs.LockCalls.{LockAnswer}
use Rattle.lock_validate.specs.Answers.{is_seen}

-- a grant whose stamp is not the seen one, or an answer by which the object is known to be gone; in either case no process of
-- the node keeps the object
abbrev pub MayDropAt : DeskState → LockAnswer → Type 0
MayDropAt d (LockAnswer.Granted u m grant stamp room length) = (any_keeps d.entries u ≡ false) × (is_seen stamp (stamp_of u d.seen) ≡ false)
MayDropAt d (LockAnswer.Refused q held) = ⊥
MayDropAt d (LockAnswer.Gone u) = any_keeps d.entries u ≡ false
MayDropAt d (LockAnswer.PageSettled u delete taken stamp) = ⊥
MayDropAt d (LockAnswer.LengthSettled u length delete taken stamp) = ⊥
MayDropAt d (LockAnswer.Released u) = ⊥
MayDropAt d (LockAnswer.Removed u) = any_keeps d.entries u ≡ false
