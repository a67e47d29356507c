-- Where an unlock or a removal, and what an answer says to an open call, may want memory.
use Rattle.std.specs.Prelude.{ℕ, IsSome}
use Rattle.uid_names.specs.Names.{ObjectName}
use Rattle.page_cache.specs.Numbers.{dirty_page}
use Rattle.fault_handler.specs.Desks.{DeskState}
use Rattle.fault_handler.specs.Changes.{with_page_done}
use Rattle.fault_handler.specs.LockCalls.{LockAnswer}
use Rattle.lock_validate.specs.GrantDrops.{MayDropAt}

-- a page of the object is to be sent home first, and its bytes are copied
abbrev pub SendsPage : DeskState → ObjectName → Type 0
SendsPage d u = IsSome (dirty_page d.cache.pages u)

-- pages may be dropped, or the next page is sent
abbrev pub MayWantAt : DeskState → ℕ → LockAnswer → Type 0
MayWantAt d p (LockAnswer.Granted u m grant stamp room length) = MayDropAt d (LockAnswer.Granted u m grant stamp room length)
MayWantAt d p (LockAnswer.Refused q held) = MayDropAt d (LockAnswer.Refused q held)
MayWantAt d p (LockAnswer.Gone u) = MayDropAt d (LockAnswer.Gone u)
MayWantAt d p (LockAnswer.PageSettled u delete taken stamp) = SendsPage (with_page_done d p taken) u
MayWantAt d p (LockAnswer.LengthSettled u length delete taken stamp) = SendsPage d u
MayWantAt d p (LockAnswer.Released u) = MayDropAt d (LockAnswer.Released u)
MayWantAt d p (LockAnswer.Removed u) = MayDropAt d (LockAnswer.Removed u)
