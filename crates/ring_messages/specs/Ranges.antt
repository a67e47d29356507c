-- The ranges of what a frame carries, beyond those that the types of its fields keep.
use Rattle.std.specs.Prelude.{◌≡◌, ℕ, ◌*◌, ◌≤◌, ◌<◌, List, length}
use Rattle.uid_names.specs.InOrder.{AreInOrder}
use Rattle.uid_names.specs.Rows.{row_lt}
use Rattle.uid_names.specs.declared.lock_row.LockRow.{LockRow}
use Rattle.uid_names.specs.Rooms.{IsRoom, IsPageNumber, IsLength}
use Rattle.uid_names.specs.declared.limits.TheConstants.{PAGE_BYTES, LISTED_ROWS}
use Rattle.ring_messages.specs.declared.body.Body.{Body}
use Rattle.ring_messages.specs.declared.body.Body.TheVariants.{PageIn, PageOut, AttrOut, Lock, Unlock, Remove, Make, List as ListLocks, Page, Stored, Stale, NoGrant, NoObject, Granted, Conflict, Done, Made, NoSpace, Listed}

-- a whole page
abbrev pub IsWhole : List ℕ → Type 0
IsWhole bytes = length bytes ≡ PAGE_BYTES

-- the rows of one reply: few enough, and each stands before the later ones
abbrev pub AreListed : List LockRow → Type 0
AreListed rows = (length rows ≤ LISTED_ROWS) × AreInOrder row_lt rows

-- a body that may be sent to a node: requests are for objects of that node; grants, bases and stamps are from 1
abbrev pub IsBody : ℕ → Body → Type 0
IsBody to (PageIn u page) = (u.home ≡ to) × IsPageNumber page
IsBody to (PageOut u page grant base bytes) = (u.home ≡ to) × IsPageNumber page × (1 ≤ grant) × (1 ≤ base) × IsWhole bytes
IsBody to (AttrOut u n grant base) = (u.home ≡ to) × IsLength n × (1 ≤ grant) × (1 ≤ base)
IsBody to (Lock u m) = u.home ≡ to
IsBody to (Unlock u) = u.home ≡ to
IsBody to (Remove u) = u.home ≡ to
IsBody to (Make kind room) = IsRoom room
IsBody to (ListLocks after) = Unit {0}
IsBody to (Page stamp bytes) = (1 ≤ stamp) × IsWhole bytes
IsBody to (Stored stamp) = 1 ≤ stamp
IsBody to (Stale stamp) = 1 ≤ stamp
IsBody to NoGrant = Unit {0}
IsBody to NoObject = Unit {0}
IsBody to (Granted grant stamp kind room n) = (1 ≤ grant) × (1 ≤ stamp) × IsRoom room × IsLength n
IsBody to (Conflict p m) = Unit {0}
IsBody to Done = Unit {0}
IsBody to (Made u) = Unit {0}
IsBody to NoSpace = Unit {0}
IsBody to (Listed rows more) = AreListed rows

-- no room, page or length of a body lies above this room
abbrev pub LiesWithin : ℕ → Body → Type 0
LiesWithin room (PageIn u page) = page < room
LiesWithin room (PageOut u page grant base bytes) = page < room
LiesWithin room (AttrOut u n grant base) = n ≤ PAGE_BYTES * room
LiesWithin room (Lock u m) = Unit {0}
LiesWithin room (Unlock u) = Unit {0}
LiesWithin room (Remove u) = Unit {0}
LiesWithin room (Make kind made) = made ≤ room
LiesWithin room (ListLocks after) = Unit {0}
LiesWithin room (Page stamp bytes) = Unit {0}
LiesWithin room (Stored stamp) = Unit {0}
LiesWithin room (Stale stamp) = Unit {0}
LiesWithin room NoGrant = Unit {0}
LiesWithin room NoObject = Unit {0}
LiesWithin room (Granted grant stamp kind given n) = (given ≤ room) × (n ≤ PAGE_BYTES * room)
LiesWithin room (Conflict p m) = Unit {0}
LiesWithin room Done = Unit {0}
LiesWithin room (Made u) = Unit {0}
LiesWithin room NoSpace = Unit {0}
LiesWithin room (Listed rows more) = Unit {0}
