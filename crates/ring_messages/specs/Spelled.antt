-- Which frames there are, and which bytes spell one.
use Rattle.std.specs.Prelude.{◌≡◌, ℕ, ◌≤◌, ◌<◌, ◌^◌, List, All, Option, Some, None}
use Rattle.uid_names.specs.Names.{ProcName, ObjectName, IsName, IsNodeNumber, IsProcName}
use Rattle.uid_names.specs.Wires.{IsWire}
use Rattle.uid_names.specs.declared.lock_row.LockRow.{LockRow}
use Rattle.ring_messages.specs.declared.body.Body.{Body}
use Rattle.ring_messages.specs.declared.body.Body.TheVariants.{PageIn, PageOut, AttrOut, Lock, Unlock, Remove, Make, List as ListLocks, Page, Stored, Stale, NoGrant, NoObject, Granted, Conflict, Done, Made, NoSpace, Listed}
use Rattle.ring_messages.specs.declared.frame.Head.{Head}
use Rattle.ring_messages.specs.Frames.{Message, IsInRange}
use Rattle.ring_messages.specs.Spelling.{spelling}

pub record IsRow (row : LockRow) : Type 0 where
  pub uid : IsName row.uid
  pub proc : IsProcName row.proc

-- each is a byte
abbrev pub AreBytes : List ℕ → Type 0
AreBytes bytes = All (λ b. b < 256) bytes

-- the row behind which rows begin
abbrev pub IsAfter : Option (ObjectName × ProcName) → Type 0
IsAfter None = Unit {0}
IsAfter (Some (u, p)) = IsName u × IsProcName p

-- what the types of a body's fields keep
abbrev pub IsTypedBody : Body → Type 0
IsTypedBody (PageIn u page) = IsName u
IsTypedBody (PageOut u page grant base bytes) = IsName u × (grant < 2 ^ 64) × (base < 2 ^ 64) × AreBytes bytes
IsTypedBody (AttrOut u n grant base) = IsName u × (grant < 2 ^ 64) × (base < 2 ^ 64)
IsTypedBody (Lock u m) = IsName u
IsTypedBody (Unlock u) = IsName u
IsTypedBody (Remove u) = IsName u
IsTypedBody (Make kind room) = Unit {0}
IsTypedBody (ListLocks after) = IsAfter after
IsTypedBody (Page stamp bytes) = (stamp < 2 ^ 64) × AreBytes bytes
IsTypedBody (Stored stamp) = stamp < 2 ^ 64
IsTypedBody (Stale stamp) = stamp < 2 ^ 64
IsTypedBody NoGrant = Unit {0}
IsTypedBody NoObject = Unit {0}
IsTypedBody (Granted grant stamp kind room n) = (grant < 2 ^ 64) × (stamp < 2 ^ 64)
IsTypedBody (Conflict p m) = IsProcName p
IsTypedBody Done = Unit {0}
IsTypedBody (Made u) = IsName u
IsTypedBody NoSpace = Unit {0}
IsTypedBody (Listed rows more) = All IsRow rows

-- the header of a frame
pub record IsHead (h : Head) : Type 0 where
  pub version : IsWire h.version
  pub from : IsNodeNumber h.from
  pub to : IsNodeNumber h.to
  pub proc_low : 1 ≤ h.proc
  pub proc_high : h.proc ≤ 4
  pub number_low : 1 ≤ h.number
  pub number_high : h.number < 2 ^ 64
  pub tick_low : 1 ≤ h.tick
  pub tick_high : h.tick < 2 ^ 64

-- a frame, with every range that the format has
pub record IsFrame (m : Message) : Type 0 where
  pub from : IsNodeNumber m.from
  pub to : IsNodeNumber m.to
  pub number_high : m.number < 2 ^ 64
  pub tick_high : m.tick < 2 ^ 64
  pub typed : IsTypedBody m.body
  pub in_range : IsInRange m

-- the frame has these bytes
pub record Spells (m : Message) (bytes : List ℕ) : Type 0 where
  pub frame : IsFrame m
  pub text : bytes ≡ spelling m
