-- What reads and writes of an object answer.
use Rattle.std.specs.Prelude.{◌≡◌, ℕ, ◌+◌, ◌*◌, ◌≤◌, ◌==◌, nat_lt, nat_le, Bool, true, false, Option, Some, None, Result, Ok, Err, IsOk}
use Rattle.uid_names.specs.declared.limits.TheConstants.{PAGE_BYTES}
use Rattle.object_store.specs.declared.attributes.Attr.{Attr}
use Rattle.object_store.specs.declared.refusals.WriteRefusal.{WriteRefusal}
use Rattle.object_store.specs.declared.refusals.WriteRefusal.TheVariants.{NoObject, Stale, NoMemory}

-- whether the object is there, and the page is below its room
abbrev pub has_page : Option Attr → ℕ → Bool
has_page None page = false
has_page (Some attr) page = nat_lt page attr.room

-- whether the object is there, and its room is enough for this length in bytes
abbrev pub has_length : Option Attr → ℕ → Bool
has_length None length = false
has_length (Some attr) length = nat_le length (PAGE_BYTES * attr.room)

-- the stamp, 0 of an object that is not there
abbrev pub stamp_of : Option Attr → ℕ
stamp_of None = 0
stamp_of (Some attr) = attr.stamp

-- the stamp, where there is one to tell
abbrev pub stamp_if : Bool → ℕ → Option ℕ
stamp_if true stamp = Some stamp
stamp_if false stamp = None

-- the stamp that goes with a page, where the page is there
abbrev pub page_stamp : Option Attr → ℕ → Option ℕ
page_stamp attr page = stamp_if (has_page attr page) (stamp_of attr)

-- a write whose base is the stamp or is not: it is taken only there, and the stamp rises by 1
abbrev pub write_on : Bool → ℕ → Result ℕ WriteRefusal
write_on true stamp = Ok (stamp + 1)
write_on false stamp = Err (Stale stamp)

-- a write to what is there or is not, at this stamp and on this base
abbrev pub write_to : Bool → ℕ → ℕ → Result ℕ WriteRefusal
write_to true stamp base = write_on (base == stamp) stamp
write_to false stamp base = Err NoObject

-- a write of a page
abbrev pub page_write : Option Attr → ℕ → ℕ → Result ℕ WriteRefusal
page_write attr page base = write_to (has_page attr page) (stamp_of attr) base

-- a write of the length, in bytes
abbrev pub length_write : Option Attr → ℕ → ℕ → Result ℕ WriteRefusal
length_write attr length base = write_to (has_length attr length) (stamp_of attr) base

-- a stamp that is told is one of an object that is there
abbrev pub TellsStamp : Result ℕ WriteRefusal → Type 0
TellsStamp (Ok stamp) = 1 ≤ stamp
TellsStamp (Err NoObject) = Unit {0}
TellsStamp (Err (Stale stamp)) = 1 ≤ stamp
TellsStamp (Err NoMemory) = Unit {0}

-- an answer by such a rule: want of memory may stand where the rule takes the write, and nowhere else
abbrev pub IsAnswerBy : Result ℕ WriteRefusal → Result ℕ WriteRefusal → Type 0
IsAnswerBy rule (Ok stamp) = rule ≡ Ok stamp
IsAnswerBy rule (Err NoObject) = rule ≡ Err NoObject
IsAnswerBy rule (Err (Stale stamp)) = rule ≡ Err (Stale stamp)
IsAnswerBy rule (Err NoMemory) = IsOk rule
