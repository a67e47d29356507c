-- What replies that fit tell of numbers, places, bytes and objects.
use Rattle.std.proofs.Common.{◌≡◌, ℕ, ◌*◌, ◌%◌, ◌<◌, Bool, Option, Some, None, IfSome, List, length}
use Rattle.uid_names.specs.Names.{ObjectName, IsName}
use Rattle.uid_names.specs.Rooms.{IsLength}
use Rattle.uid_names.specs.declared.segment.TheConstants.{SEGMENT_SIZE, SEGMENTS}
use Rattle.uid_names.proofs.Passed.{equal}
use Rattle.dom_history.specs.declared.op.Op.{Op}
use Rattle.dom_history.specs.declared.op.Op.TheVariants.{Length, Load, Map}
use Rattle.dom_history.specs.declared.op.Spot.{Spot}
use Rattle.dom_history.specs.declared.op.Reply.{Reply}
use Rattle.dom_history.specs.declared.op.Reply.TheVariants as replies
use Rattle.dom_history.proofs.Fitting.{at-fits, size-fits}
use Rattle.naming_tree.specs.Sessions.{bytes, made, place, size}
use Rattle.command_ranges.specs.Telling.{MayTell}

-- whatever it is
abbrev pub Anything : (A : Type 0) → A → Type 0
Anything A a = Unit {0}

pub any-told : {A : Type 0} (o : Option A) → IfSome o (Anything A)
any-told None = tt
any-told (Some a) = tt

-- a length
pub size-told : (u : ObjectName) (reply : Reply) → MayTell (Length u) reply → IfSome (size reply) IsLength
size-told u (replies.Size n) may = size-fits n may.0
size-told u _ may = tt

-- where a mapping lies
abbrev pub IsPlace : ℕ × Bool → Type 0
IsPlace at = (at.0 % SEGMENT_SIZE ≡ 0) × (at.0 < SEGMENTS * SEGMENT_SIZE)

pub place-told : (u : ObjectName) (reply : Reply) → MayTell (Map u) reply → IfSome (place reply) IsPlace
place-told u (replies.At address fresh) may = at-fits address fresh may.0
place-told u _ may = tt

-- as many bytes as were asked for
pub bytes-told : (spot : Spot) (n : ℕ) (reply : Reply) → MayTell (Load spot n) reply → IfSome (bytes reply) (λ (list : List ℕ). length list ≡ n)
bytes-told spot n (replies.Bytes list) may = equal (length list) n may.0
bytes-told spot n _ may = tt

-- an object
pub made-told : (op : Op) (reply : Reply) → MayTell op reply → IfSome (made reply) IsName
made-told op (replies.Made u) may = may.1
made-told op _ may = tt
