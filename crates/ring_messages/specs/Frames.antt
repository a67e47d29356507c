-- What contracts see of a frame, and the ranges that each frame keeps.
use Rattle.std.specs.Prelude.{ℕ, ◌≤◌, if◌then◌else◌}
use Rattle.uid_names.specs.Names.{ProcName}
use Rattle.uid_names.specs.Wires.{IsWire, wire_room}
use Rattle.ring_messages.specs.declared.body.Body.{Body}
use Rattle.ring_messages.specs.Bodies.{is_request}
use Rattle.ring_messages.specs.Ranges.{IsBody, LiesWithin}

-- a frame: the version in which it is written, its nodes, the number of the calling process at its node, the number of
-- the call, the tick of the event that sends it, and what it carries
pub record Message : Type 0 where
  pub version : ℕ
  pub from : ℕ
  pub to : ℕ
  pub proc : ℕ
  pub number : ℕ
  pub tick : ℕ
  pub body : Body

-- the ranges beyond those that the types of the fields keep
pub record IsInRange (m : Message) : Type 0 where
  pub proc_low : 1 ≤ m.proc
  pub proc_high : m.proc ≤ 4
  pub number : 1 ≤ m.number
  pub tick : 1 ≤ m.tick
  pub body : IsBody m.to m.body
  pub version : IsWire m.version
  pub within : LiesWithin (wire_room m.version) m.body

-- the process that calls: of the sending node in a request, of the other one in a reply
abbrev pub caller_of : Message → ProcName
caller_of m = record { node = if is_request m.body then m.from else m.to; number = m.proc }
