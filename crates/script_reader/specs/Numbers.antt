-- `number`: a number, an address or a text of a line is out of its range, or a room or an offset out of that of the version.
use Rattle.std.specs.Prelude.{ℕ, ◌-◌, ◌*◌, nat_le, Bool, true, false, not, ◌&&◌, is_some, Option, Some, None, List, length}
use Rattle.std.specs.List.{list_all}
use Rattle.uid_names.specs.Wires.{wire_room}
use Rattle.uid_names.specs.declared.limits.TheConstants.{PAGE_BYTES}
use Rattle.script_reader.specs.Arguments.{Said, Room, Offset, Count, Address, Text, Message, OptionalRoom}
use Rattle.script_reader.specs.Sayings.{Saying, Wire, Node, Object, Fault, Phase, Access, Subject, Does, SaidFate, Lose, Twice, Late}

-- a text has 1 byte at least, and no more than a page
abbrev pub is_text : List ℕ → Bool
is_text text = nat_le 1 (length text) && nat_le (length text) PAGE_BYTES

-- one that a mailbox takes has 120 bytes at most
abbrev pub is_message : List ℕ → Bool
is_message text = nat_le 1 (length text) && nat_le (length text) 120

-- the number of a fate, where it has one
abbrev pub is_fate : SaidFate → Bool
is_fate Lose = true
is_fate (Twice late) = is_some late
is_fate (Late late) = is_some late

-- a number, and none above this one
abbrev pub has_to : ℕ → Option ℕ → Bool
has_to high None = false
has_to high (Some n) = nat_le n high

-- a room that a version can write, and an offset in such
abbrev pub has_room : ℕ → Option ℕ → Bool
has_room wire found = has_to (wire_room wire) found

abbrev pub has_offset : ℕ → Option ℕ → Bool
has_offset wire found = has_to (wire_room wire * PAGE_BYTES - 1) found

-- the number of an argument, or the length of its text, where it has such
abbrev pub has_number : ℕ → Said → Bool
has_number wire (Room found) = has_room wire found
has_number wire (Offset found) = has_offset wire found
has_number wire (Count found) = is_some found
has_number wire (Address found) = is_some found
has_number wire (Text text) = is_text text
has_number wire (Message text) = is_message text
has_number wire (OptionalRoom (Some found)) = has_room wire found
has_number wire _ = true

-- a line has a number, an address or a text that is out of its range, in a script of this version
abbrev pub is_no_number : ℕ → Saying → Bool
is_no_number wire (Wire version) = not (is_some version)
is_no_number wire (Node name frames) = not (is_some frames)
is_no_number wire (Object var room home) = not (has_room wire room)
is_no_number wire (Fault from to index fate) = not (is_some index && is_fate fate)
is_no_number wire Phase = false
is_no_number wire Access = false
is_no_number wire (Subject process person project) = not (is_some process.number)
is_no_number wire (Does process verb arguments) = not (is_some process.number && list_all (has_number wire) arguments)
