-- The numbers that words spell, each in its range.
use Rattle.std.specs.Prelude.{ℕ, ◌-◌, nat_le, ◌&&◌, if◌then◌else◌, Option, Some, None, List}
use Rattle.uid_names.specs.declared.limits.TheConstants.{MAX_LENGTH, MAX_ROOM, NODE_PROCESSES, PAGE_BYTES}
use Rattle.dom_text.specs.Numbers.{hex8_of, number_spelled}

-- a number, where it is in this range
abbrev pub within : ℕ → ℕ → Option ℕ → Option ℕ
within low high None = None
within low high (Some n) = if nat_le low n && nat_le n high then Some n else None

-- the page frames of a node: 64 where its line says no number
abbrev pub frames_spelled : Option (List ℕ) → Option ℕ
frames_spelled None = Some 64
frames_spelled (Some word) = within 5 256 (number_spelled word)

-- a process at its node
abbrev pub process_spelled : List ℕ → Option ℕ
process_spelled word = within 1 NODE_PROCESSES (number_spelled word)

-- a frame whose fate is given, among those of its link
abbrev pub index_spelled : List ℕ → Option ℕ
index_spelled word = within 1 1000000 (number_spelled word)

-- how late a frame falls
abbrev pub late_spelled : List ℕ → Option ℕ
late_spelled word = within 1 1000 (number_spelled word)

-- a version
abbrev pub wire_spelled : List ℕ → Option ℕ
wire_spelled word = within 1 2 (number_spelled word)

-- a room that some version can write
abbrev pub room_spelled : List ℕ → Option ℕ
room_spelled word = within 1 MAX_ROOM (number_spelled word)

-- an offset in an object of such a room
abbrev pub offset_spelled : List ℕ → Option ℕ
offset_spelled word = within 0 (MAX_LENGTH - 1) (number_spelled word)

-- a count of bytes of a page
abbrev pub count_spelled : List ℕ → Option ℕ
count_spelled word = within 1 PAGE_BYTES (number_spelled word)

abbrev pub address_spelled : List ℕ → Option ℕ
address_spelled word = within 0 0xff_ffff (hex8_of word)
