-- What a node knows of the objects that its processes locked: one row of each, the objects rising.
use Rattle.std.specs.Prelude.{ℕ, Bool, true, false, nat_lt, ◌==◌, Option, Some, None, List}
use Rattle.uid_names.specs.Names.{ObjectName}
use Rattle.uid_names.specs.Tables.{row_of, with_row}
use Rattle.fault_handler.specs.declared.lengths.Known.{Known}

-- the object of a row
abbrev pub known_name : Known → ObjectName
known_name row = row.uid

-- the row of u
abbrev pub known_of : ObjectName → List Known → Option Known
known_of u rows = row_of known_name u rows

-- rows in order, with this one in the place of that of its object
abbrev pub with_known : Known → List Known → List Known
with_known new rows = with_row known_name new rows

abbrev pub room_of : Option Known → ℕ
room_of None = 0
room_of (Some k) = k.room

abbrev pub length_of : Option Known → ℕ
length_of None = 0
length_of (Some k) = k.length

-- the length was changed at this node
abbrev pub is_changed : Option Known → Bool
is_changed None = false
is_changed (Some k) = k.changed

-- the changed length, where it was changed
abbrev pub changed_in : Bool → ℕ → Option ℕ
changed_in true length = Some length
changed_in false length = None

abbrev pub changed_length : Option Known → Option ℕ
changed_length o = changed_in (is_changed o) (length_of o)

abbrev pub grown_if : Bool → ℕ → Known → Known
grown_if true end k = record k { length = end; changed = true }
grown_if false end k = k

-- the row after a store that ended there
abbrev pub grown : ℕ → Known → Known
grown end k = grown_if (nat_lt k.length end) end k

abbrev pub sent_if : Bool → Known → Known
sent_if true k = record k { changed = false }
sent_if false k = k

-- the row after the home took this length
abbrev pub sent_length : ℕ → Known → Known
sent_length length k = sent_if (k.length == length) k

-- the rows with that of u changed, where it is there
abbrev pub known_after : (Known → Known) → Option Known → List Known → List Known
known_after change None rows = rows
known_after change (Some k) rows = with_known (change k) rows
