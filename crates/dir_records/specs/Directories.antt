-- A directory as the list of its records.
use Rattle.std.specs.Prelude.{ℕ, zero, suc, ◌+◌, ◌/◌, ◌%◌, ◌==◌, nat_le, Bool, true, false, not, ◌&&◌, cond, Option, Some, None, List, [], ◌∷◌, length, bytes_eq, option_map, is_some, ◌≡◌, ◌≤◌}
use Rattle.std.specs.List.{list_any, prefix_len}
use Rattle.std.specs.Simd.{first_chunks}
use Rattle.dir_records.specs.declared.row.DirRow.{DirRow}
use Rattle.dir_records.specs.Wholes.{before}
use Rattle.dir_records.specs.Records.{Slot, slot_of}

-- the records of these bytes, 64 for each; None where one is of neither form
abbrev pub slots_of : List (List ℕ) → Option (List Slot)
slots_of [] = Some []
slots_of (bytes ∷ rest) = before (slot_of bytes) (slots_of rest)

-- the record has this name
abbrev pub has_name : List ℕ → Slot → Bool
has_name name None = false
has_name name (Some row) = bytes_eq row.name name

-- the name of a record does not stand in these
abbrev pub is_new : Slot → List Slot → Bool
is_new None slots = true
is_new (Some row) slots = not (list_any (has_name row.name) slots)

-- no two records have one name
abbrev pub are_apart : List Slot → Bool
are_apart [] = true
are_apart (slot ∷ slots) = is_new slot slots && are_apart slots

-- the records, where their names are apart
abbrev pub if_apart : Option (List Slot) → Option (List Slot)
if_apart None = None
if_apart (Some slots) = cond (are_apart slots) (Some slots) None

-- at most 128 records, and no part of one
abbrev pub is_long : ℕ → Bool
is_long n = (n % 64 == 0) && nat_le n 8192

-- the records of a directory of these bytes; None where it is bad
abbrev pub directory_of : List ℕ → Option (List Slot)
directory_of bytes = cond (is_long (length bytes)) (if_apart (slots_of (first_chunks 64 (length bytes / 64) bytes))) None

-- the records that are not free
abbrev pub put_row : Slot → List DirRow → List DirRow
put_row None rows = rows
put_row (Some row) rows = row ∷ rows

abbrev pub rows_of : List Slot → List DirRow
rows_of [] = []
rows_of (slot ∷ slots) = put_row slot (rows_of slots)

-- the rows of a directory of these bytes; None where it is bad
abbrev pub rows_in : List ℕ → Option (List DirRow)
rows_in bytes = option_map rows_of (directory_of bytes)

-- what each directory keeps
pub record IsDirectory (slots : List Slot) : Type 0 where
  pub few : length slots ≤ 128
  pub apart : are_apart slots ≡ true

-- the row of a name
abbrev pub row_named : List ℕ → List Slot → Option DirRow
row_named name [] = None
row_named name (slot ∷ slots) = cond (has_name name slot) slot (row_named name slots)

-- the row of a name, and how many records stand before it
abbrev pub placed_from : ℕ → List ℕ → List Slot → Option (ℕ × DirRow)
placed_from i name [] = None
placed_from i name (None ∷ slots) = placed_from (i + 1) name slots
placed_from i name (Some row ∷ slots) = cond (bytes_eq row.name name) (Some (i, row)) (placed_from (i + 1) name slots)

abbrev pub placed_row : List ℕ → List Slot → Option (ℕ × DirRow)
placed_row name slots = placed_from 0 name slots

-- this row of a name stands at this place
abbrev pub StandsAt : List ℕ → ℕ → DirRow → List Slot → Type 0
StandsAt name place row slots = placed_row name slots ≡ Some (place, row)

-- how many stand before the first free one, where a new name goes: behind all of them where none is free
abbrev pub first_free : List Slot → ℕ
first_free slots = prefix_len is_some slots

-- the records with one at a place, in the stead of that which stood there, or behind all of them
abbrev pub with_slot : ℕ → Slot → List Slot → List Slot
with_slot n slot [] = slot ∷ []
with_slot zero slot (old ∷ slots) = slot ∷ slots
with_slot (suc n) slot (old ∷ slots) = old ∷ with_slot n slot slots

-- the records once that at a place is free
abbrev pub freed : ℕ → List Slot → List Slot
freed place slots = with_slot place None slots
