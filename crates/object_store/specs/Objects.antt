-- The objects of a home: rows in the order of their counters.
use Rattle.std.specs.Prelude.{ℕ, ◌+◌, ◌==◌, Bool, true, false, not, if◌then◌else◌, List, [], ◌∷◌, filter, sum_by, Option, Some, None}
use Rattle.uid_names.specs.declared.mode.ObjKind.{ObjKind}
use Rattle.object_store.specs.declared.attributes.Attr.{Attr}
use Rattle.object_store.specs.declared.attributes.ObjectRow.{ObjectRow}

-- the attributes of the object with this counter, where it is there
abbrev pub attr_at : List ObjectRow → ℕ → Option Attr
attr_at [] counter = None
attr_at (row ∷ rest) counter = if row.counter == counter then Some row.attr else attr_at rest counter

-- the room in pages, 0 of an object that is not there
abbrev pub room_of : Option Attr → ℕ
room_of None = 0
room_of (Some attr) = attr.room

-- the sum of the rooms, in pages
abbrev pub rooms : List ObjectRow → ℕ
rooms rows = sum_by (λ row. row.attr.room) rows

-- the attributes of an object when it is made
abbrev pub fresh : ObjKind → ℕ → Attr
fresh kind room = record { kind = kind; room = room; length = 0; stamp = 1 }

-- the attributes after a write of a page
abbrev pub stamped : Attr → Attr
stamped attr = record attr { stamp = attr.stamp + 1 }

-- the attributes after a write of the length
abbrev pub resized : ℕ → Attr → Attr
resized length attr = record attr { length = length; stamp = attr.stamp + 1 }

-- the attributes, changed or not
abbrev pub changed_if : Bool → (Attr → Attr) → Attr → Attr
changed_if true change attr = change attr
changed_if false change attr = attr

-- the rows with the attributes of one object changed
abbrev pub with_change : (Attr → Attr) → ℕ → List ObjectRow → List ObjectRow
with_change change counter [] = []
with_change change counter (row ∷ rest) = record row { attr = changed_if (row.counter == counter) change row.attr } ∷ with_change change counter rest

-- the rows without that of one object
abbrev pub without_row : ℕ → List ObjectRow → List ObjectRow
without_row counter rows = filter (λ row. not (row.counter == counter)) rows
