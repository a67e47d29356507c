-- The stamps that a node has seen: one row of each object, the objects rising.
use Rattle.std.specs.Prelude.{ℕ, max, Option, Some, None, List}
use Rattle.uid_names.specs.Names.{ObjectName}
use Rattle.uid_names.specs.Tables as tables
use Rattle.version_stamps.specs.declared.stamps.Stamp.{Stamp}

-- the object of a row
abbrev pub object_of : Stamp → ObjectName
object_of row = row.uid

-- each object comes before those of the later rows
abbrev pub AreRising : List Stamp → Type 0
AreRising = tables.AreRising object_of

-- the stamp in a row that was found
abbrev pub stamp_in : Option Stamp → Option ℕ
stamp_in None = None
stamp_in (Some row) = Some row.stamp

-- the stamp of u
abbrev pub stamp_of : ObjectName → List Stamp → Option ℕ
stamp_of u rows = stamp_in (tables.row_of object_of u rows)

-- rows without that of u
abbrev pub without_stamp : ObjectName → List Stamp → List Stamp
without_stamp = tables.without_row object_of

-- rows in order, with this one in the place of that of its object
abbrev pub with_stamp : Stamp → List Stamp → List Stamp
with_stamp = tables.with_row object_of

-- the greater of a stamp and a known one
abbrev pub raised : ℕ → Option ℕ → ℕ
raised stamp None = stamp
raised stamp (Some known) = max known stamp
