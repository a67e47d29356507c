-- The stamp of an object after each change.
use Rattle.std.proofs.Common.{◌≡◌, ◌∙◌, Bool, true, false, List, refl, ap, sym}
use Rattle.std.specs.Prelude.{Option, Some, None, is_some, if◌then◌else◌}
use Rattle.uid_names.specs.Names.{ObjectName, same_uid}
use Rattle.uid_names.specs.Tables.{row_of}
use Rattle.uid_names.proofs.Tables.{row_of-with_row, row_of-without_row, without_row-none}
use Rattle.version_stamps.specs.declared.stamps.Stamp.{Stamp}
use Rattle.version_stamps.specs.Stamps.{object_of, stamp_in, stamp_of, with_stamp, without_stamp}

-- the stamp in the chosen row
stamp_in-chosen : (b : Bool) (new : Stamp) (found : Option Stamp) → stamp_in (if b then Some new else found) ≡ (if b then Some new.stamp else stamp_in found)
stamp_in-chosen true new found = refl
stamp_in-chosen false new found = refl

-- no stamp in no row
stamp_in-left : (b : Bool) (found : Option Stamp) → stamp_in (if b then None else found) ≡ (if b then None else stamp_in found)
stamp_in-left true found = refl
stamp_in-left false found = refl

-- a stamp is told where a row is found
pub is_some-stamp_in : (found : Option Stamp) → is_some (stamp_in found) ≡ is_some found
is_some-stamp_in None = refl
is_some-stamp_in (Some row) = refl

-- the stamp of u where one was set
pub stamp_of-with_stamp : (new : Stamp) (rows : List Stamp) (u : ObjectName) → stamp_of u (with_stamp new rows) ≡ (if same_uid u new.uid then Some new.stamp else stamp_of u rows)
stamp_of-with_stamp new rows u = ap stamp_in (row_of-with_row object_of new rows u) ∙ stamp_in-chosen (same_uid u new.uid) new (row_of object_of u rows)

-- the stamp of u where that of v was forgotten
pub stamp_of-without_stamp : (v : ObjectName) (rows : List Stamp) (u : ObjectName) → stamp_of u (without_stamp v rows) ≡ (if same_uid u v then None else stamp_of u rows)
stamp_of-without_stamp v rows u = ap stamp_in (row_of-without_row object_of v rows u) ∙ stamp_in-left (same_uid u v) (row_of object_of u rows)

-- where none is known, no row is left out
pub without_stamp-none : (u : ObjectName) (rows : List Stamp) → is_some (stamp_of u rows) ≡ false → without_stamp u rows ≡ rows
without_stamp-none u rows none = without_row-none object_of u rows (sym (is_some-stamp_in (row_of object_of u rows)) ∙ none)
