-- The 64 bytes of a directory's record.
use Rattle.std.specs.Prelude.{◌≡◌, ℕ, ◌/◌, ◌%◌, ◌^◌, nat_le, Bool, true, false, ◌&&◌, cond, Option, Some, None, List, ◌∷◌, ◌++◌, replicate, length, take, drop, slice_index, option_map, bytes_eq}
use Rattle.std.specs.Int.{w64, to_be_bytes, from_be_bytes}
use Rattle.uid_names.specs.Names.{ObjectName, IsName, number_of}
use Rattle.uid_names.specs.Modes.{object_code, object_of_code}
use Rattle.uid_names.specs.declared.mode.ObjKind.{ObjKind}
use Rattle.dir_records.specs.declared.row.DirRow.{DirRow}
use Rattle.dir_records.specs.Components.{is_component, component_of, filled}

-- a record that names an object: its kind, the length of the name, the name, two zeros, the object, 20 zeros
abbrev pub row_bytes : DirRow → List ℕ
row_bytes row = object_code row.kind ∷ length row.name ∷ (filled row.name ++ (0 ∷ 0 ∷ (to_be_bytes w64 (number_of row.uid) ++ replicate 20 0)))

-- a record of a directory: free, or of a row
abbrev pub Slot : Type 0
Slot = Option DirRow

-- a free record
abbrev pub free_bytes : List ℕ
free_bytes = replicate 64 0

abbrev pub slot_bytes : Slot → List ℕ
slot_bytes None = free_bytes
slot_bytes (Some row) = row_bytes row

-- the object of this number, if it is one's
abbrev pub is_number : ℕ → Bool
is_number n = nat_le 1 (n / 2 ^ 20) && (nat_le 1 (n % 2 ^ 20) && nat_le (n % 2 ^ 20) 8)

abbrev pub object_of_number : ℕ → Option ObjectName
object_of_number n = cond (is_number n) (Some (record { counter = n / 2 ^ 20; home = n % 2 ^ 20 })) None

-- what stands in the fields of a record
abbrev pub kind_in : List ℕ → Option ObjKind
kind_in bytes = object_of_code (slice_index bytes 0)

abbrev pub name_in : List ℕ → Option (List ℕ)
name_in bytes = component_of (take (slice_index bytes 1) (drop 2 bytes))

abbrev pub object_in : List ℕ → Option ObjectName
object_in bytes = object_of_number (from_be_bytes w64 (take 8 (drop 36 bytes)))

-- the row whose fields stand there, if it is one
abbrev pub row_of : Option ObjKind → Option (List ℕ) → Option ObjectName → Option DirRow
row_of None name uid = None
row_of (Some kind) None uid = None
row_of (Some kind) (Some name) None = None
row_of (Some kind) (Some name) (Some uid) = Some (record { kind = kind; name = name; uid = uid })

abbrev pub row_in : List ℕ → Option DirRow
row_in bytes = row_of (kind_in bytes) (name_in bytes) (object_in bytes)

-- the row, where these are its bytes
abbrev pub spelled : List ℕ → Option DirRow → Option DirRow
spelled bytes None = None
spelled bytes (Some row) = cond (bytes_eq (row_bytes row) bytes) (Some row) None

-- the record that these bytes are; None where they are of neither form
abbrev pub slot_if : Bool → List ℕ → Option Slot
slot_if true bytes = Some None
slot_if false bytes = option_map Some (spelled bytes (row_in bytes))

abbrev pub slot_of : List ℕ → Option Slot
slot_of bytes = slot_if (bytes_eq bytes free_bytes) bytes

-- a row that has a record: its name is one of directories, and it names an object
pub record IsRow (row : DirRow) : Type 0 where
  pub name : is_component row.name ≡ true
  pub uid : IsName row.uid
