-- What stands in a directory has a name of an object.
use Rattle.std.proofs.Common.{◌≡◌, ℕ, ◌+◌, ◌-◌, ◌*◌, ◌/◌, ◌%◌, ◌^◌, ◌≤◌, ◌<◌, Bool, true, false, Option, Some, None, List, [], ◌∷◌, ◌++◌, length, take, drop, replicate, refl, sym, ap, subst, ◌∙◌, arith, rules}
use Rattle.std.specs.Prelude.{◌&&◌, nat_le, bytes_eq, option_map, slice_index, IfSome}
use Rattle.std.specs.Int.{w64, to_be_bytes, from_be_bytes}
use Rattle.std.specs.List.{AllByRecursion}
use Rattle.std.specs.Simd.{first_chunks}
use Rattle.std.proofs.lemmas.Bool.{and_parts, cond_both}
use Rattle.std.proofs.lemmas.List.{length-append, length-replicate}
use Rattle.std.proofs.lemmas.Option.{cond_some, none-some, same_Some}
use Rattle.std.proofs.lemmas.Slice.Eq.{bytes_eq-Decides}
use Rattle.std.proofs.Math.Seq.{drop-append-add}
use Rattle.uid_names.specs.Names.{ObjectName, IsName, number_of}
use Rattle.uid_names.specs.Modes.{object_code}
use Rattle.uid_names.specs.declared.mode.ObjKind.{ObjKind}
use Rattle.dir_records.specs.Components.{component_of, filled, is_component}
use Rattle.dir_records.specs.Directories.{are_apart, directory_of, has_name, if_apart, is_long, placed_from, placed_row, row_named, slots_of}
use Rattle.dir_records.specs.Records.{Slot, free_bytes, is_number, kind_in, name_in, object_in, object_of_number, row_bytes, row_in, row_of, slot_if, slot_of, spelled}
use Rattle.dir_records.specs.Wholes.{before}
use Rattle.dir_records.specs.declared.row.DirRow.{DirRow}
use Rattle.dir_records.proofs.Filling.{filled_up}

-- a name that can stand in directories
abbrev pub IsComponent : List ℕ → Type 0
IsComponent name = is_component name ≡ true

pub component-is : (part : List ℕ) → IfSome (component_of part) IsComponent
component-is part = cond_both (is_component part) (Some part) None (λ (o : Option (List ℕ)). IfSome o IsComponent) (λ e. e) (λ e. tt)

-- it fills 32 bytes
filled-long : (name : List ℕ) → IsComponent name → length (filled name) ≡ 32
filled-long name is =
    let few : length name ≤ 32 = grind (arith, is) in
    (filled_up name (replicate (32 - length name) 0) is few refl (length-replicate (32 - length name) 0)).size

-- a record that is written has 64 bytes
written-long : (f u rest : List ℕ) → length f ≡ 32 → length u ≡ 8 → length rest ≡ 20 → length (f ++ (0 ∷ 0 ∷ (u ++ rest))) ≡ 62
written-long f u rest whole eight twenty =
    let all = length-append f (0 ∷ 0 ∷ (u ++ rest)) in
    let back = length-append u rest in
    omega (arith, all, back, whole, eight, twenty)

pub row-long : (row : DirRow) → IsComponent row.name → length (row_bytes row) ≡ 64
row-long row is =
    let fields : length (filled row.name ++ (0 ∷ 0 ∷ (to_be_bytes w64 (number_of row.uid) ++ replicate 20 0))) ≡ 62 =
    written-long (filled row.name) (to_be_bytes w64 (number_of row.uid)) (replicate 20 0) (filled-long row.name is) refl refl
    in
    omega (arith, fields)

-- the number of an object in it is one of 64 bits
bytes-low : (a b c d e f g h : ℕ) → a < 256 → b < 256 → c < 256 → d < 256 → e < 256 → f < 256 → g < 256 → h < 256
    → h * 72057594037927936 + g * 281474976710656 + f * 1099511627776 + e * 4294967296 + d * 16777216 + c * 65536 + b * 256 + a < 2 ^ 64
bytes-low a b c d e f g h a_low b_low c_low d_low e_low f_low g_low h_low = omega (arith, a_low, b_low, c_low, d_low, e_low, f_low, g_low, h_low)

written-low : (n : ℕ) → from_be_bytes w64 (to_be_bytes w64 n) < 2 ^ 64
written-low n =
    bytes-low (n % 256) (n / 256 % 256) (n / 65536 % 256) (n / 16777216 % 256) (n / 4294967296 % 256) (n / 1099511627776 % 256) (n / 281474976710656 % 256) (n / 72057594037927936 % 256)
    (byte n) (byte (n / 256)) (byte (n / 65536)) (byte (n / 16777216)) (byte (n / 4294967296)) (byte (n / 1099511627776)) (byte (n / 281474976710656)) (byte (n / 72057594037927936))
  where
    byte : (m : ℕ) → m % 256 < 256
    byte m = omega arith

-- an object of such a number has a name
numbered-named : (n : ℕ) → n < 2 ^ 64 → is_number n ≡ true → IsName (record { counter = n / 2 ^ 20; home = n % 2 ^ 20 })
numbered-named n low is =
    let both = and_parts (nat_le 1 (n / 2 ^ 20)) (nat_le 1 (n % 2 ^ 20) && nat_le (n % 2 ^ 20) 8) is in
    let home = and_parts (nat_le 1 (n % 2 ^ 20)) (nat_le (n % 2 ^ 20) 8) both.1 in
    record { counter_low = search (rules, both.0); counter_high = omega (arith, low); home_low = search (rules, home.0); home_high = search (rules, home.1) }

number-named : (n : ℕ) (u : ObjectName) → n < 2 ^ 64 → object_of_number n ≡ Some u → IsName u
number-named n u low found =
    let both = cond_some {A = ObjectName} (is_number n) (record { counter = n / 2 ^ 20; home = n % 2 ^ 20 }) u found in
    subst IsName both.1 (numbered-named n low both.0)

-- it is the one that was written
object-written : (kind : ℕ) (name : List ℕ) (n : ℕ) → IsComponent name
    → take 8 (drop 36 (kind ∷ length name ∷ (filled name ++ (0 ∷ 0 ∷ (to_be_bytes w64 n ++ replicate 20 0))))) ≡ to_be_bytes w64 n
object-written kind name n is =
    let fields : List ℕ = 0 ∷ 0 ∷ (to_be_bytes w64 n ++ replicate 20 0) in
    ap (take 8) (subst (λ m. drop (m + 2) (filled name ++ fields) ≡ to_be_bytes w64 n ++ replicate 20 0) (filled-long name is) (drop-append-add (filled name) fields 2))

-- the name and the object of a row are those that stand in its bytes
row-parts : (kind : Option ObjKind) (name : Option (List ℕ)) (uid : Option ObjectName) (row : DirRow) → row_of kind name uid ≡ Some row → (name ≡ Some row.name) × (uid ≡ Some row.uid)
row-parts None name uid row e = absurd (none-some row e)
row-parts (Some kind) None uid row e = absurd (none-some row e)
row-parts (Some kind) (Some name) None row e = absurd (none-some row e)
row-parts (Some kind) (Some name) (Some uid) row e =
    let it : DirRow = record { kind = kind; name = name; uid = uid } in
    let same : it ≡ row = same_Some {A = DirRow} it row e in
    (ap (λ (r : DirRow). Some r.name) same, ap (λ (r : DirRow). Some r.uid) same)

-- a row whose bytes these are
read-named : (bytes : List ℕ) (row : DirRow) → row_in bytes ≡ Some row → row_bytes row ≡ bytes → IsName row.uid
read-named bytes row is same =
    let parts = row-parts (kind_in bytes) (name_in bytes) (object_in bytes) row is in
    let form = subst (λ (o : Option (List ℕ)). IfSome o IsComponent) parts.0 (component-is (take (slice_index bytes 1) (drop 2 bytes))) in
    let number : take 8 (drop 36 bytes) ≡ to_be_bytes w64 (number_of row.uid) = ap (λ (l : List ℕ). take 8 (drop 36 l)) (sym same) ∙ object-written (object_code row.kind) row.name (number_of row.uid) form in
    number-named (from_be_bytes w64 (take 8 (drop 36 bytes))) row.uid (subst (λ (l : List ℕ). from_be_bytes w64 l < 2 ^ 64) (sym number) (written-low (number_of row.uid))) parts.1

-- a record of a directory is free, or its object has a name
abbrev pub IsNamedSlot : Slot → Type 0
IsNamedSlot slot = IfSome slot (λ (row : DirRow). IsName row.uid)

spelled-named : (bytes : List ℕ) (found : Option DirRow) → row_in bytes ≡ found → IsNamedSlot (spelled bytes found)
spelled-named bytes None is = tt
spelled-named bytes (Some row) is =
    cond_both (bytes_eq (row_bytes row) bytes) (Some row) None IsNamedSlot (λ e. read-named bytes row is ((bytes_eq-Decides (row_bytes row) bytes).0 e)) (λ e. tt)

slot-named : (bytes : List ℕ) → IfSome (slot_of bytes) IsNamedSlot
slot-named bytes = by_test (bytes_eq bytes free_bytes)
  where
    mapped : (found : Option DirRow) → IsNamedSlot found → IfSome (option_map Some found) IsNamedSlot
    mapped None is = tt
    mapped (Some row) is = is

    by_test : (free : Bool) → IfSome (slot_if free bytes) IsNamedSlot
    by_test true = tt
    by_test false = mapped (spelled bytes (row_in bytes)) (spelled-named bytes (row_in bytes) refl)

-- lists that are there only where each of their parts is
pub whole-such : {X : Type 0} (IsSuch : X → Type 0) (part : Option X) (rest : Option (List X)) → IfSome part IsSuch → IfSome rest (AllByRecursion IsSuch) → IfSome (before part rest) (AllByRecursion IsSuch)
whole-such IsSuch None rest is are = tt
whole-such IsSuch (Some part) None is are = tt
whole-such IsSuch (Some part) (Some rest) is are = (is, are)

-- each record of a directory
abbrev pub AreNamedSlots : List Slot → Type 0
AreNamedSlots slots = AllByRecursion IsNamedSlot slots

slots-named : (records : List (List ℕ)) → IfSome (slots_of records) AreNamedSlots
slots-named [] = tt
slots-named (record_bytes ∷ rest) = whole-such IsNamedSlot (slot_of record_bytes) (slots_of rest) (slot-named record_bytes) (slots-named rest)

apart-named : (found : Option (List Slot)) → IfSome found AreNamedSlots → IfSome (if_apart found) AreNamedSlots
apart-named None are = tt
apart-named (Some slots) are = cond_both (are_apart slots) (Some slots) None (λ (o : Option (List Slot)). IfSome o AreNamedSlots) (λ e. are) (λ e. tt)

pub directory-named : (bytes : List ℕ) → IfSome (directory_of bytes) AreNamedSlots
directory-named bytes =
    let records = first_chunks 64 (length bytes / 64) bytes in
    cond_both (is_long (length bytes)) (if_apart (slots_of records)) None (λ (o : Option (List Slot)). IfSome o AreNamedSlots) (λ e. apart-named (slots_of records) (slots-named records)) (λ e. tt)

-- the row of a name
pub row-named : (name : List ℕ) (slots : List Slot) → AreNamedSlots slots → IsNamedSlot (row_named name slots)
row-named name [] are = tt
row-named name (slot ∷ slots) are = cond_both (has_name name slot) slot (row_named name slots) IsNamedSlot (λ e. are.0) (λ e. row-named name slots are.1)

-- and with its place
abbrev pub IsNamedPlace : ℕ × DirRow → Type 0
IsNamedPlace f = IsName f.1.uid

placed-named : (i : ℕ) (name : List ℕ) (slots : List Slot) → AreNamedSlots slots → IfSome (placed_from i name slots) IsNamedPlace
placed-named i name [] are = tt
placed-named i name (None ∷ slots) are = placed-named (i + 1) name slots are.1
placed-named i name (Some row ∷ slots) are =
    cond_both (bytes_eq row.name name) (Some (i, row)) (placed_from (i + 1) name slots) (λ (o : Option (ℕ × DirRow)). IfSome o IsNamedPlace) (λ e. are.0) (λ e. placed-named (i + 1) name slots are.1)

pub placed_row-named : (name : List ℕ) (slots : List Slot) → AreNamedSlots slots → IfSome (placed_row name slots) IsNamedPlace
placed_row-named name slots are = placed-named 0 name slots are
