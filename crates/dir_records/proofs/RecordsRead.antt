-- What is written of a row is read again.
use Rattle.std.proofs.Common.{◌≡◌, ℕ, ◌+◌, ◌-◌, ◌*◌, ◌/◌, ◌%◌, ◌^◌, ◌<◌, ◌≤◌, ◌&&◌, Bool, true, false, cond, Some, None, List, ◌∷◌, ◌++◌, take, drop, length, replicate, refl, ap, ◌∙◌, subst, append_assoc, arith}
use Rattle.std.specs.Prelude.{nat_le, bytes_eq, option_map}
use Rattle.std.specs.Int.{w64, to_be_bytes, from_be_bytes}
use Rattle.std.proofs.lemmas.Nat.{from_be_bytes-to_be_bytes_8}
use Rattle.std.proofs.lemmas.List.{length-append, length-replicate}
use Rattle.std.proofs.lemmas.Slice.Eq.{bytes_eq-Decides}
use Rattle.std.proofs.Math.Seq.{take-append_seam, drop-append-add}
use Rattle.uid_names.specs.Names.{ObjectName, IsName, number_of}
use Rattle.uid_names.specs.Modes.{object_code}
use Rattle.uid_names.specs.declared.mode.ObjKind.{ObjKind}
use Rattle.uid_names.specs.declared.mode.ObjKind.TheVariants as kinds
use Rattle.uid_names.proofs.Codes.{object_of_code-code}
use Rattle.uid_names.proofs.UidTexts.{number_of-small}
use Rattle.dir_records.specs.declared.row.DirRow.{DirRow}
use Rattle.dir_records.specs.Components.{is_component, component_of, filled}
use Rattle.dir_records.specs.Records.{row_bytes, free_bytes, slot_of, slot_if, spelled, row_in, row_of, name_in, object_in, object_of_number, IsRow}

-- a kind's number is no zero
not_free : (kind : ObjKind) (rest : List ℕ) → bytes_eq (object_code kind ∷ rest) free_bytes ≡ false
not_free kinds.File rest = refl
not_free kinds.Directory rest = refl
not_free kinds.Link rest = refl
not_free kinds.Mail rest = refl

filled_size : (name : List ℕ) → length name ≤ 32 → length (filled name) ≡ 32
filled_size name h = length-append name (replicate (32 - length name) 0) ∙ ap (λ (n : ℕ). length name + n) (length-replicate (32 - length name) 0) ∙ sum (length name) h
  where
    sum : (n : ℕ) → n ≤ 32 → n + (32 - n) ≡ 32
    sum n h = omega (arith, h)

name_read : (name rest : List ℕ) → is_component name ≡ true → component_of (take (length name) (filled name ++ rest)) ≡ Some name
name_read name rest form =
    ap (λ (l : List ℕ). component_of (take (length name) l)) (append_assoc name (replicate (32 - length name) 0) rest)
    ∙ ap component_of (take-append_seam name (replicate (32 - length name) 0 ++ rest))
    ∙ ap (λ (t : Bool). cond t (Some name) None) form

number_read : (f rest : List ℕ) (n : ℕ) → length f ≡ 32 → n < 2 ^ 64 → from_be_bytes w64 (take 8 (drop 34 (f ++ (0 ∷ 0 ∷ (to_be_bytes w64 n ++ rest))))) ≡ n
number_read f rest n size h =
    ap (λ (l : List ℕ). from_be_bytes w64 (take 8 l)) (subst (λ m. drop (m + 2) (f ++ (0 ∷ 0 ∷ (to_be_bytes w64 n ++ rest))) ≡ to_be_bytes w64 n ++ rest) size (drop-append-add f (0 ∷ 0 ∷ (to_be_bytes w64 n ++ rest)) 2))
    ∙ from_be_bytes-to_be_bytes_8 n h

counter_read : (c h : ℕ) → h ≤ 8 → (c * 2 ^ 20 + h) / 2 ^ 20 ≡ c
counter_read c h low = omega (arith, low)

home_read : (c h : ℕ) → h ≤ 8 → (c * 2 ^ 20 + h) % 2 ^ 20 ≡ h
home_read c h low = omega (arith, low)

test_read : (c h : ℕ) → 1 ≤ c → 1 ≤ h → h ≤ 8 → (nat_le 1 c && (nat_le 1 h && nat_le h 8)) ≡ true
test_read c h a b d = grind (arith, a, b, d)

object_read : (u : ObjectName) → IsName u → object_of_number (number_of u) ≡ Some u
object_read u h = rw (counter_read u.counter u.home h.home_high, home_read u.counter u.home h.home_high, test_read u.counter u.home h.counter_low h.home_low h.home_high) refl

few : (name : List ℕ) → is_component name ≡ true → length name ≤ 32
few name form = grind (arith, form)

same : (bytes : List ℕ) → bytes_eq bytes bytes ≡ true
same bytes = (bytes_eq-Decides bytes bytes).1 refl

-- the row is in its bytes
row_read : (row : DirRow) → IsRow row → row_in (row_bytes row) ≡ Some row
row_read row h =
    let name = name_read row.name (0 ∷ 0 ∷ (to_be_bytes w64 (number_of row.uid) ++ replicate 20 0)) h.name in
    let number = number_read (filled row.name) (replicate 20 0) (number_of row.uid) (filled_size row.name (few row.name h.name)) (number_of-small row.uid h.uid) in
    let object : object_in (row_bytes row) ≡ Some row.uid = ap object_of_number number ∙ object_read row.uid h.uid in
    ap (λ k. row_of k (name_in (row_bytes row)) (object_in (row_bytes row))) (object_of_code-code row.kind)
    ∙ ap (λ n. row_of (Some row.kind) n (object_in (row_bytes row))) name
    ∙ ap (λ u. row_of (Some row.kind) (Some row.name) u) object

-- a record that is written is read again
pub record_read : (row : DirRow) → IsRow row → slot_of (row_bytes row) ≡ Some (Some row)
record_read row h =
    ap (λ t. slot_if t (row_bytes row)) (not_free row.kind (length row.name ∷ (filled row.name ++ (0 ∷ 0 ∷ (to_be_bytes w64 (number_of row.uid) ++ replicate 20 0)))))
    ∙ ap (λ r. option_map Some (spelled (row_bytes row) r)) (row_read row h)
    ∙ ap (λ t. option_map Some (cond t (Some row) None)) (same (row_bytes row))

-- so is a free one
pub free_read : slot_of free_bytes ≡ Some None
free_read = refl
