-- Names that are looked for only where their mark is set.
use Rattle.std.proofs.Common.{◌≡◌, ◌⊎◌, inl, inr, ℕ, zero, suc, ◌+◌, ◌-◌, ◌<◌, ◌≤◌, Bool, true, false, not, List, [], ◌∷◌, Some, length, drop, take, get_or, set, refl, ap, ◌∙◌, sym, subst, arith}
use Rattle.std.proofs.lemmas.Bool.{cases_eq, or_cases, and_parts, and_from, not-true, not_from_false, false_from_ne_true, false≢true}
use Rattle.std.proofs.lemmas.List.{get_or-set_same, get_or-set_other, take_rest}
use Rattle.std.proofs.Math.Seq.{drop-cons}
use Rattle.std.proofs.lemmas.Slice.Eq.{bytes_eq-Decides}
use Rattle.std.specs.Prelude.{bytes_eq}
use Rattle.std.specs.List.{list_any}
use Rattle.dir_records.specs.declared.row.DirRow.{DirRow}
use Rattle.dir_records.specs.Records.{Slot}
use Rattle.dir_records.specs.Directories.{has_name, is_new, are_apart}
use Rattle.dir_records.specs.Marks.{mark_of}

-- the mark of each name of these records is set
abbrev pub AreMarked : List Bool → List Slot → Type 0
AreMarked marked slots = (name : List ℕ) → list_any (has_name name) slots ≡ true → get_or marked (mark_of name) false ≡ true

pub none_marked : (marked : List Bool) → AreMarked marked []
none_marked marked name h = absurd (false≢true h)

-- a mark that is set stays so
stays : (marked : List Bool) (m n : ℕ) → m < length marked → get_or marked n false ≡ true → get_or (set marked m true) n false ≡ true
stays marked m n within h = by_place (cases_eq n m)
  where
    by_place : ((n ≡ m) ⊎ (n ≡ m → ⊥)) → get_or (set marked m true) n false ≡ true
    by_place (inl same) = ap (λ (k : ℕ). get_or (set marked m true) k false) same ∙ get_or-set_same marked m true false within
    by_place (inr other) = get_or-set_other marked m n true false other ∙ h

-- one more name, whose mark is set
pub one_marked : (marked : List Bool) (row : DirRow) (slots : List Slot) → mark_of row.name < length marked → AreMarked marked slots → AreMarked (set marked (mark_of row.name) true) (Some row ∷ slots)
one_marked marked row slots within h name found = by_record (or_cases (bytes_eq row.name name) (list_any (has_name name) slots) found)
  where
    by_record : ((bytes_eq row.name name ≡ true) ⊎ (list_any (has_name name) slots ≡ true)) → get_or (set marked (mark_of row.name) true) (mark_of name) false ≡ true
    by_record (inl this) =
        let same : row.name ≡ name = (bytes_eq-Decides row.name name).0 this in
        subst (λ (n : List ℕ). get_or (set marked (mark_of row.name) true) (mark_of n) false ≡ true) same (get_or-set_same marked (mark_of row.name) true false within)
    by_record (inr behind) = stays marked (mark_of row.name) (mark_of name) within (h name behind)

-- a name whose mark is not set stands in none of them
pub not_there : (marked : List Bool) (name : List ℕ) (slots : List Slot) → AreMarked marked slots → get_or marked (mark_of name) false ≡ false → list_any (has_name name) slots ≡ false
not_there marked name slots h unset = false_from_ne_true _ (λ there. false≢true (sym unset ∙ h name there))

-- a record, before those behind it
pub first_behind : (slots : List Slot) (i : ℕ) (slot : Slot) → 0 < i → i ≤ length slots → slot ≡ get_or slots (i - 1) slot → drop (i - 1) slots ≡ slot ∷ drop i slots
first_behind slots i slot low high e =
    let next : suc (i - 1) ≡ i = omega (arith, low) in
    drop-cons slots (i - 1) slot (omega (arith, low, high))
    ∙ ap (λ (s : Slot). s ∷ drop (suc (i - 1)) slots) (sym e)
    ∙ ap (λ (n : ℕ). slot ∷ drop n slots) next

pub behind : (slots : List Slot) (i : ℕ) → 0 < i → take (length slots - (i - 1 + 1)) (drop (i - 1 + 1) slots) ≡ drop i slots
behind slots i low =
    let next : i - 1 + 1 ≡ i = omega (arith, low) in
    take_rest slots (i - 1 + 1) ∙ ap (λ (n : ℕ). drop n slots) next

-- a record whose name stands in none behind it is apart from them
pub one_apart : (row : DirRow) (slots : List Slot) → list_any (has_name row.name) slots ≡ false → are_apart slots ≡ true → are_apart (Some row ∷ slots) ≡ true
one_apart row slots absent apart = and_from (not (list_any (has_name row.name) slots)) (are_apart slots) (not_from_false (list_any (has_name row.name) slots) absent) apart

rest_apart : (k : ℕ) (slots : List Slot) → are_apart slots ≡ true → are_apart (drop k slots) ≡ true
rest_apart zero slots h = h
rest_apart (suc k) [] h = refl
rest_apart (suc k) (slot ∷ slots) h = rest_apart k slots (and_parts (is_new slot slots) (are_apart slots) h).1

-- where it stands in one of them, two records have one name
pub not_apart : (slots rest : List Slot) (k : ℕ) (row : DirRow) → drop k slots ≡ Some row ∷ rest → list_any (has_name row.name) rest ≡ true → are_apart slots ≡ false
not_apart slots rest k row here there = false_from_ne_true (are_apart slots) (λ apart. false≢true (sym (absent apart) ∙ there))
  where
    absent : are_apart slots ≡ true → list_any (has_name row.name) rest ≡ false
    absent apart =
        let split : are_apart (Some row ∷ rest) ≡ true = ap are_apart (sym here) ∙ rest_apart k slots apart in
        not-true (list_any (has_name row.name) rest) (and_parts (is_new (Some row) rest) (are_apart rest) split).0
