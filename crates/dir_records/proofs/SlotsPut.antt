-- What a record put at a place of a directory leaves.
use Rattle.std.proofs.Common.{◌≡◌, ◌≢◌, ℕ, zero, suc, ◌+◌, ◌≤◌, ◌||◌, not, Bool, true, false, cond, Some, None, List, [], ◌∷◌, refl, ap, ◌∙◌, sym, subst, arith}
use Rattle.std.specs.Prelude.{bytes_eq}
use Rattle.std.specs.List.{list_any}
use Rattle.std.proofs.lemmas.Bool.{false≢true, not-true, and_parts}
use Rattle.std.proofs.lemmas.Slice.Eq.{bytes_eq-Decides}
use Rattle.dir_records.specs.declared.row.DirRow.{DirRow}
use Rattle.dir_records.specs.Records.{Slot}
use Rattle.dir_records.specs.Directories.{has_name, are_apart, row_named, placed_from, placed_row, first_free, with_slot}

same : (bytes : List ℕ) → bytes_eq bytes bytes ≡ true
same bytes = (bytes_eq-Decides bytes bytes).1 refl

one-more : (n : ℕ) → 1 + n ≡ suc n
one-more n = omega arith

-- the row of another name, or of none, does not matter
named_past : (other : List ℕ) (slot : Slot) (slots more : List Slot) → row_named other slots ≡ row_named other more → row_named other (slot ∷ slots) ≡ row_named other (slot ∷ more)
named_past other slot slots more h = ap (cond (has_name other slot) slot) h

-- where the first free record is, a name leaves those of others
pub others_stay : (row : DirRow) (other : List ℕ) (slots : List Slot) → bytes_eq row.name other ≡ false → row_named other (with_slot (first_free slots) (Some row) slots) ≡ row_named other slots
others_stay row other [] h = rw h refl
others_stay row other (None ∷ slots) h = rw h refl
others_stay row other (Some first ∷ slots) h =
    ap (λ (n : ℕ). row_named other (with_slot n (Some row) (Some first ∷ slots))) (one-more (first_free slots))
    ∙ named_past other (Some first) (with_slot (first_free slots) (Some row) slots) slots (others_stay row other slots h)

by_first : (name : List ℕ) (first : DirRow) (slots : List Slot) (t : Bool) → bytes_eq first.name name ≡ t → cond t (Some first) (row_named name slots) ≡ None → (t ≡ false) × (row_named name slots ≡ None)
by_first name first slots true e h = absurd (grind (arith, h))
by_first name first slots false e h = (refl, h)

-- and is found there
pub added_found : (row : DirRow) (slots : List Slot) → row_named row.name slots ≡ None → row_named row.name (with_slot (first_free slots) (Some row) slots) ≡ Some row
added_found row [] h = rw (same row.name) refl
added_found row (None ∷ slots) h = rw (same row.name) refl
added_found row (Some first ∷ slots) h =
    let rest = by_first row.name first slots (bytes_eq first.name row.name) refl h in
    ap (λ (n : ℕ). row_named row.name (with_slot n (Some row) (Some first ∷ slots))) (one-more (first_free slots))
    ∙ ap (λ t. cond t (Some first) (row_named row.name (with_slot (first_free slots) (Some row) slots))) rest.0
    ∙ added_found row slots rest.1

-- none of the records has a name that is new to them
none_named : (name : List ℕ) (slots : List Slot) → list_any (has_name name) slots ≡ false → row_named name slots ≡ None
none_named name [] h = refl
none_named name (slot ∷ slots) h = by_test (has_name name slot) h (none_named name slots)
  where
    by_test : (t : Bool) → (t || list_any (has_name name) slots) ≡ false → (list_any (has_name name) slots ≡ false → row_named name slots ≡ None) → cond t slot (row_named name slots) ≡ None
    by_test true k rest = absurd (false≢true (sym k))
    by_test false k rest = rest k

-- a record is at its place or behind it
placed_behind : (i p : ℕ) (name : List ℕ) (slots : List Slot) (row : DirRow) → placed_from i name slots ≡ Some (p, row) → i ≤ p
placed_behind i p name [] row e = absurd (grind (arith, e))
placed_behind i p name (None ∷ slots) row e = omega (arith, placed_behind (i + 1) p name slots row e)
placed_behind i p name (Some first ∷ slots) row e = by_test (bytes_eq first.name name) e (λ f. placed_behind (i + 1) p name slots row f)
  where
    by_test : (t : Bool) → cond t (Some (i, first)) (placed_from (i + 1) name slots) ≡ Some (p, row) → (placed_from (i + 1) name slots ≡ Some (p, row) → i + 1 ≤ p) → i ≤ p
    by_test true f k = grind (arith, f)
    by_test false f k = omega (arith, k f)

module _ (name : List ℕ) where
  -- once its record is free a name is not found
  pub dropped_gone : (i n : ℕ) (slots : List Slot) (row : DirRow) → are_apart slots ≡ true → placed_from i name slots ≡ Some (i + n, row) → row_named name (with_slot n None slots) ≡ None
  dropped_gone i n [] row a e = absurd (grind (arith, e))
  dropped_gone i zero (None ∷ slots) row a e = absurd (omega (arith, placed_behind (i + 1) (i + 0) name slots row e))
  dropped_gone i (suc n) (None ∷ slots) row a e = dropped_gone (i + 1) n slots row a (e ∙ ap (λ (p : ℕ). Some (p, row)) (omega arith))
  dropped_gone i zero (Some first ∷ slots) row a e = by_test (bytes_eq first.name name) refl e
    where
      new : list_any (has_name first.name) slots ≡ false
      new = not-true (list_any (has_name first.name) slots) (and_parts (not (list_any (has_name first.name) slots)) (are_apart slots) a).0

      by_test : (t : Bool) → bytes_eq first.name name ≡ t → cond t (Some (i, first)) (placed_from (i + 1) name slots) ≡ Some (i + 0, row) → row_named name slots ≡ None
      by_test true f k = none_named name slots (subst (λ x. list_any (has_name x) slots ≡ false) ((bytes_eq-Decides first.name name).0 f) new)
      by_test false f k = absurd (omega (arith, placed_behind (i + 1) (i + 0) name slots row k))
  dropped_gone i (suc n) (Some first ∷ slots) row a e =
      by_test (bytes_eq first.name name) e (λ k. dropped_gone (i + 1) n slots row (and_parts (not (list_any (has_name first.name) slots)) (are_apart slots) a).1 (k ∙ ap (λ (p : ℕ). Some (p, row)) (omega arith)))
    where
      by_test : (t : Bool) → cond t (Some (i, first)) (placed_from (i + 1) name slots) ≡ Some (i + suc n, row) → (placed_from (i + 1) name slots ≡ Some (i + suc n, row) → row_named name (with_slot n None slots) ≡ None) → cond t (Some first) (row_named name (with_slot n None slots)) ≡ None
      by_test true k rest = absurd (grind (arith, k))
      by_test false k rest = rest k

  -- and those of others are
  pub others_kept : (i n : ℕ) (other : List ℕ) (slots : List Slot) (row : DirRow) → name ≢ other → placed_from i name slots ≡ Some (i + n, row) → row_named other (with_slot n None slots) ≡ row_named other slots
  others_kept i n other [] row h e = absurd (grind (arith, e))
  others_kept i zero other (None ∷ slots) row h e = refl
  others_kept i (suc n) other (None ∷ slots) row h e = others_kept (i + 1) n other slots row h (e ∙ ap (λ (p : ℕ). Some (p, row)) (omega arith))
  others_kept i zero other (Some first ∷ slots) row h e = by_test (bytes_eq first.name name) refl e
    where
      by_other : (t : Bool) → bytes_eq first.name other ≡ t → first.name ≡ name → row_named other slots ≡ cond t (Some first) (row_named other slots)
      by_other true f same_name = absurd (h (sym same_name ∙ (bytes_eq-Decides first.name other).0 f))
      by_other false f same_name = refl

      by_test : (t : Bool) → bytes_eq first.name name ≡ t → cond t (Some (i, first)) (placed_from (i + 1) name slots) ≡ Some (i + 0, row) → row_named other slots ≡ row_named other (Some first ∷ slots)
      by_test true f k = by_other (bytes_eq first.name other) refl ((bytes_eq-Decides first.name name).0 f)
      by_test false f k = absurd (omega (arith, placed_behind (i + 1) (i + 0) name slots row k))
  others_kept i (suc n) other (Some first ∷ slots) row h e =
      by_test (bytes_eq first.name name) e (λ k. others_kept (i + 1) n other slots row h (k ∙ ap (λ (p : ℕ). Some (p, row)) (omega arith)))
    where
      by_test : (t : Bool) → cond t (Some (i, first)) (placed_from (i + 1) name slots) ≡ Some (i + suc n, row) → (placed_from (i + 1) name slots ≡ Some (i + suc n, row) → row_named other (with_slot n None slots) ≡ row_named other slots) → row_named other (Some first ∷ with_slot n None slots) ≡ row_named other (Some first ∷ slots)
      by_test true k rest = absurd (grind (arith, k))
      by_test false k rest = named_past other (Some first) (with_slot n None slots) slots (rest k)

pub gone : (name : List ℕ) (slots : List Slot) (place : ℕ) (row : DirRow) → are_apart slots ≡ true → placed_row name slots ≡ Some (place, row) → row_named name (with_slot place None slots) ≡ None
gone name slots place row a e = dropped_gone name 0 place slots row a (e ∙ ap (λ (p : ℕ). Some (p, row)) (omega arith))

pub kept : (name other : List ℕ) (slots : List Slot) (place : ℕ) (row : DirRow) → name ≢ other → placed_row name slots ≡ Some (place, row) → row_named other (with_slot place None slots) ≡ row_named other slots
kept name other slots place row h e = others_kept name 0 place other slots row h (e ∙ ap (λ (p : ℕ). Some (p, row)) (omega arith))
