-- Where the row of a frame stands among those of its link.
use Rattle.std.proofs.Common.{◌≡◌, ◌∙◌, ℕ, zero, suc, ◌+◌, ◌-◌, ◌<◌, ◌≤◌, Bool, true, false, List, [], ◌∷◌, length, get_or, refl, sym, ap, subst, eq-eqb, arith}
use Rattle.std.specs.Prelude.{◌==◌, ◌&&◌, Option, Some, None, find, slice_get, if◌then◌else◌, IsTrue}
use Rattle.std.proofs.lemmas.Bool.Decides.{nat_tests}
use Rattle.std.proofs.lemmas.List.Sums.{prefix_len-le-length}
use Rattle.std.proofs.lemmas.Option.{slice_get_within, get_or_from_slice_get}
use Rattle.uid_names.specs.InOrder.{AreInOrder}
use Rattle.uid_names.proofs.InOrder.{AllPairs-head, AllPairs-tail, if_it, find-place}
use Rattle.dom_history.specs.declared.plan.Fate.TheVariants.{Pass}
use Rattle.dom_history.specs.declared.plan.FateRow.{FateRow}
use Rattle.dom_history.specs.Plans.{is_of_frame, fate_in, fate_or_pass, fate_of, has_lower, AreOfLink}
use Rattle.wire_links.specs.Rows.{is_below, is_smaller, count_below, fate_there}

module _ (index : ℕ) where
  pub counted : (rows : List FateRow) → count_below index rows ≤ length rows
  counted rows = prefix_len-le-length (is_below index) rows

  -- one that is smaller stands in the front, and so do those before it
  pub one_more : (rows : List FateRow) (n : ℕ) → n ≤ count_below index rows → is_smaller index (slice_get rows n) ≡ true → n + 1 ≤ count_below index rows
  one_more [] n within e = absurd cc
  one_more (row ∷ rows) zero within e = rw e (omega arith)
  one_more (row ∷ rows) (suc n) within e = by_test (is_below index row) refl within (λ less. one_more rows n less e)
    where
      by_test : (b : Bool) → is_below index row ≡ b → suc n ≤ count_below index (row ∷ rows) → (n ≤ count_below index rows → n + 1 ≤ count_below index rows) → suc n + 1 ≤ count_below index (row ∷ rows)
      by_test true f under others =
          let h : suc n ≤ 1 + count_below index rows = rw f at under in
          let more = others (omega (arith, h)) in
          rw f (omega (arith, more))
      by_test false f under others = let h : suc n ≤ 0 = rw f at under in absurd (omega (arith, h))

  -- the front ends where none is
  pub no_more : (rows : List FateRow) (n : ℕ) → n ≤ count_below index rows → is_smaller index (slice_get rows n) ≡ false → n ≡ count_below index rows
  no_more [] n within e = omega (arith, within)
  no_more (row ∷ rows) zero within e = rw e refl
  no_more (row ∷ rows) (suc n) within e = by_test (is_below index row) refl within (λ less. no_more rows n less e)
    where
      by_test : (b : Bool) → is_below index row ≡ b → suc n ≤ count_below index (row ∷ rows) → (n ≤ count_below index rows → n ≡ count_below index rows) → suc n ≡ count_below index (row ∷ rows)
      by_test true f under others =
          let h : suc n ≤ 1 + count_below index rows = rw f at under in
          let same = others (omega (arith, h)) in
          rw f (omega (arith, same))
      by_test false f under others = let h : suc n ≤ 0 = rw f at under in absurd (omega (arith, h))

  before-smaller : (a b : FateRow) → has_lower a b ≡ true → is_below index b ≡ true → is_below index a ≡ true
  before-smaller a b e f = grind (arith, nat_tests, e, f)

  smaller-at : (r : Option FateRow) → is_smaller index r ≡ true → (row : FateRow) × (r ≡ Some row) × (is_below index row ≡ true)
  smaller-at None e = absurd cc
  smaller-at (Some row) e = (row, refl, e)

  -- in rising rows all stand in the front up to one that is smaller
  front : (rows : List FateRow) (n : ℕ) (row : FateRow) → AreInOrder has_lower rows → slice_get rows n ≡ Some row → is_below index row ≡ true → n < count_below index rows
  front [] n row rising at e = absurd cc
  front (first ∷ rows) zero row rising at e =
      let same : first ≡ row = cc in
      let passes : is_below index first ≡ true = subst (λ (r : FateRow). is_below index r ≡ true) (sym same) e in
      rw passes (omega arith)
  front (first ∷ rows) (suc n) row rising at e =
      let inside = slice_get_within rows n row at in
      let low : IsTrue (has_lower first (get_or rows n row)) = AllPairs-head (λ a b. IsTrue (has_lower a b)) first rows rising n row inside in
      let below : is_below index (get_or rows n row) ≡ true = subst (λ (r : FateRow). is_below index r ≡ true) (sym (get_or_from_slice_get rows n row row at)) e in
      let passes : is_below index first ≡ true = before-smaller first (get_or rows n row) low below in
      let more = front rows n row (AllPairs-tail (λ a b. IsTrue (has_lower a b)) first rows rising) at e in
      rw passes (omega (arith, more))

  pub behind_smaller : (rows : List FateRow) (n : ℕ) → AreInOrder has_lower rows → 0 < n → is_smaller index (slice_get rows (n - 1)) ≡ true → n ≤ count_below index rows
  behind_smaller rows n rising some e =
      let found = smaller-at (slice_get rows (n - 1)) e in
      let under = front rows (n - 1) found.0 rising found.1 found.2 in
      omega (arith, some, under)

-- the rows of a link are its rows in themselves
pub rows_alone : (plan rows : List FateRow) (from to : ℕ) → AreOfLink plan from to rows → AreOfLink rows from to rows
rows_alone plan rows from to are = record { link = are.link; rising = are.rising; fates = λ index. refl }

module _ (from to index : ℕ) where
  -- a row below the number is of no such frame, nor is one behind one that is not below it
  apart : (row : FateRow) → is_below index row ≡ true → is_of_frame from to index row ≡ false
  apart row e = by_tests (row.from == from) (row.to == to) (row.index == index) (grind (arith, nat_tests, e))
    where
      by_tests : (f t i : Bool) → i ≡ false → (f && t && i) ≡ false
      by_tests true true i other = other
      by_tests true false i other = refl
      by_tests false t i other = refl

  later : (a b : FateRow) → has_lower a b ≡ true → is_below index a ≡ false → is_of_frame from to index b ≡ false
  later a b low e = by_tests (b.from == from) (b.to == to) (b.index == index) (grind (arith, nat_tests, low, e))
    where
      by_tests : (f t i : Bool) → i ≡ false → (f && t && i) ≡ false
      by_tests true true i other = other
      by_tests true false i other = refl
      by_tests false t i other = refl

  -- of a row of the link its number tells whether it is of the frame
  row-fate : (f t i : Bool) (row : FateRow) → f ≡ true → t ≡ true → fate_or_pass (fate_in (if f && t && i then Some row else None)) ≡ (if i then row.fate else Pass)
  row-fate true true true row _ _ = refl
  row-fate true true false row _ _ = refl
  row-fate true false i row _ e = absurd cc
  row-fate false t i row e _ = absurd cc

  pub fate_found : (rows : List FateRow) (place : ℕ) → AreOfLink rows from to rows → place ≡ count_below index rows → fate_there index (slice_get rows place) ≡ fate_of rows from to index
  fate_found rows place are same =
      let found : find (is_of_frame from to index) rows ≡ if_it (is_of_frame from to index) (slice_get rows (count_below index rows)) =
      find-place has_lower (is_below index) (is_of_frame from to index) apart later rows are.rising in
      sym (ap (λ (r : Option FateRow). fate_or_pass (fate_in r)) (subst (λ n. find (is_of_frame from to index) rows ≡ if_it (is_of_frame from to index) (slice_get rows n)) (sym same) found)
      ∙ of-row (slice_get rows place) refl)
    where
      of-row : (r : Option FateRow) → slice_get rows place ≡ r → fate_or_pass (fate_in (if_it (is_of_frame from to index) r)) ≡ fate_there index r
      of-row None at = refl
      of-row (Some row) at =
          let inside = slice_get_within rows place row at in
          let on = subst (λ (x : FateRow). (x.from ≡ from) × (x.to ≡ to)) (get_or_from_slice_get rows place row row at) (are.link place row inside) in
          row-fate (row.from == from) (row.to == to) (row.index == index) row (eq-eqb row.from from on.0) (eq-eqb row.to to on.1)
