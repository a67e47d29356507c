-- The rows of one link of a plan, by rising number, row after row of the plan.
use Rattle.std.proofs.Common.{◌≡◌, ◌∙◌, ℕ, Bool, true, false, List, [], ◌∷◌, ◌++◌, length, refl, ap, sym, arith}
use Rattle.std.specs.Prelude.{Option, Some, None, is_some, find, insert, nat_lt, ◌==◌, ◌&&◌, All, IsTrue, if◌then◌else◌, Result, Ok, Err, MatchResult}
use Rattle.std.specs.List.{prefix_len}
use Rattle.std.specs.List.Sorted.{IsBinarySearchResult, IsSearchInRange}
use Rattle.std.specs.Ordering.{nat_cmp}
use Rattle.std.proofs.lemmas.Bool.Decides.{nat_tests}
use Rattle.std.proofs.lemmas.List.Folds.{find-append}
use Rattle.std.proofs.lemmas.List.Elements.{All-nil}
use Rattle.uid_names.specs.InOrder.{AreInOrder, put_in_order}
use Rattle.uid_names.proofs.Finds.{find-all_fail}
use Rattle.uid_names.proofs.InOrder.{IsSearch, Agrees-nat, AllPairs-nil, put_in_order-all, put_in_order-rising, searched, insert-place}
use Rattle.uid_names.proofs.Somes.{option_or-none}
use Rattle.dom_history.specs.declared.plan.FateRow.{FateRow}
use Rattle.dom_history.specs.Plans.{is_of_frame, is_of_link, fate_in, set_fate, is_set, has_lower, AreOfLink}

-- a row of a smaller number stands before one of that number
before_number : (index : ℕ) (a b : FateRow) → has_lower a b ≡ true → nat_lt b.index index ≡ true → nat_lt a.index index ≡ true
before_number index a b e f = grind (arith, nat_tests, e, f)

-- behind one that is not before a number, none has that number
behind_number : (index : ℕ) (a b : FateRow) → has_lower a b ≡ true → nat_lt a.index index ≡ false → (b.index == index) ≡ false
behind_number index a b e f = grind (arith, nat_tests, e, f)

-- what a binary search by the number answers
pub found-number : (index : ℕ) (rows : List FateRow) (r : Result ℕ ℕ) → AreInOrder has_lower rows → IsSearchInRange r (length rows) → IsBinarySearchResult (λ row. nat_cmp row.index index) rows r
    → IsSearch (λ row. nat_lt row.index index) (λ row. row.index == index) rows r
found-number index rows r rising bound found =
    searched has_lower (λ row. nat_lt row.index index) (λ row. row.index == index) (λ row. nat_cmp row.index index) (λ row. Agrees-nat row.index index) (before_number index) (behind_number index) rows rising r bound found

-- numbers are in one order
lower-trans : (a b c : FateRow) → has_lower a b ≡ true → has_lower b c ≡ true → has_lower a c ≡ true
lower-trans a b c e f = grind (arith, nat_tests, e, f)

-- a row that goes in before all that are not below it goes to its place
pub inserted : (new : FateRow) (rows : List FateRow) → insert rows (prefix_len (λ row. nat_lt row.index new.index) rows) new ≡ put_in_order has_lower new rows
inserted new rows = insert-place has_lower lower-trans new rows

module _ {X : Type 0} (lt : X → X → Bool) (test : X → Bool) (new : X) where
  -- what fails a test changes nothing of what is found
  find-put_other : test new ≡ false → (xs : List X) → find test (put_in_order lt new xs) ≡ find test xs
  find-put_other fails [] = rw fails refl
  find-put_other fails (x ∷ xs) = by_test (lt x new) refl (find-put_other fails xs)
    where
      by_test : (b : Bool) → lt x new ≡ b → find test (put_in_order lt new xs) ≡ find test xs → find test (put_in_order lt new (x ∷ xs)) ≡ find test (x ∷ xs)
      by_test true e others = rw (e, others) refl
      by_test false e others = rw (e, fails) refl

  -- what passes it is found where nothing was
  find-put_new : test new ≡ true → (xs : List X) → find test xs ≡ None → find test (put_in_order lt new xs) ≡ Some new
  find-put_new passes [] none = rw passes refl
  find-put_new passes (x ∷ xs) none = by_tests (lt x new) (test x) refl refl none (find-put_new passes xs)
    where
      by_tests : (b s : Bool) → lt x new ≡ b → test x ≡ s → find test (x ∷ xs) ≡ None → (find test xs ≡ None → find test (put_in_order lt new xs) ≡ Some new) → find test (put_in_order lt new (x ∷ xs)) ≡ Some new
      by_tests b true e f none others = let h = rw f at none in absurd cc
      by_tests true false e f none others = rw (e, f) (others (rw f at none))
      by_tests false false e f none others = rw (e, passes) refl

-- no row was found where none has a fate
unfound : (found : Option FateRow) → is_some (fate_in found) ≡ false → found ≡ None
unfound None e = refl
unfound (Some row) e = absurd cc

-- a plan without rows has none of a link
pub none-of_link : (from to : ℕ) → AreOfLink [] from to []
none-of_link from to = record {
  link = All-nil (λ row. (row.from ≡ from) × (row.to ≡ to));
  rising = AllPairs-nil (λ a b. IsTrue (has_lower a b));
  fates = λ index. refl;
}

-- a frame of another link
other-frame : (row : FateRow) (from to index : ℕ) → is_of_link from to row ≡ false → is_of_frame from to index row ≡ false
other-frame row from to index other = by_tests (row.from == from) (row.to == to) (row.index == index) other
  where
    by_tests : (f t i : Bool) → (f && t) ≡ false → (f && t && i) ≡ false
    by_tests true true i e = absurd cc
    by_tests true false i e = refl
    by_tests false t i e = refl

-- a row of another link leaves the rows of this one
pub other-of_link : (plan : List FateRow) (row : FateRow) (from to : ℕ) (rows : List FateRow) → is_of_link from to row ≡ false → AreOfLink plan from to rows → AreOfLink (plan ++ row ∷ []) from to rows
other-of_link plan row from to rows other are = record {
  link = are.link;
  rising = are.rising;
  fates = λ index. are.fates index ∙ ap fate_in (sym (find-append (is_of_frame from to index) plan (row ∷ []) ∙ rw (other-frame row from to index other) (option_or-none (find (is_of_frame from to index) plan))));
}

-- one of this link goes to its place
pub one-of_link : (plan : List FateRow) (row : FateRow) (rows : List FateRow) → is_set plan row.from row.to row.index ≡ false → AreOfLink plan row.from row.to rows → AreOfLink (plan ++ row ∷ []) row.from row.to (put_in_order has_lower row rows)
one-of_link plan row rows unset are = record {
  link = put_in_order-all has_lower (λ r. (r.from ≡ row.from) × (r.to ≡ row.to)) row rows (refl, refl) are.link;
  rising = put_in_order-rising has_lower lower-trans row rows are.rising apart;
  fates = λ index. by_test index (is_of_frame row.from row.to index row) refl;
}
  where
    none : find (is_of_frame row.from row.to row.index) rows ≡ None
    none = unfound (find (is_of_frame row.from row.to row.index) rows) (ap is_some (are.fates row.index) ∙ unset)

    apart : All (λ r. has_lower r row ≡ false → has_lower row r ≡ true) rows
    apart k d below over =
        let on = are.link k d below in
        let other = find-all_fail (is_of_frame row.from row.to row.index) rows none k d below in
        grind (arith, nat_tests, on, other, over)

    same : (index : ℕ) → is_of_frame row.from row.to index row ≡ true → row.index ≡ index
    same index e = grind (arith, nat_tests, e)

    by_test : (index : ℕ) (b : Bool) → is_of_frame row.from row.to index row ≡ b → set_fate (put_in_order has_lower row rows) row.from row.to index ≡ set_fate (plan ++ row ∷ []) row.from row.to index
    by_test index true e =
        let number = same index e in
        let new : find (is_of_frame row.from row.to index) (put_in_order has_lower row rows) ≡ Some row = find-put_new has_lower (is_of_frame row.from row.to index) row e rows (rw number at none) in
        let before : find (is_of_frame row.from row.to index) plan ≡ None = rw number at (unfound (find (is_of_frame row.from row.to row.index) plan) unset) in
        ap fate_in (new ∙ sym (find-append (is_of_frame row.from row.to index) plan (row ∷ []) ∙ rw (before, e) refl))
    by_test index false e =
        ap fate_in (find-put_other has_lower (is_of_frame row.from row.to index) row e rows) ∙ are.fates index
        ∙ ap fate_in (sym (find-append (is_of_frame row.from row.to index) plan (row ∷ []) ∙ rw e (option_or-none (find (is_of_frame row.from row.to index) plan))))

-- so each row of the plan leaves the rows of the link
pub row-of_link : (plan : List FateRow) (row : FateRow) (from to : ℕ) (rows : List FateRow) → is_set plan row.from row.to row.index ≡ false → AreOfLink plan from to rows
    → AreOfLink (plan ++ row ∷ []) from to (if is_of_link from to row then put_in_order has_lower row rows else rows)
row-of_link plan row from to rows unset are = by_test (is_of_link from to row) refl
  where
    by_test : (b : Bool) → is_of_link from to row ≡ b → AreOfLink (plan ++ row ∷ []) from to (if b then put_in_order has_lower row rows else rows)
    by_test true e =
        let f : from ≡ row.from = grind (arith, nat_tests, e) in
        let t : to ≡ row.to = grind (arith, nat_tests, e) in
        rw (f, t) (one-of_link plan row rows unset (rw (f, t) at are))
    by_test false e = other-of_link plan row from to rows e are

-- a place that a search answers
pub ok-place : (r : Result ℕ ℕ) (at n : ℕ) → r ≡ Ok at → MatchResult r (λ a. a ≡ n) (λ a. a ≡ n) → at ≡ n
ok-place (Ok a) at n is h = let same : a ≡ at = cc in sym same ∙ h
ok-place (Err a) at n is h = absurd cc

pub err-place : (r : Result ℕ ℕ) (at n : ℕ) → r ≡ Err at → MatchResult r (λ a. a ≡ n) (λ a. a ≡ n) → at ≡ n
err-place (Ok a) at n is h = absurd cc
err-place (Err a) at n is h = let same : a ≡ at = cc in sym same ∙ h
