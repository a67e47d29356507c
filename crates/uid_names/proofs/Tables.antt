-- Tables with one row for each object: where a row stands, what each change leaves, and what is looked up after it.
use Rattle.std.proofs.Common.{◌≡◌, ℕ, ◌<◌, Bool, true, false, List, [], ◌∷◌, length, set, get_or, refl, sym, arith}
use Rattle.std.specs.Prelude.{IsTrue, not, insert, remove, Option, Some, None, is_some, Result, if◌then◌else◌}
use Rattle.std.specs.List.Sorted.{IsBinarySearchResult, IsSearchInRange}
use Rattle.std.proofs.lemmas.Bool.Decides.{nat_tests}
use Rattle.std.proofs.lemmas.List.Kept.{AllPairs-filter}
use Rattle.uid_names.specs.Names.{ObjectName, same_uid, uid_lt}
use Rattle.uid_names.specs.Tables.{row_below, AreRising, is_row_of, row_of, place_of, without_row, with_row}
use Rattle.uid_names.specs.contracts.ids.UidOrd.TheImpl as uid_order
use Rattle.uid_names.proofs.Finds.{find-passes}
use Rattle.uid_names.proofs.InOrder.{IsSearch, AllPairs-nil, replaced-rising, searched, find-found, find-replaced, without-none, remove-place, set-place, insert-place}
use Rattle.uid_names.proofs.Orders.{Agrees-object, same_uid_is, uid_lt-trans, uid_lt-total, uid_lt-apart, uid_later_apart}

-- the row of an object is that of the new one's, where they are one object
same_uid-new : (u v w : ObjectName) → same_uid v w ≡ true → same_uid u v ≡ same_uid u w
same_uid-new u v w e = grind (arith, nat_tests, e)

-- and no other row is
same_uid-other : (u v w : ObjectName) → same_uid v w ≡ false → same_uid u v ≡ true → same_uid u w ≡ false
same_uid-other u v w e f = grind (arith, nat_tests, e, f)

module _ {R : Type 0} (name : R → ObjectName) where
  module _ (u : ObjectName) where
    -- a row before that of u is of another object
    apart : (row : R) → uid_lt (name row) u ≡ true → is_row_of name u row ≡ false
    apart row = uid_lt-apart u (name row)

    -- and so is one behind a row that is not before it
    later : (a b : R) → row_below name a b ≡ true → uid_lt (name a) u ≡ false → is_row_of name u b ≡ false
    later a b = uid_later_apart u (name a) (name b)

    -- what a binary search by the object answers
    pub found-search : (rows : List R) (r : Result ℕ ℕ) → AreRising name rows → IsSearchInRange r (length rows) → IsBinarySearchResult (λ row. uid_order.ghosts.cmp (name row) u) rows r
        → IsSearch (λ row. uid_lt (name row) u) (is_row_of name u) rows r
    found-search rows r rising bound found =
        searched (row_below name) (λ row. uid_lt (name row) u) (is_row_of name u) (λ row. uid_order.ghosts.cmp (name row) u) (λ row. Agrees-object u (name row)) (λ a b. uid_lt-trans (name a) (name b) u) later rows rising r bound found

    -- the row at its place is that of the object, where it has one
    pub row_of-found : (rows : List R) → AreRising name rows → (at : ℕ) (row : R) → at ≡ place_of name u rows → at < length rows → row ≡ get_or rows at row → is_some (row_of name u rows) ≡ true → row_of name u rows ≡ Some row
    row_of-found rows rising at row place below read known = find-found (row_below name) (λ r. uid_lt (name r) u) (is_row_of name u) apart later rows rising at row place below read known

    -- where there is none, no row is left out
    pub without_row-none : (rows : List R) → is_some (row_of name u rows) ≡ false → without_row name u rows ≡ rows
    without_row-none rows none = without-none (is_row_of name u) rows none

    -- the row of u goes out at its place
    pub remove-place_of : (rows : List R) → AreRising name rows → is_some (row_of name u rows) ≡ true → remove rows (place_of name u rows) ≡ without_row name u rows
    remove-place_of rows rising known = remove-place (row_below name) (λ r. uid_lt (name r) u) (is_row_of name u) apart later rows rising known

    -- what is left is in order
    pub AreRising-without_row : (rows : List R) → AreRising name rows → AreRising name (without_row name u rows)
    AreRising-without_row rows rising = AllPairs-filter (λ a b. IsTrue (row_below name a b)) (λ row. not (is_row_of name u row)) rows rising

    -- the row of an object is of that object
    pub row_of-named : (rows : List R) (row : R) → row_of name u rows ≡ Some row → name row ≡ u
    row_of-named rows row found = sym (same_uid_is u (name row) (find-passes (is_row_of name u) rows row found))

  -- no rows are in order
  pub AreRising-none : AreRising name []
  AreRising-none = AllPairs-nil (λ a b. IsTrue (row_below name a b))

  -- a row goes to its place
  pub AreRising-with_row : (new : R) (rows : List R) → AreRising name rows → AreRising name (with_row name new rows)
  AreRising-with_row new = replaced-rising (row_below name) (λ a b c. uid_lt-trans (name a) (name b) (name c)) (is_row_of name (name new)) new (λ row other above. uid_lt-total (name new) (name row) above other)

  -- a row takes the place of that of its object, at the place that a search gave
  pub set-with_row : (new : R) (u : ObjectName) → u ≡ name new → (rows given : List R) → given ≡ rows → AreRising name rows → (at : ℕ) → at ≡ place_of name u given → true ≡ is_some (row_of name u given) → set rows at new ≡ with_row name new rows
  set-with_row new u named rows given same rising at place found =
      let known : is_some (row_of name (name new) rows) ≡ true = sym (rw (same, named) at found) in
      rw (place, same, named) (set-place (row_below name) (λ a b c. uid_lt-trans (name a) (name b) (name c)) new (is_row_of name (name new)) (apart (name new)) (later (name new)) rows rising known)

  -- and a new one goes in there
  pub insert-with_row : (new : R) (u : ObjectName) → u ≡ name new → (rows given : List R) → given ≡ rows → (at : ℕ) → at ≡ place_of name u given → false ≡ is_some (row_of name u given) → insert rows at new ≡ with_row name new rows
  insert-with_row new u named rows given same at place found =
      let none : is_some (row_of name (name new) rows) ≡ false = sym (rw (same, named) at found) in
      rw (place, same, named, without_row-none (name new) rows none) (insert-place (row_below name) (λ a b c. uid_lt-trans (name a) (name b) (name c)) new rows)

  -- the row of u where one was set
  pub row_of-with_row : (new : R) (rows : List R) (u : ObjectName) → row_of name u (with_row name new rows) ≡ (if same_uid u (name new) then Some new else row_of name u rows)
  row_of-with_row new rows u = find-replaced (row_below name) (is_row_of name u) (is_row_of name (name new)) new (λ row. same_uid-new u (name new) (name row)) (λ row. same_uid-other u (name new) (name row)) rows

  -- the row of u where that of v was taken away
  pub row_of-without_row : (v : ObjectName) (rows : List R) (u : ObjectName) → row_of name u (without_row name v rows) ≡ (if same_uid u v then None else row_of name u rows)
  row_of-without_row v [] u = by_test (same_uid u v)
    where
      by_test : (b : Bool) → ◌≡◌ {A = Option R} None (if b then None else None)
      by_test true = refl
      by_test false = refl
  row_of-without_row v (row ∷ rows) u = by_tests (is_row_of name v row) (is_row_of name u row) (same_uid u v) refl refl refl (row_of-without_row v rows u)
    where
      by_tests : (a b c : Bool) → is_row_of name v row ≡ a → is_row_of name u row ≡ b → same_uid u v ≡ c → row_of name u (without_row name v rows) ≡ (if same_uid u v then None else row_of name u rows)
          → row_of name u (without_row name v (row ∷ rows)) ≡ (if same_uid u v then None else row_of name u (row ∷ rows))
      by_tests true true true ea eb ec others = rw (ea, ec) (rw ec at others)
      by_tests true true false ea eb ec others = absurd (let h : same_uid u v ≡ true = grind (arith, nat_tests, ea, eb) in cc)
      by_tests true false true ea eb ec others = rw (ea, ec) (rw ec at others)
      by_tests true false false ea eb ec others = rw (ea, eb, ec) (rw ec at others)
      by_tests false true true ea eb ec others = absurd (let h : same_uid v (name row) ≡ true = grind (arith, nat_tests, eb, ec) in cc)
      by_tests false true false ea eb ec others = rw (ea, eb, ec) refl
      by_tests false false true ea eb ec others = rw (ea, eb, ec) (rw ec at others)
      by_tests false false false ea eb ec others = rw (ea, eb, ec) (rw ec at others)
