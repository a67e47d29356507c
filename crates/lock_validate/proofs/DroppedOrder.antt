-- The pages that a call drops rise strictly, by object and number.
use Rattle.std.proofs.Common.{◌≡◌, ◌≢◌, ℕ, ◌≤◌, true, false, nat_lt, List, [], ◌∷◌, map, count_by, refl, sym, ap, subst, arith}
use Rattle.std.specs.Prelude.{All, AllPairs, IsTrue, if◌then◌else◌, slice_index_or}
use Rattle.std.proofs.lemmas.Bool.Decides.{nat_tests}
use Rattle.std.proofs.lemmas.List.Elements.{All-nil, All-cons, All-head, All-tail, All-map}
use Rattle.std.proofs.lemmas.List.Kept.{AllPairs-cons}
use Rattle.uid_names.specs.Names.{ObjectName}
use Rattle.uid_names.specs.InOrder.{AreInOrder, put_in_order}
use Rattle.uid_names.proofs.InOrder.{AllPairs-head, AllPairs-tail, AllPairs-nil, put_in_order-all, put_in_order-rising}
use Rattle.dom_history.specs.Events.{page_lt, ArePagesRising}
use Rattle.page_cache.specs.Caches.{Resident, is_of, is_page}
use Rattle.page_cache.specs.Numbers.{numbers, placed, rising}
use Rattle.uid_names.proofs.ListLemmas.{by_cases, count_by-cons, count_by-cons_passes}
use Rattle.page_cache.specs.Numbers.{resident_pages}
use Rattle.fault_handler.specs.Desks.{DeskState}
use Rattle.fault_handler.specs.Invariant.{IsProc, IsDesk}
use Rattle.fault_handler.proofs.PageLists.{AreOnce}
use Rattle.fault_handler.specs.Outcomes.{Turn}
use Rattle.lock_validate.specs.Causes.{Cause}
use Rattle.lock_validate.specs.DeskMoves.{Change, DeskMoves}
use Rattle.lock_validate.proofs.DeskStays.{moves-desk}

-- a number goes to its place as any element does
placed-in_order : (k : ℕ) (xs : List ℕ) → placed k xs ≡ put_in_order nat_lt k xs
placed-in_order k [] = refl
placed-in_order k (x ∷ xs) = ap (λ ys. if nat_lt x k then x ∷ ys else k ∷ x ∷ xs) (placed-in_order k xs)

-- what holds of each number holds of each once they rise
rising-all : (P : ℕ → Type 0) (ks : List ℕ) → All P ks → All P (rising ks)
rising-all P [] all = all
rising-all P (k ∷ ks) all = subst (All P) (sym (placed-in_order k (rising ks))) (put_in_order-all nat_lt P k (rising ks) (All-head P k ks all) (rising-all P ks (All-tail P k ks all)))

nat_lt-trans : (a b c : ℕ) → nat_lt a b ≡ true → nat_lt b c ≡ true → nat_lt a c ≡ true
nat_lt-trans a b c e f = grind (arith, nat_tests, e, f)

nat_lt-total : (k x : ℕ) → x ≢ k → nat_lt x k ≡ false → nat_lt k x ≡ true
nat_lt-total k x differs e = grind (arith, nat_tests, differs, e)

-- numbers of which no two are the same rise strictly
rising-strict : (ks : List ℕ) → AllPairs (λ a b. b ≢ a) ks → AreInOrder nat_lt (rising ks)
rising-strict [] apart = AllPairs-nil (λ a b. IsTrue (nat_lt a b))
rising-strict (k ∷ ks) apart =
    let others = rising-all (λ x. x ≢ k) ks (AllPairs-head (λ a b. b ≢ a) k ks apart) in
    subst (AreInOrder nat_lt) (sym (placed-in_order k (rising ks)))
    (put_in_order-rising nat_lt nat_lt-trans k (rising ks) (rising-strict ks (AllPairs-tail (λ a b. b ≢ a) k ks apart))
    (λ j d below. nat_lt-total k (slice_index_or (rising ks) j d) (others j d below)))

module _ (u : ObjectName) where
  -- no resident page of the object has a number of which none is counted
  none-numbered : (k : ℕ) (pages : List Resident) → count_by (is_page u k) pages ≡ 0 → All (λ x. x ≢ k) (numbers (is_of u) pages)
  none-numbered k [] none = All-nil (λ x. x ≢ k)
  none-numbered k (r ∷ rs) none =
      let others = none-numbered k rs (omega (arith, count_by-cons (is_page u k) r rs)) in
      by_cases
      (is_of u r)
      (All (λ x. x ≢ k) (numbers (is_of u) (r ∷ rs)))
      (λ is. rw is (All-cons (λ x. x ≢ k) r.page (numbers (is_of u) rs) (λ same. let here : is_page u k r ≡ true = grind (arith, nat_tests, is, same) in absurd (omega (arith, count_by-cons_passes (is_page u k) r rs here))) others))
      (λ is. rw is others)

  -- the numbers of pages that are resident once differ
  numbers-apart : (pages : List Resident) → ((k : ℕ) → count_by (is_page u k) pages ≤ 1) → AllPairs (λ a b. b ≢ a) (numbers (is_of u) pages)
  numbers-apart [] once = AllPairs-nil (λ a b. b ≢ a)
  numbers-apart (r ∷ rs) once =
      let others = numbers-apart rs (λ k. omega (arith, once k, count_by-cons (is_page u k) r rs)) in
      by_cases
      (is_of u r)
      (AllPairs (λ a b. b ≢ a) (numbers (is_of u) (r ∷ rs)))
      (λ is. rw is (AllPairs-cons (λ a b. b ≢ a) r.page (numbers (is_of u) rs) (none-numbered r.page rs (alone is)) others))
      (λ is. rw is others)
    where
      alone : is_of u r ≡ true → count_by (is_page u r.page) rs ≡ 0
      alone is =
          let here : is_page u r.page r ≡ true = grind (arith, nat_tests, is) in
          omega (arith, once r.page, count_by-cons_passes (is_page u r.page) r rs here)

  -- pages of one object rise as their numbers do
  page_lt-of : (a b : ℕ) → nat_lt a b ≡ true → page_lt (u, a) (u, b) ≡ true
  page_lt-of a b e = grind (arith, nat_tests, e)

  paged-rise : (ks : List ℕ) → AreInOrder nat_lt ks → ArePagesRising (map (λ k. (u, k)) ks)
  paged-rise [] rise = AllPairs-nil (λ a b. IsTrue (page_lt a b))
  paged-rise (k ∷ ks) rise =
      let first = AllPairs-head (λ a b. IsTrue (nat_lt a b)) k ks rise in
      AllPairs-cons (λ a b. IsTrue (page_lt a b)) (u, k) (map (λ j. (u, j)) ks)
      (All-map (λ b. IsTrue (page_lt (u, k) b)) (λ j. (u, j)) ks (λ j d below. page_lt-of k (slice_index_or ks j d) (first j d below)))
      (paged-rise ks (AllPairs-tail (λ a b. IsTrue (nat_lt a b)) k ks rise))

  emptied-rise : (pages : List Resident) → AreOnce pages → ArePagesRising (map (λ k. (u, k)) (resident_pages pages u))
  emptied-rise pages once = paged-rise (rising (numbers (is_of u) pages)) (rising-strict (numbers (is_of u) pages) (numbers-apart pages (once u)))

none-rise : ArePagesRising []
none-rise = AllPairs-nil (λ a b. IsTrue (page_lt a b))

one-rises : (name : ObjectName × ℕ) → ArePagesRising (name ∷ [])
one-rises name = AllPairs-cons (λ a b. IsTrue (page_lt a b)) name [] (All-nil (λ b. IsTrue (page_lt name b))) (AllPairs-nil (λ a b. IsTrue (page_lt a b)))

module _ (c : Cause) (turn : Turn) (p : ℕ) (proc : IsProc p) where
  change-rise : (d e : DeskState) (dropped : List (ObjectName × ℕ)) → IsDesk d → Change c turn p d e dropped → ArePagesRising dropped
  change-rise d e dropped desk (Change.drops task u k does missing full may asks) = one-rises (u, k)
  change-rise d e dropped desk (Change.drops_all u a given object may none) = emptied-rise u d.cache.pages desk.pages.once
  change-rise d e dropped desk change = none-rise

  pub moves-rise : (d e : DeskState) (dropped : List (ObjectName × ℕ)) → IsDesk d → DeskMoves c turn p d e dropped → ArePagesRising dropped
  moves-rise d e dropped desk DeskMoves.none = none-rise
  moves-rise d e dropped desk (DeskMoves.next {e = f} moves change) = moves-rise d f dropped desk moves
  moves-rise d e dropped desk (DeskMoves.dropping {e = f} moves change) = change-rise f e dropped (moves-desk c turn p proc d f [] desk moves) change
