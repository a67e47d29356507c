-- What the objects' maps of places say of the one map that they are together.
use Rattle.std.proofs.Common.{◌≡◌, ℕ, ◌==◌, List, [], ◌∷◌, ◌++◌, cond, refl, sym, ap, ◌∙◌, arith}
use Rattle.std.specs.Prelude.{Bool, true, false, ◌&&◌, not, nat_eq, Option, Some, None, IfSome}
use Rattle.std.proofs.lemmas.Bool.Decides.{nat_tests}
use Rattle.std.proofs.lemmas.Map.{lookup-none}
use Rattle.std.proofs.lemmas.Map.Entries.{none_past_head}
use Rattle.std.proofs.lemmas.Map.Keys.{IsDistinct-tail}
use Rattle.std.specs.Cmp.{nat_eq_equiv}
use Rattle.std.specs.List.{IsDistinct}
use Rattle.std.specs.Map.{lookup, keys_of}
use Rattle.std.specs.HashMap.{HashMap}
use Rattle.std.specs.Option.{option_or}
use Rattle.std.specs.FinMap.{find, get, insert, retain_keys, get-from_entries, get-insert, get-retain_keys, same_map}
use Rattle.uid_names.proofs.Somes.{option_or-none}
use Rattle.page_store.specs.declared.blocks.Place.{Place}
use Rattle.page_store.specs.Volumes.{PageName, page_cmp, is_other}
use Rattle.page_store.specs.Placed.{named_by, all_named, placed_of, ArePlacesOf}
use Rattle.page_store.proofs.Orders.{page_cmp-total, page_cmp-IsAntisymmetric, eq_by_cmp-page_cmp, is_other-tied}

-- nothing either way
cond-none : {X : Type 0} (b : Bool) → let none : Option X = None in cond b none none ≡ none
cond-none true = refl
cond-none false = refl

-- what is found among an object's pages, or else behind them
found_first : {X : Type 0} (c k : Bool) (place : X) (own other : Option X) → cond (c && k) (Some place) (option_or (cond c own None) other) ≡ option_or (cond c (cond k (Some place) own) None) other
found_first true true place own other = refl
found_first true false place own other = refl
found_first false k place own other = refl

-- the pages of one object, before others
find-named_by : (d c k : ℕ) (pages : List (ℕ × Place)) (rest : List (PageName × Place))
    → find page_cmp (c, k) (named_by d pages ++ rest) ≡ option_or (cond (nat_eq c d) (lookup (nat_eq k) pages) None) (find page_cmp (c, k) rest)
find-named_by d c k [] rest = ap (λ o. option_or o (find page_cmp (c, k) rest)) (sym (cond-none (nat_eq c d)))
find-named_by d c k (e ∷ pages) rest =
    rw (eq_by_cmp-page_cmp c k d e.0, find-named_by d c k pages rest) (found_first (nat_eq c d) (nat_eq k e.0) e.1 (lookup (nat_eq k) pages) (find page_cmp (c, k) rest))

module _ {S : Type 0} where
  -- the place of a page in the map of its object
  abbrev pub place_in : ℕ → Option (HashMap ℕ Place S) → Option Place
  place_in page None = None
  place_in page (Some pages) = lookup (nat_eq page) pages.entries

  -- a page is found in the map of its object
  find-all_named : (objects : List (ℕ × HashMap ℕ Place S)) (c k : ℕ) → IsDistinct nat_eq (keys_of objects)
      → find page_cmp (c, k) (all_named objects) ≡ place_in k (lookup (nat_eq c) objects)
  find-all_named [] c k apart = refl
  find-all_named (o ∷ objects) c k apart =
      find-named_by o.0 c k o.1.entries (all_named objects)
      ∙ ap (option_or (cond (nat_eq c o.0) (lookup (nat_eq k) o.1.entries) None)) (find-all_named objects c k (IsDistinct-tail nat_eq o.0 (keys_of objects) apart))
      ∙ by_test (nat_eq c o.0) refl
    where
      by_test : (b : Bool) → nat_eq c o.0 ≡ b
          → option_or (cond b (lookup (nat_eq k) o.1.entries) None) (place_in k (lookup (nat_eq c) objects)) ≡ place_in k (cond b (Some o.1) (lookup (nat_eq c) objects))
      by_test true is =
          rw (lookup-none (nat_eq c) objects (none_past_head nat_eq_equiv c o objects apart is)) (option_or-none (lookup (nat_eq k) o.1.entries))
      by_test false is = refl

  -- so it is in the map that they are together
  pub get-placed_of : (objects : List (ℕ × HashMap ℕ Place S)) (c k : ℕ) → IsDistinct nat_eq (keys_of objects)
      → get (placed_of objects) (c, k) ≡ place_in k (lookup (nat_eq c) objects)
  get-placed_of objects c k apart = get-from_entries page_cmp-total (all_named objects) (c, k) ∙ find-all_named objects c k apart

  module _ (old new : List (ℕ × HashMap ℕ Place S)) (was : IsDistinct nat_eq (keys_of old)) (is : IsDistinct nat_eq (keys_of new)) (counter : ℕ) where
    -- the object's map changes, and no other
    abbrev pub ChangesTo : Option (HashMap ℕ Place S) → Type 0
    ChangesTo pages = (q : ℕ) → lookup (nat_eq q) new ≡ cond (nat_eq counter q) pages (lookup (nat_eq q) old)

    -- it changes at one page
    pub placed_of-set : (page : ℕ) (place : Place) (pages : HashMap ℕ Place S) → ChangesTo (Some pages)
        → ((k : ℕ) → lookup (nat_eq k) pages.entries ≡ cond (nat_eq page k) (Some place) (place_in k (lookup (nat_eq counter) old)))
        → placed_of new ≡ insert (placed_of old) (counter, page) place
    placed_of-set page place pages changes set = same_map page_cmp-total page_cmp-IsAntisymmetric _ _ each
      where
        by_test : (c k : ℕ) (b : Bool) → nat_eq counter c ≡ b
            → place_in k (cond b (Some pages) (lookup (nat_eq c) old)) ≡ cond ((c == counter) && (k == page)) (Some place) (place_in k (lookup (nat_eq c) old))
        by_test c k true same =
            let here : c ≡ counter = grind (arith, nat_tests) in
            let flips : nat_eq page k ≡ (k == page) = nat_eq_equiv.symm page k in
            let one : (counter == counter) ≡ true = nat_eq_equiv.refl counter in
            rw (here, one) (set k ∙ ap (λ b. cond b (Some place) (place_in k (lookup (nat_eq counter) old))) flips)
        by_test c k false differs =
            let other : (c == counter) ≡ false = nat_eq_equiv.symm c counter ∙ differs in
            rw other refl

        each : (q : PageName) → get (placed_of new) q ≡ get (insert (placed_of old) (counter, page) place) q
        each q =
            get-placed_of new q.0 q.1 is ∙ ap (place_in q.1) (changes q.0) ∙ by_test q.0 q.1 (nat_eq counter q.0) refl
            ∙ sym (get-insert page_cmp-total (placed_of old) (counter, page) place q ∙ rw (eq_by_cmp-page_cmp q.0 q.1 counter page, get-placed_of old q.0 q.1 was) refl)

    -- it changes at no page
    pub placed_of-same : (pages : HashMap ℕ Place S) → ChangesTo (Some pages)
        → ((k : ℕ) → lookup (nat_eq k) pages.entries ≡ place_in k (lookup (nat_eq counter) old)) → placed_of new ≡ placed_of old
    placed_of-same pages changes same = same_map page_cmp-total page_cmp-IsAntisymmetric _ _ each
      where
        by_test : (c k : ℕ) (b : Bool) → nat_eq counter c ≡ b → place_in k (cond b (Some pages) (lookup (nat_eq c) old)) ≡ place_in k (lookup (nat_eq c) old)
        by_test c k true here = let one : c ≡ counter = grind (arith, nat_tests) in rw one (same k)
        by_test c k false differs = refl

        each : (q : PageName) → get (placed_of new) q ≡ get (placed_of old) q
        each q = get-placed_of new q.0 q.1 is ∙ ap (place_in q.1) (changes q.0) ∙ by_test q.0 q.1 (nat_eq counter q.0) refl ∙ sym (get-placed_of old q.0 q.1 was)

    -- it goes
    pub placed_of-forgotten : ChangesTo None → placed_of new ≡ retain_keys (placed_of old) (is_other counter)
    placed_of-forgotten changes = same_map page_cmp-total page_cmp-IsAntisymmetric _ _ each
      where
        by_test : (c k : ℕ) (b : Bool) → nat_eq counter c ≡ b → place_in k (cond b None (lookup (nat_eq c) old)) ≡ cond (not b) (place_in k (lookup (nat_eq c) old)) None
        by_test c k true here = refl
        by_test c k false differs = refl

        each : (q : PageName) → get (placed_of new) q ≡ get (retain_keys (placed_of old) (is_other counter)) q
        each q =
            get-placed_of new q.0 q.1 is ∙ ap (place_in q.1) (changes q.0) ∙ by_test q.0 q.1 (nat_eq counter q.0) refl
            ∙ rw (nat_eq_equiv.symm counter q.0, ← get-placed_of old q.0 q.1 was) (sym (get-retain_keys (placed_of old) (is_other counter) q (λ p t. is_other-tied counter p q t)))

  -- what the object's map has are the places of its pages
  pub IfSome-places : (objects : List (ℕ × HashMap ℕ Place S)) → IsDistinct nat_eq (keys_of objects) → (counter : ℕ) (found : Option (HashMap ℕ Place S))
      → found ≡ lookup (nat_eq counter) objects → IfSome found (ArePlacesOf (placed_of objects) counter)
  IfSome-places objects apart counter None is = tt
  IfSome-places objects apart counter (Some pages) is = λ page. ap (place_in page) is ∙ sym (get-placed_of objects counter page apart)
