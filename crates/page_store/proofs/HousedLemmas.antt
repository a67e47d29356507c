-- What the volume that places and blocks are has at a name, and what becomes of it.
use Rattle.std.proofs.Common.{◌≡◌, ◌≢◌, ◌↔◌, ℕ, ◌==◌, List, [], ◌∷◌, map, cond, refl, sym, ap, ◌∙◌, arith}
use Rattle.std.specs.Prelude.{Bool, true, false, ◌&&◌, Option, Some, None, IsSome, unwrap_or, nat_eq}
use Rattle.std.specs.Option.{option_map}
use Rattle.std.specs.Ordering.{eq_by_cmp}
use Rattle.std.specs.HashMap.{HashMap}
use Rattle.std.specs.HashMap as hash
use Rattle.std.specs.FinMap.{find, get, insert, retain_keys, entries, empty, get-entries, get-empty, get-from_entries, get-insert, get-retain_keys, same_map}
use Rattle.uid_names.proofs.Somes.{IsSome-mapped}
use Rattle.slab.specs.Slab.{Slab}
use Rattle.page_store.specs.declared.blocks.Place.{Place}
use Rattle.page_store.specs.Volumes.{PageName, page_cmp, is_other, page_of, zeros, IsKept, no_pages, without_object}
use Rattle.page_store.specs.Placed.{Placed, ArePlacesOf}
use Rattle.page_store.specs.Stored.{stored_in, Stores, AsStored}
use Rattle.page_store.specs.Housed.{page_in, volume_of, IsHoused}
use Rattle.page_store.proofs.Orders.{page_cmp-total, page_cmp-IsAntisymmetric, eq_by_cmp-page_cmp, is_other-tied}

-- what is found among entries whose values are changed
find-mapped : {X Y : Type 0} (f : X → Y) (q : PageName) (es : List (PageName × X)) → find page_cmp q (map (λ e. (e.0, f e.1)) es) ≡ option_map f (find page_cmp q es)
find-mapped f q [] = refl
find-mapped f q (e ∷ es) = by_test (eq_by_cmp page_cmp q e.0) (find-mapped f q es)
  where
    by_test : (b : Bool) → find page_cmp q (map (λ x. (x.0, f x.1)) es) ≡ option_map f (find page_cmp q es)
        → cond b (Some (f e.1)) (find page_cmp q (map (λ x. (x.0, f x.1)) es)) ≡ option_map f (cond b (Some e.1) (find page_cmp q es))
    by_test true later = refl
    by_test false later = later

-- a page of the volume is what the blocks have in its place
pub get-volume_of : (places : Placed) (blocks : List (Slab (List ℕ))) (name : PageName) → get (volume_of places blocks) name ≡ option_map (page_in blocks) (get places name)
get-volume_of places blocks name =
    get-from_entries page_cmp-total _ name ∙ find-mapped (page_in blocks) name (entries places) ∙ ap (option_map (page_in blocks)) (sym (get-entries places name))

-- what is there is not absent
pub some_is_none : {X : Type 0} (o : Option X) (x : X) → o ≡ Some x → o ≡ None → ⊥
some_is_none o x some none = cc

-- whether two names are one
name_cases : (a b : PageName) (P : Type 0) → (a ≡ b → P) → (a ≢ b → eq_by_cmp page_cmp a b ≡ false → P) → P
name_cases a b P one other = by_test (eq_by_cmp page_cmp a b) refl
  where
    same : eq_by_cmp page_cmp a b ≡ true → a ≡ b
    same is =
        let both : ((a.0 == b.0) && (a.1 == b.1)) ≡ true = sym (eq_by_cmp-page_cmp a.0 a.1 b.0 b.1) ∙ is in
        let counters : a.0 ≡ b.0 = grind arith in
        let pages : a.1 ≡ b.1 = grind arith in
        λ i. (counters i, pages i)

    tied : a ≡ b → eq_by_cmp page_cmp a b ≡ true
    tied is = rw is (eq_by_cmp-page_cmp b.0 b.1 b.0 b.1 ∙ grind arith)

    by_test : (t : Bool) → eq_by_cmp page_cmp a b ≡ t → P
    by_test true is = one (same is)
    by_test false is = other (λ e. let yes = tied e in absurd (cc)) is

module _ (places : Placed) (blocks : List (Slab (List ℕ))) where
  -- a page in its place
  pub page_of-placed : (counter page : ℕ) (place : Place) (bytes : List ℕ) → get places (counter, page) ≡ Some place → stored_in blocks place ≡ Some bytes
      → bytes ≡ page_of (volume_of places blocks) counter page
  page_of-placed counter page place bytes found stored = sym (rw (get-volume_of places blocks (counter, page), found, stored) refl)

  -- a page without a place
  pub page_of-absent : (counter page : ℕ) → get places (counter, page) ≡ None → zeros ≡ page_of (volume_of places blocks) counter page
  page_of-absent counter page none = sym (rw (get-volume_of places blocks (counter, page), none) refl)

  -- a page is kept where it has a place
  pub IsKept-placed : (counter page : ℕ) → IsKept (volume_of places blocks) counter page ↔ IsSome (get places (counter, page))
  IsKept-placed counter page = rw (get-volume_of places blocks (counter, page)) (IsSome-mapped (page_in blocks) (get places (counter, page)))

  -- blocks that have the same pages are the same volume
  pub volume_of-as_stored : (new : List (Slab (List ℕ))) → AsStored blocks new → volume_of places new ≡ volume_of places blocks
  volume_of-as_stored new same = same_map page_cmp-total page_cmp-IsAntisymmetric _ _ (λ q. rw (get-volume_of places new q, get-volume_of places blocks q) (at (get places q)))
    where
      at : (o : Option Place) → option_map (page_in new) o ≡ option_map (page_in blocks) o
      at None = refl
      at (Some p) = ap (λ s. Some (unwrap_or s [])) (same p)

  -- and as good a house
  pub IsHoused-as_stored : (new : List (Slab (List ℕ))) → AsStored blocks new → IsHoused places blocks → IsHoused places new
  IsHoused-as_stored new same housed = record { stored = λ name p found. rw (same p) (housed.stored name p found); apart = housed.apart }

-- no page has a place
pub IsHoused-empty : (blocks : List (Slab (List ℕ))) → IsHoused empty blocks
IsHoused-empty blocks = record {
  stored = λ name p found. absurd (some_is_none (get empty name) p found (get-empty page_cmp name));
  apart = λ a b p found other. absurd (some_is_none (get empty a) p found (get-empty page_cmp a));
}

-- so no page was put
pub volume_of-empty : (blocks : List (Slab (List ℕ))) → volume_of empty blocks ≡ no_pages
volume_of-empty blocks = same_map page_cmp-total page_cmp-IsAntisymmetric _ _ (λ q. rw (get-volume_of empty blocks q, get-empty {X = Place} page_cmp q, get-empty {X = List ℕ} page_cmp q) refl)

-- a page is put in a place that no other page has
module _ (places : Placed) (old new : List (Slab (List ℕ))) (housed : IsHoused places old) (name : PageName) (place : Place) (bytes : List ℕ)
    (stores : Stores old new place (Some bytes)) (free : (q : PageName) → q ≢ name → get places q ≢ Some place) where
  pub volume_of-put : volume_of (insert places name place) new ≡ insert (volume_of places old) name bytes
  volume_of-put = same_map page_cmp-total page_cmp-IsAntisymmetric _ _ each
    where
      other : (q : PageName) → q ≢ name → (o : Option Place) → get places q ≡ o → option_map (page_in new) o ≡ option_map (page_in old) o
      other q differs None found = refl
      other q differs (Some p) found = ap (λ s. Some (unwrap_or s [])) (stores.others p (λ same. free q differs (found ∙ ap Some same)))

      at : (q : PageName) → option_map (page_in new) (cond (eq_by_cmp page_cmp q name) (Some place) (get places q)) ≡ cond (eq_by_cmp page_cmp q name) (Some bytes) (option_map (page_in old) (get places q))
      at q =
          name_cases q name _
          (λ same. rw (same, eq_by_cmp-page_cmp name.0 name.1 name.0 name.1) (by_true ((name.0 == name.0) && (name.1 == name.1)) (grind arith)))
          (λ differs is. rw is (other q differs (get places q) refl))
        where
          by_true : (b : Bool) → b ≡ true → option_map (page_in new) (cond b (Some place) (get places name)) ≡ cond b (Some bytes) (option_map (page_in old) (get places name))
          by_true true is = ap (λ s. Some (unwrap_or s [])) stores.changed
          by_true false is = absurd (cc)

      each : (q : PageName) → get (volume_of (insert places name place) new) q ≡ get (insert (volume_of places old) name bytes) q
      each q =
          get-volume_of (insert places name place) new q ∙ ap (option_map (page_in new)) (get-insert page_cmp-total places name place q) ∙ at q
          ∙ sym (get-insert page_cmp-total (volume_of places old) name bytes q ∙ ap (cond (eq_by_cmp page_cmp q name) (Some bytes)) (get-volume_of places old q))

  -- and the house stays as good
  pub IsHoused-put : IsHoused (insert places name place) new
  IsHoused-put = record { stored = stored; apart = apart }
    where
      found_at : (q : PageName) → get (insert places name place) q ≡ cond (eq_by_cmp page_cmp q name) (Some place) (get places q)
      found_at q = get-insert page_cmp-total places name place q

      here : get (insert places name place) name ≡ Some place
      here = found_at name ∙ rw (eq_by_cmp-page_cmp name.0 name.1 name.0 name.1) (by_true ((name.0 == name.0) && (name.1 == name.1)) (grind arith))
        where
          by_true : (b : Bool) → b ≡ true → cond b (Some place) (get places name) ≡ Some place
          by_true true is = refl
          by_true false is = absurd (cc)

      elsewhere : (q : PageName) → eq_by_cmp page_cmp q name ≡ false → get (insert places name place) q ≡ get places q
      elsewhere q is = found_at q ∙ rw is refl

      stored : (q : PageName) (p : Place) → get (insert places name place) q ≡ Some p → IsSome (stored_in new p)
      stored q p found =
          name_cases q name _
          (λ same. let one : place ≡ p = (let both = sym here ∙ rw same at found in cc) in rw (← one, stores.changed) refl)
          (λ differs is. let old_found = sym (elsewhere q is) ∙ found in
          rw (stores.others p (λ same. free q differs (old_found ∙ ap Some same))) (housed.stored q p old_found))

      apart : (a b : PageName) (p : Place) → get (insert places name place) a ≡ Some p → get (insert places name place) b ≡ Some p → a ≡ b
      apart a b p at_a at_b =
          name_cases a name _
          (λ a_is. name_cases b name _
          (λ b_is. a_is ∙ sym b_is)
          (λ differs is. let one : p ≡ place = (let both = sym (rw a_is at at_a) ∙ here in cc) in absurd (free b differs (sym (elsewhere b is) ∙ at_b ∙ ap Some one))))
          (λ differs is. name_cases b name _
          (λ b_is. let one : p ≡ place = (let both = sym (rw b_is at at_b) ∙ here in cc) in absurd (free a differs (sym (elsewhere a is) ∙ at_a ∙ ap Some one)))
          (λ differs_b is_b. housed.apart a b p (sym (elsewhere a is) ∙ at_a) (sym (elsewhere b is_b) ∙ at_b)))

-- to put a page in the place that it has leaves the places as they are
pub placed_again : (places : Placed) (name : PageName) (place : Place) → get places name ≡ Some place → insert places name place ≡ places
placed_again places name place found = same_map page_cmp-total page_cmp-IsAntisymmetric _ _ each
  where
    each : (q : PageName) → get (insert places name place) q ≡ get places q
    each q = get-insert page_cmp-total places name place q ∙ name_cases q name _ (λ same. rw (same, found) (either (eq_by_cmp page_cmp name name))) (λ differs is. rw is refl)
      where
        either : (b : Bool) → cond b (Some place) (Some place) ≡ Some place
        either true = refl
        either false = refl

-- an object's places go, and the other objects' pages stay
module _ (places : Placed) (old new : List (Slab (List ℕ))) (housed : IsHoused places old) (counter : ℕ)
    (kept : (q : PageName) (p : Place) → is_other counter q ≡ true → get places q ≡ Some p → stored_in new p ≡ stored_in old p) where
  left_at : (q : PageName) → get (retain_keys places (is_other counter)) q ≡ cond (is_other counter q) (get places q) None
  left_at q = get-retain_keys places (is_other counter) q (λ p t. is_other-tied counter p q t)

  pub volume_of-dropped : volume_of (retain_keys places (is_other counter)) new ≡ without_object (volume_of places old) counter
  volume_of-dropped = same_map page_cmp-total page_cmp-IsAntisymmetric _ _ each
    where
      same : (q : PageName) → is_other counter q ≡ true → (o : Option Place) → get places q ≡ o → option_map (page_in new) o ≡ option_map (page_in old) o
      same q other None found = refl
      same q other (Some p) found = ap (λ s. Some (unwrap_or s [])) (kept q p other found)

      at : (q : PageName) (b : Bool) → is_other counter q ≡ b → option_map (page_in new) (cond b (get places q) None) ≡ cond b (option_map (page_in old) (get places q)) None
      at q true other = same q other (get places q) refl
      at q false own = refl

      each : (q : PageName) → get (volume_of (retain_keys places (is_other counter)) new) q ≡ get (without_object (volume_of places old) counter) q
      each q =
          get-volume_of (retain_keys places (is_other counter)) new q ∙ ap (option_map (page_in new)) (left_at q) ∙ at q (is_other counter q) refl
          ∙ sym (get-retain_keys (volume_of places old) (is_other counter) q (λ p t. is_other-tied counter p q t) ∙ ap (λ o. cond (is_other counter q) o None) (get-volume_of places old q))

  -- and the house stays as good
  pub IsHoused-dropped : IsHoused (retain_keys places (is_other counter)) new
  IsHoused-dropped = record {
    stored = λ q p found. let was = from q p (is_other counter q) refl (sym (left_at q) ∙ found) in rw (kept q p was.0 was.1) (housed.stored q p was.1);
    apart = λ a b p at_a at_b. housed.apart a b p (from a p (is_other counter a) refl (sym (left_at a) ∙ at_a)).1 (from b p (is_other counter b) refl (sym (left_at b) ∙ at_b)).1;
  }
    where
      from : (q : PageName) (p : Place) (b : Bool) → is_other counter q ≡ b → cond b (get places q) None ≡ Some p → (is_other counter q ≡ true) × (get places q ≡ Some p)
      from q p true other found = (other, found)
      from q p false own found = absurd (cc)

-- a place that was free is no other page's
pub taken_is_free : (places : Placed) (blocks : List (Slab (List ℕ))) → IsHoused places blocks → (name : PageName) (place : Place) → stored_in blocks place ≡ None
    → (q : PageName) → q ≢ name → get places q ≢ Some place
taken_is_free places blocks housed name place free q differs found = let some = housed.stored q place found in absurd (let h = rw free at some in cc)

-- no other object's page has a place of this object's
pub others_place : {S : Type 0} (places : Placed) (old : List (Slab (List ℕ))) (counter : ℕ) (pages : HashMap ℕ Place S) → IsHoused places old → ArePlacesOf places counter pages
    → (q : PageName) (p : Place) → is_other counter q ≡ true → get places q ≡ Some p → (page : ℕ) → hash.get nat_eq pages page ≢ Some p
others_place places old counter pages housed own q p other found page has =
    let same : q ≡ (counter, page) = housed.apart q (counter, page) p found (sym (own page) ∙ has) in
    let counters : q.0 ≡ counter = ap (λ (n : PageName). n.0) same in
    let one : (q.0 == counter) ≡ true = grind arith in
    cc
