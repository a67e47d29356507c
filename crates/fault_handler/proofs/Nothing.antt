-- What it says of an object's pages, and of its length, where a desk finds nothing to wait for or to send.
use Rattle.std.proofs.Common.{◌≡◌, ◌≢◌, ℕ, Bool, true, false, List, [], ◌∷◌, Option, Some, None, inl, inr, refl, sym, ap, subst, ◌∙◌, arith}
use Rattle.std.specs.Prelude.{◌==◌, not, if◌then◌else◌}
use Rattle.std.specs.Option.{is_some}
use Rattle.std.proofs.lemmas.Bool.{cases_eq}
use Rattle.std.proofs.lemmas.Bool.Decides.{nat_tests}
use Rattle.uid_names.specs.Names.{ObjectName, same_uid}
use Rattle.page_cache.specs.Caches.{Resident, is_page, page_at}
use Rattle.page_cache.specs.Numbers.{is_dirty_of, lesser, dirty_page}
use Rattle.uid_names.proofs.ListLemmas.{by_cases}
use Rattle.fault_handler.specs.declared.lengths.Known.{Known}
use Rattle.fault_handler.specs.declared.transits.Transit.{Transit}
use Rattle.fault_handler.specs.Lengths.{is_changed, changed_length, length_of}
use Rattle.fault_handler.specs.Entries.{keeps}
use Rattle.fault_handler.specs.Transits.{is_moving, moved_page}
use Rattle.fault_handler.specs.Desks.{DeskState, at, entry_at, any_keeps, moving_of, other_transit, is_in_transit_there}
use Rattle.fault_handler.specs.Invariant.{IsProc, FitsWay, FitsTransit, is_dirty, IsDesk}
use Rattle.fault_handler.proofs.Fours.{by_proc, first, any-at}
use Rattle.fault_handler.proofs.MovingOthers.{moving-uid}
use Rattle.fault_handler.proofs.Marks.{none-moves}
use Rattle.fault_handler.proofs.TransitKeeps.{any_writes-keeps, dirty-writes}

-- what a test for None tells
pub nothing : {A : Type 0} (o : Option A) (b : Bool) → is_some o ≡ not b → b ≡ true → o ≡ None
nothing None b same none = refl
nothing (Some x) b same none = absurd (let e : true ≡ false = same ∙ ap not none in cc)

-- there is no lesser one where there is neither
lesser-none : (a b : Option ℕ) → lesser a b ≡ None → (a ≡ None) × (b ≡ None)
lesser-none None None none = (refl, refl)
lesser-none None (Some b) none = absurd (cc)
lesser-none (Some a) None none = absurd (cc)
lesser-none (Some a) (Some b) none = absurd (cc)

-- where no dirty page is found, none is dirty
pub none-dirty : (pages : List Resident) (u : ObjectName) → dirty_page pages u ≡ None → (k : ℕ) → is_dirty (page_at pages u k) ≡ false
none-dirty [] u none k = refl
none-dirty (r ∷ rest) u none k =
    by_cases
    (is_dirty_of u r)
    (is_dirty (page_at (r ∷ rest) u k) ≡ false)
    (λ dirty. absurd (let e = lesser-none (Some r.page) (dirty_page rest u) (rw dirty at none) in let h : Some r.page ≡ None = e.0 in cc))
    (λ other.
    by_cases
    (is_page u k r)
    (is_dirty (page_at (r ∷ rest) u k) ≡ false)
    (λ here. rw here (grind (arith, nat_tests, here, other)))
    (λ elsewhere. rw elsewhere (none-dirty rest u (rw other at none) k)))

-- where no page of the object is found that a process moves, it moves none
unmoved : (u : ObjectName) (k : ℕ) (t : Option Transit) → moved_page u t ≡ None → is_moving u k t ≡ false
unmoved u k None none = refl
unmoved u k (Some t) none =
    by_cases
    (same_uid t.uid u)
    (is_moving u k (Some t) ≡ false)
    (λ same. absurd (let h : Some t.page ≡ None = rw same at none in cc))
    (λ differ. rw differ refl)

-- what is found of a process beside another one
beside : (q p : ℕ) (u : ObjectName) (t : Option Transit) → q ≢ p → (if q == p then None else moved_page u t) ≡ None → moved_page u t ≡ None
beside q p u t differs none = let apart : (q == p) ≡ false = grind (arith, nat_tests, differs) in rw apart at none

-- where no page of the object is found that another process moves, none moves one
pub none-moved : (moving : List (Option Transit)) (p : ℕ) (u : ObjectName) → other_transit moving p u ≡ None → (q : ℕ) → IsProc q → q ≢ p → (k : ℕ) → is_moving u k (at moving q None) ≡ false
none-moved moving p u none =
    let a = lesser-none (if 1 == p then None else moved_page u (at moving 1 None)) _ none in
    let b = lesser-none (if 2 == p then None else moved_page u (at moving 2 None)) _ a.1 in
    let c = lesser-none (if 3 == p then None else moved_page u (at moving 3 None)) _ b.1 in
    let d = lesser-none (if 4 == p then None else moved_page u (at moving 4 None)) _ c.1 in
    by_proc
    (λ q. q ≢ p → (k : ℕ) → is_moving u k (at moving q None) ≡ false)
    (λ differs k. unmoved u k (at moving 1 None) (beside 1 p u (at moving 1 None) differs a.0))
    (λ differs k. unmoved u k (at moving 2 None) (beside 2 p u (at moving 2 None) differs b.0))
    (λ differs k. unmoved u k (at moving 3 None) (beside 3 p u (at moving 3 None) differs c.0))
    (λ differs k. unmoved u k (at moving 4 None) (beside 4 p u (at moving 4 None) differs d.0))

-- where no changed length is found, it is unchanged
pub none-changed : (o : Option Known) → changed_length o ≡ None → is_changed o ≡ false
none-changed o none = by_cases (is_changed o) (is_changed o ≡ false) (λ changed. absurd (let h : Some (length_of o) ≡ None = rw changed at none in cc)) (λ h. h)

-- where a process moves no page, and no other one a page of the object, none of it is in transit
pub none-there : (d : DeskState) (p : ℕ) (u : ObjectName) → moving_of d p ≡ None → other_transit d.moving p u ≡ None → (k : ℕ) → is_in_transit_there d.moving u k ≡ false
none-there d p u own none k = none-moves d.moving u k each
  where
    each : (q : ℕ) → IsProc q → is_moving u k (moving_of d q) ≡ false
    each q proc = elim (cases_eq q p) [
      | inl same ↦ subst (λ (r : ℕ). is_moving u k (moving_of d r) ≡ false) (sym same) (ap (is_moving u k) own)
      | inr differs ↦ none-moved d.moving p u none q proc differs k
    ]

-- where no process keeps an object, none of its pages is dirty or goes home
module _ (d : DeskState) (u : ObjectName) (is : IsDesk d) (none : any_keeps d.entries u ≡ false) where
  pub unkept-clean : (k : ℕ) → is_dirty (page_at d.cache.pages u k) ≡ false
  unkept-clean k =
      by_cases
      (is_dirty (page_at d.cache.pages u k))
      (is_dirty (page_at d.cache.pages u k) ≡ false)
      (λ dirty. absurd (let kept : any_keeps d.entries u ≡ true = any_writes-keeps d.entries u (dirty-writes d 1 is first u k dirty) in let e : true ≡ false = sym kept ∙ none in cc))
      (λ h. h)

  -- or comes
  pub unkept-still : (k : ℕ) → is_in_transit_there d.moving u k ≡ false
  unkept-still k = none-moves d.moving u k each
    where
      kept : (q : ℕ) → IsProc q → (t : Option Transit) → FitsTransit d.cache.pages d.entries q t → is_moving u k t ≡ true → any_keeps d.entries u ≡ true
      kept q proc None fits moves = absurd (cc)
      kept q proc (Some t) fits moves = subst (λ (v : ObjectName). any_keeps d.entries v ≡ true) (moving-uid u k t moves) (by_way t.inward fits)
        where
          by_way : (b : Bool) → FitsWay b d.cache.pages d.entries q t.uid t.page → any_keeps d.entries t.uid ≡ true
          by_way true comes = any-at (λ r. keeps (entry_at d.entries r t.uid)) q proc comes.1
          by_way false goes = goes.1

      each : (q : ℕ) → IsProc q → is_moving u k (moving_of d q) ≡ false
      each q proc =
          by_cases
          (is_moving u k (moving_of d q))
          (is_moving u k (moving_of d q) ≡ false)
          (λ moves. absurd (let e : true ≡ false = sym (kept q proc (moving_of d q) (is.moved.each q proc) moves) ∙ none in cc))
          (λ h. h)
