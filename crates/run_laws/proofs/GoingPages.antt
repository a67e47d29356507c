-- What becomes of a page that goes home, at each change of its desk: a change of another process leaves it, or stores to it; one of
-- its own process leaves it dirty.
use Rattle.std.proofs.Common.{◌≡◌, ◌≢◌, ℕ, true, false, List, ◌∷◌, Option, Some, None, IsSome, refl, sym, ap, subst, ◌∙◌, arith}
use Rattle.std.specs.Prelude.{◌==◌, ◌&&◌, if◌then◌else◌}
use Rattle.std.specs.Option.{option_map}
use Rattle.std.proofs.lemmas.Bool.Decides.{nat_tests}
use Rattle.std.proofs.lemmas.Option.{same_Some}
use Rattle.uid_names.specs.Names.{ObjectName, same_uid}
use Rattle.uid_names.proofs.ListLemmas.{by_cases, none_is_no_some}
use Rattle.uid_names.proofs.Orders.{same_uid_is}
use Rattle.page_cache.specs.Caches.{Resident, is_page, page_at}
use Rattle.page_cache.specs.Changes.{used}
use Rattle.fault_handler.specs.declared.transits.Transit.{Transit}
use Rattle.fault_handler.specs.ShownPages.{changed_page, fresh_page, written, stored, as_sent, settled}
use Rattle.fault_handler.specs.Tasks.{page_of, start_of}
use Rattle.fault_handler.specs.Transits.{coming, going, is_moving}
use Rattle.fault_handler.specs.Desks.{DeskState, at, moving_of, any_keeps, is_in_transit_there}
use Rattle.fault_handler.specs.Changes.{settled_by}
use Rattle.fault_handler.specs.Outcomes.{Turn}
use Rattle.fault_handler.specs.Invariant.{IsProc, is_dirty, FitsWay, FitsTransit, IsDesk}
use Rattle.fault_handler.proofs.Choice.{idle-clean, idle-still}
use Rattle.fault_handler.proofs.Fours.{at-put_same, any-not}
use Rattle.fault_handler.proofs.Nothing.{none-there, unkept-clean}
use Rattle.fault_handler.proofs.PageLists.{is_same, same-uid, same-page, page_at-used, page_at-without_other, page_at-without_object_other, page_at-changed_same, page_at-changed_other}
use Rattle.lock_validate.specs.Causes.{Cause}
use Rattle.lock_validate.specs.DeskMoves.{Change}

-- the page is the same, or was stored to
pub data IsBeside (old new : Option Resident) : Type 0 where
  kept : new ≡ old → IsBeside old new
  stored_to : (r : Resident) (offset : ℕ) (bytes : List ℕ) → old ≡ Some r → new ≡ Some (written offset bytes r) → IsBeside old new

-- a page after bytes were stored in one
stored-at : (pages : List Resident) (u : ObjectName) (k offset : ℕ) (bytes : List ℕ) (r : Resident) (v : ObjectName) (j : ℕ) → page_at pages u k ≡ Some r → IsBeside (page_at pages v j) (page_at (stored u k offset bytes pages) v j)
stored-at pages u k offset bytes r v j there = by_cases (is_same v j u k) (IsBeside (page_at pages v j) (page_at (stored u k offset bytes pages) v j))
    (λ is.
    let here : page_at (stored u k offset bytes pages) u k ≡ Some (written offset bytes r) =
    page_at-changed_same u k (written offset bytes) (λ w i s. refl) (used pages u k) ∙ ap (option_map (written offset bytes)) (page_at-used pages u k u k ∙ there) in
    stored_to r offset bytes (subst (λ w. page_at pages w j ≡ Some r) (sym (same-uid v j u k is)) (subst (λ i. page_at pages u i ≡ Some r) (sym (same-page v j u k is)) there))
    (subst (λ w. page_at (stored u k offset bytes pages) w j ≡ Some (written offset bytes r)) (sym (same-uid v j u k is)) (subst (λ i. page_at (stored u k offset bytes pages) u i ≡ Some (written offset bytes r)) (sym (same-page v j u k is)) here)))
    (λ differs. kept (page_at-changed_other u k (written offset bytes) (λ w i s. refl) (used pages u k) v j differs ∙ page_at-used pages u k v j))

-- what two transits say that are one
pub going-uid : (u : ObjectName) (k : ℕ) (v : ObjectName) (j : ℕ) → going u k ≡ going v j → u ≡ v
going-uid u k v j e = ap (λ (t : Transit). t.uid) (same_Some _ _ e)

pub going-page : (u : ObjectName) (k : ℕ) (v : ObjectName) (j : ℕ) → going u k ≡ going v j → k ≡ j
going-page u k v j e = ap (λ (t : Transit). t.page) (same_Some _ _ e)

pub not-coming : {X : Type 0} (u : ObjectName) (k : ℕ) (v : ObjectName) (j : ℕ) → coming u k ≡ going v j → X
not-coming u k v j e = absurd (let f = ap (λ (t : Transit). t.inward) (same_Some _ _ e) in cc)

module _ (c : Cause) (turn : Turn) (p : ℕ) (proc : IsProc p) where
  module _ (q : ℕ) (other : IsProc q) (differs : q ≢ p) (d : DeskState) (desk : IsDesk d) (v : ObjectName) (j : ℕ) (goes : moving_of d q ≡ going v j) where
    fits : FitsWay false d.cache.pages d.entries q v j
    fits = subst (FitsTransit d.cache.pages d.entries q) goes (desk.moved.each q other)

    moves-it : is_moving v j (moving_of d q) ≡ true
    moves-it = ap (is_moving v j) goes ∙ (let e : (same_uid v v && (j == j)) ≡ true = grind (arith, nat_tests) in e)

    -- it is none that its own process moves, and none that nobody moves
    not-mine : (u : ObjectName) (k : ℕ) → moving_of d p ≡ going u k → is_same v j u k ≡ false
    not-mine u k mine = by_cases (is_same v j u k) (is_same v j u k ≡ false)
        (λ is. absurd (differs (sym (desk.moved.apart p q proc other v j
        (subst (λ w. is_moving w j (moving_of d p) ≡ true) (sym (same-uid v j u k is)) (subst (λ i. is_moving u i (moving_of d p) ≡ true) (sym (same-page v j u k is))
        (ap (is_moving u k) mine ∙ (let e : (same_uid u u && (k == k)) ≡ true = grind (arith, nat_tests) in e)))) moves-it))))
        (λ h. h)

    not-still : (u : ObjectName) (k : ℕ) → is_in_transit_there d.moving u k ≡ false → is_same v j u k ≡ false
    not-still u k still = by_cases (is_same v j u k) (is_same v j u k ≡ false)
        (λ is. absurd (
        let here : is_moving u k (moving_of d q) ≡ true = subst (λ w. is_moving w k (moving_of d q) ≡ true) (same-uid v j u k is) (subst (λ i. is_moving v i (moving_of d q) ≡ true) (same-page v j u k is) moves-it) in
        let e : true ≡ false = sym here ∙ any-not (λ r. is_moving u k (at d.moving r None)) still q other in cc))
        (λ h. h)

    not-absent : (u : ObjectName) (k : ℕ) → page_at d.cache.pages u k ≡ None → is_same v j u k ≡ false
    not-absent u k none = by_cases (is_same v j u k) (is_same v j u k ≡ false)
        (λ is. absurd (
        let here : IsSome (page_at d.cache.pages u k) = subst (λ w. IsSome (page_at d.cache.pages w k)) (same-uid v j u k is) (subst (λ i. IsSome (page_at d.cache.pages v i)) (same-page v j u k is) fits.0) in
        none_is_no_some (page_at d.cache.pages u k) here none))
        (λ h. h)

    not-unkept : (u : ObjectName) → any_keeps d.entries u ≡ false → same_uid v u ≡ false
    not-unkept u none = by_cases (same_uid v u) (same_uid v u ≡ false)
        (λ is. absurd (let e : true ≡ false = sym fits.1 ∙ (ap (any_keeps d.entries) (same_uid_is v u is) ∙ none) in cc))
        (λ h. h)

    fresh-other : (u : ObjectName) (k : ℕ) (bytes : List ℕ) → page_at d.cache.pages u k ≡ None → page_at (fresh_page u k bytes ∷ d.cache.pages) v j ≡ page_at d.cache.pages v j
    fresh-other u k bytes absent =
        let no : is_same v j u k ≡ false = not-absent u k absent in
        let apart : is_page v j (fresh_page u k bytes) ≡ false = grind (arith, nat_tests, no) in
        ap (λ b. if b then Some (fresh_page u k bytes) else page_at d.cache.pages v j) apart

    -- another process's change leaves it, or stores to it
    pub change-beside : (e : DeskState) (dropped : List (ObjectName × ℕ)) → Change c turn p d e dropped → IsBeside (page_at d.cache.pages v j) (page_at e.cache.pages v j)
    change-beside e dropped (Change.uses task count r does is there ends) = kept (page_at-used d.cache.pages task.uid (page_of task) v j)
    change-beside e dropped (Change.stores task bytes r does is there ends) = stored-at d.cache.pages task.uid (page_of task) (start_of task) bytes r v j there
    change-beside e dropped (Change.drops task u k does missing full may asks) = kept (page_at-without_other d.cache.pages u k v j (not-still u k (idle-still d u k may)))
    change-beside e dropped (Change.evicts task r does missing full clean there dirty calm asks) =
        kept (page_at-changed_other r.uid r.page as_sent (λ w i s. refl) d.cache.pages v j (not-still r.uid r.page calm))
    change-beside e dropped (Change.arrives task stamp bytes reply given fetches seen whole ends) = kept (fresh-other task.uid (page_of task) bytes fetches.absent)
    change-beside e dropped (Change.settles_room task r taken given room) = kept (page_at-changed_other r.uid r.page (settled taken) (λ w i s. refl) d.cache.pages v j (not-mine r.uid r.page room.sends.moves))
    change-beside e dropped (Change.sends_again task r stamp given room asks) = kept (page_at-changed_other r.uid r.page as_sent (λ w i s. refl) d.cache.pages v j (not-mine r.uid r.page room.sends.moves))
    change-beside e dropped (Change.sends delete u k r releasing calm found there dirty asks) =
        kept (page_at-changed_other u k as_sent (λ w i s. refl) d.cache.pages v j (not-still u k (none-there d p u releasing.idle.no_page calm k)))
    change-beside e dropped (Change.page_settles u k r taken given closed sends writes keeping) =
        kept (ap (λ t. page_at (settled_by t taken d.cache.pages) v j) sends.moves ∙ page_at-changed_other u k (settled taken) (λ w i s. refl) d.cache.pages v j (not-mine u k sends.moves))
    change-beside e dropped (Change.drops_all u a given object may none) = kept (page_at-without_object_other d.cache.pages u v j (not-unkept u none))
    change-beside e dropped change = kept refl

  -- a page that its process sends home is dirty
  abbrev IsGoingDirty : DeskState → ObjectName → ℕ → Type 0
  IsGoingDirty d v j = moving_of d p ≡ going v j → is_dirty (page_at d.cache.pages v j) ≡ true

  not-none : {X : Type 0} (v : ObjectName) (j : ℕ) → None ≡ going v j → X
  not-none v j e = absurd (cc)

  sent-dirty : (pages : List Resident) (u : ObjectName) (k : ℕ) → is_dirty (page_at pages u k) ≡ true → is_dirty (page_at (changed_page u k as_sent pages) u k) ≡ true
  sent-dirty pages u k dirty = ap is_dirty (page_at-changed_same u k as_sent (λ w i s. refl) pages) ∙ by (page_at pages u k) dirty
    where
      by : (o : Option Resident) → is_dirty o ≡ true → is_dirty (option_map as_sent o) ≡ true
      by None is = absurd (cc)
      by (Some r) is = is

  sent-still : (pages : List Resident) (u : ObjectName) (k : ℕ) (v : ObjectName) (j : ℕ) → is_dirty (page_at pages v j) ≡ true → is_dirty (page_at (changed_page u k as_sent pages) v j) ≡ true
  sent-still pages u k v j dirty = by_cases (is_same v j u k) (is_dirty (page_at (changed_page u k as_sent pages) v j) ≡ true)
      (λ is.
      let here : is_dirty (page_at pages u k) ≡ true = subst (λ w. is_dirty (page_at pages w k) ≡ true) (same-uid v j u k is) (subst (λ i. is_dirty (page_at pages v i) ≡ true) (same-page v j u k is) dirty) in
      subst (λ w. is_dirty (page_at (changed_page u k as_sent pages) w j) ≡ true) (sym (same-uid v j u k is)) (subst (λ i. is_dirty (page_at (changed_page u k as_sent pages) u i) ≡ true) (sym (same-page v j u k is)) (sent-dirty pages u k here)))
      (λ differs. ap is_dirty (page_at-changed_other u k as_sent (λ w i s. refl) pages v j differs) ∙ dirty)

  -- one that its process has just sent
  now-sent : (d : DeskState) (desk : IsDesk d) (pages : List Resident) (u : ObjectName) (k : ℕ) (v : ObjectName) (j : ℕ) (moving : List (Option Transit)) → at moving p None ≡ going u k → is_dirty (page_at pages u k) ≡ true → at moving p None ≡ going v j
      → is_dirty (page_at (changed_page u k as_sent pages) v j) ≡ true
  now-sent d desk pages u k v j moving is dirty goes =
      subst (λ w. is_dirty (page_at (changed_page u k as_sent pages) w j) ≡ true) (going-uid u k v j (sym is ∙ goes))
      (subst (λ i. is_dirty (page_at (changed_page u k as_sent pages) u i) ≡ true) (going-page u k v j (sym is ∙ goes)) (sent-dirty pages u k dirty))

  beside-dirty : (old new : Option Resident) → IsBeside old new → is_dirty old ≡ true → is_dirty new ≡ true
  beside-dirty old new (kept same) dirty = ap is_dirty same ∙ dirty
  beside-dirty old new (stored_to r offset bytes was is) dirty = ap is_dirty is

  pub change-dirty : (d : DeskState) (desk : IsDesk d) (v : ObjectName) (j : ℕ) (e : DeskState) (dropped : List (ObjectName × ℕ)) → Change c turn p d e dropped → IsGoingDirty d v j → IsGoingDirty e v j
  change-dirty d desk v j e dropped (Change.uses task count r does is there ends) was goes = ap is_dirty (page_at-used d.cache.pages task.uid (page_of task) v j) ∙ was goes
  change-dirty d desk v j e dropped (Change.stores task bytes r does is there ends) was goes = beside-dirty _ _ (stored-at d.cache.pages task.uid (page_of task) (start_of task) bytes r v j there) (was goes)
  change-dirty d desk v j e dropped (Change.fetches task does missing frame asks) was goes = not-coming task.uid (page_of task) v j (sym (at-put_same d.moving p (coming task.uid (page_of task)) None desk.four.moving proc) ∙ goes)
  change-dirty d desk v j e dropped (Change.drops task u k does missing full may asks) was goes =
      let differs : is_same v j u k ≡ false = by_cases (is_same v j u k) (is_same v j u k ≡ false)
      (λ is. absurd (
      let here : is_dirty (page_at d.cache.pages u k) ≡ true = subst (λ w. is_dirty (page_at d.cache.pages w k) ≡ true) (same-uid v j u k is) (subst (λ i. is_dirty (page_at d.cache.pages v i) ≡ true) (same-page v j u k is) (was goes)) in
      let f : true ≡ false = sym here ∙ idle-clean d u k may in cc))
      (λ h. h) in
      ap is_dirty (page_at-without_other d.cache.pages u k v j differs) ∙ was goes
  change-dirty d desk v j e dropped (Change.evicts task r does missing full clean there dirty calm asks) was goes =
      now-sent d desk d.cache.pages r.uid r.page v j _ (at-put_same d.moving p (going r.uid r.page) None desk.four.moving proc) (ap is_dirty there ∙ dirty) goes
  change-dirty d desk v j e dropped (Change.arrives task stamp bytes reply given fetches seen whole ends) was goes = not-none v j (sym (at-put_same d.moving p None None desk.four.moving proc) ∙ goes)
  change-dirty d desk v j e dropped (Change.loses task t given fetches) was goes = not-none v j (sym (at-put_same d.moving p None None desk.four.moving proc) ∙ goes)
  change-dirty d desk v j e dropped (Change.settles_room task r taken given room) was goes = not-none v j (sym (at-put_same d.moving p None None desk.four.moving proc) ∙ goes)
  change-dirty d desk v j e dropped (Change.sends_again task r stamp given room asks) was goes = sent-still d.cache.pages r.uid r.page v j (was goes)
  change-dirty d desk v j e dropped (Change.sends delete u k r releasing calm found there dirty asks) was goes =
      now-sent d desk d.cache.pages u k v j _ (at-put_same d.moving p (going u k) None desk.four.moving proc) (ap is_dirty there ∙ dirty) goes
  change-dirty d desk v j e dropped (Change.page_settles u k r taken given closed sends writes keeping) was goes = not-none v j (sym (at-put_same d.moving p None None desk.four.moving proc) ∙ goes)
  change-dirty d desk v j e dropped (Change.drops_all u a given object may none) was goes =
      let differs : same_uid v u ≡ false = by_cases (same_uid v u) (same_uid v u ≡ false)
      (λ is. absurd (let f : true ≡ false = sym (was goes) ∙ (ap (λ w. is_dirty (page_at d.cache.pages w j)) (same_uid_is v u is) ∙ unkept-clean d u desk none j) in cc))
      (λ h. h) in
      ap is_dirty (page_at-without_object_other d.cache.pages u v j differs) ∙ was goes
  change-dirty d desk v j e dropped change was goes = was goes
