-- What a load, a store and a mapping come to by the tests and the resident pages of a desk alone.
use Rattle.std.proofs.Common.{◌≡◌, ℕ, ◌+◌, ◌*◌, ◌/◌, ◌%◌, nat_lt, Bool, true, false, List, [], length, Option, Some, None, refl, sym, ap, subst, ◌∙◌}
use Rattle.std.specs.Prelude.{is_some, take, drop, Result}
use Rattle.std.specs.Option.{option_map}
use Rattle.std.proofs.lemmas.Option.{same_Some}
use Rattle.uid_names.specs.Names.{ObjectName}
use Rattle.uid_names.specs.declared.limits.TheConstants.{PAGE_BYTES}
use Rattle.uid_names.specs.Segments.{segments}
use Rattle.dom_history.specs.declared.deed.LockState.{LockState}
use Rattle.dom_history.specs.declared.op.Reply.{Reply}
use Rattle.dom_history.specs.EndWords.{word_of}
use Rattle.dom_history.specs.Locks.{is_held}
use Rattle.dom_history.specs.Replies.{may_write}
use Rattle.page_cache.specs.Caches.{Resident, page_at}
use Rattle.address_map.specs.declared.map.MapRefusal.{MapRefusal}
use Rattle.address_map.specs.Mappings.{mapping_of}
use Rattle.address_map.specs.Runs.{lowest_run}
use Rattle.address_map.specs.Maps.{is_full, map_answer, with_mapping}
use Rattle.fault_handler.specs.declared.access.Access.TheVariants.{Hit}
use Rattle.fault_handler.specs.declared.access.Local.{Local}
use Rattle.fault_handler.specs.declared.access.Local.TheVariants.{Done, Refused, Misses}
use Rattle.fault_handler.specs.declared.tasks.Work.TheVariants as works
use Rattle.fault_handler.specs.Lengths.{known_of, room_of, length_of}
use Rattle.fault_handler.specs.Desks.{DeskState, maps_of, state_of}
use Rattle.fault_handler.specs.Changes.{with_used, with_stored, with_end, with_maps}
use Rattle.fault_handler.specs.Outcomes.{Turn, is_done, reply_as, as_access}
use Rattle.fault_handler.specs.Accesses.{Accessed, replied, page_by, page_access, task_at, load_by, load_at, store_by, store_at, map_reply, mapped, map_by}
use Rattle.fault_handler.specs.Invariant.{IsAllowed}
use Rattle.fault_handler.specs.Unseen.{ComesTo, IsLocal}

-- what a test says of the state that was read
pub held-as : {s t : LockState} {h b : Bool} → s ≡ t → h ≡ is_held s → h ≡ b → is_held t ≡ b
held-as same is test = ap is_held (sym same) ∙ sym is ∙ test

pub writes-as : {s t : LockState} {h b : Bool} → s ≡ t → h ≡ may_write s → h ≡ b → may_write t ≡ b
writes-as same is test = ap may_write (sym same) ∙ sym is ∙ test

-- a refusal leaves the desk
pub refused-by : (p : ℕ) (d : DeskState) (accessed : Accessed) (reply : Reply) → is_done (word_of reply) ≡ false → accessed ≡ replied d reply → IsLocal p d d accessed (Refused reply)
refused-by p d accessed reply refusal is = subst (λ (a : Accessed). IsLocal p d d a (Refused reply)) (sym is) (refl, sym (ap (λ (b : Bool). reply_as b reply []) refusal))

module _ (d : DeskState) (p : ℕ) (u : ObjectName) (offset : ℕ) where
  module _ (count : ℕ) where
    -- whether a load ends past the length
    abbrev load_past : Bool
    load_past = nat_lt (length_of (known_of u d.known)) (offset + count)

    abbrev load_with : Bool → Bool → Accessed
    load_with held past = load_by d p (task_at u offset (works.Load count)) held past

    pub load-unheld : is_held (state_of d p u) ≡ false → load_at d p count (Some (u, offset)) ≡ replied d Reply.NoLock
    load-unheld held = ap (λ (h : Bool). load_with h load_past) held

    pub load-past : is_held (state_of d p u) ≡ true → load_past ≡ true → load_at d p count (Some (u, offset)) ≡ replied d Reply.PastEnd
    load-past held past = ap (λ (h : Bool). load_with h load_past) held ∙ ap (load_with true) past

    pub load-here : is_held (state_of d p u) ≡ true → load_past ≡ false → load_at d p count (Some (u, offset)) ≡ page_access d p (task_at u offset (works.Load count))
    load-here held inside = ap (λ (h : Bool). load_with h load_past) held ∙ ap (load_with true) inside

    -- a load of a resident page
    load-of : (new : DeskState) (bytes : List ℕ) → new ≡ with_used d u (offset / PAGE_BYTES) → (found : Option Resident)
        → Some bytes ≡ option_map (λ (r : Resident). take count (drop (offset % PAGE_BYTES) r.bytes)) found
        → ComesTo p new (page_by d p (task_at u offset (works.Load count)) found) (Hit (Reply.Bytes bytes) [])
    load-of new bytes used None loaded = absurd cc
    load-of new bytes used (Some r) loaded = (used, ap (λ (bs : List ℕ). Hit (Reply.Bytes bs) []) (same_Some bytes _ loaded))

    pub load-done : (new : DeskState) (bytes : List ℕ) → load_at d p count (Some (u, offset)) ≡ page_access d p (task_at u offset (works.Load count)) → new ≡ with_used d u (offset / PAGE_BYTES)
        → Some bytes ≡ option_map (λ (r : Resident). take count (drop (offset % PAGE_BYTES) r.bytes)) (page_at d.cache.pages u (offset / PAGE_BYTES))
        → IsLocal p d new (load_at d p count (Some (u, offset))) (Done (Reply.Bytes bytes))
    load-done new bytes here used loaded =
        subst (λ (a : Accessed). ComesTo p new a (Hit (Reply.Bytes bytes) [])) (sym here) (load-of new bytes used (page_at d.cache.pages u (offset / PAGE_BYTES)) loaded)

    pub load-misses : (new : DeskState) → IsAllowed d.entries p (task_at u offset (works.Load count)) → load_at d p count (Some (u, offset)) ≡ page_access d p (task_at u offset (works.Load count))
        → new ≡ d → page_at d.cache.pages u (offset / PAGE_BYTES) ≡ None → IsLocal p d new (load_at d p count (Some (u, offset))) (Misses (task_at u offset (works.Load count)))
    load-misses new allowed here same absent = (here ∙ ap (page_by d p (task_at u offset (works.Load count))) absent, same, absent, allowed)

  module _ (bytes : List ℕ) where
    -- whether a store ends past the room
    abbrev store_past : Bool
    store_past = nat_lt (PAGE_BYTES * room_of (known_of u d.known)) (offset + length bytes)

    abbrev store_with : Bool → Bool → Bool → Accessed
    store_with held writes past = store_by d p (task_at u offset (works.Store bytes)) held writes past

    store-held : is_held (state_of d p u) ≡ true → store_at d p bytes (Some (u, offset)) ≡ store_with true (may_write (state_of d p u)) store_past
    store-held held = ap (λ (h : Bool). store_with h (may_write (state_of d p u)) store_past) held

    pub store-unheld : is_held (state_of d p u) ≡ false → store_at d p bytes (Some (u, offset)) ≡ replied d Reply.NoLock
    store-unheld held = ap (λ (h : Bool). store_with h (may_write (state_of d p u)) store_past) held

    pub store-unwritable : is_held (state_of d p u) ≡ true → may_write (state_of d p u) ≡ false → store_at d p bytes (Some (u, offset)) ≡ replied d Reply.WrongMode
    store-unwritable held writes = store-held held ∙ ap (λ (w : Bool). store_with true w store_past) writes

    pub store-past : is_held (state_of d p u) ≡ true → may_write (state_of d p u) ≡ true → store_past ≡ true → store_at d p bytes (Some (u, offset)) ≡ replied d Reply.PastRoom
    store-past held writes past = store-held held ∙ ap (λ (w : Bool). store_with true w store_past) writes ∙ ap (store_with true true) past

    pub store-here : is_held (state_of d p u) ≡ true → may_write (state_of d p u) ≡ true → store_past ≡ false
        → store_at d p bytes (Some (u, offset)) ≡ page_access d p (task_at u offset (works.Store bytes))
    store-here held writes inside = store-held held ∙ ap (λ (w : Bool). store_with true w store_past) writes ∙ ap (store_with true true) inside

    -- a store in a resident page
    store-in : (new : DeskState) → new ≡ with_end (with_stored d u (offset / PAGE_BYTES) (offset % PAGE_BYTES) bytes) u (offset + length bytes) → (found : Option Resident) → true ≡ is_some found
        → ComesTo p new (page_by d p (task_at u offset (works.Store bytes)) found) (Hit Reply.Fine [])
    store-in new stored None there = absurd cc
    store-in new stored (Some r) there = (stored, refl)

    pub store-done : (new : DeskState) → store_at d p bytes (Some (u, offset)) ≡ page_access d p (task_at u offset (works.Store bytes))
        → new ≡ with_end (with_stored d u (offset / PAGE_BYTES) (offset % PAGE_BYTES) bytes) u (offset + length bytes) → true ≡ is_some (page_at d.cache.pages u (offset / PAGE_BYTES))
        → IsLocal p d new (store_at d p bytes (Some (u, offset))) (Done Reply.Fine)
    store-done new here stored there =
        subst (λ (a : Accessed). ComesTo p new a (Hit Reply.Fine [])) (sym here) (store-in new stored (page_at d.cache.pages u (offset / PAGE_BYTES)) there)

    pub store-misses : (new : DeskState) (copy : List ℕ) → copy ≡ bytes → IsAllowed d.entries p (task_at u offset (works.Store bytes))
        → store_at d p bytes (Some (u, offset)) ≡ page_access d p (task_at u offset (works.Store bytes))
        → new ≡ d → page_at d.cache.pages u (offset / PAGE_BYTES) ≡ None → IsLocal p d new (store_at d p bytes (Some (u, offset))) (Misses (task_at u offset (works.Store copy)))
    store-misses new copy copied allowed here same absent =
        subst (λ (bs : List ℕ). IsLocal p d new (store_at d p bytes (Some (u, offset))) (Misses (task_at u offset (works.Store bs)))) (sym copied)
        (here ∙ ap (page_by d p (task_at u offset (works.Store bytes))) absent, same, absent, allowed)

module _ (d : DeskState) (p : ℕ) (u : ObjectName) where
  -- a mapping of an object on which the process is Held, by the answer of its address space
  pub map-answered : (new : DeskState) (room : ℕ) (answer : Result (ℕ × Bool) MapRefusal) → is_held (state_of d p u) ≡ true → room ≡ room_of (known_of u d.known)
      → new ≡ with_maps d p (with_mapping u (segments room) (maps_of d p))
      → answer ≡ map_answer (mapping_of u (maps_of d p)) (is_full (maps_of d p)) (lowest_run (segments room) (maps_of d p))
      → ComesTo p new (map_by d p u (is_held (state_of d p u))) (as_access (Turn.Ends (map_reply answer)) [])
  map-answered new room answer held is_room left answered =
      let here : map_by d p u (is_held (state_of d p u)) ≡ mapped d p u (segments room) = ap (map_by d p u) held ∙ ap (λ (r : ℕ). mapped d p u (segments r)) (sym is_room) in
      subst (λ (a : Accessed). ComesTo p new a (as_access (Turn.Ends (map_reply answer)) [])) (sym here)
      (left, ap (λ (a : Result (ℕ × Bool) MapRefusal). as_access (Turn.Ends (map_reply a)) []) answered)
