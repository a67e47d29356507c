-- What the code of a desk meets where it makes room.
use Rattle.std.proofs.Common.{◌≡◌, ◌∙◌, ℕ, ◌+◌, ◌<◌, ◌≤◌, Bool, length, not, arith, true, false, Option, Some, None, IsSome, IfSome, List, [], ◌∷◌, refl, sym, ap, subst}
use Rattle.std.specs.Option.{option_map}
use Rattle.uid_names.specs.Names.{ObjectName}
use Rattle.page_cache.specs.Caches.{Resident, page_at, is_page, free_count}
use Rattle.page_cache.specs.Changes.{without_page}
use Rattle.page_cache.specs.Victims.{name_of}
use Rattle.uid_names.proofs.ListLemmas.{find-count_none, count_by-none, count_by-found, count_by-filter-le, length-filter_not}
use Rattle.uid_names.proofs.Somes.{there_is}
use Rattle.ring_messages.specs.Bodies.{body_of_ask}
use Rattle.ring_messages.specs.declared.body.Body.{Body}
use Rattle.fault_handler.specs.declared.tasks.Task.{Task}
use Rattle.fault_handler.specs.declared.access.Access.{Access}
use Rattle.fault_handler.specs.declared.access.Access.TheVariants.{Need}
use Rattle.fault_handler.specs.Desks.{DeskState, is_in_transit_there}
use Rattle.fault_handler.specs.Changes.{with_eviction, with_dropped}
use Rattle.fault_handler.specs.Victims.{Victim, victim_by, named_page, named_victim}
use Rattle.fault_handler.specs.Accesses.{Accessed, page_out, fetched, room_made}
use Rattle.fault_handler.specs.Unseen.{GivesTo, ComesTo}
use Rattle.fault_handler.specs.declared.transits.Transit.{Transit}
use Rattle.fault_handler.specs.Invariant.{is_dirty}
use Rattle.fault_handler.proofs.PageLists.{AreOnce, found-uid, found-page}
use Rattle.fault_handler.proofs.Choice.{victim-resident, victim-still}

-- the page that is chosen is resident, and not in transit
module _ (moving : List (Option Transit)) (pages : List Resident) (u : ObjectName) (k : ℕ) (once : AreOnce pages) (named : Some (u, k) ≡ option_map name_of (named_page moving pages)) where
  chosen_is : (o : Option Resident) → named_page moving pages ≡ o → Some (u, k) ≡ option_map name_of o → (page_at pages u k ≡ o) × (is_in_transit_there moving u k ≡ false)
  chosen_is None found is = absurd (cc)
  chosen_is (Some r) found is =
      let names : ◌≡◌ {A = ObjectName × ℕ} (u, k) (r.uid, r.page) = cc in
      let uid : u ≡ r.uid = ap (λ n. n.0) names in
      let page : k ≡ r.page = ap (λ n. n.1) names in
      rw (uid, page) (victim-resident moving pages r once found, victim-still moving pages r found)

  pub chosen-one : (page_at pages u k ≡ named_page moving pages) × (is_in_transit_there moving u k ≡ false)
  chosen-one = chosen_is (named_page moving pages) refl named

-- it has a name
pub no-victim : (moving : List (Option Transit)) (pages : List Resident) → IsSome (named_page moving pages) → None ≡ option_map name_of (named_page moving pages) → ⊥
no-victim moving pages there none = let found = there_is (named_page moving pages) there in let named : None ≡ option_map name_of (Some found.0) = rw found.1 at none in cc

-- a page was sent home to make room
pub gives-evicted : (old new : DeskState) (p : ℕ) (task : Task) (u : ObjectName) (k home : ℕ) (body : Body) (dropped : List (ObjectName × ℕ)) → new ≡ with_eviction old p task u k → home ≡ u.home
    → option_map (λ r. body_of_ask (page_out old u k r.bytes)) (page_at old.cache.pages u k) ≡ Some body → dropped ≡ [] → IfSome (page_at old.cache.pages u k) (λ r. GivesTo new (room_made old p task (Victim.SendsHome r)) (Need home body dropped))
gives-evicted old new p task u k home body dropped desk at asks none = by_page (page_at old.cache.pages u k) refl asks
  where
    by_page : (o : Option Resident) → page_at old.cache.pages u k ≡ o → option_map (λ r. body_of_ask (page_out old u k r.bytes)) o ≡ Some body → IfSome o (λ r. GivesTo new (room_made old p task (Victim.SendsHome r)) (Need home body dropped))
    by_page None found asked = tt
    by_page (Some r) found asked =
        let sent : body_of_ask (page_out old u k r.bytes) ≡ body = cc in
        rw (found-uid old.cache.pages u k r found, found-page old.cache.pages u k r found) (desk, rw (at, none, ← sent) refl)

-- a frame is free after a page was dropped, and what was not resident is not
module _ (d : DeskState) (u : ObjectName) (k : ℕ) where
  pub free-dropped : IsSome (page_at d.cache.pages u k) → length d.cache.pages + d.cache.reserved ≤ d.cache.frames → 0 < free_count (with_dropped d u k).cache
  free-dropped there room =
      let found = there_is (page_at d.cache.pages u k) there in
      omega (arith, length-filter_not (is_page u k) d.cache.pages, count_by-found (is_page u k) d.cache.pages found.0 found.1)

  pub absent-dropped : (v : ObjectName) (j : ℕ) → page_at d.cache.pages v j ≡ None → page_at (without_page d.cache.pages u k) v j ≡ None
  absent-dropped v j none =
      find-count_none (is_page v j) (without_page d.cache.pages u k)
      (omega (arith, count_by-none (is_page v j) d.cache.pages none, count_by-filter-le (is_page v j) (λ r. not (is_page u k r)) d.cache.pages))

-- the page that is named is the chosen one
named-is : (d : DeskState) (r : Resident) (v : Victim) (dirty : Bool) → named_page d.moving d.cache.pages ≡ Some r → r.flags.dirty ≡ dirty → named_victim d ≡ Some v → victim_by r dirty ≡ v
named-is d r v dirty chosen is named =
    let h : ◌≡◌ {A = Option Victim} (Some (victim_by r r.flags.dirty)) (Some v) = rw chosen at named in
    let same : victim_by r r.flags.dirty ≡ v = cc in
    subst (λ (b : Bool). victim_by r b ≡ v) is same

module _ (old new : DeskState) (p : ℕ) (task : Task) (u : ObjectName) (k : ℕ) (answer : Access) (chosen : page_at old.cache.pages u k ≡ named_page old.moving old.cache.pages) (there : IsSome (page_at old.cache.pages u k)) where
  -- a dirty page was sent home
  pub comes-evicted : is_dirty (page_at old.cache.pages u k) ≡ true → IfSome (page_at old.cache.pages u k) (λ r. GivesTo new (room_made old p task (Victim.SendsHome r)) answer) → ComesTo p new (Accessed.NeedsRoom old task) answer
  comes-evicted dirty gives victim named = by_page (page_at old.cache.pages u k) refl there dirty gives
    where
      by_page : (o : Option Resident) → page_at old.cache.pages u k ≡ o → IsSome o → is_dirty o ≡ true → IfSome o (λ r. GivesTo new (room_made old p task (Victim.SendsHome r)) answer) → GivesTo new (room_made old p task victim) answer
      by_page None found some is given = absurd (cc)
      by_page (Some r) found some is given = subst (λ (v : Victim). GivesTo new (room_made old p task v) answer) (named-is old r victim true (sym chosen ∙ found) is named) given

  -- a clean page was dropped
  pub comes-dropped : (mid : DeskState) (dropped : List (ObjectName × ℕ)) → mid ≡ with_dropped old u k → dropped ≡ (u, k) ∷ [] → is_dirty (page_at old.cache.pages u k) ≡ false → GivesTo new (fetched mid p task dropped) answer → ComesTo p new (Accessed.NeedsRoom old task) answer
  comes-dropped mid dropped desk list clean gives victim named = by_page (page_at old.cache.pages u k) refl there clean
    where
      by_page : (o : Option Resident) → page_at old.cache.pages u k ≡ o → IsSome o → is_dirty o ≡ false → GivesTo new (room_made old p task victim) answer
      by_page None found some is = absurd (cc)
      by_page (Some r) found some is =
          subst (λ (v : Victim). GivesTo new (room_made old p task v) answer) (named-is old r victim false (sym chosen ∙ found) is named)
          (rw (found-uid old.cache.pages u k r found, found-page old.cache.pages u k r found) (rw (desk, list) at gives))
