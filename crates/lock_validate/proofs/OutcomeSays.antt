-- What an outcome says: what is given up is settled, and for what is waited.
use Rattle.std.proofs.Common.{◌≡◌, ◌≢◌, ℕ, Bool, true, false, min, [], ◌∷◌, Option, Some, None, inl, inr, ◌⊎◌, refl, ap, arith}
use Rattle.std.specs.Prelude.{◌==◌, not, ◌&&◌, if◌then◌else◌}
use Rattle.std.proofs.lemmas.Bool.Decides.{nat_tests}
use Rattle.std.proofs.lemmas.Option.{same_Some}
use Rattle.uid_names.specs.Names.{ObjectName, same_uid}
use Rattle.uid_names.proofs.ListLemmas.{by_cases}
use Rattle.uid_names.proofs.Passed.{right-true}
use Rattle.dom_history.specs.Replies.{may_write, may_delete}
use Rattle.page_cache.specs.Numbers.{lesser}
use Rattle.fault_handler.specs.declared.transits.Transit.{Transit}
use Rattle.fault_handler.specs.Tasks.{page_of}
use Rattle.fault_handler.specs.Transits.{is_moving, is_coming, moved_page}
use Rattle.fault_handler.specs.Desks.{DeskState, at, moving_of, transit_among, other_transit, others_fetch, state_of}
use Rattle.fault_handler.specs.Outcomes.{Turn}
use Rattle.fault_handler.specs.Drops.{WaitsFor}
use Rattle.fault_handler.specs.Invariant.{IsProc}
use Rattle.fault_handler.proofs.Fours.{first, second, third, fourth, any-of, apart-is}
use Rattle.lock_validate.specs.Releases.{release_ask}
use Rattle.lock_validate.proofs.States.{deletes-writes}
use Rattle.lock_validate.specs.Causes.{Cause}
use Rattle.lock_validate.specs.Settled.{IsSettled, GivesUpSettled}
use Rattle.lock_validate.specs.Waiting.{WaitsForAnother, WaitsForFetch}
use Rattle.lock_validate.specs.Releasing.{releasing_in}
use Rattle.lock_validate.specs.Turns.{Says}

module _ (d : DeskState) (p : ℕ) (e : DeskState) where
  -- a lock that writes is given up, and an object removed, only where nothing of it is left to be sent home
  gives_up-settled : (delete : Bool) (u : ObjectName) → (delete ≡ true → may_delete (state_of e p u) ≡ true) → (may_write (state_of e p u) ≡ true → IsSettled e p u) → GivesUpSettled e p (Turn.Asks u.home (release_ask delete u))
  gives_up-settled true u may settled = settled (deletes-writes (state_of e p u) (may refl))
  gives_up-settled false u may settled = settled

  pub told-settled : (c : Cause) (turn : Turn) → Says d p e c turn → GivesUpSettled e p turn
  told-settled c turn (Says.gives_up cause delete u given opened may settled) = gives_up-settled delete u may settled
  told-settled c turn says = tt

  -- the lesser of two is one of them
  lesser-one : (a b : Option ℕ) (k : ℕ) → lesser a b ≡ Some k → (a ≡ Some k) ⊎ (b ≡ Some k)
  lesser-one None b k found = inr found
  lesser-one (Some a) None k found = inl found
  lesser-one (Some a) (Some b) k found = elim (one a b (same_Some (min a b) k found)) [ inl h ↦ inl (ap Some h) | inr h ↦ inr (ap Some h) ]
    where
      one : (a b : ℕ) → min a b ≡ k → (a ≡ k) ⊎ (b ≡ k)
      one a b h = grind arith

  -- a page of an object that a process moves
  moved-moving : (u : ObjectName) (k : ℕ) (t : Option Transit) → moved_page u t ≡ Some k → is_moving u k t ≡ true
  moved-moving u k None found = absurd (cc)
  moved-moving u k (Some t) found =
      by_cases
      (same_uid t.uid u)
      (is_moving u k (Some t) ≡ true)
      (λ same. let page : t.page ≡ k = same_Some t.page k (rw same at found) in grind (arith, nat_tests, same, page))
      (λ differ. absurd (let h : None ≡ Some k = rw differ at found in cc))

  beside-moving : (q : ℕ) (u : ObjectName) (k : ℕ) (t : Option Transit) → (if q == p then None else moved_page u t) ≡ Some k → (q ≢ p) × (is_moving u k t ≡ true)
  beside-moving q u k t found =
      by_cases
      (q == p)
      ((q ≢ p) × (is_moving u k t ≡ true))
      (λ same. absurd (let h : None ≡ Some k = rw same at found in cc))
      (λ differ. (λ same. (let h : (q == p) ≡ true = grind (arith, nat_tests, same) in cc), moved-moving u k t (rw differ at found)))

  other-moves : (u : ObjectName) (k : ℕ) → other_transit e.moving p u ≡ Some k → (q : ℕ) × IsProc q × (q ≢ p) × (is_moving u k (moving_of e q) ≡ true)
  other-moves u k found =
      elim (lesser-one (if 1 == p then None else moved_page u (at e.moving 1 None)) (transit_among e.moving p u (2 ∷ 3 ∷ 4 ∷ [])) k found) [
        | inl here ↦ let h = beside-moving 1 u k (at e.moving 1 None) here in (1, first, h.0, h.1)
        | inr two ↦ elim (lesser-one (if 2 == p then None else moved_page u (at e.moving 2 None)) (transit_among e.moving p u (3 ∷ 4 ∷ [])) k two) [
          | inl here ↦ let h = beside-moving 2 u k (at e.moving 2 None) here in (2, second, h.0, h.1)
          | inr three ↦ elim (lesser-one (if 3 == p then None else moved_page u (at e.moving 3 None)) (transit_among e.moving p u (4 ∷ [])) k three) [
            | inl here ↦ let h = beside-moving 3 u k (at e.moving 3 None) here in (3, third, h.0, h.1)
            | inr four ↦ elim (lesser-one (if 4 == p then None else moved_page u (at e.moving 4 None)) None k four) [
              | inl here ↦ let h = beside-moving 4 u k (at e.moving 4 None) here in (4, fourth, h.0, h.1)
              | inr none ↦ absurd (cc)
            ]
          ]
        ]
      ]

  -- a page that comes is moved
  coming-moving : (u : ObjectName) (k : ℕ) (t : Option Transit) → is_coming u k t ≡ true → is_moving u k t ≡ true
  coming-moving u k None comes = comes
  coming-moving u k (Some t) comes = right-true t.inward (is_moving u k (Some t)) comes

  fetched-moves : (u : ObjectName) (k : ℕ) → others_fetch e.moving p u k ≡ true → (q : ℕ) × IsProc q × (q ≢ p) × (is_moving u k (moving_of e q) ≡ true)
  fetched-moves u k fetched =
      let found = any-of (λ q. not (q == p) && is_coming u k (at e.moving q None)) fetched in
      let there = apart-is p found.0 (is_coming u k (at e.moving found.0 None)) found.2 in
      (found.0, found.1, there.0, coming-moving u k (at e.moving found.0 None) there.1)

  pub told-waits : (c : Cause) (turn : Turn) → Says d p e c turn → WaitsForAnother e p turn
  told-waits c turn (Says.waits cause task given absent fetched) = fetched-moves task.uid (page_of task) fetched
  told-waits c turn (Says.waits_to_release cause delete u k releasing found) = other-moves u k found
  told-waits c turn says = tt

  -- a load or store for one that another process asked for
  waits-fetch : (c : Cause) (turn : Turn) → Says d p e c turn → releasing_in c ≡ None → WaitsFor e p turn
  waits-fetch c turn (Says.waits cause task given absent fetched) none = fetched
  waits-fetch c turn (Says.waits_to_release cause delete u k releasing found) none = absurd (let h : releasing_in cause ≡ Some (delete, u) = releasing.given in cc)
  waits-fetch c turn says none = tt

  pub told-waits_for_fetch : (c : Cause) (turn : Turn) → Says d p e c turn → WaitsForFetch c e p turn
  told-waits_for_fetch (Cause.Accesses op) turn says = waits-fetch (Cause.Accesses op) turn says refl
  told-waits_for_fetch (Cause.PageCame a) turn says = waits-fetch (Cause.PageCame a) turn says refl
  told-waits_for_fetch c turn says = tt
