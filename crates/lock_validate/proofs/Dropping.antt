-- Pages are dropped only at a grant of another stamp than the seen one, or where the object is known to be gone, and where no
-- process of the node keeps it.
use Rattle.std.proofs.Common.{◌≡◌, ℕ, Bool, true, false, [], Option, Some, None, inl, inr, refl, sym, ap, subst, ◌∙◌}
use Rattle.std.specs.Prelude.{◌==◌, ◌⊎◌, not, ◌&&◌}
use Rattle.std.proofs.lemmas.Bool.{cases_eq, not-true}
use Rattle.uid_names.specs.Names.{ObjectName}
use Rattle.uid_names.proofs.ListLemmas.{by_cases}
use Rattle.uid_names.proofs.Passed.{left-true, right-true}
use Rattle.dom_history.specs.declared.op.Op.{Op}
use Rattle.dom_history.specs.declared.deed.LockState.TheVariants.{Free}
use Rattle.page_cache.specs.Numbers.{dirty_page}
use Rattle.version_stamps.specs.Stamps.{stamp_of}
use Rattle.fault_handler.specs.Entries.{entry_of, keeps, entries_after}
use Rattle.fault_handler.specs.Lengths.{known_of, changed_length}
use Rattle.fault_handler.specs.Desks.{DeskState, at, entry_at, entries_of, state_of, any_keeps, others_keep, other_transit}
use Rattle.fault_handler.specs.Changes.{with_call, with_state, with_raised, with_page_done, with_length_done}
use Rattle.fault_handler.specs.LockCalls.{LockAnswer}
use Rattle.fault_handler.specs.Invariant.{IsProc}
use Rattle.fault_handler.specs.Ready.{LockStands}
use Rattle.lock_validate.specs.Releases.{length_first, page_first, transit_first, release_of}
use Rattle.lock_validate.specs.Answers.{dropped_of, is_seen, answered}
use Rattle.lock_validate.specs.GrantDrops.{MayDropAt}
use Rattle.lock_validate.specs.Wants.{MayWantAt}
use Rattle.fault_handler.proofs.Fours.{at-put_other, any-at, any-of, apart-of}
use Rattle.lock_validate.proofs.States.{free-unheld, unheld-unkept, released-unkept}
use Rattle.lock_validate.proofs.Standing.{AnswerStands}

-- an unlock or a removal drops nothing
module _ (d : DeskState) (p : ℕ) (u : ObjectName) (delete : Bool) where
  length_first-drops : (o : Option ℕ) → (length_first d p u delete o).dropped ≡ []
  length_first-drops (Some n) = refl
  length_first-drops None = refl

  page_first-drops : (o : Option ℕ) → (page_first d p u delete o).dropped ≡ []
  page_first-drops (Some k) = refl
  page_first-drops None = length_first-drops (changed_length (known_of u d.known))

  transit_first-drops : (o : Option ℕ) → (transit_first d p u delete o).dropped ≡ []
  transit_first-drops (Some k) = refl
  transit_first-drops None = page_first-drops (dirty_page d.cache.pages u)

  pub release_of-drops : (release_of d p u delete).dropped ≡ []
  release_of-drops = transit_first-drops (other_transit d.moving p u)

-- no process keeps an object that neither a process nor another one keeps
module _ (d : DeskState) (p : ℕ) (u : ObjectName) (own : keeps (entry_at d.entries p u) ≡ false) where
  pub none-keeps : others_keep d.entries p u ≡ false → any_keeps d.entries u ≡ false
  none-keeps others =
      by_cases
      (any_keeps d.entries u)
      (any_keeps d.entries u ≡ false)
      (λ some.
      let found = any-of (λ q. keeps (entry_at d.entries q u)) some in
      elim (cases_eq found.0 p) [
        | inl same ↦ absurd (let kept : keeps (entry_at d.entries p u) ≡ true = subst (λ (r : ℕ). keeps (entry_at d.entries r u) ≡ true) same found.2 in let e : true ≡ false = sym kept ∙ own in cc)
        | inr differs ↦
            absurd (let there : others_keep d.entries p u ≡ true = any-at (λ q. not (q == p) && keeps (entry_at d.entries q u)) found.0 found.1 (apart-of p found.0 (keeps (entry_at d.entries found.0 u)) differs found.2) in let e : true ≡ false = sym there ∙ others in cc)
      ])
      (λ h. h)

  -- the same, where a test says it
  pub alone-unkept : (others : Bool) → others ≡ others_keep d.entries p u → not others ≡ true → any_keeps d.entries u ≡ false
  alone-unkept others same alone = none-keeps (sym same ∙ not-true others alone)

  -- none kept the object, where none does once the process is Free on it
  pub unkept-before : IsProc p → any_keeps (with_state d p u Free 0).entries u ≡ false → any_keeps d.entries u ≡ false
  unkept-before proc after =
      by_cases
      (any_keeps d.entries u)
      (any_keeps d.entries u ≡ false)
      (λ some.
      let found = any-of (λ q. keeps (entry_at d.entries q u)) some in
      elim (cases_eq found.0 p) [
        | inl same ↦ absurd (let kept : keeps (entry_at d.entries p u) ≡ true = subst (λ (r : ℕ). keeps (entry_at d.entries r u) ≡ true) same found.2 in let e : true ≡ false = sym kept ∙ own in cc)
        | inr differs ↦
            absurd
            (let here : at (with_state d p u Free 0).entries found.0 [] ≡ at d.entries found.0 [] = at-put_other d.entries p found.0 (entries_after u Free 0 (entries_of d p)) [] proc found.1 differs in
            let kept : keeps (entry_at (with_state d p u Free 0).entries found.0 u) ≡ true = ap (λ es. keeps (entry_of u es)) here ∙ found.2 in
            let e : true ≡ false = sym (any-at (λ q. keeps (entry_at (with_state d p u Free 0).entries q u)) found.0 found.1 kept) ∙ after in
            cc)
      ])
      (λ h. h)

-- pages are outdated where a grant to a process that is Free on their object says so
pub outdated-unkept : (d : DeskState) (p : ℕ) (u : ObjectName) (stamp : ℕ) → LockStands d p u → (not (others_keep d.entries p u) && not (is_seen stamp (stamp_of u d.seen))) ≡ true
    → (any_keeps d.entries u ≡ false) × (is_seen stamp (stamp_of u d.seen) ≡ false)
outdated-unkept d p u stamp stands both = (
  none-keeps d p u (unheld-unkept (entry_at d.entries p u) (free-unheld (state_of d p u) stands.free)) (not-true (others_keep d.entries p u) (left-true (not (others_keep d.entries p u)) (not (is_seen stamp (stamp_of u d.seen))) both)),
  not-true (is_seen stamp (stamp_of u d.seen)) (right-true (not (others_keep d.entries p u)) (not (is_seen stamp (stamp_of u d.seen))) both),
)

-- nothing is dropped, or what is dropped may be
drops-if : (d : DeskState) (u : ObjectName) (may : Type 0) (drop : Bool) → (drop ≡ true → may) → (dropped_of drop d u ≡ []) ⊎ may
drops-if d u may true at_it = inr (at_it refl)
drops-if d u may false at_it = inl refl

pub answered-drops : (d : DeskState) (p : ℕ) (op : Op) (a : LockAnswer) → IsProc p → AnswerStands d p op a → ((answered d p a).dropped ≡ []) ⊎ MayDropAt d a
answered-drops d p op (LockAnswer.Granted u m grant stamp room n) proc stands =
    drops-if d u (MayDropAt d (LockAnswer.Granted u m grant stamp room n)) (not (others_keep d.entries p u) && not (is_seen stamp (stamp_of u d.seen))) (outdated-unkept d p u stamp stands.0)
answered-drops d p op (LockAnswer.Refused q held) proc stands = inl refl
answered-drops d p op (LockAnswer.Gone u) proc stands = drops-if d u (MayDropAt d (LockAnswer.Gone u)) (not (any_keeps d.entries u)) (λ h. not-true (any_keeps d.entries u) h)
answered-drops d p op (LockAnswer.PageSettled u delete taken stamp) proc stands = inl (release_of-drops (with_raised (with_page_done d p taken) u stamp) p u delete)
answered-drops d p op (LockAnswer.LengthSettled u n delete taken stamp) proc stands = inl (release_of-drops (with_raised (with_length_done d u n taken) u stamp) p u delete)
answered-drops d p op (LockAnswer.Released u) proc stands = inl refl
answered-drops d p op (LockAnswer.Removed u) proc stands =
    let e = with_state d p u Free 0 in
    drops-if e u (MayDropAt d (LockAnswer.Removed u)) (not (any_keeps e.entries u))
    (λ h. unkept-before d p u (released-unkept (entry_at d.entries p u) stands.0.noted) proc (not-true (any_keeps e.entries u) h))

-- what may be wanted on the desk on which the call is open no more may be on that on which it is open
pub want-open : (d : DeskState) (p : ℕ) (a : LockAnswer) → MayWantAt (with_call d p None) p a → MayWantAt d p a
want-open d p (LockAnswer.Granted u m grant stamp room n) may = may
want-open d p (LockAnswer.Refused q held) may = may
want-open d p (LockAnswer.Gone u) may = may
want-open d p (LockAnswer.PageSettled u delete taken stamp) may = may
want-open d p (LockAnswer.LengthSettled u n delete taken stamp) may = may
want-open d p (LockAnswer.Released u) may = may
want-open d p (LockAnswer.Removed u) may = may
