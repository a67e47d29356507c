-- An object that a process holds was made.
use Rattle.std.proofs.Common.{◌≡◌, Bool, true, false, List, [], ◌∷◌, ◌++◌, refl, sym, ◌∙◌, ap, inl, inr, ◌⊎◌}
use Rattle.std.specs.Prelude.{find, is_some, not, Option, Some, None, if◌then◌else◌}
use Rattle.std.proofs.lemmas.Option.{none-some}
use Rattle.uid_names.specs.Names.{ProcName, ObjectName, same_proc, same_uid}
use Rattle.uid_names.specs.Openings.{Start}
use Rattle.uid_names.specs.declared.opening.Object.{Object}
use Rattle.uid_names.specs.declared.mode.Mode.{Mode}
use Rattle.uid_names.specs.declared.lock_row.LockRow.{LockRow}
use Rattle.uid_names.proofs.Orders.{same_uid_is}
use Rattle.uid_names.proofs.Passed.{left-true}
use Rattle.dom_history.specs.declared.op.Op.{Op}
use Rattle.dom_history.specs.declared.op.Op.TheVariants.{Lock, Unlock, Delete, Map}
use Rattle.dom_history.specs.declared.op.Reply.{Reply}
use Rattle.dom_history.specs.declared.op.Reply.TheVariants.{Fine, Doubt, At, NoLock, AlreadyHeld, Unsettled, TooMany, NoObject}
use Rattle.dom_history.specs.declared.deed.Deed.{Deed}
use Rattle.dom_history.specs.declared.deed.LockState.{LockState}
use Rattle.dom_history.specs.StoreEffects.{StoreEffect, store_effect, store_effects, own}
use Rattle.dom_history.specs.Objects.{IsOfMade, made, is_deleted, is_present}
use Rattle.dom_history.specs.Locks.{state, state_after, is_held, not_free}
use Rattle.dom_history.specs.Replies.{Before, before_of, reply_of, lock_reply, conflict_or_fine}
use Rattle.dom_history.specs.Runs.{AreAnswered}
use Rattle.dom_history.proofs.KeptObjects.{find-present}
use Rattle.dom_history.proofs.MadeObjects.{found-step}
use Rattle.dom_history.proofs.Tables.{state_in-lines_after}

-- an object that is held after a reply was held before, or was locked by it
pub held-before : (u : ObjectName) (op : Op) (reply : Reply) (s : LockState) → is_held (state_after u op reply s) ≡ true → (is_held s ≡ true) ⊎ ((m : Mode) × (op ≡ Lock u m) × (reply ≡ Fine))
held-before u (Lock v m) Fine s h = by_test (same_uid u v) refl h
  where
    by_test : (b : Bool) → same_uid u v ≡ b → is_held (state_after u (Lock v m) Fine s) ≡ true → (is_held s ≡ true) ⊎ ((n : Mode) × (Lock v m ≡ Lock u n) × (Fine ≡ Fine))
    by_test true e h = inr (m, ap (λ w. Lock w m) (sym (same_uid_is u v e)), refl)
    by_test false e h = inl (rw e at h)
held-before u (Lock v m) Doubt s h = by_test (same_uid u v) refl h
  where
    by_test : (b : Bool) → same_uid u v ≡ b → is_held (state_after u (Lock v m) Doubt s) ≡ true → (is_held s ≡ true) ⊎ ((n : Mode) × (Lock v m ≡ Lock u n) × (Doubt ≡ Fine))
    by_test true e h = let g = rw e at h in absurd cc
    by_test false e h = inl (rw e at h)
held-before u (Unlock v) Fine s h = by_test (same_uid u v) refl h
  where
    by_test : (b : Bool) → same_uid u v ≡ b → is_held (state_after u (Unlock v) Fine s) ≡ true → (is_held s ≡ true) ⊎ ((n : Mode) × (Unlock v ≡ Lock u n) × (Fine ≡ Fine))
    by_test true e h = let g = rw e at h in absurd cc
    by_test false e h = inl (rw e at h)
held-before u (Unlock v) Doubt s h = by_test (same_uid u v) refl h
  where
    by_test : (b : Bool) → same_uid u v ≡ b → is_held (state_after u (Unlock v) Doubt s) ≡ true → (is_held s ≡ true) ⊎ ((n : Mode) × (Unlock v ≡ Lock u n) × (Doubt ≡ Fine))
    by_test true e h = let g = rw e at h in absurd cc
    by_test false e h = inl (rw e at h)
held-before u (Delete v) Fine s h = by_test (same_uid u v) refl h
  where
    by_test : (b : Bool) → same_uid u v ≡ b → is_held (state_after u (Delete v) Fine s) ≡ true → (is_held s ≡ true) ⊎ ((n : Mode) × (Delete v ≡ Lock u n) × (Fine ≡ Fine))
    by_test true e h = let g = rw e at h in absurd cc
    by_test false e h = inl (rw e at h)
held-before u (Delete v) Doubt s h = by_test (same_uid u v) refl h
  where
    by_test : (b : Bool) → same_uid u v ≡ b → is_held (state_after u (Delete v) Doubt s) ≡ true → (is_held s ≡ true) ⊎ ((n : Mode) × (Delete v ≡ Lock u n) × (Doubt ≡ Fine))
    by_test true e h = let g = rw e at h in absurd cc
    by_test false e h = inl (rw e at h)
held-before u _ _ s h = inl h

-- a home that grants a lock has no row against it
pub home-clear : (there : Bool) (found : Option LockRow) → (if not there then NoObject else conflict_or_fine found) ≡ Fine → found ≡ None
home-clear true None is = refl
home-clear true (Some row) is = cc
home-clear false found is = cc

-- what is held behind a lock that was given up was held before
pub still-held : (b : Bool) (was : Option Mode) (m : Mode) → (if b then None else was) ≡ Some m → was ≡ Some m
still-held true was m is = absurd (none-some m is)
still-held false was m is = is

-- a lock that was granted is of an object that is there
pub granted-present : (b : Before) (p : ProcName) (u : ObjectName) (m : Mode) → Fine ≡ lock_reply b p u m → is_present b.opening b.past u ≡ true
granted-present b p u m e = by_tests _ _ _ (is_present b.opening b.past u) _ e
  where
    by_tests : (x y z there : Bool) (rest : Reply) → Fine ≡ (if x then AlreadyHeld else (if y then Unsettled else (if z then TooMany else (if not there then NoObject else rest)))) → there ≡ true
    by_tests true y z there rest e = cc
    by_tests false true z there rest e = cc
    by_tests false false true there rest e = cc
    by_tests false false false true rest e = refl
    by_tests false false false false rest e = cc

-- an object that is there was made
present-was_made : (opening : Start) (past : List StoreEffect) (u : ObjectName) → is_present opening past u ≡ true → is_some (find (λ o. same_uid o.uid u) (made opening past)) ≡ true
present-was_made opening past u h = left-true _ _ (sym (find-present (λ v. is_deleted v past) (made opening past) u) ∙ h)

-- what was made stays made
made-stays : (p : ProcName) (op : Op) (reply : Reply) (opening : Start) (past : List StoreEffect) (test : Object → Bool) → is_some (find test (made opening past)) ≡ true → is_some (find test (made opening (store_effect p op reply ++ past))) ≡ true
made-stays p op reply opening past test h = by_found (find test (made opening past)) refl h
  where
    by_found : (x : Option Object) → find test (made opening past) ≡ x → is_some x ≡ true → is_some (find test (made opening (store_effect p op reply ++ past))) ≡ true
    by_found None e h = absurd cc
    by_found (Some o) e h = ap is_some (found-step p op reply opening past test o e)

-- an object that a process holds was made
pub held-was_made : (opening : Start) (deeds : List Deed) (p : ProcName) (u : ObjectName) → AreAnswered opening deeds → is_held (state u (own p deeds)) ≡ true → is_some (find (λ o. same_uid o.uid u) (made opening (store_effects deeds))) ≡ true
held-was_made opening [] p u answered h = absurd cc
held-was_made opening (d ∷ deeds) p u answered h = by_test (same_proc d.proc p) refl h (held-was_made opening deeds p u answered.1)
  where
    after : is_some (find (λ o. same_uid o.uid u) (made opening (store_effects deeds))) ≡ true → is_some (find (λ o. same_uid o.uid u) (made opening (store_effects (d ∷ deeds)))) ≡ true
    after = made-stays d.proc d.op d.reply opening (store_effects deeds) (λ o. same_uid o.uid u)

    locked : (m : Mode) → d.op ≡ Lock u m → d.reply ≡ Fine → is_present opening (store_effects deeds) u ≡ true
    locked m op reply = granted-present (before_of opening deeds d.proc) d.proc u m (sym reply ∙ answered.0 ∙ ap (reply_of (before_of opening deeds d.proc) d.proc) op)

    by_test : (b : Bool) → same_proc d.proc p ≡ b → is_held (state u (own p (d ∷ deeds))) ≡ true → (is_held (state u (own p deeds)) ≡ true → is_some (find (λ o. same_uid o.uid u) (made opening (store_effects deeds))) ≡ true)
        → is_some (find (λ o. same_uid o.uid u) (made opening (store_effects (d ∷ deeds)))) ≡ true
    by_test true e h before =
        let g = rw (e, state_in-lines_after u d.op d.reply (not_free (own p deeds))) at h in
        elim (held-before u d.op d.reply (state u (own p deeds)) g) [
          | inl held ↦ after (before held)
          | inr (m, op, reply) ↦ after (present-was_made opening (store_effects deeds) u (locked m op reply))
        ]
    by_test false e h before = after (before (rw e at h))

-- an object that is mapped anew was made
pub mapped-was_made : (opening : Start) (deeds : List Deed) (p : ProcName) (op : Op) (reply : Reply) → AreAnswered opening deeds → reply ≡ reply_of (before_of opening deeds p) p op → IsOfMade (made opening (store_effects deeds)) op reply
mapped-was_made opening deeds p (Map u) (At address true) answered e = by_test (is_held (state u (own p deeds))) refl _ e
  where
    by_test : (b : Bool) → is_held (state u (own p deeds)) ≡ b → (rest : Reply) → At address true ≡ (if not b then NoLock else rest) → is_some (find (λ o. same_uid o.uid u) (made opening (store_effects deeds))) ≡ true
    by_test true h rest e = held-was_made opening deeds p u answered h
    by_test false h rest e = absurd cc
mapped-was_made opening deeds p _ _ answered e = tt
