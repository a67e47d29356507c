-- In every history of one store the mappings of a process lie apart, and no object is longer than its room.
use Rattle.std.proofs.Common.{◌≡◌, ℕ, Bool, true, false, not, if◌then◌else◌, List, [], ◌∷◌, ◌++◌, inl, inr, ◌⊎◌, refl, ap, sym, subst, ◌∙◌}
use Rattle.std.proofs.lemmas.Bool.{false≢true}
use Rattle.uid_names.specs.Names.{ObjectName, ProcName, same_proc, same_uid}
use Rattle.uid_names.specs.Openings.{Start}
use Rattle.uid_names.specs.declared.mode.Mode.{Mode}
use Rattle.uid_names.proofs.Orders.{same_uid_is}
use Rattle.uid_names.proofs.Passed.{left-true}
use Rattle.dom_history.specs.declared.op.Entry.{Entry}
use Rattle.dom_history.specs.declared.op.Op.{Op}
use Rattle.dom_history.specs.declared.op.Op.TheVariants.{Delete, Lock, Map, Unlock}
use Rattle.dom_history.specs.declared.op.Reply.{Reply}
use Rattle.dom_history.specs.declared.op.Reply.TheVariants.{AlreadyHeld, At, Doubt, Fine, NoLock, NoObject, TooMany, Unsettled}
use Rattle.dom_history.specs.declared.deed.LockState.{LockState}
use Rattle.dom_history.specs.declared.deed.LockState.TheVariants.{Deleting, Free, Releasing, Taking}
use Rattle.dom_history.specs.Histories.{Acted, Answered, Item, Pending, before_op, entries, told}
use Rattle.dom_history.specs.Legal.{AreLegal, IsAllowed}
use Rattle.dom_history.specs.Locks.{is_held, mode_at_home, not_free, state, state_after}
use Rattle.dom_history.specs.Objects.{IsOfMade, is_deleted, is_present, made}
use Rattle.dom_history.specs.Replies.{Before, lock_reply, reply_of, unlock_state}
use Rattle.dom_history.specs.StoreEffects.{StoreEffect, own}
use Rattle.dom_history.proofs.HeldObjects.{granted-present}
use Rattle.dom_history.proofs.KeptObjects.{find-present}
use Rattle.dom_history.proofs.Tables.{state_in-lines_after}
use Rattle.history_moves.proofs.Faults.{fault-none}
use Rattle.mapped_streams.proofs.StoresSound.{AreKept, IsThere, act_kept, first_kept, step_kept, there_later}
use Rattle.read_laws.specs.Loads.{done}
use Rattle.read_laws.proofs.Faults.{among-faults, no-fault}

-- a lock that was not held is none that is held now
not-held : (b : Bool) (x s : LockState) → is_held x ≡ false → is_held (if b then x else s) ≡ true → is_held s ≡ true
not-held true x s free held = absurd (false≢true (sym free ∙ held))
not-held false x s free held = held

-- what is held behind a reply was held before, or was locked by it
abbrev WasLocked : ObjectName → Op → Reply → Type 0
WasLocked u op reply = (m : Mode) × (op ≡ Lock u m) × (reply ≡ Fine)

held-before : (u : ObjectName) (op : Op) (reply : Reply) (s : LockState) → is_held (state_after u op reply s) ≡ true → (is_held s ≡ true) ⊎ WasLocked u op reply
held-before u (Lock v m) Fine s held = by_test (same_uid u v) refl held
  where
    by_test : (b : Bool) → same_uid u v ≡ b → is_held (state_after u (Lock v m) Fine s) ≡ true → (is_held s ≡ true) ⊎ WasLocked u (Lock v m) Fine
    by_test true e h = inr (m, ap (λ w. Lock w m) (sym (same_uid_is u v e)), refl)
    by_test false e h = inl (rw e at h)
held-before u (Lock v m) Doubt s held = inl (not-held (same_uid u v) (Taking m) s refl held)
held-before u (Unlock v) Fine s held = inl (not-held (same_uid u v) Free s refl held)
held-before u (Unlock v) Doubt s held = inl (not-held (same_uid u v) (Releasing (mode_at_home s)) s refl held)
held-before u (Delete v) Fine s held = inl (not-held (same_uid u v) Free s refl held)
held-before u (Delete v) Doubt s held = inl (not-held (same_uid u v) Deleting s refl held)
held-before u _ _ s held = inl held

module _ (opening : Start) where
  -- and so was made
  present-made : (past : List StoreEffect) (u : ObjectName) → is_present opening past u ≡ true → IsThere opening past u
  present-made past u there = left-true _ _ (sym (find-present (λ v. is_deleted v past) (made opening past) u) ∙ there)

  granted-made : (b : Before) (p : ProcName) (u : ObjectName) (m : Mode) → b.opening ≡ opening → IsAllowed b p (Lock u m) Fine → IsThere opening b.past u
  granted-made b p u m same (inl is) = present-made b.past u (subst (λ (o : Start). is_present o b.past u ≡ true) same (granted-present b p u m is))
  granted-made b p u m same (inr among) = no-fault Fine (IsThere opening b.past u) (λ e. cc) (λ e. cc) (λ e. cc) (among-faults (Lock u m) (unlock_state (Lock u m) b.told) (reply_of b p (Lock u m)) Fine among)

  module _ (pending : List Pending) where
    -- what a process was told that it holds was made
    held-made : (items : List Item) (p : ProcName) (u : ObjectName) → AreLegal opening pending items → is_held (state u (own p (told (entries items)))) ≡ true → IsThere opening (done items) u
    held-made [] p u legal held = absurd (false≢true held)
    held-made (Acted a ∷ items) p u legal held = there_later opening a.deed.proc a.deed.op a.deed.reply (done items) u (held-made items p u legal.1 held)
    held-made (Answered e ∷ items) p u legal held = by_test (same_proc e.proc p) refl held (held-made items p u legal.1)
      where
        later : IsThere opening (done items) u → IsThere opening (done (Answered e ∷ items)) u
        later there = there_later opening e.proc e.op e.reply (done items) u there

        locked : WasLocked u e.op e.reply → IsThere opening (done items) u
        locked (m, op, reply) =
            granted-made (before_op opening items e.proc) e.proc u m refl (subst (λ (r : Reply). IsAllowed (before_op opening items e.proc) e.proc (Lock u m) r) reply (subst (λ (o : Op). IsAllowed (before_op opening items e.proc) e.proc o e.reply) op legal.0))

        by_test : (b : Bool) → same_proc e.proc p ≡ b → is_held (state u (own p (told (entries (Answered e ∷ items))))) ≡ true → (is_held (state u (own p (told (entries items)))) ≡ true → IsThere opening (done items) u)
            → IsThere opening (done (Answered e ∷ items)) u
        by_test true own_one h before =
            let g = rw (own_one, state_in-lines_after u e.op e.reply (not_free (own p (told (entries items))))) at h in
            elim (held-before u e.op e.reply (state u (own p (told (entries items)))) g) [
              | inl was ↦ later (before was)
              | inr lock ↦ later (locked lock)
            ]
        by_test false other h before = later (before (rw other at h))

    -- what is mapped anew was made
    mapped-held : (b : Bool) (a : ℕ) (rest : Reply) → At a true ≡ (if not b then NoLock else rest) → b ≡ true
    mapped-held true a rest e = refl
    mapped-held false a rest e = cc

    of-made : (items : List Item) (p : ProcName) (op : Op) (reply : Reply) → AreLegal opening pending items → IsAllowed (before_op opening items p) p op reply → IsOfMade (made opening (done items)) op reply
    of-made items p (Map u) (At a true) legal (inl is) = held-made items p u legal (mapped-held (is_held (state u (own p (told (entries items))))) a _ is)
    of-made items p (Map u) (At a true) legal (inr among) = no-fault (At a true) _ (λ e. cc) (λ e. cc) (λ e. cc) (among-faults (Map u) (unlock_state (Map u) (own p (told (entries items)))) (reply_of (before_op opening items p) p (Map u)) (At a true) among)
    of-made items p _ _ legal allowed = tt

    -- so what was done is kept
    entry-kept : (items : List Item) (e : Entry) → AreLegal opening pending items → IsAllowed (before_op opening items e.proc) e.proc e.op e.reply → AreKept opening (done items) → AreKept opening (done (Answered e ∷ items))
    entry-kept items e legal (inl is) kept = step_kept opening (done items) (own e.proc (told (entries items))) e.proc e.op e.reply (of-made items e.proc e.op e.reply legal (inl is)) is kept
    entry-kept items e legal (inr among) kept =
        let b = before_op opening items e.proc in
        let none = fault-none e.proc e.op e.reply (among-faults e.op (unlock_state e.op b.told) (reply_of b e.proc e.op) e.reply among) in
        subst (λ (effect : List StoreEffect). AreKept opening (effect ++ done items)) (sym none) kept

    pub legal-kept : (items : List Item) → AreLegal opening pending items → AreKept opening (done items)
    legal-kept [] legal = first_kept opening
    legal-kept (Answered e ∷ items) legal = entry-kept items e legal.1 legal.0 (legal-kept items legal.1)
    legal-kept (Acted a ∷ items) legal = act_kept opening (done items) a.deed.proc a.deed.op a.deed.reply legal.0.may_act (legal-kept items legal.1)
