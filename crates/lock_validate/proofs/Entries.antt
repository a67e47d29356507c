-- A process's entries after a release was noted, and after a state was set.
use Rattle.std.proofs.Common.{◌≡◌, ◌≢◌, ℕ, true, false, [], Option, Some, None, refl, sym, ap, subst, ◌∙◌}
use Rattle.std.specs.Option.{option_map}
use Rattle.uid_names.specs.Names.{ObjectName, same_uid}
use Rattle.uid_names.proofs.ListLemmas.{by_cases}
use Rattle.uid_names.proofs.Orders.{same_uid_is, same_uid-itself}
use Rattle.dom_history.specs.declared.deed.LockState.{LockState}
use Rattle.dom_history.specs.declared.deed.LockState.TheVariants.{Free, Held, Taking, Releasing, Deleting}
use Rattle.dom_history.specs.Locks.{is_free, is_held}
use Rattle.fault_handler.specs.declared.entries.LockEntry.{LockEntry}
use Rattle.fault_handler.specs.declared.open_call.OpenCall.{OpenCall}
use Rattle.fault_handler.specs.Entries.{entry_of, state_in, is_released, keeps, entries_after, entries_noted, noted_if}
use Rattle.fault_handler.specs.Desks.{DeskState, entry_at, entries_of, state_of}
use Rattle.fault_handler.specs.Changes.{with_call, with_state, with_note}
use Rattle.fault_handler.specs.Invariant.{IsProc, KeepsAll, IsDesk}
use Rattle.fault_handler.specs.Conditions.{IsIdle}
use Rattle.fault_handler.specs.Ready.{KeepsOthers, ReleaseStands}
use Rattle.fault_handler.proofs.Fours.{at-put_same}
use Rattle.fault_handler.proofs.LockKeeps.{entry_after, entry_of-noted_same, entry_of-noted_other, entry_of-after_same, entry_of-after_other}
use Rattle.lock_validate.proofs.States.{held-there}

module _ (d : DeskState) (p : ℕ) (u : ObjectName) (is : IsDesk d) (proc : IsProc p) where
  entry-noted_same : entry_at (with_note d p u).entries p u ≡ option_map (noted_if true) (entry_at d.entries p u)
  entry-noted_same = ap (entry_of u) (at-put_same d.entries p (entries_noted u (entries_of d p)) [] is.four.entries proc) ∙ entry_of-noted_same u (entries_of d p)

  entry-noted_other : (v : ObjectName) → same_uid v u ≡ false → entry_at (with_note d p u).entries p v ≡ entry_at d.entries p v
  entry-noted_other v differ = ap (entry_of v) (at-put_same d.entries p (entries_noted u (entries_of d p)) [] is.four.entries proc) ∙ entry_of-noted_other u v (entries_of d p) differ

  pub entry-set_same : (s : LockState) (grant : ℕ) → entry_at (with_state d p u s grant).entries p u ≡ entry_after u s grant
  entry-set_same s grant = ap (entry_of u) (at-put_same d.entries p (entries_after u s grant (entries_of d p)) [] is.four.entries proc) ∙ entry_of-after_same u s grant (entries_of d p)

  entry-set_other : (s : LockState) (grant : ℕ) (v : ObjectName) → same_uid v u ≡ false → entry_at (with_state d p u s grant).entries p v ≡ entry_at d.entries p v
  entry-set_other s grant v differ = ap (entry_of v) (at-put_same d.entries p (entries_after u s grant (entries_of d p)) [] is.four.entries proc) ∙ entry_of-after_other u s grant v (entries_of d p) differ

  -- a note changes no state
  state-noted_in : (o : Option LockEntry) → state_in (option_map (noted_if true) o) ≡ state_in o
  state-noted_in None = refl
  state-noted_in (Some e) = refl

  pub state-noted : state_of (with_note d p u) p u ≡ state_of d p u
  state-noted = ap state_in entry-noted_same ∙ state-noted_in (entry_at d.entries p u)

  released-noted_in : (o : Option LockEntry) → is_held (state_in o) ≡ true → is_released (option_map (noted_if true) o) ≡ true
  released-noted_in None held = absurd (cc)
  released-noted_in (Some e) held = refl

  -- of other objects than this one a test says the same
  apart : (v : ObjectName) → v ≢ u → same_uid v u ≡ false
  apart v differs = by_cases (same_uid v u) (same_uid v u ≡ false) (λ same. absurd (differs (same_uid_is v u same))) (λ h. h)

  -- a release or a removal stands once it is noted
  pub release-stands : (call : Option OpenCall) → is_held (state_of d p u) ≡ true → IsIdle d p → ReleaseStands (with_call (with_note d p u) p call) p u
  release-stands call held idle = record {
    there = ap is_free state-noted ∙ held-there (state_of d p u) held;
    noted = λ h. ap is_released entry-noted_same ∙ released-noted_in (entry_at d.entries p u) held;
    still = idle.no_page;
    others = λ v differs h.
        let same = entry-noted_other v (apart v differs) in
        ap keeps same ∙ idle.keeping v (sym (ap (λ (o : Option LockEntry). is_held (state_in o)) same) ∙ h);
  }

  -- after a state was set a process keeps each object on which it is Held
  kept-after : (s : LockState) (grant : ℕ) → is_held (state_in (entry_after u s grant)) ≡ true → keeps (entry_after u s grant) ≡ true
  kept-after Free grant h = h
  kept-after (Held m) grant h = refl
  kept-after (Taking m) grant h = h
  kept-after (Releasing m) grant h = h
  kept-after Deleting grant h = h

  pub keeping-set : (s : LockState) (grant : ℕ) → KeepsOthers d p u → KeepsAll (with_state d p u s grant).entries p
  keeping-set s grant others v held =
      by_cases
      (same_uid v u)
      (keeps (entry_at (with_state d p u s grant).entries p v) ≡ true)
      (λ same. subst (λ (w : ObjectName). is_held (state_in (entry_at (with_state d p u s grant).entries p w)) ≡ true → keeps (entry_at (with_state d p u s grant).entries p w) ≡ true) (sym (same_uid_is v u same))
      (subst (λ (o : Option LockEntry). is_held (state_in o) ≡ true → keeps o ≡ true) (sym (entry-set_same s grant)) (kept-after s grant)) held)
      (λ differ.
      let same = entry-set_other s grant v differ in
      ap keeps same ∙ others v (λ e. let h : same_uid v u ≡ true = rw e (same_uid-itself u) in let x : true ≡ false = sym h ∙ differ in cc) (sym (ap (λ (o : Option LockEntry). is_held (state_in o)) same) ∙ held))
