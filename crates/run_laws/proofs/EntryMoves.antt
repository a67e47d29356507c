-- What a desk's move does to the lock entry of an object.
use Rattle.std.proofs.Common.{◌≡◌, ℕ, Bool, true, false, List, [], Option, Some, None, refl, sym, ap, subst, ◌∙◌}
use Rattle.std.specs.Prelude.{◌&&◌}
use Rattle.std.specs.Option.{option_map}
use Rattle.std.proofs.lemmas.Option.{same_Some}
use Rattle.uid_names.specs.Names.{ObjectName, same_uid}
use Rattle.uid_names.specs.declared.mode.Mode.{Mode}
use Rattle.uid_names.proofs.ListLemmas.{by_cases}
use Rattle.uid_names.proofs.Orders.{same_uid_is}
use Rattle.dom_history.specs.declared.deed.LockState.{LockState}
use Rattle.dom_history.specs.declared.deed.LockState.TheVariants as states
use Rattle.dom_history.specs.Locks.{is_held}
use Rattle.dom_history.specs.Replies.{may_delete}
use Rattle.fault_handler.specs.declared.entries.LockEntry.{LockEntry}
use Rattle.fault_handler.specs.Entries.{entry_of, state_in, keeps, noted_if, entries_after, entries_noted}
use Rattle.fault_handler.specs.Desks.{DeskState, entries_of, entry_at, put_at}
use Rattle.fault_handler.specs.Outcomes.{Turn}
use Rattle.fault_handler.specs.LockCalls.{LockCall, LockAnswer}
use Rattle.fault_handler.specs.Invariant.{IsProc, IsDesk}
use Rattle.fault_handler.proofs.Fours.{at-put_same}
use Rattle.fault_handler.proofs.LockKeeps.{entry_after, entry_of-after_same, entry_of-after_other, entry_of-noted_same, entry_of-noted_other}
use Rattle.lock_validate.specs.Releases.{release_ask}
use Rattle.lock_validate.specs.Causes.{Cause}
use Rattle.lock_validate.specs.Releasing.{releasing_in}
use Rattle.lock_validate.specs.Told.{state_set}
use Rattle.lock_validate.specs.DeskMoves.{Change, DeskMoves}
use Rattle.lock_validate.proofs.DeskStays.{moves-desk}

-- it stays; it is held no more; its release or its removal was noted, of one that was kept; or it was granted
pub data EntryThen (c : Cause) (turn : Turn) (u : ObjectName) (old new : Option LockEntry) : Type 0 where
  as_before : new ≡ old → EntryThen c turn u old new
  freed : keeps new ≡ false → is_held (state_in new) ≡ false → EntryThen c turn u old new
  noted : (delete : Bool) → releasing_in c ≡ Some (delete, u) → turn ≡ Turn.Asks u.home (release_ask delete u) → keeps old ≡ true → (delete ≡ true → may_delete (state_in old) ≡ true) → keeps new ≡ false → EntryThen c turn u old new
  got : (m : Mode) (grant stamp room n : ℕ) → c ≡ Cause.AnswerCame (LockAnswer.Granted u m grant stamp room n) → new ≡ Some (record { uid = u; state = states.Held m; grant = grant; released = false }) → EntryThen c turn u old new

-- a state that is set to Held is that of a grant
held-mode : (a b : Mode) → states.Held a ≡ states.Held b → a ≡ b
held-mode a b e = cc

set-held : (d : DeskState) (p : ℕ) (c : Cause) (call : LockCall) (v : ObjectName) (m : Mode) (grant : ℕ) → state_set d p c ≡ Some (call, v, states.Held m, grant) → (stamp : ℕ) × (room : ℕ) × (n : ℕ) × (c ≡ Cause.AnswerCame (LockAnswer.Granted v m grant stamp room n))
set-held d p (Cause.AnswerCame (LockAnswer.Granted w k g stamp room n)) call v m grant is =
    let same = same_Some (LockCall.Lock w k, w, states.Held k, g) (call, v, states.Held m, grant) is in
    let a : w ≡ v = ap (λ (z : LockCall × ObjectName × LockState × ℕ). z.1) same in
    let b : k ≡ m = held-mode k m (ap (λ (z : LockCall × ObjectName × LockState × ℕ). z.2) same) in
    let e : g ≡ grant = ap (λ (z : LockCall × ObjectName × LockState × ℕ). z.3) same in
    (stamp, room, n, ap (λ x. Cause.AnswerCame (LockAnswer.Granted x k g stamp room n)) a ∙ (ap (λ x. Cause.AnswerCame (LockAnswer.Granted v x g stamp room n)) b ∙ ap (λ x. Cause.AnswerCame (LockAnswer.Granted v m x stamp room n)) e))
set-held d p (Cause.AnswerCame (LockAnswer.Released w)) call v m grant is = absurd (let e = ap (λ (z : LockCall × ObjectName × LockState × ℕ). z.2) (same_Some (LockCall.Unlock w, w, states.Free, 0) (call, v, states.Held m, grant) is) in cc)
set-held d p (Cause.AnswerCame (LockAnswer.Removed w)) call v m grant is = absurd (let e = ap (λ (z : LockCall × ObjectName × LockState × ℕ). z.2) (same_Some (LockCall.Remove w, w, states.Free, 0) (call, v, states.Held m, grant) is) in cc)
set-held d p (Cause.AnswerCame a) call v m grant is = absurd (cc)
set-held d p (Cause.CallFailed (LockCall.Lock w k)) call v m grant is = absurd (let e = ap (λ (z : LockCall × ObjectName × LockState × ℕ). z.2) (same_Some (LockCall.Lock w k, w, states.Taking k, 0) (call, v, states.Held m, grant) is) in cc)
set-held d p (Cause.CallFailed (LockCall.Unlock w)) call v m grant is = absurd (let e = ap (λ (z : LockCall × ObjectName × LockState × ℕ). z.2) (same_Some (LockCall.Unlock w, w, _, 0) (call, v, states.Held m, grant) is) in cc)
set-held d p (Cause.CallFailed (LockCall.Remove w)) call v m grant is = absurd (let e = ap (λ (z : LockCall × ObjectName × LockState × ℕ). z.2) (same_Some (LockCall.Remove w, w, states.Deleting, 0) (call, v, states.Held m, grant) is) in cc)
set-held d p c call v m grant is = absurd (cc)

-- what was noted is kept no more
noted-unkept : (o : Option LockEntry) → keeps (option_map (noted_if true) o) ≡ false
noted-unkept None = refl
noted-unkept (Some e) = by (is_held e.state)
  where
    by : (b : Bool) → (b && false) ≡ false
    by true = refl
    by false = refl

module _ (c : Cause) (turn : Turn) (p : ℕ) (proc : IsProc p) (u : ObjectName) where
  abbrev Then : DeskState → DeskState → Type 0
  Then d e = EntryThen c turn u (entry_at d.entries p u) (entry_at e.entries p u)

  module _ (d : DeskState) (desk : IsDesk d) where
    own-entries : (new : List LockEntry) → entry_at (put_at d.entries p new) p u ≡ entry_of u new
    own-entries new = ap (entry_of u) (at-put_same d.entries p new [] desk.four.entries proc)

    set-then : (call : LockCall) (s : LockState) (grant : ℕ) → state_set d p c ≡ Some (call, u, s, grant) → EntryThen c turn u (entry_at d.entries p u) (entry_after u s grant)
    set-then call states.Free grant given = freed refl refl
    set-then call (states.Held m) grant given = let is = set-held d p c call u m grant given in got m grant is.0 is.1 is.2 is.3 refl
    set-then call (states.Taking m) grant given = freed refl refl
    set-then call (states.Releasing m) grant given = freed refl refl
    set-then call states.Deleting grant given = freed refl refl

    change-entry : (e : DeskState) (dropped : List (ObjectName × ℕ)) → Change c turn p d e dropped → Then d e
    change-entry e dropped (Change.sets call v s grant may) = by_cases (same_uid u v) (EntryThen c turn u (entry_at d.entries p u) (entry_at (put_at d.entries p (entries_after v s grant (entries_of d p))) p u))
        (λ same.
        let is : v ≡ u = sym (same_uid_is u v same) in
        subst (λ o. EntryThen c turn u (entry_at d.entries p u) o) (sym (own-entries (entries_after v s grant (entries_of d p)) ∙ (ap (λ w. entry_of u (entries_after w s grant (entries_of d p))) is ∙ entry_of-after_same u s grant (entries_of d p))))
        (set-then call s grant (subst (λ w. state_set d p c ≡ Some (call, w, s, grant)) is may.given)))
        (λ apart. as_before (own-entries (entries_after v s grant (entries_of d p)) ∙ entry_of-after_other v s grant u (entries_of d p) apart))
    change-entry e dropped (Change.notes delete v given idle held may settled asks) = by_cases (same_uid u v) (EntryThen c turn u (entry_at d.entries p u) (entry_at (put_at d.entries p (entries_noted v (entries_of d p))) p u))
        (λ same.
        let is : v ≡ u = sym (same_uid_is u v same) in
        let now : entry_at (put_at d.entries p (entries_noted v (entries_of d p))) p u ≡ option_map (noted_if true) (entry_at d.entries p u) =
        own-entries (entries_noted v (entries_of d p)) ∙ (ap (λ w. entry_of u (entries_noted w (entries_of d p))) is ∙ entry_of-noted_same u (entries_of d p)) in
        noted delete (subst (λ w. releasing_in c ≡ Some (delete, w)) is given) (subst (λ w. turn ≡ Turn.Asks w.home (release_ask delete w)) is asks)
        (idle.keeping u (subst (λ w. is_held (state_in (entry_at d.entries p w)) ≡ true) is held)) (λ yes. subst (λ w. may_delete (state_in (entry_at d.entries p w)) ≡ true) is (may yes))
        (ap keeps now ∙ noted-unkept (entry_at d.entries p u)))
        (λ apart. as_before (own-entries (entries_noted v (entries_of d p)) ∙ entry_of-noted_other v u (entries_of d p) apart))
    change-entry e dropped change = as_before refl

  -- one after another
  after-then : (old mid new : Option LockEntry) → EntryThen c turn u old mid → EntryThen c turn u mid new → EntryThen c turn u old new
  after-then old mid new first (as_before same) = subst (EntryThen c turn u old) (sym same) first
  after-then old mid new first (freed never held) = freed never held
  after-then old mid new first (got m grant stamp room n is now) = got m grant stamp room n is now
  after-then old mid new (as_before same) (noted delete given asks kept may never) = noted delete given asks (ap keeps (sym same) ∙ kept) (λ yes. ap (λ o. may_delete (state_in o)) (sym same) ∙ may yes) never
  after-then old mid new (freed unkept held) (noted delete given asks kept may never) = absurd (let e : true ≡ false = sym kept ∙ unkept in cc)
  after-then old mid new (noted del give ask keep allowed unkept) (noted delete given asks kept may never) = absurd (let e : true ≡ false = sym kept ∙ unkept in cc)
  after-then old mid new (got m grant stamp room n is now) (noted delete given asks kept may never) = absurd (let e = ap releasing_in (sym is) ∙ given in cc)

  pub moves-entry : (d e : DeskState) (dropped : List (ObjectName × ℕ)) → IsDesk d → DeskMoves c turn p d e dropped → Then d e
  moves-entry d e dropped desk DeskMoves.none = as_before refl
  moves-entry d e dropped desk (DeskMoves.next {e = f} before change) =
      after-then (entry_at d.entries p u) (entry_at f.entries p u) (entry_at e.entries p u) (moves-entry d f dropped desk before) (change-entry f (moves-desk c turn p proc d f dropped desk before) e [] change)
  moves-entry d e dropped desk (DeskMoves.dropping {e = f} before change) =
      after-then (entry_at d.entries p u) (entry_at f.entries p u) (entry_at e.entries p u) (moves-entry d f [] desk before) (change-entry f (moves-desk c turn p proc d f [] desk before) e dropped change)
