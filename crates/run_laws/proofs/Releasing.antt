-- A process stops keeping an object only by a release or a removal that is sent; where its mode writes, all of the object is clean at its node then.
use Rattle.std.proofs.Common.{◌≡◌, ℕ, Bool, true, false, List, [], Option, Some, None, refl, sym, ap, subst, ◌∙◌}
use Rattle.std.specs.Option.{option_map}
use Rattle.uid_names.specs.Names.{ObjectName, same_uid}
use Rattle.uid_names.proofs.ListLemmas.{by_cases}
use Rattle.uid_names.proofs.Orders.{same_uid_is}
use Rattle.dom_history.specs.Replies.{may_write}
use Rattle.fault_handler.specs.declared.entries.LockEntry.{LockEntry}
use Rattle.fault_handler.specs.Entries.{entry_of, state_in, keeps, noted_if, entries_after, entries_noted}
use Rattle.fault_handler.specs.Desks.{DeskState, entries_of, entry_at, put_at, state_of}
use Rattle.fault_handler.specs.LockCalls.{LockAnswer}
use Rattle.fault_handler.specs.Outcomes.{Turn, Moved}
use Rattle.fault_handler.specs.Invariant.{IsProc, IsDesk}
use Rattle.fault_handler.proofs.Fours.{at-put_same}
use Rattle.fault_handler.proofs.LockKeeps.{entry_of-after_other, entry_of-noted_same, entry_of-noted_other}
use Rattle.lock_validate.specs.Releases.{release_ask}
use Rattle.lock_validate.specs.Causes.{Cause}
use Rattle.lock_validate.specs.DeskMoves.{Change, DeskMoves}
use Rattle.lock_validate.specs.Releasing.{releasing_in}
use Rattle.lock_validate.specs.Settled.{IsSettled, GivesUpSettled}
use Rattle.lock_validate.specs.Told.{state_set}
use Rattle.lock_validate.specs.Turns.{IsMade}
use Rattle.lock_validate.proofs.DeskStays.{moves-desk}
use Rattle.lock_validate.proofs.OutcomeSays.{told-settled}
use Rattle.run_laws.proofs.StateMoves.{noted-state}

-- the entry of an object that is kept stays, or its release or its removal is sent, and its state stays
pub data KeptThen (c : Cause) (turn : Turn) (u : ObjectName) (old new : Option LockEntry) : Type 0 where
  stays : new ≡ old → KeptThen c turn u old new
  gives : (delete : Bool) → releasing_in c ≡ Some (delete, u) → turn ≡ Turn.Asks u.home (release_ask delete u) → state_in new ≡ state_in old → KeptThen c turn u old new

-- no release goes on where a state is set
sets-not : (d : DeskState) (p : ℕ) (c : Cause) {call : _} {release : _} → state_set d p c ≡ Some call → releasing_in c ≡ Some release → ⊥
sets-not d p (Cause.AnswerCame (LockAnswer.Granted w k g stamp room n)) set is = absurd (cc)
sets-not d p (Cause.AnswerCame (LockAnswer.Released w)) set is = absurd (cc)
sets-not d p (Cause.AnswerCame (LockAnswer.Removed w)) set is = absurd (cc)
sets-not d p (Cause.CallFailed call) set is = absurd (cc)
sets-not d p c set is = absurd (cc)

module _ (c : Cause) (turn : Turn) (p : ℕ) (proc : IsProc p) (u : ObjectName) (old : Option LockEntry) (kept : keeps old ≡ true) where
  abbrev Then : DeskState → Type 0
  Then e = KeptThen c turn u old (entry_at e.entries p u)

  module _ (d : DeskState) (desk : IsDesk d) (was : Then d) where
    own-entries : (new : List LockEntry) → entry_at (put_at d.entries p new) p u ≡ entry_of u new
    own-entries new = ap (entry_of u) (at-put_same d.entries p new [] desk.four.entries proc)

    as-before : (new : Option LockEntry) → new ≡ entry_at d.entries p u → KeptThen c turn u old new
    as-before new same = subst (KeptThen c turn u old) (sym same) was

    not-set : keeps (entry_at d.entries p u) ≡ false → (x : _) → state_set d p c ≡ Some x → KeptThen c turn u old (entry_at d.entries p u) → ⊥
    not-set none x set (KeptThen.stays same) = absurd (let f : true ≡ false = sym kept ∙ (ap keeps (sym same) ∙ none) in cc)
    not-set none x set (KeptThen.gives delete is asks state) = sets-not d p c set is

    state-was : KeptThen c turn u old (entry_at d.entries p u) → state_in (entry_at d.entries p u) ≡ state_in old
    state-was (KeptThen.stays same) = ap state_in same
    state-was (KeptThen.gives delete is asks state) = state

    change-then : (e : DeskState) (dropped : List (ObjectName × ℕ)) → Change c turn p d e dropped → Then e
    change-then e dropped (Change.sets call v s grant may) = by_cases (same_uid u v) (KeptThen c turn u old (entry_at (put_at d.entries p (entries_after v s grant (entries_of d p))) p u))
        (λ same. absurd (not-set (subst (λ w. keeps (entry_at d.entries p w) ≡ false) (sym (same_uid_is u v same)) may.unkept) _ may.given was))
        (λ apart. as-before _ (own-entries (entries_after v s grant (entries_of d p)) ∙ entry_of-after_other v s grant u (entries_of d p) apart))
    change-then e dropped (Change.notes delete v given idle held may settled asks) = by_cases (same_uid u v) (KeptThen c turn u old (entry_at (put_at d.entries p (entries_noted v (entries_of d p))) p u))
        (λ same.
        let is : v ≡ u = sym (same_uid_is u v same) in
        let now : entry_at (put_at d.entries p (entries_noted v (entries_of d p))) p u ≡ option_map (noted_if true) (entry_at d.entries p u) =
        own-entries (entries_noted v (entries_of d p)) ∙ (ap (λ w. entry_of u (entries_noted w (entries_of d p))) is ∙ entry_of-noted_same u (entries_of d p)) in
        KeptThen.gives delete (subst (λ w. releasing_in c ≡ Some (delete, w)) is given) (subst (λ w. turn ≡ Turn.Asks w.home (release_ask delete w)) is asks)
        (ap state_in now ∙ (noted-state (entry_at d.entries p u) ∙ state-was was)))
        (λ apart. as-before _ (own-entries (entries_noted v (entries_of d p)) ∙ entry_of-noted_other v u (entries_of d p) apart))
    change-then e dropped change = was

  moves-then : (d e : DeskState) (dropped : List (ObjectName × ℕ)) → IsDesk d → DeskMoves c turn p d e dropped → Then d → Then e
  moves-then d e dropped desk DeskMoves.none was = was
  moves-then d e dropped desk (DeskMoves.next {e = f} before change) was = change-then f (moves-desk c turn p proc d f dropped desk before) (moves-then d f dropped desk before was) e [] change
  moves-then d e dropped desk (DeskMoves.dropping {e = f} before change) was = change-then f (moves-desk c turn p proc d f [] desk before) (moves-then d f [] desk before was) e dropped change

-- so where it does not keep it then, and its mode writes, all is clean
pub unkept-settled : (c : Cause) (p : ℕ) (d : DeskState) (m : Moved) → IsProc p → IsDesk d → IsMade c p d m → (u : ObjectName) → keeps (entry_at d.entries p u) ≡ true → may_write (state_of d p u) ≡ true → keeps (entry_at m.desk.entries p u) ≡ false → IsSettled m.desk p u
unkept-settled c p d m proc desk made u kept writes unkept = by (moves-then c m.turn p proc u (entry_at d.entries p u) kept d m.desk m.dropped desk made.moves (KeptThen.stays refl))
  where
    says : (delete : Bool) → GivesUpSettled m.desk p (Turn.Asks u.home (release_ask delete u)) → may_write (state_of m.desk p u) ≡ true → IsSettled m.desk p u
    says true settled may = settled
    says false settled may = settled may

    by : KeptThen c m.turn u (entry_at d.entries p u) (entry_at m.desk.entries p u) → IsSettled m.desk p u
    by (KeptThen.stays same) = absurd (let f : true ≡ false = sym kept ∙ (ap keeps (sym same) ∙ unkept) in cc)
    by (KeptThen.gives delete is asks state) = says delete (subst (GivesUpSettled m.desk p) asks (told-settled d p m.desk c m.turn made.says)) (ap may_write state ∙ writes)
