-- What a move needs, the history after it has.
use Rattle.std.proofs.Common.{◌≡◌, Bool, true, false, ◌<◌, ℕ, List, [], ◌∷◌, ◌++◌, length, refl, sym, arith, inl, inr}
use Rattle.std.specs.Prelude.{All, Contains, IsTrue, not, ◌⊎◌, if◌then◌else◌, nat_le}
use Rattle.std.proofs.lemmas.List.Elements.{All-nil, All-cons, All-tail, All-contains}
use Rattle.std.proofs.lemmas.Bool.Decides.{nat_tests}
use Rattle.uid_names.specs.Names.{ProcName, ObjectName}
use Rattle.uid_names.specs.Openings.{Start}
use Rattle.uid_names.specs.declared.ids.Place.{Place}
use Rattle.uid_names.specs.declared.limits.TheConstants.{PROCESS_LOCKS}
use Rattle.uid_names.specs.declared.mode.Mode.{Mode}
use Rattle.dom_history.specs.declared.op.Op.{Op}
use Rattle.dom_history.specs.declared.op.Op.TheVariants.{New, Lock, Unlock, Delete}
use Rattle.dom_history.specs.declared.op.Reply.{Reply}
use Rattle.dom_history.specs.declared.op.Reply.TheVariants.{Fine, Conflict, NoObject, AlreadyHeld, Unsettled, TooMany, NotHeld, NoLock, WrongMode, Kept, Doubt, LinkFault}
use Rattle.dom_history.specs.declared.deed.Deed.{Deed}
use Rattle.dom_history.specs.declared.deed.LockState.{LockState}
use Rattle.dom_history.specs.declared.deed.LockState.TheVariants.{Free}
use Rattle.dom_history.specs.StoreEffects.{StoreEffect, store_effects, store_effect}
use Rattle.dom_history.specs.Locks.{state, not_free, is_free, is_held, is_unsettled}
use Rattle.dom_history.specs.Replies.{link_faults, lock_reply, unlock_reply, delete_reply, home_lock_reply, may_write, may_delete}
use Rattle.dom_history.specs.Histories.{Item, Answered, Acted, Act, Pending, deeds, place_of, place_lt}
use Rattle.dom_history.specs.Legal.{AreLegal, IsLegal, IsAllowed, MayAct, Belongs, IsLeftOpen, IsEarlier, IsElsewhere, IsBefore, is_of_home}
use Rattle.history_moves.specs.HistoryMoves.{history, entry_of, act_of, told_to, MayFault, MayHear, IsNoActOf, IsNoneAtHome}
use Rattle.history_moves.specs.Asking.{MayAsk}
use Rattle.history_moves.proofs.Lists.{All-right, All-middle, AllPairs-middle, SomeOf-without, each-middle}
use Rattle.history_moves.proofs.Owned.{left_before, none-open}
use Rattle.history_moves.proofs.Opens.{OfOthers, of_others-turned}
use Rattle.history_moves.proofs.Places.{place_lt-both, place_lt-itself, place_lt-through}
use Rattle.history_moves.proofs.PutIn.{legal-before}

module _ (opening : Start) (left right : List Pending) (o : Pending) (others : All (OfOthers o) (left ++ right)) where
  -- nothing acts for the operation before its answer
  needs-none_before : (before : List Item) → All (IsBefore o) before → AreLegal opening (left ++ right) before → All (IsNoActOf o) before
  needs-none_before [] last legal = All-nil (IsNoActOf o)
  needs-none_before (Answered e ∷ before) last legal = All-cons (IsNoActOf o) (Answered e) before (λ it. it) (needs-none_before before (All-tail (IsBefore o) (Answered e) before last) legal.1)
  needs-none_before (Acted a ∷ before) last legal = All-cons (IsNoActOf o) (Acted a) before not_it (needs-none_before before (All-tail (IsBefore o) (Acted a) before last) legal.1)
    where
      not_it : IsNoActOf o (Acted a)
      not_it it = elim legal.0.belongs [
        | inl left_open ↦ (let h = left_before o a before (All-tail (IsBefore o) (Acted a) before last) it.1 left_open in place_lt-itself o.begun (rw (← it.0) at h))
        | inr is_open ↦ none-open o (left ++ right) others a it.1 is_open
      ]

  module _ (x : Place) (phase : ℕ) (reply : Reply) (before : List Item) where
    -- an act behind the answer is of an earlier operation, or the answer left its operation open
    began-before : (a : Act) (behind : List Item) → All (IsBefore o) (behind ++ before) → o.proc ≡ a.deed.proc → Belongs (left ++ right) (behind ++ Answered (entry_of o x phase reply) ∷ before) a
        → IsLeftOpen a.begun a.deed.proc a.deed.op (Answered (entry_of o x phase reply)) ⊎ IsTrue (place_lt a.begun o.begun)
    began-before a behind last own (inl left_open) = elim (SomeOf-without (IsLeftOpen a.begun a.deed.proc a.deed.op) behind (Answered (entry_of o x phase reply)) before left_open) [
      | inl here ↦ inl here
      | inr there ↦ inr (left_before o a (behind ++ before) last own there)
    ]
    began-before a behind last own (inr is_open) = absurd (none-open o (left ++ right) others a own is_open)

    -- behind Kept nothing acts for the operation
    needs-kept : (behind : List Item) → reply ≡ Kept → All (IsBefore o) (behind ++ before) → AreLegal opening (left ++ right) (behind ++ Answered (entry_of o x phase reply) ∷ before) → All (IsNoActOf o) behind
    needs-kept [] kept last legal = All-nil (IsNoActOf o)
    needs-kept (i ∷ behind) kept last legal = All-cons (IsNoActOf o) i behind (one i legal) (needs-kept behind kept rest legal.1)
      where
        rest : All (IsBefore o) (behind ++ before)
        rest = All-tail (IsBefore o) i (behind ++ before) last

        one : (i : Item) → AreLegal opening (left ++ right) (i ∷ (behind ++ Answered (entry_of o x phase reply) ∷ before)) → IsNoActOf o i
        one (Answered f) legal it = it
        one (Acted a) legal it = elim (began-before a behind rest it.1 legal.0.belongs) [
          | inl here ↦ elim here.3 [
            | inl e ↦ absurd cc
            | inr e ↦ absurd cc
          ]
          | inr below ↦ place_lt-itself o.begun (rw (← it.0) at below)
        ]

    -- behind a home's word it acts no more for the process
    needs-none_behind : (behind : List Item) → IsTrue (is_of_home opening o.op reply) → IsTrue (place_lt o.begun x) → All (IsBefore o) (behind ++ before)
        → AreLegal opening (left ++ right) (behind ++ Answered (entry_of o x phase reply) ∷ before) → All (IsNoneAtHome o) behind
    needs-none_behind [] home after last legal = All-nil (IsNoneAtHome o)
    needs-none_behind (i ∷ behind) home after last legal = All-cons (IsNoneAtHome o) i behind (one i legal) (needs-none_behind behind home after rest legal.1)
      where
        rest : All (IsBefore o) (behind ++ before)
        rest = All-tail (IsBefore o) i (behind ++ before) last

        one : (i : Item) → AreLegal opening (left ++ right) (i ∷ (behind ++ Answered (entry_of o x phase reply) ∷ before)) → IsNoneAtHome o i
        one (Answered f) legal = tt
        one (Acted a) legal = λ own same.
            let later : IsTrue (place_lt x a.begun) = All-middle (IsEarlier opening a) behind (Answered (entry_of o x phase reply)) before legal.0.in_order (sym own, sym same, home) in
            elim (began-before a behind rest (sym own) legal.0.belongs) [
              | inl here ↦ place_lt-itself x (rw (← here.0) at later)
              | inr below ↦ place_lt-both o.begun a.begun (place_lt-through o.begun x a.begun after later) below
            ]

module _ (opening : Start) (left right : List Pending) (o : Pending) (x : Place) (phase : ℕ) (reply : Reply) (behind before : List Item) (l : IsLegal opening (history (behind ++ before) (left ++ o ∷ right)))
    (new : IsLegal opening (history (behind ++ Answered (entry_of o x phase reply) ∷ before) (left ++ right))) where
  others : All (OfOthers o) (left ++ right)
  others = AllPairs-middle OfOthers of_others-turned left o right l.one_open

  last : All (IsBefore o) (behind ++ before)
  last = All-middle (λ q. All (IsBefore q) (behind ++ before)) left o right l.open_last

  here : AreLegal opening (left ++ right) (Answered (entry_of o x phase reply) ∷ before)
  here = legal-before opening (left ++ right) behind (Answered (entry_of o x phase reply) ∷ before) new.legal

  -- so what a fault needs is there after it
  pub faults-needed : x ≡ o.begun → (reply ≡ Kept) ⊎ ((reply ≡ Doubt) ⊎ (reply ≡ LinkFault)) → MayFault opening behind before o phase reply
  faults-needed at fault = record {
    fault = fault;
    allowed = here.0;
    rising = rw at at new.rising;
    kept = λ kept. needs-kept opening left right o others x phase reply before behind kept last new.legal;
  }

  -- and what hearing needs
  pub hears-needed : IsTrue (place_lt o.begun x) → store_effect o.proc o.op reply ≡ [] → IsTrue (is_of_home opening o.op reply) → MayHear opening behind before (left ++ right) o (entry_of o x phase reply)
  hears-needed after none home = record {
    no_effect = none;
    allowed = here.0;
    rising = new.rising;
    begun_before = after;
    apart = each-middle (λ q i. IsElsewhere q (place_of i)) (left ++ right) behind (Answered (entry_of o x phase reply)) before new.items_apart;
    no_act_behind = needs-none_behind opening left right o others x phase reply before behind home after last new.legal;
    no_act_before = needs-none_before opening left right o others before (All-right (IsBefore o) behind before last) here.1;
  }

-- no fault is Ok
one-faulty : (r : Reply) → (r ≡ Fine → ⊥) → All (λ s. s ≡ Fine → ⊥) (r ∷ [])
one-faulty r h = All-cons (λ s. s ≡ Fine → ⊥) r [] h (All-nil (λ s. s ≡ Fine → ⊥))

two-faulty : All (λ s. s ≡ Fine → ⊥) (Kept ∷ Doubt ∷ [])
two-faulty = All-cons (λ s. s ≡ Fine → ⊥) Kept (Doubt ∷ []) (λ e. cc) (one-faulty Doubt (λ e. cc))

either-faulty : (b : Bool) → All (λ s. s ≡ Fine → ⊥) (if b then Kept ∷ Doubt ∷ [] else Doubt ∷ [])
either-faulty true = two-faulty
either-faulty false = one-faulty Doubt (λ e. cc)

lock-faulty : (u : ObjectName) (m : Mode) (s : LockState) (reply : Reply) → All (λ r. r ≡ Fine → ⊥) (link_faults (Lock u m) s reply)
lock-faulty u m s NoObject = one-faulty Doubt (λ e. cc)
lock-faulty u m s (Conflict q n) = one-faulty Doubt (λ e. cc)
lock-faulty u m s Fine = one-faulty Doubt (λ e. cc)
lock-faulty u m s _ = All-nil (λ r. r ≡ Fine → ⊥)

unlock-faulty : (u : ObjectName) (s : LockState) (reply : Reply) → All (λ r. r ≡ Fine → ⊥) (link_faults (Unlock u) s reply)
unlock-faulty u s Fine = either-faulty (may_write s)
unlock-faulty u s _ = All-nil (λ r. r ≡ Fine → ⊥)

delete-faulty : (u : ObjectName) (s : LockState) (reply : Reply) → All (λ r. r ≡ Fine → ⊥) (link_faults (Delete u) s reply)
delete-faulty u s Fine = two-faulty
delete-faulty u s _ = All-nil (λ r. r ≡ Fine → ⊥)

-- so where Ok is allowed it is the reply of one store
fine-reply : (faults : List Reply) → All (λ r. r ≡ Fine → ⊥) faults → (reply : Reply) → (Fine ≡ reply) ⊎ Contains faults Fine → Fine ≡ reply
fine-reply faults faulty reply (inl e) = e
fine-reply faults faulty reply (inr c) = absurd (All-contains (λ r. r ≡ Fine → ⊥) faults Fine faulty c refl)

-- which says how the tests went
lock-tests : (s : LockState) (n : ℕ) (reply : Reply) → Fine ≡ (if is_held s then AlreadyHeld else (if is_unsettled s then Unsettled else (if nat_le PROCESS_LOCKS n then TooMany else reply))) → (is_free s ≡ true) × (n < PROCESS_LOCKS)
lock-tests Free n reply e = (refl, by_test (nat_le PROCESS_LOCKS n) refl e)
  where
    by_test : (b : Bool) → nat_le PROCESS_LOCKS n ≡ b → Fine ≡ (if b then TooMany else reply) → n < PROCESS_LOCKS
    by_test true t e = absurd cc
    by_test false t e = grind (arith, nat_tests, t)
lock-tests _ n reply e = absurd cc

unlock-tests : (b : Bool) → Fine ≡ (if b then NotHeld else Fine) → b ≡ false
unlock-tests true e = cc
unlock-tests false e = refl

delete-tests : (a b : Bool) → Fine ≡ (if not a then NoLock else (if not b then WrongMode else Fine)) → b ≡ true
delete-tests true true e = refl
delete-tests true false e = cc
delete-tests false b e = cc

-- what acted and is told was asked
asked-needed : (opening : Start) (past : List StoreEffect) (told : List Deed) (p : ProcName) (op : Op) (reply : Reply) → MayAct opening past p op reply → IsAllowed (record { opening = opening; past = past; told = told }) p op reply → MayAsk told op
asked-needed opening past told p (New home kind room) reply may allowed = tt
asked-needed opening past told p (Lock u m) reply may allowed =
    lock-tests (state u told) (length (not_free told)) (home_lock_reply opening past p u m) (fine-reply _ (lock-faulty u m Free (lock_reply (record { opening = opening; past = past; told = told }) p u m)) _ (rw may.0 at allowed))
asked-needed opening past told p (Unlock u) reply may allowed =
    unlock-tests (is_free (state u told)) (fine-reply _ (unlock-faulty u (state u told) (unlock_reply (record { opening = opening; past = past; told = told }) u)) _ (rw may at allowed))
asked-needed opening past told p (Delete u) reply may allowed =
    delete-tests (is_held (state u told)) (may_delete (state u told)) (fine-reply _ (delete-faulty u Free (delete_reply (record { opening = opening; past = past; told = told }) u)) _ (rw may.0 at allowed))
asked-needed opening past told p _ reply may allowed = absurd may

-- and what being told needs
pub told-needed : (opening : Start) (left right : List Pending) (o : Pending) (y : Place) (phase : ℕ) (reply : Reply) (behind before : List Item) → IsLegal opening (history (behind ++ Acted (act_of o y reply) ∷ before) (left ++ o ∷ right))
    → IsLegal opening (history (behind ++ Answered (entry_of o y phase reply) ∷ before) (left ++ right)) → MayAsk (told_to o before) o.op
told-needed opening left right o y phase reply behind before l new =
    let act = (legal-before opening (left ++ o ∷ right) behind (Acted (act_of o y reply) ∷ before) l.legal).0 in
    let entry = (legal-before opening (left ++ right) behind (Answered (entry_of o y phase reply) ∷ before) new.legal).0 in
    asked-needed opening (store_effects (deeds before)) (told_to o before) o.proc o.op reply act.may_act entry
