-- A store is of a process that keeps its object, as its node has it after the event.
use Rattle.std.proofs.Common.{◌≡◌, ℕ, true, List, ◌∷◌, Some, inl, inr, refl, ap, subst, ◌∙◌, arith}
use Rattle.std.specs.Prelude.{if◌then◌else◌, not, nat_lt, ◌+◌, ◌*◌, length, Contains}
use Rattle.std.proofs.lemmas.Bool.Decides.{nat_tests}
use Rattle.uid_names.specs.Names.{ProcName, ObjectName, same_proc}
use Rattle.uid_names.specs.declared.limits.TheConstants.{PAGE_BYTES}
use Rattle.uid_names.proofs.ListLemmas.{by_cases}
use Rattle.dom_history.specs.declared.op.Op.{Op}
use Rattle.dom_history.specs.declared.op.Op.TheVariants as ops
use Rattle.dom_history.specs.declared.op.Reply.{Reply}
use Rattle.dom_history.specs.declared.op.Reply.TheVariants as replies
use Rattle.dom_history.specs.declared.op.Spot.{Spot}
use Rattle.dom_history.specs.declared.deed.Deed.{Deed}
use Rattle.dom_history.specs.declared.deed.LockState.TheVariants.{Free}
use Rattle.dom_history.specs.Legal.{IsAllowed}
use Rattle.dom_history.specs.Locks.{is_held, state}
use Rattle.dom_history.specs.Mappings.{Target, target}
use Rattle.dom_history.specs.Objects.{room_of}
use Rattle.dom_history.specs.Replies.{Before, may_write, store_reply, link_faults}
use Rattle.dom_history.specs.StoreEffects.{own}
use Rattle.fault_handler.specs.Outcomes.{Turn}
use Rattle.node_runs.specs.NodeStates.{BegunOp}
use Rattle.node_runs.specs.Notes.{Note}
use Rattle.node_runs.specs.Outcomes.{Stage}
use Rattle.run_laws.specs.DeskSteps.{turn_note}

-- a store that was answered Fine is to an object that its process held
pub store-held : (b : Before) (q : ProcName) (spot : Spot) (bytes : List ℕ) → IsAllowed b q (ops.Store spot bytes) replies.Fine → (t : Target) → target b.opening b.past q spot ≡ Some t → is_held (state t.uid b.told) ≡ true
store-held b q spot bytes allowed t at = by_cases (is_held (state t.uid b.told)) (is_held (state t.uid b.told) ≡ true) (λ h. h)
    (λ none.
    let said : store_reply b (target b.opening b.past q spot) bytes ≡ replies.NoLock =
    ap (λ o. store_reply b o bytes) at ∙ ap (λ h. if not h then replies.NoLock else if not (may_write (state t.uid b.told)) then replies.WrongMode else if nat_lt (PAGE_BYTES * room_of b.opening b.past t.uid) (t.offset + length bytes) then replies.PastRoom else replies.Fine) none in
    absurd (elim allowed [
      | inl same ↦ (let f : replies.Fine ≡ replies.NoLock = same ∙ said in cc)
      | inr among ↦ nothing (link_faults (ops.Store spot bytes) Free replies.NoLock) refl (subst (λ r. Contains (link_faults (ops.Store spot bytes) Free r) replies.Fine) said among)
    ]))
  where
    nothing : (xs : List Reply) → length xs ≡ 0 → Contains xs replies.Fine → ⊥
    nothing xs none is = let low = is.1 in absurd (omega (arith, low, none))

-- so it holds it still
pub held-still : (q : ProcName) (spot : Spot) (bytes : List ℕ) (u : ObjectName) (told : List Deed) → is_held (state u (own q told)) ≡ true → is_held (state u (own q (record { proc = q; op = ops.Store spot bytes; reply = replies.Fine } ∷ told))) ≡ true
held-still q spot bytes u told held =
    let mine : same_proc q q ≡ true = grind (arith, nat_tests) in
    let more : List Deed = own q told in
    ap (λ b. is_held (state u (if b then record { proc = q; op = ops.Store spot bytes; reply = replies.Fine } ∷ more else more))) mine ∙ held

did-proc : {a b : ProcName} {i j : ℕ} {x y : Op} {r t : Reply} → Note.Did a i x r ≡ Note.Did b j y t → a ≡ b
did-proc same = cc

pub store-proc : (st : Stage) (p q : ProcName) (phase other : ℕ) (o : BegunOp) (turn : Turn) (spot : Spot) (bytes : List ℕ) → turn_note st p phase o turn ≡ Note.Did q other (ops.Store spot bytes) replies.Fine → p ≡ q
store-proc Stage.Starts p q phase other o (Turn.Ends reply) spot bytes is = did-proc is
store-proc Stage.Resumes p q phase other o (Turn.Ends reply) spot bytes is = did-proc is
store-proc (Stage.Settles number) p q phase other o (Turn.Ends reply) spot bytes is = absurd (cc)
store-proc Stage.Starts p q phase other o (Turn.Asks home ask) spot bytes is = absurd (cc)
store-proc Stage.Resumes p q phase other o (Turn.Asks home ask) spot bytes is = absurd (cc)
store-proc (Stage.Settles number) p q phase other o (Turn.Asks home ask) spot bytes is = absurd (cc)
store-proc Stage.Starts p q phase other o (Turn.Waits u k) spot bytes is = absurd (cc)
store-proc Stage.Resumes p q phase other o (Turn.Waits u k) spot bytes is = absurd (cc)
store-proc (Stage.Settles number) p q phase other o (Turn.Waits u k) spot bytes is = absurd (cc)
