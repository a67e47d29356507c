-- What an answer tells of the change that its home made, and what a link fault says.
use Rattle.std.proofs.Common.{◌≡◌, true, false, List, [], Option, Some, None, inl, inr, refl, sym, ap, ◌∙◌}
use Rattle.std.specs.Prelude.{◌⊎◌}
use Rattle.uid_names.specs.Names.{ObjectName, ProcName}
use Rattle.dom_history.specs.declared.op.Op.{Op}
use Rattle.dom_history.specs.declared.op.Op.TheVariants as ops
use Rattle.dom_history.specs.declared.op.Reply.{Reply}
use Rattle.dom_history.specs.declared.op.Reply.TheVariants as replies
use Rattle.dom_history.specs.Replies.{may_write}
use Rattle.dom_history.specs.StoreEffects.{store_effect}
use Rattle.ring_messages.specs.Bodies.{Ask, Answer}
use Rattle.fault_handler.specs.declared.entries.LockEntry.{LockEntry}
use Rattle.fault_handler.specs.Entries.{entry_of, state_in}
use Rattle.lock_validate.proofs.States.{keeps_writing-writes}
use Rattle.node_runs.specs.NodeStates.{Asked, Await, OpenOp}
use Rattle.node_runs.specs.RunHistories.{is_fault, change_reply}
use Rattle.run_laws.specs.ToldAnswers.{TellsReply, IsReleaseFault, IsFaultOf}
use Rattle.run_laws.specs.WaitingReleases.{SendsHome}

-- it tells a change, or nothing was done
abbrev pub TellsChange : Op → Reply → Answer → Type 0
TellsChange op reply answer = (change_reply answer ≡ Some reply) ⊎ ((change_reply answer ≡ None) × ((p : ProcName) → store_effect p op reply ≡ []))

pub tells-change : (op : Op) (reply : Reply) (answer : Answer) → TellsReply op reply answer → TellsChange op reply answer
tells-change (ops.New home kind room) reply (Answer.Made u) is = inl (ap (λ r. Some r) (sym is))
tells-change (ops.New home kind room) reply Answer.NoSpace is = inr (refl, λ p. ap (store_effect p (ops.New home kind room)) is)
tells-change (ops.New home kind room) reply answer is = absurd is
tells-change (ops.List home after) reply (Answer.Listed rows more) is = inr (refl, λ p. refl)
tells-change (ops.List home after) reply answer is = absurd is
tells-change (ops.Lock u m) reply (Answer.Granted grant stamp kind room n) is = inl (ap (λ r. Some r) (sym is))
tells-change (ops.Lock u m) reply (Answer.Conflict q held) is = inr (refl, λ p. ap (store_effect p (ops.Lock u m)) is)
tells-change (ops.Lock u m) reply Answer.NoObject is = inr (refl, λ p. ap (store_effect p (ops.Lock u m)) is)
tells-change (ops.Lock u m) reply answer is = absurd is
tells-change (ops.Unlock u) reply Answer.Done is = inl (ap (λ r. Some r) (sym is))
tells-change (ops.Unlock u) reply answer is = absurd is
tells-change (ops.Delete u) reply Answer.Done is = inl (ap (λ r. Some r) (sym is))
tells-change (ops.Delete u) reply answer is = absurd is
tells-change op reply answer is = absurd is

-- no answer is a link fault
pub tells-none : (op : Op) (reply : Reply) (answer : Answer) → TellsReply op reply answer → is_fault reply ≡ true → ⊥
tells-none (ops.New home kind room) reply (Answer.Made u) is fault = absurd (let f : false ≡ true = sym (ap is_fault is) ∙ fault in cc)
tells-none (ops.New home kind room) reply Answer.NoSpace is fault = absurd (let f : false ≡ true = sym (ap is_fault is) ∙ fault in cc)
tells-none (ops.New home kind room) reply answer is fault = absurd is
tells-none (ops.List home after) reply (Answer.Listed rows more) is fault = absurd (let f : false ≡ true = sym (ap is_fault is) ∙ fault in cc)
tells-none (ops.List home after) reply answer is fault = absurd is
tells-none (ops.Lock u m) reply (Answer.Granted grant stamp kind room n) is fault = absurd (let f : false ≡ true = sym (ap is_fault is) ∙ fault in cc)
tells-none (ops.Lock u m) reply (Answer.Conflict q held) is fault = absurd (let f : false ≡ true = sym (ap is_fault is) ∙ fault in cc)
tells-none (ops.Lock u m) reply Answer.NoObject is fault = absurd (let f : false ≡ true = sym (ap is_fault is) ∙ fault in cc)
tells-none (ops.Lock u m) reply answer is fault = absurd is
tells-none (ops.Unlock u) reply Answer.Done is fault = absurd (let f : false ≡ true = sym (ap is_fault is) ∙ fault in cc)
tells-none (ops.Unlock u) reply answer is fault = absurd is
tells-none (ops.Delete u) reply Answer.Done is fault = absurd (let f : false ≡ true = sym (ap is_fault is) ∙ fault in cc)
tells-none (ops.Delete u) reply answer is fault = absurd is
tells-none op reply answer is fault = absurd is

release-faulty : (ask : Ask) (r : Reply) → IsReleaseFault ask r → is_fault r ≡ true
release-faulty (Ask.PageOut u k grant base bytes) r is = ap is_fault is
release-faulty (Ask.AttrOut u n grant base) r is = ap is_fault is
release-faulty (Ask.Unlock u) r is = ap is_fault is
release-faulty (Ask.Remove u) r is = ap is_fault is
release-faulty ask r is = absurd is

pub fault-faulty : (op : Op) (ask : Ask) (r : Reply) → IsFaultOf op ask r → is_fault r ≡ true
fault-faulty (ops.New home kind room) ask r is = ap is_fault is
fault-faulty (ops.List home after) ask r is = ap is_fault is
fault-faulty (ops.Load spot count) ask r is = ap is_fault is
fault-faulty (ops.Store spot bytes) ask r is = ap is_fault is
fault-faulty (ops.Lock u m) ask r is = ap is_fault is
fault-faulty (ops.Unlock u) ask r is = release-faulty ask r is
fault-faulty (ops.Delete u) ask r is = release-faulty ask r is
fault-faulty (ops.Length u) ask r is = absurd is
fault-faulty (ops.Map u) ask r is = absurd is
fault-faulty (ops.Unmap u) ask r is = absurd is

pub faults-are : (reply : Reply) → is_fault reply ≡ true → (reply ≡ replies.Kept) ⊎ ((reply ≡ replies.Doubt) ⊎ (reply ≡ replies.LinkFault))
faults-are replies.Kept is = inl refl
faults-are replies.Doubt is = inr (inl refl)
faults-are replies.LinkFault is = inr (inr refl)
faults-are reply is = absurd (cc)

-- the call of an open operation
abbrev await_asked : Asked → Await → Asked
await_asked given (Await.Answer c) = c
await_asked given (Await.Page u k) = given

abbrev pub asked_of : Asked → Option OpenOp → Asked
asked_of given None = given
asked_of given (Some o) = await_asked given o.awaits

-- an unlock that is answered Kept still keeps its lock to write
pub kept-writes : (entries : List LockEntry) (u : ObjectName) (ask : Ask) → SendsHome entries u (Ask.Unlock u) ask → IsReleaseFault ask replies.Kept → may_write (state_in (entry_of u entries)) ≡ true
kept-writes entries u (Ask.PageOut v k grant base bytes) sends is = keeps_writing-writes (entry_of u entries) sends.1
kept-writes entries u (Ask.AttrOut v n grant base) sends is = keeps_writing-writes (entry_of u entries) sends.1
kept-writes entries u (Ask.Unlock v) sends is = absurd (cc)
kept-writes entries u (Ask.Remove v) sends is = absurd (cc)
kept-writes entries u (Ask.PageIn v k) sends is = absurd is
kept-writes entries u (Ask.Lock v m) sends is = absurd is
kept-writes entries u (Ask.Make kind room) sends is = absurd is
kept-writes entries u (Ask.ListLocks after) sends is = absurd is
