-- A call keeps every process of the node ready.
use Rattle.std.proofs.Common.{◌≡◌, ℕ, true, Option, Some, None, IsSome, inl, inr, refl, sym, ap, subst, ◌∙◌}
use Rattle.std.proofs.lemmas.Option.{same_Some}
use Rattle.std.proofs.lemmas.Bool.{cases_eq}
use Rattle.uid_names.specs.Names.{ObjectName}
use Rattle.uid_names.specs.Steps.{◌>>=◌}
use Rattle.uid_names.proofs.Somes.{there_is}
use Rattle.dom_history.specs.declared.op.Op.{Op}
use Rattle.dom_history.specs.declared.op.Op.TheVariants as ops
use Rattle.dom_history.specs.Ranges.{IsOp}
use Rattle.ring_messages.specs.declared.body.Body.{Body}
use Rattle.ring_messages.specs.Bodies.{Answer, answer_of}
use Rattle.ring_messages.specs.Ranges.{IsBody}
use Rattle.fault_handler.specs.declared.open_call.OpenCall.{OpenCall}
use Rattle.fault_handler.specs.declared.open_call.OpenCall.TheVariants.{Access}
use Rattle.fault_handler.specs.Desks.{DeskState, entry_at, open_call_of, moving_of}
use Rattle.fault_handler.specs.Outcomes.{Moved}
use Rattle.fault_handler.specs.Accesses.{DeskOp, Accessed, desk_op, Comes, Always}
use Rattle.fault_handler.specs.PageReplies.{PageAnswer, page_answer}
use Rattle.fault_handler.specs.LockCalls.{LockCall, LockAnswer, lock_call, open_call, answers}
use Rattle.fault_handler.specs.Unseen.{said_to}
use Rattle.fault_handler.specs.Invariant.{IsProc, IsDesk}
use Rattle.fault_handler.specs.Conditions.{IsIdle, IsAccessing, IsNotAccessing, empty_desk}
use Rattle.fault_handler.specs.Ready.{IsReadyAt, IsReady}
use Rattle.fault_handler.proofs.Fours.{by_proc}
use Rattle.fault_handler.proofs.Answering.{said-some}
use Rattle.fault_handler.proofs.Outcomes.{Holds, come}
use Rattle.lock_validate.specs.Answers.{lock_call_of, answer_at, lock_answer_of}
use Rattle.lock_validate.proofs.Standing.{lock_call-is, answer-is, answers-at, answer-parts}
use Rattle.lock_validate.specs.Causes.{Cause, op_of, comes_of, IsPageAnswer, IsLockAnswer, MayCome}
use Rattle.lock_validate.specs.Turns.{IsMade}
use Rattle.lock_validate.proofs.EachCall.{comes_of-made}
use Rattle.lock_validate.proofs.Beside.{moves-beside, IsReady-untouched}
use Rattle.desk_bench.specs.AllReady.{AllReady}

-- on an empty desk each process may begin
pub AllReady-empty : (node nodes frames : ℕ) → AllReady (empty_desk node nodes frames)
AllReady-empty node nodes frames = by_proc (IsReady (empty_desk node nodes frames)) (each 1 refl refl (λ u. refl)) (each 2 refl refl (λ u. refl)) (each 3 refl refl (λ u. refl)) (each 4 refl refl (λ u. refl))
  where
    each : (q : ℕ) → open_call_of (empty_desk node nodes frames) q ≡ None → moving_of (empty_desk node nodes frames) q ≡ None → ((u : ObjectName) → entry_at (empty_desk node nodes frames).entries q u ≡ None) → IsReady (empty_desk node nodes frames) q
    each q no_call no_page no_entry =
        let idle : IsIdle (empty_desk node nodes frames) q = record { no_call = no_call; no_page = no_page; keeping = λ u held. absurd (let h = rw (no_entry u) at held in cc) } in
        subst (IsReadyAt (empty_desk node nodes frames) q) (sym no_call) idle

module _ (d new : DeskState) (p : ℕ) (all : AllReady d) (is : IsDesk d) (proc : IsProc p) (c : Cause) (own : IsReady new p) where
  made-ready : (m : Moved) → new ≡ m.desk → IsMade c p d m → AllReady new
  made-ready m same made q proc_q = elim (cases_eq q p) [
    | inl is_p ↦ subst (IsReady new) (sym is_p) own
    | inr differs ↦
        subst (λ (e : DeskState). IsReady e q) (sym same)
        (IsReady-untouched d m.desk q (moves-beside c m.turn p q proc proc_q differs d m.desk m.dropped made.moves) (all q proc_q))
  ]

  -- what comes of the call is settled
  pub settled-ready : (m : Moved) → MayCome d p c → comes_of d p c ≡ Accessed.Settled m → new ≡ m.desk → AllReady new
  settled-ready m may comes same = made-ready m same (subst (Always p (IsMade c p d)) comes (comes_of-made d p c is proc may))

  holds-made : (P : Moved → Type 0) (a : Accessed) → Holds p P a → Always p (IsMade c p d) a → Holds p (IsMade c p d) a
  holds-made P (Accessed.Settled m) holds made = made
  holds-made P (Accessed.NeedsRoom e task) holds made = (holds.0, holds.1, made)

  -- room may have to be made, and is as the cache names it
  pub came-ready : (P Q : Moved → Type 0) (a : Accessed) → MayCome d p c → comes_of d p c ≡ a → Holds p P a → Comes p Q a → ((m : Moved) → Q m → new ≡ m.desk) → AllReady new
  came-ready P Q a may comes holds came same =
      come p (IsMade c p d) Q (AllReady new) a (holds-made P a holds (subst (Always p (IsMade c p d)) comes (comes_of-made d p c is proc may))) came (λ m made gives. made-ready m (same m gives) made)

-- an open call of a lock, an unlock or a removal is one
lock-open : (o : Option OpenCall) (call : LockCall) → (o >>= lock_call) ≡ Some call → o ≡ Some (open_call call)
lock-open None call is = absurd (cc)
lock-open (Some oc) call is = ap (λ (x : OpenCall). Some x) (lock_call-is oc call is)

-- what a body answers to it
pub lock-answered : (d : DeskState) (p : ℕ) (body : Body) → IsReady d p → IsNotAccessing d p → IsSome (lock_call_of d p) → answers d p body ≡ true → IsBody d.node body
    → (a : LockAnswer) × (lock_answer_of d p body ≡ Some a) × IsLockAnswer d p a
lock-answered d p body ready other lock fits range =
    let call = there_is (lock_call_of d p) lock in
    let opened : open_call_of d p ≡ Some (open_call call.0) = lock-open (open_call_of d p) call.0 call.1 in
    let a = there_is (answer_at (open_call call.0) body) (answers-at d p (open_call call.0) body opened other fits) in
    let parts = answer-parts (open_call call.0) body a.0 a.1 in
    let same : lock_answer_of d p body ≡ Some a.0 = ap (λ (o : Option OpenCall). o >>= λ oc. answer_at oc body) opened ∙ a.1 in (
      a.0,
      same,
      record {
        ready = ready;
        call = parts.0;
        opened = opened ∙ ap (λ (x : OpenCall). Some x) parts.2;
        answer = parts.1;
        says = parts.4;
        range = subst (IsBody d.node) parts.3 range;
      },
    )

-- what a link fault ends
pub lock-opened : (d : DeskState) (p : ℕ) → IsSome (lock_call_of d p) → (call : LockCall) × (lock_call_of d p ≡ Some call) × (open_call_of d p ≡ Some (open_call call))
lock-opened d p lock = let call = there_is (lock_call_of d p) lock in (call.0, call.1, lock-open (open_call_of d p) call.0 call.1)

-- what a body answers to the call of a load or store
pub page-answered : (d : DeskState) (p : ℕ) (body : Body) → IsAccessing d p → answers d p body ≡ true → IsBody d.node body
    → (x : Answer) × (a : PageAnswer) × (answer_of body ≡ Some x) × (page_answer d p x ≡ Some a) × IsPageAnswer d p a
page-answered d p body access fits range = by_answer (answer_of body) refl (said-some d p body access fits)
  where
    by_answer : (o : Option Answer) → answer_of body ≡ o → IsSome (said_to d p o) → (x : Answer) × (a : PageAnswer) × (answer_of body ≡ Some x) × (page_answer d p x ≡ Some a) × IsPageAnswer d p a
    by_answer None is some = absurd (cc)
    by_answer (Some x) is some =
        let a = there_is (page_answer d p x) some in
        (x, a.0, is, a.1, record { accessing = access; answer = x; says = a.1; range = subst (IsBody d.node) (answer-is body x is) range })

-- which is not that of a load or store
pub lock-other : (d : DeskState) (p : ℕ) → IsSome (lock_call_of d p) → IsNotAccessing d p
lock-other d p lock same = let h : IsSome (Some Access >>= lock_call) = rw same at lock in cc

-- an operation that a desk answers is in its ranges
pub desk_op-is : (op : Op) (o : DeskOp) → desk_op op ≡ Some o → IsOp op → IsOp (op_of o)
desk_op-is (ops.Load spot count) o is range = subst (λ (x : DeskOp). IsOp (op_of x)) (same_Some (DeskOp.Loads spot count) o is) range
desk_op-is (ops.Store spot bytes) o is range = subst (λ (x : DeskOp). IsOp (op_of x)) (same_Some (DeskOp.Stores spot bytes) o is) range
desk_op-is (ops.Length u) o is range = subst (λ (x : DeskOp). IsOp (op_of x)) (same_Some (DeskOp.Measures u) o is) range
desk_op-is (ops.Map u) o is range = subst (λ (x : DeskOp). IsOp (op_of x)) (same_Some (DeskOp.Maps u) o is) range
desk_op-is (ops.Unmap u) o is range = subst (λ (x : DeskOp). IsOp (op_of x)) (same_Some (DeskOp.Unmaps u) o is) range
desk_op-is op o is range = absurd (cc)

-- an open call that is one of a lock, an unlock or a removal
pub lock-some : (d : DeskState) (p : ℕ) (oc : OpenCall) → open_call_of d p ≡ Some oc → IsSome (lock_call oc) → IsSome (lock_call_of d p)
lock-some d p oc opened some = subst (λ (o : Option OpenCall). IsSome (o >>= lock_call)) (sym opened) some
