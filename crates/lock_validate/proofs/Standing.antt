-- What is known where a home's answer fits an open call that stands, or where a link fault ends one.
use Rattle.std.proofs.Common.{◌≡◌, ◌≢◌, ℕ, ◌≤◌, true, false, Option, Some, None, IsSome, refl, sym, ap, subst, ◌∙◌}
use Rattle.std.proofs.lemmas.Option.{same_Some}
use Rattle.uid_names.specs.Names.{ObjectName}
use Rattle.uid_names.specs.Steps.{◌>>=◌}
use Rattle.uid_names.specs.declared.mode.Mode.{Mode}
use Rattle.dom_history.specs.declared.op.Op.{Op}
use Rattle.dom_history.specs.declared.op.Op.TheVariants as ops
use Rattle.dom_history.specs.Locks.{is_held}
use Rattle.ring_messages.specs.declared.body.Body.{Body}
use Rattle.ring_messages.specs.declared.body.Body.TheVariants as bodies
use Rattle.ring_messages.specs.Bodies.{Answer, answer_of, body_of_answer}
use Rattle.ring_messages.specs.Ranges.{IsBody}
use Rattle.fault_handler.specs.declared.open_call.OpenCall.{OpenCall}
use Rattle.fault_handler.specs.declared.open_call.OpenCall.TheVariants.{Access}
use Rattle.fault_handler.specs.declared.open_call.OpenCall.TheVariants as calls
use Rattle.fault_handler.specs.declared.tasks.Task.{Task}
use Rattle.fault_handler.specs.Desks.{DeskState, state_of, open_call_of, task_of, moving_of}
use Rattle.fault_handler.specs.Changes.{with_call}
use Rattle.fault_handler.specs.LockCalls.{LockCall, LockAnswer, lock_call, open_call, lock_answer, fits_call, fits_by, answers}
use Rattle.fault_handler.specs.Invariant.{IsProc, IsDesk}
use Rattle.fault_handler.specs.Conditions.{IsNotAccessing}
use Rattle.fault_handler.specs.Ready.{LockStands, WriterStands, ReleaseStands, CallStands, MayStand, IsReadyAt, IsReady}
use Rattle.fault_handler.specs.Next.{release_op, IsCallOf, IsOpen}
use Rattle.lock_validate.specs.Answers.{answer_at}
use Rattle.fault_handler.proofs.Fours.{at-put_same}
use Rattle.fault_handler.proofs.LockKeeps.{IsDesk-with_call}
use Rattle.lock_validate.proofs.Good.{lock_call-open, open-other}

-- the call that an answer answers stands, and is one of this operation; a stamp that it tells is from 1
abbrev pub AnswerStands : DeskState → ℕ → Op → LockAnswer → Type 0
AnswerStands d p op (LockAnswer.Granted u m grant stamp room n) = LockStands d p u × (op ≡ ops.Lock u m)
AnswerStands d p op (LockAnswer.Refused q held) = (u : ObjectName) × (m : Mode) × LockStands d p u × (op ≡ ops.Lock u m)
AnswerStands d p op (LockAnswer.Gone u) = (m : Mode) × LockStands d p u × (op ≡ ops.Lock u m)
AnswerStands d p op (LockAnswer.PageSettled u delete taken stamp) = WriterStands d p u delete × (1 ≤ stamp) × (op ≡ release_op delete u)
AnswerStands d p op (LockAnswer.LengthSettled u n delete taken stamp) = WriterStands d p u delete × (moving_of d p ≡ None) × (1 ≤ stamp) × (op ≡ release_op delete u)
AnswerStands d p op (LockAnswer.Released u) = ReleaseStands d p u × (op ≡ ops.Unlock u)
AnswerStands d p op (LockAnswer.Removed u) = ReleaseStands d p u × (is_held (state_of d p u) ≡ true) × (op ≡ ops.Delete u)

pub stands-answer : (d : DeskState) (p : ℕ) (op : Op) (task : Option Task) (to : ℕ) (call : LockCall) (x : Answer) (a : LockAnswer) → lock_answer call x ≡ Some a → CallStands d p call
    → IsCallOf op task (Some (open_call call)) → IsBody to (body_of_answer x) → AnswerStands d p op a
stands-answer d p op task to (LockCall.Lock u m) (Answer.Granted grant stamp kind room n) a is stands own range = subst (AnswerStands d p op) (same_Some (LockAnswer.Granted u m grant stamp room n) a is) (stands, own)
stands-answer d p op task to (LockCall.Lock u m) (Answer.Conflict q held) a is stands own range = subst (AnswerStands d p op) (same_Some (LockAnswer.Refused q held) a is) (u, m, stands, own)
stands-answer d p op task to (LockCall.Lock u m) Answer.NoObject a is stands own range = subst (AnswerStands d p op) (same_Some (LockAnswer.Gone u) a is) (m, stands, own)
stands-answer d p op task to (LockCall.PageOut u k delete) (Answer.Stored stamp) a is stands own range = subst (AnswerStands d p op) (same_Some (LockAnswer.PageSettled u delete true stamp) a is) (stands.0, range, own)
stands-answer d p op task to (LockCall.PageOut u k delete) (Answer.Stale stamp) a is stands own range = subst (AnswerStands d p op) (same_Some (LockAnswer.PageSettled u delete false stamp) a is) (stands.0, range, own)
stands-answer d p op task to (LockCall.AttrOut u n delete) (Answer.Stored stamp) a is stands own range = subst (AnswerStands d p op) (same_Some (LockAnswer.LengthSettled u n delete true stamp) a is) (stands.0, stands.1, range, own)
stands-answer d p op task to (LockCall.AttrOut u n delete) (Answer.Stale stamp) a is stands own range = subst (AnswerStands d p op) (same_Some (LockAnswer.LengthSettled u n delete false stamp) a is) (stands.0, stands.1, range, own)
stands-answer d p op task to (LockCall.Unlock u) Answer.Done a is stands own range = subst (AnswerStands d p op) (same_Some (LockAnswer.Released u) a is) (stands, own)
stands-answer d p op task to (LockCall.Remove u) Answer.Done a is stands own range = subst (AnswerStands d p op) (same_Some (LockAnswer.Removed u) a is) (stands.0, stands.1, own)
stands-answer d p op task to call x a is stands own range = absurd (cc)

-- a call stands on the desk on which it is open no more
pub closed-stands : (d : DeskState) (p : ℕ) (call : LockCall) → CallStands d p call → CallStands (with_call d p None) p call
closed-stands d p (LockCall.Lock u m) stands = record { free = stands.free; room = stands.room; node = stands.node; still = stands.still; others = stands.others }
closed-stands d p (LockCall.PageOut u k delete) stands = (record { writes = stands.0.writes; may = stands.0.may; others = stands.0.others }, stands.1)
closed-stands d p (LockCall.AttrOut u n delete) stands = (record { writes = stands.0.writes; may = stands.0.may; others = stands.0.others }, stands.1)
closed-stands d p (LockCall.Unlock u) stands = record { there = stands.there; noted = stands.noted; still = stands.still; others = stands.others }
closed-stands d p (LockCall.Remove u) stands = (record { there = stands.0.there; noted = stands.0.noted; still = stands.0.still; others = stands.0.others }, stands.1)

-- a ready process whose open call is one of a lock, an unlock or a removal
module _ (d : DeskState) (p : ℕ) (is : IsDesk d) (proc : IsProc p) (ready : IsReady d p) (call : LockCall) (opened : open_call_of d p ≡ Some (open_call call)) where
  pub call-stands : CallStands d p call
  call-stands = subst (MayStand d p) (lock_call-open call) (subst (IsReadyAt d p) opened ready)

  pub call-other : IsNotAccessing d p
  call-other same = open-other call (sym opened ∙ same)

  -- the desk on which it is open no more
  pub closed-desk : IsDesk (with_call d p None)
  closed-desk = IsDesk-with_call d p None is proc call-other (λ e. cc) tt

  pub closed-call : open_call_of (with_call d p None) p ≡ None
  closed-call = at-put_same d.calls p None None is.four.calls proc

  pub own-call : (op : Op) (task : Option Task) → IsCallOf op task (open_call_of d p) → IsCallOf op task (Some (open_call call))
  own-call op task own = subst (IsCallOf op task) opened own

-- the operation of a call
abbrev pub op_of : LockCall → Op
op_of (LockCall.Lock u m) = ops.Lock u m
op_of (LockCall.PageOut u k delete) = release_op delete u
op_of (LockCall.AttrOut u n delete) = release_op delete u
op_of (LockCall.Unlock u) = ops.Unlock u
op_of (LockCall.Remove u) = ops.Delete u

own-op : (task : Option Task) (call : LockCall) → IsCallOf (op_of call) task (Some (open_call call))
own-op task (LockCall.Lock u m) = refl
own-op task (LockCall.PageOut u k delete) = refl
own-op task (LockCall.AttrOut u n delete) = refl
own-op task (LockCall.Unlock u) = refl
own-op task (LockCall.Remove u) = refl

pub is-open : (d : DeskState) (p : ℕ) (call : LockCall) → open_call_of d p ≡ Some (open_call call) → IsOpen d p (op_of call)
is-open d p call opened = subst (IsCallOf (op_of call) (task_of d p)) (sym opened) (own-op (task_of d p) call)

-- which call an open call is
pub lock_call-is : (oc : OpenCall) (call : LockCall) → lock_call oc ≡ Some call → oc ≡ open_call call
lock_call-is calls.Access call is = absurd (cc)
lock_call-is (calls.Lock u m) call is = ap open_call (same_Some (LockCall.Lock u m) call is)
lock_call-is (calls.PageOut u k delete) call is = ap open_call (same_Some (LockCall.PageOut u k delete) call is)
lock_call-is (calls.AttrOut u n delete) call is = ap open_call (same_Some (LockCall.AttrOut u n delete) call is)
lock_call-is (calls.Unlock u) call is = ap open_call (same_Some (LockCall.Unlock u) call is)
lock_call-is (calls.Remove u) call is = ap open_call (same_Some (LockCall.Remove u) call is)

-- the open call of a process that is one of a lock, an unlock or a removal
pub lock-opened : (d : DeskState) (p : ℕ) (oc : OpenCall) → open_call_of d p ≡ Some oc → IsSome (lock_call oc) → (call : LockCall) × (open_call_of d p ≡ Some (open_call call)) × (lock_call oc ≡ Some call)
lock-opened d p oc opened some = by_call (lock_call oc) refl some
  where
    by_call : (o : Option LockCall) → lock_call oc ≡ o → IsSome o → (call : LockCall) × (open_call_of d p ≡ Some (open_call call)) × (lock_call oc ≡ Some call)
    by_call None is none = absurd (cc)
    by_call (Some call) is there = (call, opened ∙ ap (λ (o : OpenCall). Some o) (lock_call-is oc call is), is)

-- which answer a body is
pub answer-is : (body : Body) (x : Answer) → answer_of body ≡ Some x → body ≡ body_of_answer x
answer-is (bodies.Page stamp bytes) x is = ap body_of_answer (same_Some (Answer.Page stamp bytes) x is)
answer-is (bodies.Stored stamp) x is = ap body_of_answer (same_Some (Answer.Stored stamp) x is)
answer-is (bodies.Stale stamp) x is = ap body_of_answer (same_Some (Answer.Stale stamp) x is)
answer-is bodies.NoGrant x is = ap body_of_answer (same_Some Answer.NoGrant x is)
answer-is bodies.NoObject x is = ap body_of_answer (same_Some Answer.NoObject x is)
answer-is (bodies.Granted grant stamp kind room n) x is = ap body_of_answer (same_Some (Answer.Granted grant stamp kind room n) x is)
answer-is (bodies.Conflict q m) x is = ap body_of_answer (same_Some (Answer.Conflict q m) x is)
answer-is bodies.Done x is = ap body_of_answer (same_Some Answer.Done x is)
answer-is (bodies.Made u) x is = ap body_of_answer (same_Some (Answer.Made u) x is)
answer-is bodies.NoSpace x is = ap body_of_answer (same_Some Answer.NoSpace x is)
answer-is (bodies.Listed rows more) x is = ap body_of_answer (same_Some (Answer.Listed rows more) x is)
answer-is body x is = absurd (cc)

-- a body that answers the open call of a process, which is not that of a load or store, has what it answers
fits-answer : (d : DeskState) (p : ℕ) (oc : OpenCall) (x : Option Answer) → open_call_of d p ≡ Some oc → oc ≢ Access → fits_by d p x ≡ true → IsSome (lock_call oc >>= λ c. x >>= lock_answer c)
fits-answer d p oc None opened other fits = absurd (cc)
fits-answer d p oc (Some x) opened other fits = by_call oc other (subst (λ (o : Option OpenCall). fits_call d p o x ≡ true) opened fits)
  where
    by_call : (o : OpenCall) → o ≢ Access → fits_call d p (Some o) x ≡ true → IsSome (lock_call o >>= λ c. lock_answer c x)
    by_call calls.Access differs h = absurd (differs refl)
    by_call (calls.Lock u m) differs h = h
    by_call (calls.PageOut u k delete) differs h = h
    by_call (calls.AttrOut u n delete) differs h = h
    by_call (calls.Unlock u) differs h = h
    by_call (calls.Remove u) differs h = h

pub answers-at : (d : DeskState) (p : ℕ) (oc : OpenCall) (body : Body) → open_call_of d p ≡ Some oc → IsNotAccessing d p → answers d p body ≡ true → IsSome (answer_at oc body)
answers-at d p oc body opened other = fits-answer d p oc (answer_of body) opened (λ same. other (opened ∙ ap (λ (o : OpenCall). Some o) same))

-- the call and the answer by which a body answers an open call
pub answer-parts : (oc : OpenCall) (body : Body) (a : LockAnswer) → answer_at oc body ≡ Some a → (call : LockCall) × (x : Answer) × (oc ≡ open_call call) × (body ≡ body_of_answer x) × (lock_answer call x ≡ Some a)
answer-parts oc body a is = by_call (lock_call oc) refl is
  where
    by_answer : (call : LockCall) → oc ≡ open_call call → (x : Option Answer) → answer_of body ≡ x → (x >>= lock_answer call) ≡ Some a → (c : LockCall) × (y : Answer) × (oc ≡ open_call c) × (body ≡ body_of_answer y) × (lock_answer c y ≡ Some a)
    by_answer call open_is None x_is h = absurd (cc)
    by_answer call open_is (Some x) x_is h = (call, x, open_is, answer-is body x x_is, h)

    by_call : (o : Option LockCall) → lock_call oc ≡ o → (o >>= λ c. answer_of body >>= lock_answer c) ≡ Some a → (c : LockCall) × (y : Answer) × (oc ≡ open_call c) × (body ≡ body_of_answer y) × (lock_answer c y ≡ Some a)
    by_call None o_is h = absurd (cc)
    by_call (Some call) o_is h = by_answer call (lock_call-is oc call o_is) (answer_of body) refl h
