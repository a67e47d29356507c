-- The call of an operation that a desk answers, and what a reply says to it.
use Rattle.std.proofs.Common.{◌≡◌, ◌≢◌, ℕ, true, false, Option, Some, None, is_some, refl, sym, ap, subst, ◌∙◌}
use Rattle.std.specs.Option.{option_map}
use Rattle.uid_names.specs.Steps.{◌>>=◌}
use Rattle.uid_names.proofs.Somes.{found_there}
use Rattle.dom_history.specs.declared.op.Op.{Op}
use Rattle.dom_history.specs.declared.op.Op.TheVariants as ops
use Rattle.dom_history.specs.declared.op.Want.{Want}
use Rattle.dom_history.specs.declared.op.Want.TheVariants.{Do}
use Rattle.ring_messages.specs.declared.body.Body.{Body}
use Rattle.ring_messages.specs.Bodies.{Answer, answer_of}
use Rattle.fault_handler.specs.declared.open_call.OpenCall.{OpenCall}
use Rattle.fault_handler.specs.declared.open_call.OpenCall.TheVariants as calls
use Rattle.fault_handler.specs.Desks.{DeskState, open_call_of}
use Rattle.fault_handler.specs.PageReplies.{PageAnswer, page_answer}
use Rattle.fault_handler.specs.LockCalls.{LockCall, LockAnswer, lock_call, lock_answer, fits_lock_call, fits_call, fits_by, answers}
use Rattle.lock_validate.specs.Answers.{answer_at, lock_answer_of}
use Rattle.node_runs.specs.Operations.{Said, said_to_lock, said_to_call, said_by, said_of, call_failed, failed}
use Rattle.node_runs.proofs.Keeping.{IsDeskOp}
use Rattle.node_core.specs.Processes.{is_new, is_list}

-- nothing is there
map-none : {A B : Type 0} (f : A → B) (o : Option A) → is_some o ≡ false → option_map f o ≡ None
map-none f None is = refl
map-none f (Some x) is = absurd (cc)

-- neither a New nor a List
desk-one : (op : Op) → is_new (Do op) ≡ false → is_list (Do op) ≡ false → IsDeskOp op
desk-one (ops.New home kind room) new list = absurd (cc)
desk-one (ops.List home after) new list = absurd (cc)
desk-one (ops.Lock u m) new list = tt
desk-one (ops.Unlock u) new list = tt
desk-one (ops.Delete u) new list = tt
desk-one (ops.Load spot count) new list = tt
desk-one (ops.Store spot bytes) new list = tt
desk-one (ops.Length u) new list = tt
desk-one (ops.Map u) new list = tt
desk-one (ops.Unmap u) new list = tt

pub desk-op : (want : Want) (op : Op) → is_new want ≡ false → is_list want ≡ false → want ≡ Do op → IsDeskOp op
desk-op want op new list wants = desk-one op (subst (λ w. is_new w ≡ false) wants new) (subst (λ w. is_list w ≡ false) wants list)

-- the call of a lock, an unlock or a removal
pub lock-there : (call : OpenCall) → call ≢ calls.Access → (l : LockCall) × (lock_call call ≡ Some l)
lock-there calls.Access other = absurd (other refl)
lock-there (calls.Lock u m) other = (LockCall.Lock u m, refl)
lock-there (calls.PageOut u k delete) other = (LockCall.PageOut u k delete, refl)
lock-there (calls.AttrOut u n delete) other = (LockCall.AttrOut u n delete, refl)
lock-there (calls.Unlock u) other = (LockCall.Unlock u, refl)
lock-there (calls.Remove u) other = (LockCall.Remove u, refl)

module _ (d : DeskState) (p : ℕ) (op : Op) (desk : IsDeskOp op) where
  desk-says : (o : Op) → IsDeskOp o → (answer : Answer) → said_by d p o answer ≡ (open_call_of d p >>= said_to_call d p answer)
  desk-says (ops.New home kind room) is answer = absurd is
  desk-says (ops.List home after) is answer = absurd is
  desk-says (ops.Lock u m) is answer = refl
  desk-says (ops.Unlock u) is answer = refl
  desk-says (ops.Delete u) is answer = refl
  desk-says (ops.Load spot count) is answer = refl
  desk-says (ops.Store spot bytes) is answer = refl
  desk-says (ops.Length u) is answer = refl
  desk-says (ops.Map u) is answer = refl
  desk-says (ops.Unmap u) is answer = refl

  desk-fails : (o : Op) → IsDeskOp o → failed d p o ≡ (open_call_of d p >>= λ call. call_failed d p (lock_call call))
  desk-fails (ops.New home kind room) is = absurd is
  desk-fails (ops.List home after) is = absurd is
  desk-fails (ops.Lock u m) is = refl
  desk-fails (ops.Unlock u) is = refl
  desk-fails (ops.Delete u) is = refl
  desk-fails (ops.Load spot count) is = refl
  desk-fails (ops.Store spot bytes) is = refl
  desk-fails (ops.Length u) is = refl
  desk-fails (ops.Map u) is = refl
  desk-fails (ops.Unmap u) is = refl

  -- a body that does not answer the open call says nothing
  pub unsaid : (body : Body) → answers d p body ≡ false → said_of d p op body ≡ None
  unsaid body not = by_answer (answer_of body) not
    where
      by_lock : (answer : Answer) (l : Option LockCall) → fits_lock_call d p answer l ≡ false → said_to_lock d p answer l ≡ None
      by_lock answer None unfit = map-none Said.ToAccess (page_answer d p answer) unfit
      by_lock answer (Some l) unfit = map-none Said.ToLock (lock_answer l answer) unfit

      by_call : (answer : Answer) (c : Option OpenCall) → fits_call d p c answer ≡ false → (c >>= said_to_call d p answer) ≡ None
      by_call answer None unfit = refl
      by_call answer (Some call) unfit = by_lock answer (lock_call call) unfit

      by_answer : (o : Option Answer) → fits_by d p o ≡ false → (o >>= said_by d p op) ≡ None
      by_answer None unfit = refl
      by_answer (Some answer) unfit = desk-says op desk answer ∙ by_call answer (open_call_of d p) unfit

  -- it says this
  said-as : (body : Body) (answer : Answer) (call : OpenCall) → answer_of body ≡ Some answer → open_call_of d p ≡ Some call → said_of d p op body ≡ said_to_lock d p answer (lock_call call)
  said-as body answer call tells opened = ap (λ o. o >>= said_by d p op) tells ∙ desk-says op desk answer ∙ ap (λ c. c >>= said_to_call d p answer) opened

  fits-as : (body : Body) (answer : Answer) (call : OpenCall) → answers d p body ≡ true → answer_of body ≡ Some answer → open_call_of d p ≡ Some call → fits_lock_call d p answer (lock_call call) ≡ true
  fits-as body answer call fits tells opened = sym (ap (fits_by d p) tells ∙ ap (λ c. fits_call d p c answer) opened) ∙ fits

  answer-there : (o : Option Answer) → fits_by d p o ≡ true → (answer : Answer) × (o ≡ Some answer)
  answer-there None fits = absurd (cc)
  answer-there (Some answer) fits = (answer, refl)

  -- to a load or a store
  pub said-access : (body : Body) → answers d p body ≡ true → open_call_of d p ≡ Some calls.Access
      → (answer : Answer) × (a : PageAnswer) × (answer_of body ≡ Some answer) × (page_answer d p answer ≡ Some a) × (said_of d p op body ≡ Some (Said.ToAccess a))
  said-access body fits opened =
      let answer = answer-there (answer_of body) fits in
      let a = found_there (page_answer d p answer.0) (fits-as body answer.0 calls.Access fits answer.1 opened) in
      (answer.0, a.0, answer.1, a.1, said-as body answer.0 calls.Access answer.1 opened ∙ ap (option_map Said.ToAccess) a.1)

  -- to a lock, an unlock or a removal
  pub said-lock : (body : Body) (call : OpenCall) → answers d p body ≡ true → open_call_of d p ≡ Some call → call ≢ calls.Access
      → (a : LockAnswer) × (lock_answer_of d p body ≡ Some a) × (said_of d p op body ≡ Some (Said.ToLock a))
  said-lock body call fits opened other =
      let answer = answer-there (answer_of body) fits in
      let l = lock-there call other in
      let a = found_there (lock_answer l.0 answer.0) (sym (ap (fits_lock_call d p answer.0) l.1) ∙ fits-as body answer.0 call fits answer.1 opened) in (
        a.0,
        ap (λ c. c >>= λ x. answer_at x body) opened ∙ ap (λ c. c >>= λ x. answer_of body >>= lock_answer x) l.1 ∙ ap (λ o. o >>= lock_answer l.0) answer.1 ∙ a.1,
        said-as body answer.0 call answer.1 opened ∙ ap (said_to_lock d p answer.0) l.1 ∙ ap (option_map Said.ToLock) a.1,
      )

  -- a call that fails
  pub fails-as : (call : OpenCall) → open_call_of d p ≡ Some call → failed d p op ≡ call_failed d p (lock_call call)
  fails-as call opened = desk-fails op desk ∙ ap (λ c. c >>= λ x. call_failed d p (lock_call x)) opened

-- only one operation is wanted
pub one-op : (want : Want) (a b : Op) → want ≡ Do a → want ≡ Do b → a ≡ b
one-op want a b is as_well = cc
