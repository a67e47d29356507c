-- An answer that an open call is given says something to its operation.
use Rattle.std.proofs.Common.{◌≡◌, ℕ, Bool, Option, Some, None, IsSome, refl, sym, ap, subst, ◌∙◌}
use Rattle.std.specs.Option.{option_map}
use Rattle.uid_names.specs.Names.{ObjectName}
use Rattle.uid_names.specs.Steps.{◌>>=◌}
use Rattle.uid_names.specs.declared.mode.Mode.{Mode}
use Rattle.dom_history.specs.declared.op.Op.{Op}
use Rattle.dom_history.specs.declared.op.Op.TheVariants as ops
use Rattle.page_cache.specs.Caches.{Resident, page_at}
use Rattle.ring_messages.specs.Bodies.{Ask, Answer, body_of_answer}
use Rattle.ring_messages.proofs.Asking.{answers-back}
use Rattle.fault_handler.specs.declared.tasks.Task.{Task}
use Rattle.fault_handler.specs.declared.transits.Transit.{Transit}
use Rattle.fault_handler.specs.declared.open_call.OpenCall.{OpenCall}
use Rattle.fault_handler.specs.declared.open_call.OpenCall.TheVariants as calls
use Rattle.fault_handler.specs.Desks.{DeskState, open_call_of, task_of, moving_of}
use Rattle.fault_handler.specs.Invariant.{IsProc, IsDesk, FitsTransit}
use Rattle.fault_handler.specs.Next.{IsTaskOf, IsCallOf, IsRequestOf, IsRequest}
use Rattle.fault_handler.specs.PageReplies.{PageAnswer, answer_outward, answer_with}
use Rattle.fault_handler.specs.Transits.{coming, going}
use Rattle.node_runs.specs.Agreements.{IsCallOpen, IsCalling}
use Rattle.node_runs.specs.Operations.{Said, said_to_new, said_to_list, said_to_call, said_by, said_of}
use Rattle.run_laws.specs.FittingAnswers.{CanAnswer, AnswersLock, AnswersUnlock, AnswersMake, AnswersList}
use Rattle.run_laws.specs.OpenDecisions.{IsPageTold, IsWriteTold, IsRight}

abbrev SaysWhat : Option Said → Type 0
SaysWhat o = (said : Said) × (o ≡ Some said)

-- a new object, a list
new-told : (answer : Answer) → AnswersMake answer → SaysWhat (said_to_new answer)
new-told (Answer.Made u) can = (_, refl)
new-told Answer.NoSpace can = (_, refl)
new-told _ can = absurd can

list-told : (answer : Answer) → AnswersList answer → SaysWhat (said_to_list answer)
list-told (Answer.Listed rows more) can = (_, refl)
list-told _ can = absurd can

module _ (d : DeskState) (p : ℕ) where
  -- a lock, an unlock, a removal
  lock-told : (u : ObjectName) (m : Mode) (answer : Answer) → AnswersLock answer → SaysWhat (said_to_call d p answer (calls.Lock u m))
  lock-told u m (Answer.Granted grant stamp kind room n) can = (_, refl)
  lock-told u m (Answer.Conflict q held) can = (_, refl)
  lock-told u m Answer.NoObject can = (_, refl)
  lock-told u m _ can = absurd can

  unlock-told : (u : ObjectName) (answer : Answer) → AnswersUnlock answer → SaysWhat (said_to_call d p answer (calls.Unlock u))
  unlock-told u Answer.Done can = (_, refl)
  unlock-told u _ can = absurd can

  remove-told : (u : ObjectName) (answer : Answer) → answer ≡ Answer.Done → SaysWhat (said_to_call d p answer (calls.Remove u))
  remove-told u answer is = subst (λ (a : Answer). SaysWhat (said_to_call d p a (calls.Remove u))) (sym is) (_, refl)

  -- a page or a length that goes home first
  page-told : (u : ObjectName) (k : ℕ) (delete : Bool) (answer : Answer) → IsWriteTold answer → SaysWhat (said_to_call d p answer (calls.PageOut u k delete))
  page-told u k delete (Answer.Stored stamp) told = (_, refl)
  page-told u k delete (Answer.Stale stamp) told = (_, refl)
  page-told u k delete _ told = absurd told

  length-told : (u : ObjectName) (n : ℕ) (delete : Bool) (answer : Answer) → IsWriteTold answer → SaysWhat (said_to_call d p answer (calls.AttrOut u n delete))
  length-told u n delete (Answer.Stored stamp) told = (_, refl)
  length-told u n delete (Answer.Stale stamp) told = (_, refl)
  length-told u n delete _ told = absurd told

  no-task : (op : Op) → IsTaskOf op None → ⊥
  no-task (ops.Load spot count) is = is
  no-task (ops.Store spot bytes) is = is
  no-task _ is = is

  -- a load or store: its page comes, or one goes home to make room
  page-comes : (op : Op) (task : Option Task) (u : ObjectName) (k : ℕ) (answer : Answer) → IsTaskOf op task → IsPageTold answer → (a : PageAnswer) × (answer_with d.cache.pages task (coming u k) answer ≡ Some a)
  page-comes op None u k answer is told = absurd (no-task op is)
  page-comes op (Some task) u k (Answer.Page stamp bytes) is told = (_, refl)
  page-comes op (Some task) u k _ is told = absurd told

  page-goes : (task : Task) (page : Option Resident) (answer : Answer) → IsSome page → IsWriteTold answer → (a : PageAnswer) × (answer_outward task page answer ≡ Some a)
  page-goes task None answer is told = absurd (cc)
  page-goes task (Some r) (Answer.Stored stamp) is told = (_, refl)
  page-goes task (Some r) (Answer.Stale stamp) is told = (_, refl)
  page-goes task (Some r) _ is told = absurd told

  room-goes : (op : Op) (task : Option Task) (u : ObjectName) (k : ℕ) (answer : Answer) → IsTaskOf op task → IsSome (page_at d.cache.pages u k) → IsWriteTold answer
      → (a : PageAnswer) × (answer_with d.cache.pages task (going u k) answer ≡ Some a)
  room-goes op None u k answer is there told = absurd (no-task op is)
  room-goes op (Some task) u k answer is there told = page-goes task (page_at d.cache.pages u k) answer there told

  to-access : (moving : Option Transit) (answer : Answer) → moving_of d p ≡ moving → (a : PageAnswer) × (answer_with d.cache.pages (task_of d p) moving answer ≡ Some a) → SaysWhat (said_to_call d p answer calls.Access)
  to-access moving answer is found = (Said.ToAccess found.0, ap (λ (t : Option Transit). option_map Said.ToAccess (answer_with d.cache.pages (task_of d p) t answer)) is ∙ ap (option_map Said.ToAccess) found.1)

  module _ (desk : IsDesk d) (proc : IsProc p) (op : Op) (answer : Answer) where
    resident : (u : ObjectName) (k : ℕ) → moving_of d p ≡ going u k → IsSome (page_at d.cache.pages u k)
    resident u k is = (subst (FitsTransit d.cache.pages d.entries p) is (desk.moved.each p proc)).0

    access-told : (ask : Ask) → IsTaskOf op (task_of d p) → IsRequestOf (moving_of d p) calls.Access ask → IsRight ask answer → SaysWhat (said_to_call d p answer calls.Access)
    access-told (Ask.PageIn u k) task is right = to-access (coming u k) answer is (page-comes op (task_of d p) u k answer task right)
    access-told (Ask.PageOut u k grant base bytes) task is right = to-access (going u k) answer is (room-goes op (task_of d p) u k answer task (resident u k is) right)
    access-told _ task is right = absurd is

    call-told : (call : OpenCall) (ask : Ask) → IsCallOf op (task_of d p) (Some call) → IsRequestOf (moving_of d p) call ask → CanAnswer ask answer → IsRight ask answer → SaysWhat (said_to_call d p answer call)
    call-told calls.Access ask of is can right = access-told ask of is right
    call-told (calls.Lock u m) (Ask.Lock v n) of is can right = lock-told u m answer can
    call-told (calls.PageOut u k delete) (Ask.PageOut v j grant base bytes) of is can right = page-told u k delete answer right
    call-told (calls.AttrOut u n delete) (Ask.AttrOut v m grant base) of is can right = length-told u n delete answer right
    call-told (calls.Unlock u) (Ask.Unlock v) of is can right = unlock-told u answer can
    call-told (calls.Remove u) (Ask.Remove v) of is can right = remove-told u answer right
    call-told _ _ of is can right = absurd is

    open-told : (ask : Ask) (call : Option OpenCall) → open_call_of d p ≡ call → IsCallOf op (task_of d p) call → IsRequest (moving_of d p) call ask → CanAnswer ask answer → IsRight ask answer
        → SaysWhat (open_call_of d p >>= said_to_call d p answer)
    open-told ask None e of is can right = absurd is
    open-told ask (Some call) e of is can right =
        let told = call-told call ask of is can right in (told.0, ap (λ (o : Option OpenCall). o >>= said_to_call d p answer) e ∙ told.1)

  called-told : IsDesk d → IsProc p → (op : Op) (ask : Ask) (answer : Answer) → IsCallOpen d p op ask → CanAnswer ask answer → IsRight ask answer → SaysWhat (open_call_of d p >>= said_to_call d p answer)
  called-told desk proc op ask answer is can right = open-told desk proc op answer ask (open_call_of d p) refl is.opened is.request can right

  by-op : IsDesk d → IsProc p → (op : Op) (ask : Ask) (answer : Answer) → IsCalling d p op ask → CanAnswer ask answer → IsRight ask answer → SaysWhat (said_by d p op answer)
  by-op desk proc (ops.New home kind room) ask answer is can right = new-told answer (subst (λ (a : Ask). CanAnswer a answer) is.1 can)
  by-op desk proc (ops.List home after) ask answer is can right = list-told answer (subst (λ (a : Ask). CanAnswer a answer) is.1 can)
  by-op desk proc op ask answer is can right = called-told desk proc op ask answer is can right

  pub answer-told : IsDesk d → IsProc p → (op : Op) (ask : Ask) (answer : Answer) → IsCalling d p op ask → CanAnswer ask answer → IsRight ask answer → SaysWhat (said_of d p op (body_of_answer answer))
  answer-told desk proc op ask answer is can right =
      let told = by-op desk proc op ask answer is can right in (told.0, ap (λ (o : Option Answer). o >>= said_by d p op) (answers-back answer) ∙ told.1)
