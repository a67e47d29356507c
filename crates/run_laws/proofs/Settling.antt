-- Which call settles an operation: an answer to a page or a length that was sent never ends one, and a call that is given
-- up ends it by a link fault.
use Rattle.std.proofs.Common.{◌≡◌, ℕ, Bool, true, false, Option, Some, None, refl, sym, subst}
use Rattle.std.proofs.lemmas.Option.{same_Some}
use Rattle.uid_names.specs.Names.{ObjectName}
use Rattle.uid_names.specs.declared.mode.Mode.{Mode}
use Rattle.uid_names.specs.Steps.{◌>>=◌}
use Rattle.uid_names.proofs.Somes.{bind-some, map-some}
use Rattle.dom_history.specs.declared.op.Op.{Op}
use Rattle.dom_history.specs.declared.op.Op.TheVariants as ops
use Rattle.page_cache.specs.Numbers.{dirty_page}
use Rattle.ring_messages.specs.declared.body.Body.{Body}
use Rattle.ring_messages.specs.Bodies.{Ask, Answer, answer_of}
use Rattle.fault_handler.specs.declared.open_call.OpenCall.{OpenCall}
use Rattle.fault_handler.specs.declared.open_call.OpenCall.TheVariants as calls
use Rattle.fault_handler.specs.declared.transits.Transit.{Transit}
use Rattle.fault_handler.specs.Lengths.{known_of, changed_length}
use Rattle.fault_handler.specs.Desks.{DeskState, open_call_of, moving_of, other_transit}
use Rattle.fault_handler.specs.Changes.{with_call, with_raised, with_page_done, with_length_done}
use Rattle.fault_handler.specs.Outcomes.{Turn, Moved}
use Rattle.fault_handler.specs.LockCalls.{LockCall, LockAnswer, lock_call, open_call, lock_answer}
use Rattle.fault_handler.specs.PageReplies.{page_answer}
use Rattle.fault_handler.specs.Next.{IsRequestOf, IsRequest}
use Rattle.lock_validate.specs.Releases.{length_first, page_first, transit_first, release_of}
use Rattle.lock_validate.specs.Answers.{answer_came_of}
use Rattle.lock_validate.specs.Faults.{call_failed_of}
use Rattle.node_runs.specs.Operations.{Said, said_to_new, said_to_list, said_to_lock, said_to_call, said_by, said_of, access_failed, call_failed, failed}
use Rattle.node_runs.specs.Agreements.{IsCalling}
use Rattle.node_runs.specs.RunHistories.{is_fault}
use Rattle.run_laws.specs.Progress.{IsSettling}

-- the operation goes on
abbrev pub GoesOn : Turn → Type 0
GoesOn (Turn.Ends reply) = ⊥
GoesOn (Turn.Asks home ask) = Unit {0}
GoesOn (Turn.Waits u k) = Unit {0}

abbrev pub IsFaultTurn : Turn → Type 0
IsFaultTurn (Turn.Ends reply) = is_fault reply ≡ true
IsFaultTurn (Turn.Asks home ask) = ⊥
IsFaultTurn (Turn.Waits u k) = ⊥

-- the operation ends exactly where the call was one that settles it
abbrev pub SettlesOr : Ask → Turn → Type 0
SettlesOr ask (Turn.Ends reply) = IsSettling ask
SettlesOr ask (Turn.Asks home asked) = IsSettling ask → ⊥
SettlesOr ask (Turn.Waits u k) = IsSettling ask → ⊥

abbrev EndsIt : Turn → Type 0
EndsIt (Turn.Ends reply) = Unit {0}
EndsIt (Turn.Asks home asked) = ⊥
EndsIt (Turn.Waits u k) = ⊥

-- a load's or store's never settles it: it is done at the desk
abbrev pub MaySettle : DeskState → ℕ → Ask → Said → Type 0
MaySettle d p ask (Said.Replies reply) = IsSettling ask
MaySettle d p ask (Said.ToAccess answer) = IsSettling ask → ⊥
MaySettle d p ask (Said.ToLock answer) = SettlesOr ask (answer_came_of d p answer).turn

goes-settles : (ask : Ask) (turn : Turn) → GoesOn turn → (IsSettling ask → ⊥) → SettlesOr ask turn
goes-settles ask (Turn.Ends reply) goes part = absurd goes
goes-settles ask (Turn.Asks home asked) goes part = part
goes-settles ask (Turn.Waits u k) goes part = part

settles-all : (ask : Ask) (turn : Turn) → EndsIt turn → IsSettling ask → SettlesOr ask turn
settles-all ask (Turn.Ends reply) ends is = is
settles-all ask (Turn.Asks home asked) ends is = absurd ends
settles-all ask (Turn.Waits u k) ends is = absurd ends

module _ (d : DeskState) (p : ℕ) (u : ObjectName) (delete : Bool) where
  length_first-goes : (o : Option ℕ) → GoesOn (length_first d p u delete o).turn
  length_first-goes (Some n) = tt
  length_first-goes None = tt

  page_first-goes : (o : Option ℕ) → GoesOn (page_first d p u delete o).turn
  page_first-goes (Some k) = tt
  page_first-goes None = length_first-goes (changed_length (known_of u d.known))

  transit_first-goes : (o : Option ℕ) → GoesOn (transit_first d p u delete o).turn
  transit_first-goes (Some k) = tt
  transit_first-goes None = page_first-goes (dirty_page d.cache.pages u)

  release_of-goes : GoesOn (release_of d p u delete).turn
  release_of-goes = transit_first-goes (other_transit d.moving p u)

-- the request of a lock, an unlock or a removal settles it
lock-settles : (moving : Option Transit) (u : ObjectName) (m : Mode) (ask : Ask) → IsRequestOf moving (calls.Lock u m) ask → IsSettling ask
lock-settles moving u m (Ask.PageIn v k) is = absurd is
lock-settles moving u m (Ask.PageOut v k grant base bytes) is = absurd is
lock-settles moving u m (Ask.AttrOut v n grant base) is = absurd is
lock-settles moving u m (Ask.Lock v n) is = tt
lock-settles moving u m (Ask.Unlock v) is = tt
lock-settles moving u m (Ask.Remove v) is = tt
lock-settles moving u m (Ask.Make kind room) is = tt
lock-settles moving u m (Ask.ListLocks after) is = tt

unlock-settles : (moving : Option Transit) (u : ObjectName) (ask : Ask) → IsRequestOf moving (calls.Unlock u) ask → IsSettling ask
unlock-settles moving u (Ask.PageIn v k) is = absurd is
unlock-settles moving u (Ask.PageOut v k grant base bytes) is = absurd is
unlock-settles moving u (Ask.AttrOut v n grant base) is = absurd is
unlock-settles moving u (Ask.Lock v n) is = tt
unlock-settles moving u (Ask.Unlock v) is = tt
unlock-settles moving u (Ask.Remove v) is = tt
unlock-settles moving u (Ask.Make kind room) is = tt
unlock-settles moving u (Ask.ListLocks after) is = tt

remove-settles : (moving : Option Transit) (u : ObjectName) (ask : Ask) → IsRequestOf moving (calls.Remove u) ask → IsSettling ask
remove-settles moving u (Ask.PageIn v k) is = absurd is
remove-settles moving u (Ask.PageOut v k grant base bytes) is = absurd is
remove-settles moving u (Ask.AttrOut v n grant base) is = absurd is
remove-settles moving u (Ask.Lock v n) is = tt
remove-settles moving u (Ask.Unlock v) is = tt
remove-settles moving u (Ask.Remove v) is = tt
remove-settles moving u (Ask.Make kind room) is = tt
remove-settles moving u (Ask.ListLocks after) is = tt

-- that of a page or a length does not
access-part : (moving : Option Transit) (ask : Ask) → IsRequestOf moving calls.Access ask → IsSettling ask → ⊥
access-part moving (Ask.PageIn v j) is = λ settles. settles
access-part moving (Ask.PageOut v j grant base bytes) is = λ settles. settles
access-part moving (Ask.AttrOut v n grant base) is = λ settles. settles
access-part moving (Ask.Lock v n) is = λ settles. absurd is
access-part moving (Ask.Unlock v) is = λ settles. absurd is
access-part moving (Ask.Remove v) is = λ settles. absurd is
access-part moving (Ask.Make kind room) is = λ settles. absurd is
access-part moving (Ask.ListLocks after) is = λ settles. absurd is

page-part : (moving : Option Transit) (u : ObjectName) (k : ℕ) (delete : Bool) (ask : Ask) → IsRequestOf moving (calls.PageOut u k delete) ask → IsSettling ask → ⊥
page-part moving u k delete (Ask.PageIn v j) is = λ settles. settles
page-part moving u k delete (Ask.PageOut v j grant base bytes) is = λ settles. settles
page-part moving u k delete (Ask.AttrOut v n grant base) is = λ settles. settles
page-part moving u k delete (Ask.Lock v n) is = λ settles. absurd is
page-part moving u k delete (Ask.Unlock v) is = λ settles. absurd is
page-part moving u k delete (Ask.Remove v) is = λ settles. absurd is
page-part moving u k delete (Ask.Make kind room) is = λ settles. absurd is
page-part moving u k delete (Ask.ListLocks after) is = λ settles. absurd is

length-part : (moving : Option Transit) (u : ObjectName) (length : ℕ) (delete : Bool) (ask : Ask) → IsRequestOf moving (calls.AttrOut u length delete) ask → IsSettling ask → ⊥
length-part moving u length delete (Ask.PageIn v j) is = λ settles. settles
length-part moving u length delete (Ask.PageOut v j grant base bytes) is = λ settles. settles
length-part moving u length delete (Ask.AttrOut v n grant base) is = λ settles. settles
length-part moving u length delete (Ask.Lock v n) is = λ settles. absurd is
length-part moving u length delete (Ask.Unlock v) is = λ settles. absurd is
length-part moving u length delete (Ask.Remove v) is = λ settles. absurd is
length-part moving u length delete (Ask.Make kind room) is = λ settles. absurd is
length-part moving u length delete (Ask.ListLocks after) is = λ settles. absurd is

module _ (d : DeskState) (p : ℕ) (ask : Ask) where
  page-goes : (u : ObjectName) (k : ℕ) (delete : Bool) (answer : Answer) (said : LockAnswer) → lock_answer (LockCall.PageOut u k delete) answer ≡ Some said → GoesOn (answer_came_of d p said).turn
  page-goes u k delete (Answer.Stored stamp) said e = subst (λ a. GoesOn (answer_came_of d p a).turn) (same_Some (LockAnswer.PageSettled u delete true stamp) said e) (release_of-goes (with_raised (with_page_done (with_call d p None) p true) u stamp) p u delete)
  page-goes u k delete (Answer.Stale stamp) said e = subst (λ a. GoesOn (answer_came_of d p a).turn) (same_Some (LockAnswer.PageSettled u delete false stamp) said e) (release_of-goes (with_raised (with_page_done (with_call d p None) p false) u stamp) p u delete)
  page-goes u k delete answer said e = absurd (cc)

  length-goes : (u : ObjectName) (n : ℕ) (delete : Bool) (answer : Answer) (said : LockAnswer) → lock_answer (LockCall.AttrOut u n delete) answer ≡ Some said → GoesOn (answer_came_of d p said).turn
  length-goes u n delete (Answer.Stored stamp) said e = subst (λ a. GoesOn (answer_came_of d p a).turn) (same_Some (LockAnswer.LengthSettled u n delete true stamp) said e) (release_of-goes (with_raised (with_length_done (with_call d p None) u n true) u stamp) p u delete)
  length-goes u n delete (Answer.Stale stamp) said e = subst (λ a. GoesOn (answer_came_of d p a).turn) (same_Some (LockAnswer.LengthSettled u n delete false stamp) said e) (release_of-goes (with_raised (with_length_done (with_call d p None) u n false) u stamp) p u delete)
  length-goes u n delete answer said e = absurd (cc)

  lock-ends : (u : ObjectName) (m : Mode) (answer : Answer) (said : LockAnswer) → lock_answer (LockCall.Lock u m) answer ≡ Some said → EndsIt (answer_came_of d p said).turn
  lock-ends u m (Answer.Granted grant stamp kind room n) said e = subst (λ a. EndsIt (answer_came_of d p a).turn) (same_Some (LockAnswer.Granted u m grant stamp room n) said e) tt
  lock-ends u m (Answer.Conflict q held) said e = subst (λ a. EndsIt (answer_came_of d p a).turn) (same_Some (LockAnswer.Refused q held) said e) tt
  lock-ends u m Answer.NoObject said e = subst (λ a. EndsIt (answer_came_of d p a).turn) (same_Some (LockAnswer.Gone u) said e) tt
  lock-ends u m answer said e = absurd (cc)

  unlock-ends : (u : ObjectName) (answer : Answer) (said : LockAnswer) → lock_answer (LockCall.Unlock u) answer ≡ Some said → EndsIt (answer_came_of d p said).turn
  unlock-ends u Answer.Done said e = subst (λ a. EndsIt (answer_came_of d p a).turn) (same_Some (LockAnswer.Released u) said e) tt
  unlock-ends u answer said e = absurd (cc)

  remove-ends : (u : ObjectName) (answer : Answer) (said : LockAnswer) → lock_answer (LockCall.Remove u) answer ≡ Some said → EndsIt (answer_came_of d p said).turn
  remove-ends u Answer.Done said e = subst (λ a. EndsIt (answer_came_of d p a).turn) (same_Some (LockAnswer.Removed u) said e) tt
  remove-ends u answer said e = absurd (cc)

  said-lock : (moving : Option Transit) (call : LockCall) (answer : Answer) (said : LockAnswer) → lock_answer call answer ≡ Some said → IsRequestOf moving (open_call call) ask → SettlesOr ask (answer_came_of d p said).turn
  said-lock moving (LockCall.Lock u m) answer said e is = settles-all ask (answer_came_of d p said).turn (lock-ends u m answer said e) (lock-settles moving u m ask is)
  said-lock moving (LockCall.PageOut u k delete) answer said e is = goes-settles ask (answer_came_of d p said).turn (page-goes u k delete answer said e) (page-part moving u k delete ask is)
  said-lock moving (LockCall.AttrOut u n delete) answer said e is = goes-settles ask (answer_came_of d p said).turn (length-goes u n delete answer said e) (length-part moving u n delete ask is)
  said-lock moving (LockCall.Unlock u) answer said e is = settles-all ask (answer_came_of d p said).turn (unlock-ends u answer said e) (unlock-settles moving u ask is)
  said-lock moving (LockCall.Remove u) answer said e is = settles-all ask (answer_came_of d p said).turn (remove-ends u answer said e) (remove-settles moving u ask is)

  to-lock : (moving : Option Transit) (call : LockCall) (answer : Answer) (said : Said) → said_to_lock d p answer (Some call) ≡ Some said → IsRequestOf moving (open_call call) ask → MaySettle d p ask said
  to-lock moving call answer said e is = let found = map-some Said.ToLock (lock_answer call answer) said e in subst (MaySettle d p ask) (sym found.2) (said-lock moving call answer found.0 found.1 is)

  to-access : (moving : Option Transit) (answer : Answer) (said : Said) → said_to_lock d p answer None ≡ Some said → IsRequestOf moving calls.Access ask → MaySettle d p ask said
  to-access moving answer said e is = let found = map-some Said.ToAccess (page_answer d p answer) said e in subst (MaySettle d p ask) (sym found.2) (access-part moving ask is)

  to-call : (moving : Option Transit) (answer : Answer) (call : OpenCall) (said : Said) → said_to_call d p answer call ≡ Some said → IsRequestOf moving call ask → MaySettle d p ask said
  to-call moving answer calls.Access said e is = to-access moving answer said e is
  to-call moving answer (calls.Lock u m) said e is = to-lock moving (LockCall.Lock u m) answer said e is
  to-call moving answer (calls.PageOut u k delete) said e is = to-lock moving (LockCall.PageOut u k delete) answer said e is
  to-call moving answer (calls.AttrOut u n delete) said e is = to-lock moving (LockCall.AttrOut u n delete) answer said e is
  to-call moving answer (calls.Unlock u) said e is = to-lock moving (LockCall.Unlock u) answer said e is
  to-call moving answer (calls.Remove u) said e is = to-lock moving (LockCall.Remove u) answer said e is

  to-desk : (moving : Option Transit) (answer : Answer) (o : Option OpenCall) (said : Said) → (o >>= said_to_call d p answer) ≡ Some said → IsRequest moving o ask → MaySettle d p ask said
  to-desk moving answer None said e is = absurd is
  to-desk moving answer (Some call) said e is = to-call moving answer call said e is

  to-new : (answer : Answer) (said : Said) → said_to_new answer ≡ Some said → IsSettling ask → MaySettle d p ask said
  to-new (Answer.Made u) said e is = subst (MaySettle d p ask) (same_Some (Said.Replies _) said e) is
  to-new Answer.NoSpace said e is = subst (MaySettle d p ask) (same_Some (Said.Replies _) said e) is
  to-new answer said e is = absurd (cc)

  to-list : (answer : Answer) (said : Said) → said_to_list answer ≡ Some said → IsSettling ask → MaySettle d p ask said
  to-list (Answer.Listed rows more) said e is = subst (MaySettle d p ask) (same_Some (Said.Replies _) said e) is
  to-list answer said e is = absurd (cc)

  to-op : (op : Op) (answer : Answer) (said : Said) → said_by d p op answer ≡ Some said → IsCalling d p op ask → MaySettle d p ask said
  to-op (ops.New home kind room) answer said e is = to-new answer said e (subst IsSettling (sym is.1) tt)
  to-op (ops.List home after) answer said e is = to-list answer said e (subst IsSettling (sym is.1) tt)
  to-op (ops.Lock u m) answer said e is = to-desk (moving_of d p) answer (open_call_of d p) said e is.request
  to-op (ops.Unlock u) answer said e is = to-desk (moving_of d p) answer (open_call_of d p) said e is.request
  to-op (ops.Delete u) answer said e is = to-desk (moving_of d p) answer (open_call_of d p) said e is.request
  to-op (ops.Load spot count) answer said e is = to-desk (moving_of d p) answer (open_call_of d p) said e is.request
  to-op (ops.Store spot bytes) answer said e is = to-desk (moving_of d p) answer (open_call_of d p) said e is.request
  to-op (ops.Length u) answer said e is = to-desk (moving_of d p) answer (open_call_of d p) said e is.request
  to-op (ops.Map u) answer said e is = to-desk (moving_of d p) answer (open_call_of d p) said e is.request
  to-op (ops.Unmap u) answer said e is = to-desk (moving_of d p) answer (open_call_of d p) said e is.request

  -- an answer that fits
  pub said-settles : (op : Op) (body : Body) (said : Said) → said_of d p op body ≡ Some said → IsCalling d p op ask → MaySettle d p ask said
  said-settles op body said e is = let found = bind-some (answer_of body) (said_by d p op) said e in to-op op found.0 said found.2 is

module _ (d : DeskState) (p : ℕ) where
  lock-fault : (call : LockCall) → IsFaultTurn (call_failed_of d p call).turn
  lock-fault (LockCall.Lock u m) = refl
  lock-fault (LockCall.PageOut u k delete) = refl
  lock-fault (LockCall.AttrOut u n delete) = refl
  lock-fault (LockCall.Unlock u) = refl
  lock-fault (LockCall.Remove u) = refl

  call-fault : (o : Option LockCall) (to : Moved) → call_failed d p o ≡ Some to → IsFaultTurn to.turn
  call-fault None to e = let found = map-some (access_failed d p) (moving_of d p) to e in subst (λ (m : Moved). IsFaultTurn m.turn) (sym found.2) refl
  call-fault (Some call) to e = subst (λ (m : Moved). IsFaultTurn m.turn) (same_Some (call_failed_of d p call) to e) (lock-fault call)

  desk-fault : (o : Option OpenCall) (to : Moved) → (o >>= λ call. call_failed d p (lock_call call)) ≡ Some to → IsFaultTurn to.turn
  desk-fault None to e = absurd (cc)
  desk-fault (Some call) to e = call-fault (lock_call call) to e

  -- a call that is given up
  pub failed-fault : (op : Op) (to : Moved) → failed d p op ≡ Some to → IsFaultTurn to.turn
  failed-fault (ops.New home kind room) to e = subst (λ (m : Moved). IsFaultTurn m.turn) (same_Some _ to e) refl
  failed-fault (ops.List home after) to e = subst (λ (m : Moved). IsFaultTurn m.turn) (same_Some _ to e) refl
  failed-fault (ops.Lock u m) to e = desk-fault (open_call_of d p) to e
  failed-fault (ops.Unlock u) to e = desk-fault (open_call_of d p) to e
  failed-fault (ops.Delete u) to e = desk-fault (open_call_of d p) to e
  failed-fault (ops.Load spot count) to e = desk-fault (open_call_of d p) to e
  failed-fault (ops.Store spot bytes) to e = desk-fault (open_call_of d p) to e
  failed-fault (ops.Length u) to e = desk-fault (open_call_of d p) to e
  failed-fault (ops.Map u) to e = desk-fault (open_call_of d p) to e
  failed-fault (ops.Unmap u) to e = desk-fault (open_call_of d p) to e
