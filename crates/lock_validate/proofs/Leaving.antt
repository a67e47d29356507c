-- What each call leaves of its process, by what the crates of the desk say of their calls.
use Rattle.std.proofs.Common.{◌≡◌, ℕ, Option, Some, refl, sym, subst}
use Rattle.dom_history.specs.declared.op.Op.{Op}
use Rattle.dom_history.specs.declared.op.Op.TheVariants as ops
use Rattle.dom_history.specs.declared.op.Reply.TheVariants.{LinkFault}
use Rattle.dom_history.specs.Fitting.{Fits}
use Rattle.dom_history.specs.Ranges.{IsOp}
use Rattle.fault_handler.specs.declared.tasks.Task.{Task}
use Rattle.fault_handler.specs.declared.transits.Transit.{Transit}
use Rattle.fault_handler.specs.Desks.{DeskState, task_of, moving_of, open_call_of}
use Rattle.fault_handler.specs.Outcomes.{Moved, ended}
use Rattle.fault_handler.specs.Accesses.{DeskOp, Accessed, Always, access_of}
use Rattle.fault_handler.specs.PageReplies.{PageAnswer, page_came_of, access_failed_of}
use Rattle.fault_handler.specs.LockCalls.{LockCall, open_call}
use Rattle.fault_handler.specs.Invariant.{IsProc, IsDesk}
use Rattle.fault_handler.specs.Conditions.{IsIdle, IsAccessing}
use Rattle.fault_handler.specs.Ready.{IsReady}
use Rattle.fault_handler.specs.Next.{FitsTurn, IsAsked, IsNext, IsTaskOf, IsCallOf, IsOpen, release_op}
use Rattle.fault_handler.proofs.Choice.{named-may}
use Rattle.fault_handler.proofs.Outcomes.{IsAfter, Holds, Holds-always, Holds-more}
use Rattle.fault_handler.proofs.Accessing.{IsDoneAfter, ready-idle}
use Rattle.fault_handler.proofs.Beginning.{access_of-after}
use Rattle.fault_handler.proofs.Answering.{page_came_of-after, access_failed_of-after, some-op}
use Rattle.lock_validate.specs.Locking.{begin_lock_of}
use Rattle.lock_validate.specs.Releases.{begin_release_of}
use Rattle.lock_validate.specs.Answers.{answer_came_of}
use Rattle.lock_validate.specs.Faults.{call_failed_of}
use Rattle.lock_validate.proofs.Answering.{answer_came_of-good, call_failed_of-good}
use Rattle.lock_validate.proofs.Releasing.{begin_lock_of-good, begin_release_of-good}
use Rattle.lock_validate.specs.Causes.{Cause, IsPageAnswer, op_of, comes_of, MayCome, IsOf, AfterEach}
use Rattle.lock_validate.specs.Room.{FindsRoom}
use Rattle.lock_validate.proofs.Facts.{Always-then}
use Rattle.lock_validate.proofs.PageSaid.{page-said}

-- what is asked can be asked, the process is ready, and what the operation comes to is what it may come to
pub record IsLeft (p : ℕ) (op : Op) (m : Moved) : Type 0 where
  pub asks : IsAsked m.desk.nodes m.turn
  pub ready : IsReady m.desk p
  pub fits : FitsTurn op m.turn
  pub next : IsNext m.desk p op m.turn

after-left : (own all p : ℕ) (op : Op) (m : Moved) → IsAfter own all p op m → IsLeft p op m
after-left own all p op m after = record { asks = after.asks; ready = after.ready; fits = after.fits; next = after.next }

-- a load or store may end with a link fault
fault-fits : (op : Op) (task : Option Task) → IsTaskOf op task → Fits op LinkFault
fault-fits (ops.Load spot count) task of = refl
fault-fits (ops.Store spot bytes) task of = refl
fault-fits op task of = absurd of

module _ (d : DeskState) (p : ℕ) (is : IsDesk d) (proc : IsProc p) where
  held-left : (op : Op) (a : Accessed) → Holds p (IsAfter d.node d.nodes p op) a → Holds p (IsLeft p op) a
  held-left op a = Holds-more p (IsAfter d.node d.nodes p op) (IsLeft p op) a (after-left d.node d.nodes p op)

  access-left : (o : DeskOp) → IsIdle d p → IsOp (op_of o) → Holds p (IsLeft p (op_of o)) (access_of d p o)
  access-left (DeskOp.Loads spot count) idle range = held-left (ops.Load spot count) _ (access_of-after d p is proc idle (ops.Load spot count) range)
  access-left (DeskOp.Stores spot bytes) idle range = held-left (ops.Store spot bytes) _ (access_of-after d p is proc idle (ops.Store spot bytes) range)
  access-left (DeskOp.Measures u) idle range = held-left (ops.Length u) _ (access_of-after d p is proc idle (ops.Length u) range)
  access-left (DeskOp.Maps u) idle range = held-left (ops.Map u) _ (access_of-after d p is proc idle (ops.Map u) range)
  access-left (DeskOp.Unmaps u) idle range = held-left (ops.Unmap u) _ (access_of-after d p is proc idle (ops.Unmap u) range)

  page-left : (a : PageAnswer) → IsPageAnswer d p a → (op : Op) → IsOpen d p op → Holds p (IsLeft p op) (page_came_of d p a)
  page-left a came op of =
      held-left op (page_came_of d p a)
      (Holds-more p (IsDoneAfter d.node d.nodes p op) (IsAfter d.node d.nodes p op) (page_came_of d p a) (λ m done. done.0) (page_came_of-after d p is proc came.accessing op of a (page-said d p is proc a came)))

  failed-left : (t : Transit) → IsAccessing d p → moving_of d p ≡ Some t → (op : Op) → IsOpen d p op → IsLeft p op (ended (access_failed_of d p t) LinkFault)
  failed-left t accessing moves op of =
      let after = access_failed_of-after d p is proc accessing t moves in
      let task_is : IsTaskOf op (task_of d p) = subst (IsCallOf op (task_of d p)) accessing of in
      record { asks = tt; ready = ready-idle (access_failed_of d p t) p after.1; fits = fault-fits op (task_of d p) task_is; next = after.1 }

  pub comes_of-left : (c : Cause) (op : Op) → MayCome d p c → IsOf d p c op → Holds p (IsLeft p op) (comes_of d p c)
  comes_of-left (Cause.Accesses access) op may of = subst (λ (o : Op). Holds p (IsLeft p o) (access_of d p access)) (sym of) (access-left access may.0 may.1)
  comes_of-left (Cause.Locks u m) op may of = subst (λ (o : Op). IsLeft p o (begin_lock_of d p u m)) (sym of) (after-left d.node d.nodes p (ops.Lock u m) (begin_lock_of d p u m) (begin_lock_of-good d p u is proc may m))
  comes_of-left (Cause.Releases delete u) op may of =
      subst (λ (o : Op). IsLeft p o (begin_release_of d p delete u)) (sym of) (after-left d.node d.nodes p (release_op delete u) (begin_release_of d p delete u) (begin_release_of-good d p u is proc may delete))
  comes_of-left (Cause.PageCame a) op may of = page-left a may op of
  comes_of-left (Cause.AnswerCame a) op may of = after-left d.node d.nodes p op (answer_came_of d p a) (answer_came_of-good d p is proc may.ready may.call may.opened op may.answer a d.node of may.says may.range)
  comes_of-left (Cause.AccessFailed t) op may of = failed-left t may.0 may.1 op of
  comes_of-left (Cause.CallFailed call) op may of = after-left d.node d.nodes p op (call_failed_of d p call) (call_failed_of-good d p is proc may.0 call may.1 op of)

  -- the operation of a lock's, an unlock's or a removal's open call
  call-op : (call : LockCall) → open_call_of d p ≡ Some (open_call call) → (op : Op) × IsOpen d p op
  call-op call opened = let found = by_call call in (found.0, subst (IsCallOf found.0 (task_of d p)) (sym opened) found.1)
    where
      by_call : (c : LockCall) → (op : Op) × IsCallOf op (task_of d p) (Some (open_call c))
      by_call (LockCall.Lock u m) = (ops.Lock u m, refl)
      by_call (LockCall.PageOut u k delete) = (release_op delete u, refl)
      by_call (LockCall.AttrOut u n delete) = (release_op delete u, refl)
      by_call (LockCall.Unlock u) = (ops.Unlock u, refl)
      by_call (LockCall.Remove u) = (ops.Delete u, refl)

  -- each call is of an operation
  pub some-of : (c : Cause) → MayCome d p c → (op : Op) × IsOf d p c op
  some-of (Cause.Accesses access) may = (op_of access, refl)
  some-of (Cause.Locks u m) may = (ops.Lock u m, refl)
  some-of (Cause.Releases delete u) may = (release_op delete u, refl)
  some-of (Cause.PageCame a) may = some-op d p is proc may.accessing
  some-of (Cause.AnswerCame a) may = call-op may.call may.opened
  some-of (Cause.AccessFailed t) may = some-op d p is proc may.0
  some-of (Cause.CallFailed call) may = call-op call may.1

-- what holds after each call, of whatever operation it is
pub left-after : (P : DeskState → ℕ → Cause → Moved → Type 0) → ((d : DeskState) (p : ℕ) (c : Cause) (op : Op) (m : Moved) → IsOf d p c op → IsLeft p op m → P d p c m) → AfterEach P
left-after P follows d p c is proc may =
    let found = some-of d p is proc c may in
    Always-then p (IsLeft p found.0) (P d p c) (λ m left. follows d p c found.0 m found.1 left) (comes_of d p c) (Holds-always p (IsLeft p found.0) (comes_of d p c) (comes_of-left d p is proc c found.0 may found.1))

-- what holds for each operation however room is made holds of each outcome for each operation
Always-each : (p : ℕ) (Is : Op → Type 0) (Q : Op → Moved → Type 0) (a : Accessed) → ((op : Op) → Is op → Always p (Q op) a) → Always p (λ m. (op : Op) → Is op → Q op m) a
Always-each p Is Q (Accessed.Settled m) each = each
Always-each p Is Q (Accessed.NeedsRoom d task) each = λ victim may op is. each op is victim may

-- what holds after each call, of its operation
pub left-for : (P : DeskState → ℕ → Op → Moved → Type 0) → ((d : DeskState) (p : ℕ) (op : Op) (m : Moved) → IsLeft p op m → P d p op m) → AfterEach (λ d p c m. (op : Op) → IsOf d p c op → P d p op m)
left-for P follows d p c is proc may =
    Always-each p (IsOf d p c) (P d p) (comes_of d p c) (λ op of. Always-then p (IsLeft p op) (P d p op) (follows d p op) (comes_of d p c) (Holds-always p (IsLeft p op) (comes_of d p c) (comes_of-left d p is proc c op may of)))

-- where room is needed a page is named that may make it
finds-room : (p : ℕ) (P : Moved → Type 0) (a : Accessed) → Holds p P a → FindsRoom a
finds-room p P (Accessed.Settled m) holds = tt
finds-room p P (Accessed.NeedsRoom d task) holds = (holds.0, λ victim named. named-may d victim holds.1 named)

pub comes_of-finds : (d : DeskState) (p : ℕ) (c : Cause) → IsDesk d → IsProc p → MayCome d p c → FindsRoom (comes_of d p c)
comes_of-finds d p c is proc may = let found = some-of d p is proc c may in finds-room p (IsLeft p found.0) (comes_of d p c) (comes_of-left d p is proc c found.0 may found.1)
