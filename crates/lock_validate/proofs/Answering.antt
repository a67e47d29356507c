-- Each outcome at a home's answer is good, and so is what a link fault leaves; pages are dropped only where they may be.
use Rattle.std.proofs.Common.{◌≡◌, ℕ, ◌≤◌, Bool, true, false, [], Option, Some, None, IsSome, refl, sym, subst, ◌∙◌}
use Rattle.std.specs.Prelude.{not, ◌&&◌}
use Rattle.uid_names.specs.Names.{ObjectName}
use Rattle.uid_names.specs.declared.mode.Mode.{Mode}
use Rattle.dom_history.specs.declared.op.Op.{Op}
use Rattle.dom_history.specs.declared.op.Op.TheVariants as ops
use Rattle.dom_history.specs.declared.op.Reply.TheVariants.{Fine, Conflict, NoObject, Kept, Doubt}
use Rattle.dom_history.specs.declared.deed.LockState.{LockState}
use Rattle.dom_history.specs.declared.deed.LockState.TheVariants.{Free, Held, Taking, Releasing, Deleting}
use Rattle.dom_history.specs.Fitting.{Fits}
use Rattle.dom_history.specs.Locks.{mode_at_home}
use Rattle.version_stamps.specs.Stamps.{stamp_of}
use Rattle.ring_messages.specs.Bodies.{Answer, body_of_answer}
use Rattle.ring_messages.specs.Ranges.{IsBody}
use Rattle.fault_handler.specs.declared.tasks.Task.{Task}
use Rattle.fault_handler.specs.Desks.{DeskState, entry_at, state_of, open_call_of, task_of, moving_of, others_keep, any_keeps}
use Rattle.fault_handler.specs.Changes.{with_call, with_state, with_raised, with_page_done, with_length_done}
use Rattle.fault_handler.specs.Outcomes.{Moved}
use Rattle.fault_handler.specs.LockCalls.{LockCall, LockAnswer, open_call, lock_answer}
use Rattle.fault_handler.specs.Invariant.{IsProc, IsDesk}
use Rattle.fault_handler.specs.Conditions.{IsIdle, IsNotAccessing}
use Rattle.fault_handler.specs.Ready.{KeepsOthers, LockStands, WriterStands, ReleaseStands, CallStands, IsReady}
use Rattle.fault_handler.specs.Next.{release_op, IsCallOf, IsOpen}
use Rattle.lock_validate.specs.Releases.{release_of}
use Rattle.lock_validate.specs.Answers.{after_drop, dropped_of, is_seen, is_fresh, learned, granted, gone, stamps_kept, removed, answered, answer_came_of}
use Rattle.lock_validate.specs.Faults.{failed, call_failed_of}
use Rattle.fault_handler.proofs.Fours.{at-put_same}
use Rattle.fault_handler.proofs.KnownKeeps.{IsDesk-with_raised, IsDesk-with_length_done}
use Rattle.fault_handler.proofs.TransitKeeps.{keeps_writing-keeps, IsDesk-with_page_done}
use Rattle.fault_handler.proofs.Outcomes.{IsAfter}
use Rattle.lock_validate.proofs.Entries.{keeping-set}
use Rattle.lock_validate.proofs.Good.{ended-good}
use Rattle.lock_validate.proofs.Releasing.{release_of-good}
use Rattle.lock_validate.proofs.Standing.{AnswerStands, stands-answer, closed-stands, call-stands, closed-desk, closed-call, own-call}

-- good from a desk of the same node, and for the same operation by another name
pub good-from : (d e : DeskState) (p : ℕ) (op : Op) (m : Moved) → e.node ≡ d.node → e.nodes ≡ d.nodes → IsAfter e.node e.nodes p op m → IsAfter d.node d.nodes p op m
good-from d e p op m node nodes good = record { asks = good.asks; next = good.next; ready = good.ready; fits = good.fits; node = good.node ∙ node; nodes = good.nodes ∙ nodes }

good-as : (d : DeskState) (p : ℕ) (op same : Op) (m : Moved) → op ≡ same → IsAfter d.node d.nodes p same m → IsAfter d.node d.nodes p op m
good-as d p op same m own = subst (λ (o : Op). IsAfter d.node d.nodes p o m) (sym own)

-- an unlock or a removal whose lock is kept
release-kept : (delete : Bool) (u : ObjectName) → Fits (release_op delete u) Kept
release-kept true u = refl
release-kept false u = refl

-- a desk on which no call of the process is open
module _ (d : DeskState) (p : ℕ) (is : IsDesk d) (proc : IsProc p) (no_call : open_call_of d p ≡ None) where
  other : IsNotAccessing d p
  other same = let e : None ≡ Some _ = sym no_call ∙ same in cc

  -- the process's state on an object was set, and nothing else that speaks of the process changed
  set-idle : (u : ObjectName) (s : LockState) (grant : ℕ) → moving_of d p ≡ None → KeepsOthers d p u → IsIdle (with_state d p u s grant) p
  set-idle u s grant still others = record { no_call = no_call; no_page = still; keeping = keeping-set d p u is proc s grant others }

  lock-idle : (u : ObjectName) → LockStands d p u → IsIdle d p
  lock-idle u stands = record { no_call = no_call; no_page = stands.still; keeping = stands.others }

  granted-good : (u : ObjectName) (m : Mode) (grant stamp room n : ℕ) (alone : Bool) (seen : Option ℕ) → LockStands d p u → IsAfter d.node d.nodes p (ops.Lock u m) (granted d p u m grant stamp room n alone seen)
  granted-good u m grant stamp room n alone seen stands =
      let set = set-idle u (Held m) grant stands.still (λ v differs. stands.others v) in
      ended-good d (with_state (learned (alone && is_fresh stamp seen) (after_drop (alone && not (is_seen stamp seen)) d u) u stamp room n) p u (Held m) grant) p (ops.Lock u m) refl refl Fine
      (dropped_of (alone && not (is_seen stamp seen)) d u) (record { no_call = set.no_call; no_page = set.no_page; keeping = set.keeping }) refl

  gone-good : (u : ObjectName) (m : Mode) (keeping : Bool) → LockStands d p u → IsAfter d.node d.nodes p (ops.Lock u m) (gone d u keeping)
  gone-good u m keeping stands =
      ended-good d (after_drop (not keeping) d u) p (ops.Lock u m) refl refl NoObject (dropped_of (not keeping) d u) (record { no_call = no_call; no_page = stands.still; keeping = stands.others }) refl

  removed-good : (u : ObjectName) (keeping : Bool) → ReleaseStands d p u → IsAfter d.node d.nodes p (ops.Delete u) (removed (with_state d p u Free 0) u keeping)
  removed-good u keeping stands =
      let e = with_state d p u Free 0 in
      let set = set-idle u Free 0 stands.still stands.others in
      ended-good d (record (after_drop (not keeping) e u) { seen = stamps_kept keeping u e.seen }) p (ops.Delete u) refl refl Fine (dropped_of (not keeping) e u)
      (record { no_call = set.no_call; no_page = set.no_page; keeping = set.keeping }) refl

  -- a page or a length that was sent is settled: the tests are made anew
  module _ (u : ObjectName) (delete : Bool) (writer : WriterStands d p u delete) (stamp : ℕ) (least : 1 ≤ stamp) where
    seen : IsSome (stamp_of u d.seen)
    seen = is.known.kept p proc u (keeps_writing-keeps (entry_at d.entries p u) writer.writes)

    page-settled-good : (taken : Bool) → IsAfter d.node d.nodes p (release_op delete u) (release_of (with_raised (with_page_done d p taken) u stamp) p u delete)
    page-settled-good taken =
        let e = with_raised (with_page_done d p taken) u stamp in
        good-from d e p (release_op delete u) (release_of e p u delete) refl refl
        (release_of-good e p u (IsDesk-with_raised (with_page_done d p taken) u stamp (IsDesk-with_page_done d p is proc taken other) seen least) proc
        (record { no_call = no_call; no_page = at-put_same d.moving p None None is.four.moving proc; keeping = writer.others }) delete writer.writes writer.may)

    length-settled-good : (n : ℕ) (taken : Bool) → moving_of d p ≡ None → IsAfter d.node d.nodes p (release_op delete u) (release_of (with_raised (with_length_done d u n taken) u stamp) p u delete)
    length-settled-good n taken still =
        let e = with_raised (with_length_done d u n taken) u stamp in
        good-from d e p (release_op delete u) (release_of e p u delete) refl refl
        (release_of-good e p u (IsDesk-with_raised (with_length_done d u n taken) u stamp (IsDesk-with_length_done d u n taken is) seen least) proc
        (record { no_call = no_call; no_page = still; keeping = writer.others }) delete writer.writes writer.may)

  pub answered-good : (op : Op) (a : LockAnswer) → AnswerStands d p op a → IsAfter d.node d.nodes p op (answered d p a)
  answered-good op (LockAnswer.Granted u m grant stamp room n) stands =
      good-as d p op (ops.Lock u m) (answered d p (LockAnswer.Granted u m grant stamp room n)) stands.1
      (granted-good u m grant stamp room n (not (others_keep d.entries p u)) (stamp_of u d.seen) stands.0)
  answered-good op (LockAnswer.Refused q held) stands =
      good-as d p op (ops.Lock stands.0 stands.1) (answered d p (LockAnswer.Refused q held)) stands.3
      (ended-good d d p (ops.Lock stands.0 stands.1) refl refl (Conflict q held) [] (lock-idle stands.0 stands.2) refl)
  answered-good op (LockAnswer.Gone u) stands =
      good-as d p op (ops.Lock u stands.0) (answered d p (LockAnswer.Gone u)) stands.2 (gone-good u stands.0 (any_keeps d.entries u) stands.1)
  answered-good op (LockAnswer.PageSettled u delete taken stamp) stands =
      good-as d p op (release_op delete u) (answered d p (LockAnswer.PageSettled u delete taken stamp)) stands.2 (page-settled-good u delete stands.0 stamp stands.1 taken)
  answered-good op (LockAnswer.LengthSettled u n delete taken stamp) stands =
      good-as d p op (release_op delete u) (answered d p (LockAnswer.LengthSettled u n delete taken stamp)) stands.3 (length-settled-good u delete stands.0 stamp stands.2 n taken stands.1)
  answered-good op (LockAnswer.Released u) stands =
      good-as d p op (ops.Unlock u) (answered d p (LockAnswer.Released u)) stands.1
      (ended-good d (with_state d p u Free 0) p (ops.Unlock u) refl refl Fine [] (set-idle u Free 0 stands.0.still stands.0.others) refl)
  answered-good op (LockAnswer.Removed u) stands =
      good-as d p op (ops.Delete u) (answered d p (LockAnswer.Removed u)) stands.2 (removed-good u (any_keeps (with_state d p u Free 0).entries u) stands.0)

  -- what a link fault leaves of a call that stands
  failed-good : (op : Op) (call : LockCall) → CallStands d p call → IsCallOf op None (Some (open_call call)) → IsAfter d.node d.nodes p op (failed d p call)
  failed-good op (LockCall.Lock u m) stands own =
      good-as d p op (ops.Lock u m) (failed d p (LockCall.Lock u m)) own
      (ended-good d (with_state d p u (Taking m) 0) p (ops.Lock u m) refl refl Doubt [] (set-idle u (Taking m) 0 stands.still (λ v differs. stands.others v)) refl)
  failed-good op (LockCall.PageOut u k delete) stands own =
      good-as d p op (release_op delete u) (failed d p (LockCall.PageOut u k delete)) own
      (ended-good d (with_page_done d p false) p (release_op delete u) refl refl Kept []
      (record { no_call = no_call; no_page = at-put_same d.moving p None None is.four.moving proc; keeping = stands.0.others }) (release-kept delete u))
  failed-good op (LockCall.AttrOut u n delete) stands own =
      good-as d p op (release_op delete u) (failed d p (LockCall.AttrOut u n delete)) own
      (ended-good d d p (release_op delete u) refl refl Kept [] (record { no_call = no_call; no_page = stands.1; keeping = stands.0.others }) (release-kept delete u))
  failed-good op (LockCall.Unlock u) stands own =
      good-as d p op (ops.Unlock u) (failed d p (LockCall.Unlock u)) own
      (ended-good d (with_state d p u (Releasing (mode_at_home (state_of d p u))) 0) p (ops.Unlock u) refl refl Doubt []
      (set-idle u (Releasing (mode_at_home (state_of d p u))) 0 stands.still stands.others) refl)
  failed-good op (LockCall.Remove u) stands own =
      good-as d p op (ops.Delete u) (failed d p (LockCall.Remove u)) own
      (ended-good d (with_state d p u Deleting 0) p (ops.Delete u) refl refl Doubt [] (set-idle u Deleting 0 stands.0.still stands.0.others) refl)

-- a call of a lock, an unlock or a removal names its operation, whatever load or store is open
no_task : (op : Op) (call : LockCall) (task : Option Task) → IsCallOf op task (Some (open_call call)) → IsCallOf op None (Some (open_call call))
no_task op (LockCall.Lock u m) task own = own
no_task op (LockCall.PageOut u k delete) task own = own
no_task op (LockCall.AttrOut u n delete) task own = own
no_task op (LockCall.Unlock u) task own = own
no_task op (LockCall.Remove u) task own = own

-- a ready process whose open call is one of a lock, an unlock or a removal, of this operation
module _ (d : DeskState) (p : ℕ) (is : IsDesk d) (proc : IsProc p) (ready : IsReady d p) (call : LockCall) (opened : open_call_of d p ≡ Some (open_call call)) where
  -- an answer that fits the call stands on the desk on which it is open no more
  pub answer-stands : (op : Op) (x : Answer) (a : LockAnswer) (to : ℕ) → IsOpen d p op → lock_answer call x ≡ Some a → IsBody to (body_of_answer x) → AnswerStands (with_call d p None) p op a
  answer-stands op x a to own fits range =
      stands-answer (with_call d p None) p op (task_of d p) to call x a fits (closed-stands d p call (call-stands d p is proc ready call opened)) (own-call d p is proc ready call opened op (task_of d p) own) range

  pub answer_came_of-good : (op : Op) (x : Answer) (a : LockAnswer) (to : ℕ) → IsOpen d p op → lock_answer call x ≡ Some a → IsBody to (body_of_answer x) → IsAfter d.node d.nodes p op (answer_came_of d p a)
  answer_came_of-good op x a to own fits range =
      good-from d (with_call d p None) p op (answer_came_of d p a) refl refl
      (answered-good (with_call d p None) p (closed-desk d p is proc ready call opened) proc (closed-call d p is proc ready call opened) op a (answer-stands op x a to own fits range))

  pub call_failed_of-good : (op : Op) → IsOpen d p op → IsAfter d.node d.nodes p op (call_failed_of d p call)
  call_failed_of-good op own =
      good-from d (with_call d p None) p op (call_failed_of d p call) refl refl
      (failed-good (with_call d p None) p (closed-desk d p is proc ready call opened) proc (closed-call d p is proc ready call opened) op call
      (closed-stands d p call (call-stands d p is proc ready call opened)) (no_task op call (task_of d p) (own-call d p is proc ready call opened op (task_of d p) own)))
