use Rattle.std.proofs.Common.{◌≡◌, IfOk, OnErr, Some, None, IfSome, ap, subst, ◌∙◌, arith}
use Rattle.std.proofs.lemmas.Result.{IfOk-weaker, on_err_weaker}
use Rattle.std.specs.Option.{ForSome}
use Rattle.uid_names.proofs.Somes.{there_is}
use Rattle.dom_history.specs.declared.op.Op.{Op}
use Rattle.ring_messages.specs.Bodies.{body_of_answer}
use Rattle.ring_messages.specs.Ranges.{IsBody}
use Rattle.fault_handler.specs.declared.open_call.OpenCall.{OpenCall}
use Rattle.fault_handler.specs.Desks.{DeskState, open_call_of}
use Rattle.fault_handler.specs.Changes.{with_call}
use Rattle.fault_handler.specs.Outcomes.{Gives}
use Rattle.fault_handler.specs.LockCalls.{open_call}
use Rattle.fault_handler.specs.Next.{IsOpen}
use Rattle.lock_validate.specs.declared.step.Step.{Step}
use Rattle.lock_validate.specs.Steps.{as_step}
use Rattle.lock_validate.specs.Answers.{answered, answer_came_of, answer_at, lock_answer_of}
use Rattle.lock_validate.specs.Wants.{MayWantAt}
use Rattle.fault_handler.proofs.LockKeeps.{IsDesk-with_call}
use Rattle.fault_handler.proofs.Outcomes.{each-some}
use Rattle.lock_validate.proofs.Standing.{op_of, is-open, answers-at, answer-parts}
use Rattle.lock_validate.proofs.Answering.{answer_came_of-good}
use Rattle.lock_validate.proofs.Dropping.{want-open}
use Rattle.lock_validate.proofs.Outcomes.{IsTold, told}
use Rattle.lock_validate.proofs.answers.answer_came.Goals as goal

pub answered-requires-clause-kept : goal.answered-requires-clause-kept
answered-requires-clause-kept c =
    rw c.set_open_call.ensures
    (IsDesk-with_call c.args.desk.now c.args.proc.number None c.open_call-call.ensures.kept (omega arith, omega arith) c.requires.other (λ e. cc) tt)

pub returns : goal.returns
returns c =
    let d = c.args.desk.now in
    let p = c.args.proc.number in
    let body = c.args.body.now in
    let oc = c.in-Some.call in
    let new = c.answered.new.desk in
    let r = c.answered.result in
    let opened : open_call_of d p ≡ Some oc = rw (← c.open_call-call.ensures.value) c.in-Some.is in
    let found = there_is (answer_at oc body) (answers-at d p oc body opened c.requires.other c.requires.fits) in
    let parts = answer-parts oc body found.0 found.1 in
    let call_opened : open_call_of d p ≡ Some (open_call parts.0) = opened ∙ ap (λ (o : OpenCall). Some o) parts.2 in
    let range : IsBody c.args.proc.node (body_of_answer parts.1) = subst (IsBody c.args.proc.node) parts.3 c.requires.range in
    let outcome : IfOk r (λ step. IfSome (answer_at oc body) (λ a. Gives as_step new (answer_came_of d p a) step)) =
    subst (λ (e : DeskState). IfOk r (λ step. IfSome (answer_at oc body) (λ a. Gives as_step new (answered e p a) step))) c.set_open_call.ensures c.answered.ensures.outcome in
    let memory : OnErr r (IfSome (answer_at oc body) (MayWantAt (with_call d p None) p)) =
    subst (λ (e : DeskState). OnErr r (IfSome (answer_at oc body) (MayWantAt e p))) c.set_open_call.ensures c.answered.ensures.memory in
    let gives : IfOk r (Gives as_step new (answer_came_of d p found.0)) =
    IfOk-weaker r (λ (step : Step). IfSome (answer_at oc body) (λ a. Gives as_step new (answer_came_of d p a) step)) (Gives as_step new (answer_came_of d p found.0)) (λ step h. each-some (answer_at oc body) (λ a. Gives as_step new (answer_came_of d p a) step) h found.0 found.1) outcome in
    let tells : (op : Op) → IsOpen d p op → IsTold d new p op r =
    λ op own.
    told d new p op (answer_came_of d p found.0) r
    (answer_came_of-good d p c.open_call-call.ensures.kept (omega arith, omega arith) c.requires.ready parts.0 call_opened op parts.1 found.0 c.args.proc.node own parts.4 range) gives in
    let own = tells (op_of parts.0) (is-open d p parts.0 call_opened) in
    record {
      outcome = IfOk-weaker r (λ (step : Step). IfSome (answer_at oc body) (λ a. Gives as_step new (answer_came_of d p a) step)) (λ step. ForSome (lock_answer_of d p body) (λ a. Gives as_step new (answer_came_of d p a) step)) (λ step h a is. each-some (answer_at oc body) (λ x. Gives as_step new (answer_came_of d p x) step) h a (rw opened at is)) outcome;
      memory = on_err_weaker r (λ h a is. want-open d p a (each-some (answer_at oc body) (MayWantAt (with_call d p None) p) h a (rw opened at is))) memory;
      fits = λ op open_it. (tells op open_it).fits;
      asks = own.asks;
      next = λ op open_it. (tells op open_it).next;
      ready = own.ready;
      node = own.node;
      nodes = own.nodes;
    }
