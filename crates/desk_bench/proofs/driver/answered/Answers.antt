use Rattle.std.proofs.Common.{◌≡◌, Some, IsSome, refl, sym, ap, ◌∙◌, arith}
use Rattle.ring_messages.specs.Bodies.{answer_of}
use Rattle.fault_handler.specs.declared.open_call.OpenCall.{OpenCall}
use Rattle.fault_handler.specs.Desks.{open_call_of}
use Rattle.fault_handler.specs.PageReplies.{page_came_of}
use Rattle.fault_handler.specs.Outcomes.{as_access, Gives}
use Rattle.fault_handler.specs.Conditions.{IsAccessing}
use Rattle.fault_handler.specs.LockCalls.{lock_call}
use Rattle.fault_handler.specs.Unseen.{said_to}
use Rattle.fault_handler.proofs.Accessing.{IsDoneAfter}
use Rattle.fault_handler.proofs.Answering.{page_answer-said, page_came_of-after, some-op}
use Rattle.lock_validate.specs.Answers.{answer_came_of}
use Rattle.lock_validate.specs.Causes.{Cause}
use Rattle.desk_bench.proofs.Keeps.{page-answered, lock-some, lock-other, lock-answered, came-ready, settled-ready}
use Rattle.desk_bench.proofs.driver.answered.Goals as goal

pub page_came-requires-clause-range : goal.page_came-requires-clause-range
page_came-requires-clause-range c = c.requires.range c.args.proc.node

pub returns-in_ok-page_came-in-Some-Access : goal.returns-in_ok-page_came-in-Some-Access
returns-in_ok-page_came-in-Some-Access c =
    let d = c.args.desk.now in
    let p = c.args.proc.number in
    let is = c.requires.desk in
    let access : IsAccessing d p = sym c.open_call.ensures.value ∙ c.in-Some-Access.is ∙ ap (λ (o : OpenCall). Some o) c.in-Some-Access.field-0-is in
    let x = page-answered d p c.args.body.now access c.requires.fits (c.requires.range d.node) in
    let op = some-op d p is (omega arith, omega arith) access in
    let says : said_to d p (answer_of c.args.body.now) ≡ Some x.1 = rw x.2 x.3 in
    let said = page_answer-said d p is (omega arith, omega arith) access d.node c.args.body.now x.1 (c.requires.range d.node) says in
    came-ready d c.page_came.new.self p c.requires.ready is (omega arith, omega arith) (Cause.PageCame x.1) c.in_ok-page_came-in-Some-Access.ensures.ready
    (IsDoneAfter d.node d.nodes p op.0) (λ m. Gives as_access c.page_came.new.self m c.in_ok-page_came-in-Some-Access.field-0) (page_came_of d p x.1)
    x.4 refl (page_came_of-after d p is (omega arith, omega arith) access op.0 op.1 x.1 said) (c.in_ok-page_came-in-Some-Access.ensures.outcome x.0 x.2 x.1 x.3) (λ m gives. gives.0)

pub answer_came-requires : goal.answer_came-requires
answer_came-requires c =
    let d = c.args.desk.now in
    let p = c.args.proc.number in
    let opened : open_call_of d p ≡ Some c.in-Some.call = sym c.open_call.ensures.value ∙ c.in-Some.is in
    let some : IsSome (lock_call c.in-Some.call) = rw c.if-is_lock_call.true at c.is_lock_call.ensures in
    record {
      own = c.requires.own;
      ready = c.requires.ready p (omega arith, omega arith);
      other = lock-other d p (lock-some d p c.in-Some.call opened some);
      fits = c.requires.fits;
      range = c.requires.range c.args.proc.node;
    }

pub returns-in_ok-answer_came-in-Some : goal.returns-in_ok-answer_came-in-Some
returns-in_ok-answer_came-in-Some c =
    let d = c.args.desk.now in
    let p = c.args.proc.number in
    let opened : open_call_of d p ≡ Some c.in-Some.call = sym c.open_call.ensures.value ∙ c.in-Some.is in
    let some : IsSome (lock_call c.in-Some.call) = rw c.if-is_lock_call.true at c.is_lock_call.ensures in
    let lock = lock-some d p c.in-Some.call opened some in
    let a = lock-answered d p c.args.body.now (c.requires.ready p (omega arith, omega arith)) (lock-other d p lock) lock c.requires.fits (c.requires.range d.node) in
    settled-ready d c.answer_came.new.desk p c.requires.ready c.requires.desk (omega arith, omega arith) (Cause.AnswerCame a.0) c.in_ok-answer_came-in-Some.ensures.ready
    (answer_came_of d p a.0) a.2 refl (c.in_ok-answer_came-in-Some.ensures.outcome a.0 a.1).0
