use Rattle.std.proofs.Common.{◌≡◌, sym, subst, rules}
use Rattle.std.specs.Prelude.{IfSome, IsTrue}
use Rattle.uid_names.proofs.Failures.{on-any-err}
use Rattle.ring_messages.specs.declared.body.Body.{Body}
use Rattle.ring_messages.specs.Bodies.{Answer, ask_of, is_request}
use Rattle.ring_messages.specs.Frames.{caller_of}
use Rattle.ring_messages.proofs.Asking.{asked-of}
use Rattle.page_server.specs.Decisions.{decide}
use Rattle.page_server.proofs.Copying.{MayWant, asked-unchanged, failed-says, nothing-said, said-as}
use Rattle.page_server.proofs.server.fresh.Goals as goal

pub returns-in_err-answer-clause-memory : goal.returns-in_err-answer-clause-memory
returns-in_err-answer-clause-memory g c =
    let m = c.args.frame.now in
    let wants = MayWant c.args.home.now c.args.locks.now in
    failed-says (wants (caller_of m)) c.from_residual.result (ask_of m.body)
    (said-as wants c.body.result.now m.body c.caller-proc.result (caller_of m) c.body.ensures.value c.caller-proc.ensures c.in_err-answer.ensures.memory)

pub returns-in_err-answer-clause-err_home : goal.returns-in_err-answer-clause-err_home
returns-in_err-answer-clause-err_home g c = on-any-err c.from_residual.result c.in_err-answer.ensures.err_home

pub returns-in_err-answer-clause-err_locks : goal.returns-in_err-answer-clause-err_locks
returns-in_err-answer-clause-err_locks g c = on-any-err c.from_residual.result c.in_err-answer.ensures.err_locks

pub returns-in_err-copy-clause-memory : goal.returns-in_err-copy-clause-memory
returns-in_err-copy-clause-memory g c =
    let m = c.args.frame.now in
    let body = c.body.result.now in
    let wants = MayWant c.args.home.now c.args.locks.now in
    let decided = c.in_ok-answer.ensures in
    let asks = asked-of body (subst (λ (b : Body). IsTrue (is_request b)) (sym c.body.ensures.value) c.requires.request) in
    let same = asked-unchanged (ask_of body) asks c.args.home.now c.args.locks.now c.caller-proc.result c.in_ok-answer.answer c.decide.new.home c.decide.new.locks
    decided.answer decided.home decided.locks c.in_err-copy.ensures.memory in
    failed-says (wants (caller_of m)) c.from_residual-in_err-copy.result (ask_of m.body)
    (said-as wants body m.body c.caller-proc.result (caller_of m) c.body.ensures.value c.caller-proc.ensures same.2)

pub returns-in_err-copy-clause-err_home : goal.returns-in_err-copy-clause-err_home
returns-in_err-copy-clause-err_home g c =
    let decided = c.in_ok-answer.ensures in
    let asks = asked-of c.body.result.now (subst (λ (b : Body). IsTrue (is_request b)) (sym c.body.ensures.value) c.requires.request) in
    on-any-err c.from_residual-in_err-copy.result
    (asked-unchanged (ask_of c.body.result.now) asks c.args.home.now c.args.locks.now c.caller-proc.result c.in_ok-answer.answer c.decide.new.home c.decide.new.locks
    decided.answer decided.home decided.locks c.in_err-copy.ensures.memory).0

pub returns-in_err-copy-clause-err_locks : goal.returns-in_err-copy-clause-err_locks
returns-in_err-copy-clause-err_locks g c =
    let decided = c.in_ok-answer.ensures in
    let asks = asked-of c.body.result.now (subst (λ (b : Body). IsTrue (is_request b)) (sym c.body.ensures.value) c.requires.request) in
    on-any-err c.from_residual-in_err-copy.result
    (asked-unchanged (ask_of c.body.result.now) asks c.args.home.now c.args.locks.now c.caller-proc.result c.in_ok-answer.answer c.decide.new.home c.decide.new.locks
    decided.answer decided.home decided.locks c.in_err-copy.ensures.memory).1

pub returns : goal.returns
returns g c =
    let m = c.args.frame.now in
    let body = c.body.result.now in
    let home = c.args.home.now in
    let locks = c.args.locks.now in
    let p = c.caller-proc.result in
    let decided = c.in_ok-answer.ensures in
    let copied = subst (λ (a : Answer). IfSome (ask_of body) (λ ask. a ≡ (decide home locks p ask).answer)) (sym c.in_ok-copy.ensures.copy) decided.answer in
    record {
      answer = said-as (λ q ask. c.in_ok-copy.copy ≡ (decide home locks q ask).answer) body m.body p (caller_of m) c.body.ensures.value c.caller-proc.ensures copied;
      home = said-as (λ q ask. c.decide.new.home ≡ (decide home locks q ask).home) body m.body p (caller_of m) c.body.ensures.value c.caller-proc.ensures decided.home;
      locks = said-as (λ q ask. c.decide.new.locks ≡ (decide home locks q ask).locks) body m.body p (caller_of m) c.body.ensures.value c.caller-proc.ensures decided.locks;
      memory = nothing-said (ask_of m.body);
      served = search rules;
      err_home = tt;
      err_locks = tt;
      err_served = tt;
    }
