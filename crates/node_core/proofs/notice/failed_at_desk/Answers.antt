use Rattle.std.proofs.Common.{ap, sym, ◌∙◌}
use Rattle.std.proofs.lemmas.Option.{same_Some}
use Rattle.uid_names.specs.Steps.{◌>>=◌}
use Rattle.uid_names.proofs.Somes.{map-some}
use Rattle.dom_history.specs.declared.op.Reply.TheVariants.{LinkFault}
use Rattle.fault_handler.specs.Desks.{DeskState, moving_of}
use Rattle.fault_handler.specs.Outcomes.{ended}
use Rattle.fault_handler.specs.LockCalls.{lock_call}
use Rattle.lock_validate.specs.Faults.{call_failed_of}
use Rattle.node_runs.specs.Operations.{access_failed, call_failed}
use Rattle.node_runs.proofs.Forgetting.{open-calling}
use Rattle.node_core.proofs.Calling.{desk-op, lock-there, fails-as}
use Rattle.node_core.proofs.notice.failed_at_desk.Goals as goal

pub returns-in-Access-clause-outcome : goal.returns-in-Access-clause-outcome
returns-in-Access-clause-outcome c op want m fails =
    let d = c.args.desk.now in
    let p = c.args.proc.number in
    let desk = desk-op c.args.want.now op c.requires.not_new c.requires.not_list want in
    let opened = sym c.open_call.ensures.value ∙ c.in-Some.is in
    let found = map-some (access_failed d p) (moving_of d p) m (sym (fails-as d p op desk c.in-Some.call opened ∙ ap (λ call. call_failed d p (lock_call call)) c.in-Access.is) ∙ fails) in
    found.2 ∙ ap (λ (x : DeskState). ended x LinkFault) (sym (c.access_failed.ensures.desk found.0 found.1)) ∙ ap (ended c.access_failed.new.self) (sym c.access_failed.ensures.reply)

pub returns-in_default-call : goal.returns-in_default-call
returns-in_default-call c =
    let d = c.args.desk.now in
    let p = c.args.proc.number in
    let opened = sym c.open_call.ensures.value ∙ c.in-Some.is in
    let l = lock-there c.in-Some.call c.in_default-call.not-Access in
    record {
      outcome = λ op want m fails.
          let desk = desk-op c.args.want.now op c.requires.not_new c.requires.not_list want in
          same_Some m (call_failed_of d p l.0) (sym fails ∙ (fails-as d p op desk c.in-Some.call opened ∙ ap (call_failed d p) l.1))
          ∙ c.call_failed.ensures.outcome l.0 (ap (λ x. x >>= lock_call) opened ∙ l.1);
      fits = λ op want.
          let calls = c.requires.call op want in
          c.call_failed.ensures.fits op (open-calling d p op calls.0 (desk-op c.args.want.now op c.requires.not_new c.requires.not_list want) calls.1).opened;
      node = c.call_failed.ensures.node;
    }
