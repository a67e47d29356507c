use Rattle.std.proofs.Common.{◌≡◌, Option, Some, is_some, ap, sym, subst, ◌∙◌}
use Rattle.std.proofs.lemmas.Result.{IfOk-weaker}
use Rattle.ring_messages.specs.Ranges.{IsBody}
use Rattle.fault_handler.specs.Outcomes.{Outcome}
use Rattle.fault_handler.specs.PageReplies.{page_came_of}
use Rattle.lock_validate.specs.Answers.{answer_came_of}
use Rattle.node_runs.specs.Operations.{Said, said_of}
use Rattle.uid_names.specs.Wires.{wire_room}
use Rattle.node_runs.proofs.Keeping.{answered-moved, answered-within}
use Rattle.node_runs.proofs.Forgetting.{open-calling}
use Rattle.node_core.specs.DeskMoves.{move_seen}
use Rattle.node_core.specs.Processes.{want_at}
use Rattle.node_core.proofs.Calling.{one-op, desk-op, unsaid, said-access, said-lock}
use Rattle.node_core.proofs.Hearing.{heard-nothing, heard-moves}
use Rattle.node_core.proofs.Bounding.{access-within, step-within}
use Rattle.node_core.proofs.Turning.{wanted-op, comes-seen, step-seen, moves-accessed, moves-stepped}
use Rattle.node_core.proofs.machine.Machine.hears_at_desk.Goals as goal

pub returns-then-not-answers : goal.returns-then-not-answers
returns-then-not-answers g c =
    let old = c.args.self.now in
    let p = c.args.proc.number in
    let body = c.args.body.now in
    heard-nothing g.P.Program.spent g.P.Program.wants g.P.Program.becomes old p body c.quiet.new.done c.new.result c.requires.at c.quiet.ensures c.new.ensures
    (λ op want. unsaid old.desk p op (desk-op (want_at old.procs p) op c.requires.not_new c.requires.not_list want) body (sym c.answers.ensures ∙ c.if-not-answers.true)) c.args.begun

pub of_access-requires : goal.of_access-requires
of_access-requires g c =
    let d = c.args.self.now.desk in
    let p = c.args.proc.number in
    let body = c.args.body.now in
    let w = want_at c.args.self.now.procs p in
    let op = wanted-op w c.requires.wanted in
    let desk = desk-op w op.0 c.requires.not_new c.requires.not_list op.1 in
    let calls = c.requires.call op.0 op.1 in
    let opened = sym c.open_call.ensures.value ∙ (c.in-Some.is ∙ ap Some c.in-Access.is) in
    let says = said-access d p op.0 desk body (sym c.answers.ensures ∙ c.if-not-answers.false) opened in
    let holds = answered-moved d p c.open_call.ensures.kept c.requires.process op.0 calls.0 body (Said.ToAccess says.1) calls.1 (subst (λ n. IsBody n body) c.requires.own c.requires.range) c.requires.named says.4 in
    comes-seen d p op.0 c.page_came.new.self (page_came_of d p says.1) c.in_ok-access-in-Access.access holds (c.in_ok-access-in-Access.ensures.outcome says.0 says.2 says.1 says.3)

pub moves-requires-clause-fits : goal.moves-requires-clause-fits
moves-requires-clause-fits g c op want =
    let d = c.args.self.now.desk in
    let p = c.args.proc.number in
    let calls = c.requires.call op want in
    let desk = desk-op (want_at c.args.self.now.procs p) op c.requires.not_new c.requires.not_list want in
    c.in_ok-access-in-Access.ensures.fits (move_seen c.of_access.result) c.of_access.ensures op (open-calling d p op calls.0 desk calls.1).opened

pub moves-requires-clause-asks : goal.moves-requires-clause-asks
moves-requires-clause-asks g c = c.in_ok-access-in-Access.ensures.asks (move_seen c.of_access.result) c.of_access.ensures

pub moves-requires-clause-within : goal.moves-requires-clause-within
moves-requires-clause-within g c =
    let m = c.args.self.now in
    let d = m.desk in
    let p = c.args.proc.number in
    let body = c.args.body.now in
    let w = want_at m.procs p in
    let op = wanted-op w c.requires.wanted in
    let desk = desk-op w op.0 c.requires.not_new c.requires.not_list op.1 in
    let calls = c.requires.call op.0 op.1 in
    let opened = sym c.open_call.ensures.value ∙ (c.in-Some.is ∙ ap Some c.in-Access.is) in
    let says = said-access d p op.0 desk body (sym c.answers.ensures ∙ c.if-not-answers.false) opened in
    let range = subst (λ n. IsBody n body) c.requires.own c.requires.range in
    let holds = answered-moved d p c.open_call.ensures.kept c.requires.process op.0 calls.0 body (Said.ToAccess says.1) calls.1 range c.requires.named says.4 in
    let low = answered-within (wire_room m.server.wire) d p c.open_call.ensures.kept c.requires.process c.requires.low op.0 calls.0 body (Said.ToAccess says.1) calls.1 range c.requires.within says.4 in
    access-within (wire_room m.server.wire) d p op.0 c.page_came.new.self (page_came_of d p says.1) c.in_ok-access-in-Access.access (move_seen c.of_access.result) holds low
    (c.in_ok-access-in-Access.ensures.outcome says.0 says.2 says.1 says.3) c.of_access.ensures

pub of_step-requires : goal.of_step-requires
of_step-requires g c =
    let d = c.args.self.now.desk in
    let p = c.args.proc.number in
    let body = c.args.body.now in
    let w = want_at c.args.self.now.procs p in
    let op = wanted-op w c.requires.wanted in
    let desk = desk-op w op.0 c.requires.not_new c.requires.not_list op.1 in
    let opened = sym c.open_call.ensures.value ∙ c.in-Some.is in
    let says = said-lock d p op.0 desk body c.in-Some.call (sym c.answers.ensures ∙ c.if-not-answers.false) opened c.in_default-call.not-Access in
    ap (λ (x : Option Outcome). is_some x) (step-seen c.answer_came.new.desk (answer_came_of d p says.0) c.in_ok-step-in_default-call.step (c.in_ok-step-in_default-call.ensures.outcome says.0 says.1))

pub moves-requires-in_default-call : goal.moves-requires-in_default-call
moves-requires-in_default-call g c =
    let d = c.args.self.now.desk in
    let p = c.args.proc.number in
    let came = move_seen c.of_step.result in
    let m = c.args.self.now in
    let body = c.args.body.now in
    let w = want_at m.procs p in
    let wanted = wanted-op w c.requires.wanted in
    let at_desk = desk-op w wanted.0 c.requires.not_new c.requires.not_list wanted.1 in
    let called = c.requires.call wanted.0 wanted.1 in
    let says = said-lock d p wanted.0 at_desk body c.in-Some.call (sym c.answers.ensures ∙ c.if-not-answers.false) (sym c.open_call.ensures.value ∙ c.in-Some.is) c.in_default-call.not-Access in
    let range = subst (λ n. IsBody n body) c.requires.own c.requires.range in
    let low = answered-within (wire_room m.server.wire) d p c.open_call.ensures.kept c.requires.process c.requires.low wanted.0 called.0 body (Said.ToLock says.0) called.1 range c.requires.within says.2 in
    record {
      fresh = c.requires.fresh;
      own = c.requires.own ∙ sym c.in_ok-step-in_default-call.ensures.node;
      at = c.requires.at;
      program = c.requires.program;
      wanted = c.requires.wanted;
      fits = λ op want.
          let calls = c.requires.call op want in
          let desk = desk-op (want_at c.args.self.now.procs p) op c.requires.not_new c.requires.not_list want in
          c.in_ok-step-in_default-call.ensures.fits op (open-calling d p op calls.0 desk calls.1).opened came c.of_step.ensures;
      asks = c.in_ok-step-in_default-call.ensures.asks came c.of_step.ensures;
      within = step-within (wire_room m.server.wire) c.answer_came.new.desk (answer_came_of d p says.0) c.in_ok-step-in_default-call.step came low (c.in_ok-step-in_default-call.ensures.outcome says.0 says.1) c.of_step.ensures;
    }

pub returns-in_ok-access-in-Access : goal.returns-in_ok-access-in-Access
returns-in_ok-access-in-Access g c =
    let old = c.args.self.now in
    let p = c.args.proc.number in
    let body = c.args.body.now in
    let w = want_at old.procs p in
    let op = wanted-op w c.requires.wanted in
    let desk = desk-op w op.0 c.requires.not_new c.requires.not_list op.1 in
    let opened = sym c.open_call.ensures.value ∙ (c.in-Some.is ∙ ap Some c.in-Access.is) in
    let says = said-access old.desk p op.0 desk body (sym c.answers.ensures ∙ c.if-not-answers.false) opened in
    let said = Said.ToAccess says.1 in
    IfOk-weaker c.moves.result _ _ (λ ok turns.
    heard-moves g.P.Program.spent g.P.Program.wants g.P.Program.becomes old p body c.moves.new.self c.moves.new.done said c.args.begun
    (moves-accessed g.P.Program.spent g.P.Program.wants g.P.Program.becomes old c.moves.new.self c.moves.new.done p c.args.begun c.page_came.new.self (page_came_of old.desk p says.1) c.in_ok-access-in-Access.access
    (move_seen c.of_access.result) (c.in_ok-access-in-Access.ensures.outcome says.0 says.2 says.1 says.3) c.of_access.ensures c.in_ok-access-in-Access.ensures.node turns)
    (λ op2 want. subst (λ x. said_of old.desk p x body ≡ Some said) (one-op w op.0 op2 op.1 want) says.4)) c.moves.ensures

pub returns-in_ok-step-in_default-call : goal.returns-in_ok-step-in_default-call
returns-in_ok-step-in_default-call g c =
    let old = c.args.self.now in
    let p = c.args.proc.number in
    let body = c.args.body.now in
    let w = want_at old.procs p in
    let op = wanted-op w c.requires.wanted in
    let desk = desk-op w op.0 c.requires.not_new c.requires.not_list op.1 in
    let opened = sym c.open_call.ensures.value ∙ c.in-Some.is in
    let says = said-lock old.desk p op.0 desk body c.in-Some.call (sym c.answers.ensures ∙ c.if-not-answers.false) opened c.in_default-call.not-Access in
    let said = Said.ToLock says.0 in
    IfOk-weaker c.moves-in_default-call.result _ _ (λ ok turns.
    heard-moves g.P.Program.spent g.P.Program.wants g.P.Program.becomes old p body c.moves-in_default-call.new.self c.moves-in_default-call.new.done said c.args.begun
    (moves-stepped g.P.Program.spent g.P.Program.wants g.P.Program.becomes old c.moves-in_default-call.new.self c.moves-in_default-call.new.done p c.args.begun c.answer_came.new.desk (answer_came_of old.desk p says.0) c.in_ok-step-in_default-call.step
    (move_seen c.of_step.result) (c.in_ok-step-in_default-call.ensures.outcome says.0 says.1) c.of_step.ensures c.in_ok-step-in_default-call.ensures.node turns)
    (λ op2 want. subst (λ x. said_of old.desk p x body ≡ Some said) (one-op w op.0 op2 op.1 want) says.2)) c.moves-in_default-call.ensures
