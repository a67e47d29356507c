use Rattle.std.proofs.Common.{◌≡◌, Some, ap, sym, subst, ◌∙◌}
use Rattle.std.proofs.lemmas.Result.{IfOk-weaker}
use Rattle.dom_history.specs.declared.event.What.TheVariants.{Begin, Go, Take, Notice, Ready, Mark}
use Rattle.node_runs.specs.NodeStates.{proc_of}
use Rattle.node_runs.specs.Doings.{begins, goes_on, notices, event_of}
use Rattle.node_runs.specs.Steps.{stepped_as_named}
use Rattle.node_runs.proofs.SettingUp.{given-procs}
use Rattle.uid_names.specs.Steps.{◌>>=◌}
use Rattle.node_core.specs.Receivings.{seen}
use Rattle.node_core.specs.Processes.{want_at}
use Rattle.node_core.specs.Machines.{given_of, state_of}
use Rattle.node_core.specs.Outcomes.{Does}
use Rattle.node_core.proofs.Keeping.{begin-at, go-at, take-at, notice-at, ready-at, mark-at}
use Rattle.node_core.proofs.machine.Machine.does.Goals as goal

pub proc-requires : goal.proc-requires
proc-requires g c =
    let m = c.args.self.now in
    given-procs (given_of m) c.requires.before.given.programs c.in-Begin.p (begin-at (given_of m) (state_of m) c.in-Begin.p c.args.what.now (seen c.args.incoming.now) c.in-Begin.is c.requires.enabled).1

pub proc-requires-in-Go : goal.proc-requires-in-Go
proc-requires-in-Go g c =
    let m = c.args.self.now in
    given-procs (given_of m) c.requires.before.given.programs c.in-Go.p (go-at (given_of m) (state_of m) c.in-Go.p c.args.what.now (seen c.args.incoming.now) c.in-Go.is c.requires.enabled).1

pub take-requires-clause-here : goal.take-requires-clause-here
take-requires-clause-here g c =
    let m = c.args.self.now in
    (take-at (given_of m) (state_of m) c.in-Take.field-0 c.in-Take.field-1 _ c.args.what.now (seen c.args.incoming.now) c.in-Take.is (ap seen c.in-Frame.is) c.requires.enabled).0

pub take-requires-clause-version : goal.take-requires-clause-version
take-requires-clause-version g c =
    let m = c.args.self.now in
    (take-at (given_of m) (state_of m) c.in-Take.field-0 c.in-Take.field-1 _ c.args.what.now (seen c.args.incoming.now) c.in-Take.is (ap seen c.in-Frame.is) c.requires.enabled).1

pub proc-requires-in-Notice : goal.proc-requires-in-Notice
proc-requires-in-Notice g c =
    let m = c.args.self.now in
    given-procs (given_of m) c.requires.before.given.programs c.in-Notice.p
    (notice-at (given_of m) (state_of m) c.in-Notice.p c.in-Notice.field-1 c.in-Notice.field-2 c.in-Notice.field-3 c.args.what.now (seen c.args.incoming.now) c.in-Notice.is c.requires.enabled).3

pub returns-in-Begin-clause-does : goal.returns-in-Begin-clause-does
returns-in-Begin-clause-does g c =
    let m = c.args.self.now in
    let p = c.in-Begin.p in
    let inc = seen c.args.incoming.now in
    let is = begin-at (given_of m) (state_of m) p c.args.what.now inc c.in-Begin.is c.requires.enabled in
    let event = ap (λ w. event_of (given_of m) (state_of m) w inc) c.in-Begin.is ∙ ap (event_of (given_of m) (state_of m) (Begin p)) is.0 in
    IfOk-weaker c.begin.result _ _ (λ ok does. subst (λ e. Does g.P.Program.spent g.P.Program.wants g.P.Program.becomes m c.begin.new.self c.begin.new.done e) (sym event)
    (subst (λ k. Does g.P.Program.spent g.P.Program.wants g.P.Program.becomes m c.begin.new.self c.begin.new.done (Some (begins (given_of m) (state_of m) k (want_at m.procs k)))) (ap (λ q. q.number) c.proc.ensures) does)) c.begin.ensures

pub returns-in-Go-clause-does : goal.returns-in-Go-clause-does
returns-in-Go-clause-does g c =
    let m = c.args.self.now in
    let p = c.in-Go.p in
    let inc = seen c.args.incoming.now in
    let is = go-at (given_of m) (state_of m) p c.args.what.now inc c.in-Go.is c.requires.enabled in
    let event = ap (λ w. event_of (given_of m) (state_of m) w inc) c.in-Go.is ∙ ap (event_of (given_of m) (state_of m) (Go p)) is.0 in
    IfOk-weaker c.go.result _ _ (λ ok does. subst (λ e. Does g.P.Program.spent g.P.Program.wants g.P.Program.becomes m c.go.new.self c.go.new.done e) (sym event)
    (subst (λ k. Does g.P.Program.spent g.P.Program.wants g.P.Program.becomes m c.go.new.self c.go.new.done (goes_on (state_of m) k (proc_of (state_of m) k).doing)) (ap (λ q. q.number) c.proc-in-Go.ensures) does)) c.go.ensures

pub returns-in-Frame-clause-does : goal.returns-in-Frame-clause-does
returns-in-Frame-clause-does g c =
    let m = c.args.self.now in
    let inc = seen c.args.incoming.now in
    let event = ap (λ w. event_of (given_of m) (state_of m) w inc) c.in-Take.is ∙ ap (λ i. event_of (given_of m) (state_of m) (Take c.in-Take.field-0 c.in-Take.field-1) (seen i)) c.in-Frame.is in
    IfOk-weaker c.take.result _ _ (λ ok does. subst (λ e. Does g.P.Program.spent g.P.Program.wants g.P.Program.becomes m c.take.new.self c.take.new.done e) (sym event) does) c.take.ensures

pub returns-in-Notice-clause-does : goal.returns-in-Notice-clause-does
returns-in-Notice-clause-does g c =
    let m = c.args.self.now in
    let p = c.in-Notice.p in
    let inc = seen c.args.incoming.now in
    let is = notice-at (given_of m) (state_of m) p c.in-Notice.field-1 c.in-Notice.field-2 c.in-Notice.field-3 c.args.what.now inc c.in-Notice.is c.requires.enabled in
    let event = ap (λ w. event_of (given_of m) (state_of m) w inc) c.in-Notice.is ∙ ap (event_of (given_of m) (state_of m) (Notice p c.in-Notice.field-1 c.in-Notice.field-2 c.in-Notice.field-3)) is.2 in
    IfOk-weaker c.notice.result _ _ (λ ok does. subst (λ e. Does g.P.Program.spent g.P.Program.wants g.P.Program.becomes m c.notice.new.self c.notice.new.done e) (sym event)
    (subst (λ k. Does g.P.Program.spent g.P.Program.wants g.P.Program.becomes m c.notice.new.self c.notice.new.done (notices (given_of m) (state_of m) k (proc_of (state_of m) k).doing)) (ap (λ q. q.number) c.proc-in-Notice.ensures) does)) c.notice.ensures

pub returns-in-Ready-clause-does : goal.returns-in-Ready-clause-does
returns-in-Ready-clause-does g c s comes =
    let m = c.args.self.now in
    let inc = seen c.args.incoming.now in
    let is = ready-at (given_of m) (state_of m) c.in-Ready.field-0 c.args.what.now inc c.in-Ready.is c.requires.enabled in
    let event = ap (λ w. event_of (given_of m) (state_of m) w inc) c.in-Ready.is ∙ ap (event_of (given_of m) (state_of m) (Ready c.in-Ready.field-0)) is in
    c.end_phase.ensures s (subst (λ e. (e >>= stepped_as_named (given_of m) (state_of m)) ≡ Some s) event comes)

pub returns-in-Mark-clause-does : goal.returns-in-Mark-clause-does
returns-in-Mark-clause-does g c =
    let m = c.args.self.now in
    let inc = seen c.args.incoming.now in
    let is = mark-at (given_of m) (state_of m) c.in-Mark.from c.in-Mark.phase c.args.what.now inc c.in-Mark.is c.requires.enabled in
    let event = ap (λ w. event_of (given_of m) (state_of m) w inc) c.in-Mark.is ∙ ap (event_of (given_of m) (state_of m) (Mark c.in-Mark.from c.in-Mark.phase)) is.1 in
    IfOk-weaker c.mark.result _ _ (λ ok does. subst (λ e. Does g.P.Program.spent g.P.Program.wants g.P.Program.becomes m c.mark.new.self c.mark.new.done e) (sym event) does) c.mark.ensures
