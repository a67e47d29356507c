use Rattle.std.proofs.Common.{◌≡◌, ◌<◌, length, get_or, Option, Some, sym, subst, refl, ap, ◌∙◌}
use Rattle.std.specs.Option.{ForSome}
use Rattle.std.proofs.lemmas.Result.{IfOk-weaker}
use Rattle.uid_names.specs.Steps.{◌>>=◌}
use Rattle.dom_history.specs.declared.op.Want.TheVariants.{Do}
use Rattle.node_runs.specs.NodeStates.{OpenOp, ProcState, proc_of}
use Rattle.node_runs.specs.Doings.{goes_on}
use Rattle.node_runs.specs.Steps.{stepped_as_named}
use Rattle.node_core.specs.Processes.{want_at, open_seen}
use Rattle.node_core.specs.Machines.{given_of, state_of}
use Rattle.node_core.specs.Outcomes.{Led}
use Rattle.node_core.proofs.Seen.{want-is, proc-is, open-wanted, doing-open}
use Rattle.node_core.proofs.Turning.{does-goes_on}
use Rattle.node_core.proofs.machine.Machine.go.Goals as goal

pub begins-requires-clause-low : goal.begins-requires-clause-low
begins-requires-clause-low g c = c.requires.before.node.within.desk

pub begins-requires-clause-rooms : goal.begins-requires-clause-rooms
begins-requires-clause-rooms g c = c.requires.before.given.wire.rooms

pub returns : goal.returns
returns g c =
    let m = c.args.self.now in
    let p = c.args.proc.number in
    let i = c.index_of.result in
    let d = c.index-self-index_of.result in
    let inside : i < length m.procs = subst (λ n. i < n) (sym c.requires.before.within.four) c.index_of.ensures.bound in
    let q = get_or m.procs i d in
    let found = open-wanted q.want q.opened c.in-Some.open (sym c.in-Some.ensures) in
    let op = found.0 in
    let own : want_at m.procs p ≡ Do op = want-is m.procs i p d c.index_of.ensures.value inside ∙ found.1 in
    let doing : (proc_of (state_of m) p).doing ≡ Some (open_seen op c.in-Some.open q.asked) =
    ap (λ (r : ProcState). r.doing) (proc-is m.procs i p d c.index_of.ensures.value inside) ∙ doing-open q.want q.opened q.asked op c.in-Some.open found.1 found.2 in
    IfOk-weaker c.begins.result _ _
    (λ ok moves.
    subst (λ (o : Option OpenOp). ForSome (goes_on (state_of m) p o >>= stepped_as_named (given_of m) (state_of m)) (λ s. Led g.P.Program.spent g.P.Program.wants g.P.Program.becomes m c.begins.new.self c.begins.new.done s)) (sym doing)
    (does-goes_on g.P.Program.spent g.P.Program.wants g.P.Program.becomes m c.begins.new.self c.begins.new.done p c.in-Some.open.begun op (open_seen op c.in-Some.open q.asked) refl own (moves op own)))
    c.begins.ensures
