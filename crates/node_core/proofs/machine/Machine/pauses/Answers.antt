use Rattle.std.proofs.Common.{◌≡◌, ◌+◌, ◌<◌, ◌≤◌, ◌∷◌, None, length, get_or, map, refl, sym, ap, subst, ◌∙◌, arith}
use Rattle.uid_names.specs.Names.{IsProcNumber}
use Rattle.uid_names.proofs.Passed.{left-true}
use Rattle.node_runs.specs.NodeStates.{ProcState, first_proc, proc_of}
use Rattle.node_runs.specs.Incomings.{has_program}
use Rattle.node_runs.specs.Doings.{pauses}
use Rattle.node_core.specs.declared.machine.Machine.{Machine}
use Rattle.node_core.specs.Processes.{proc_seen}
use Rattle.node_core.specs.Machines.{given_of, state_of}
use Rattle.node_core.proofs.Seen.{seen-silent, seen-at}
use Rattle.node_core.proofs.Leading.{led-told, led-some}
use Rattle.node_core.proofs.Enabling.{program-there, nothing-open, phase-within}
use Rattle.node_core.proofs.machine.Machine.pauses.Goals as goal

pub tell-requires-clause-there : goal.tell-requires-clause-there
tell-requires-clause-there g c =
    program-there c.args.self.now.programs.items (given_of c.args.self.now) c.args.proc.number refl (left-true (has_program (given_of c.args.self.now) c.args.proc.number) _ c.requires.enabled)

pub overflow_add-phase : goal.overflow_add-phase
overflow_add-phase g c =
    let m = c.args.self.now in
    let i = c.index_of.result in
    let d = c.index-self-index_of.result in
    let inside : i < length m.procs = subst (λ n. i < n) (sym c.requires.before.within.four) c.index_of.ensures.bound in
    let here : proc_of (state_of m) c.args.proc.number ≡ proc_seen (get_or m.procs i d) = ap (λ k. get_or (map proc_seen m.procs) k first_proc) (sym c.index_of.ensures.value) ∙ seen-at m.procs i d inside in
    let within : (get_or m.procs i d).phase ≤ m.phase = subst (λ (q : ProcState). q.phase ≤ m.phase) here (phase-within (given_of m) (state_of m) c.args.proc.number c.requires.enabled) in
    let going = c.requires.going in
    let most : m.phases ≤ 1000 = c.requires.before.phases in
    omega (arith, within, going, most)

pub returns : goal.returns
returns g c =
    let m = c.args.self.now in
    let p = c.args.proc.number in
    let i = c.index_of.result in
    let d = c.index-self-index_of.result in
    let told = c.in_ok-tell.ensures in
    let proc : IsProcNumber p = c.index_of.ensures.process in
    let q = proc_of (state_of m) p in
    let inside : i < length m.procs = subst (λ n. i < n) (sym c.requires.before.within.four) c.index_of.ensures.bound in
    let here : q ≡ proc_seen (get_or m.procs i d) = ap (λ k. get_or (map proc_seen m.procs) k first_proc) (sym c.index_of.ensures.value) ∙ seen-at m.procs i d inside in
    let phase = (get_or m.procs i d).phase + 1 in
    led-some g.P.Program.spent g.P.Program.wants g.P.Program.becomes m c.tell.new.self c.quiet.new.done (pauses (state_of m) p)
    (led-told g.P.Program.spent g.P.Program.wants g.P.Program.becomes m c.tell.new.self c.quiet.new.done (pauses (state_of m) p) p None
    (record q { doing = None; phase = phase }) (record q { heard = None ∷ q.heard; phase = q.phase + 1 })
    c.requires.before.within proc told.state refl
    (record { doing = sym (nothing-open (given_of m) (state_of m) p c.requires.enabled); last = refl; phase = sym (ap (λ (r : ProcState). r.phase + 1) here) })
    (ap (λ hs. None ∷ hs) (seen-silent m.procs p))
    told.program told.others told.told told.wanted told.numbers (ap (λ x. x.frame) c.quiet.ensures)
    (ap (λ x. x.effects) c.quiet.ensures ∙ ap (λ ds. record { dropped = ds; sent = None; ended = None }) c.new.ensures)
    (ap (λ (x : Machine g.row.P.Denot g.row.G.Denot). x.greatest) told.same) (ap (λ (x : Machine g.row.P.Denot g.row.G.Denot). x.phases) told.same) (ap (λ (x : Machine g.row.P.Denot g.row.G.Denot). x.server.wire) told.same)
    (subst (λ (x : Machine g.row.P.Denot g.row.G.Denot). x.server.tick ≤ x.tick) (sym told.same) c.requires.before.within.earlier))
