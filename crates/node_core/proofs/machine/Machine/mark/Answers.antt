use Rattle.std.proofs.Common.{ℕ, List, ◌∷◌, ◌≤◌, None, ap, sym, subst, ◌∙◌}
use Rattle.std.proofs.lemmas.Option.{same_Some}
use Rattle.node_runs.specs.NodeStates.{first_proc}
use Rattle.node_runs.specs.Alikes.{AreAlike}
use Rattle.node_runs.specs.Doings.{after_marks}
use Rattle.uid_names.specs.Names.{ObjectName}
use Rattle.dom_history.specs.declared.event.Effects.{Effects}
use Rattle.fault_handler.specs.Desks.{at}
use Rattle.node_core.specs.Machines.{given_of, state_of}
use Rattle.node_core.specs.Outcomes.{Led}
use Rattle.node_core.proofs.Seen.{seen-silent}
use Rattle.node_core.proofs.Untold.{led-untold}
use Rattle.node_core.proofs.Phasing.{after-procs, after-alike}
use Rattle.node_core.proofs.machine.Machine.mark.Goals as goal

pub returns : goal.returns
returns g c s is =
    let old = c.args.self.now in
    let new = c.pass_phase.new.self in
    let marks = (c.args.from, c.args.phase) ∷ old.marks in
    let n = record (state_of old) { marks = marks } in
    let node = after_marks (given_of old) n in
    let effects = λ (x : List (ObjectName × ℕ)). let e : Effects = record { dropped = x; sent = None; ended = None } in e in
    subst (λ x. Led g.P.Program.spent g.P.Program.wants g.P.Program.becomes old new c.quiet.new.done x) (same_Some _ s is)
    (led-untold g.P.Program.spent g.P.Program.wants g.P.Program.becomes old new c.quiet.new.done _ c.requires.before.within
    (ap (λ m. m.programs) c.pass_phase.ensures.same) (ap (λ m. m.procs) c.pass_phase.ensures.same) (ap (λ m. m.greatest) c.pass_phase.ensures.same) (ap (λ m. m.phases) c.pass_phase.ensures.same) (ap (λ m. m.server.wire) c.pass_phase.ensures.same)
    (subst (λ m. m.server.tick ≤ m.tick) (sym c.pass_phase.ensures.same) c.requires.before.within.earlier)
    (subst (λ x. AreAlike x node) (sym c.pass_phase.ensures.state) (after-alike (given_of old) (state_of old) c.add.new.self marks c.in_ok-add.ensures.taken))
    (λ p. ap (λ qs. (at qs p first_proc).heard) (after-procs (given_of old) n) ∙ seen-silent old.procs p)
    (ap (λ d. d.frame) c.quiet.ensures) (ap (λ d. d.effects) c.quiet.ensures ∙ ap effects c.new.ensures))
