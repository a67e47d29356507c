use Rattle.std.proofs.Common.{◌≡◌, true, false, not, sym, subst}
use Rattle.std.specs.Prelude.{◌++◌, [], ◌∷◌, refl}
use Rattle.std.proofs.lemmas.Bool.{not-true}
use Rattle.uid_names.proofs.Passed.{left-true, right-true}
use Rattle.dom_history.specs.Events.{Happening}
use Rattle.dom_history.specs.declared.event.NodeLog.{NodeLog}
use Rattle.node_runs.specs.Incomings.{enabled}
use Rattle.node_runs.specs.Outcomes.{Stepped}
use Rattle.node_runs.proofs.Happening.{enabled-happens}
use Rattle.node_core.specs.Machines as machine
use Rattle.node_core.specs.Machines.{inner_of}
use Rattle.node_core.specs.Nodes.{is_enabled, Stands, HappenedAside}
use Rattle.node_core.specs.Receivings.{seen}
use Rattle.node_core.proofs.Stepping.{happened-aside}
use Rattle.node_core.proofs.node.Node.step_aside.Goals as goal

pub returns-clause-happens : goal.returns-clause-happens
returns-clause-happens g c =
    let old = c.self.inside in
    let m = old.machine in
    let what = c.args.what in
    let inc = seen c.args.incoming.now in
    let passes = subst (λ x. is_enabled x what inc ≡ true) (sym c.self.view_is) c.requires.enabled in
    let may = right-true (not old.spent) (enabled (machine.given_of m) (machine.state_of m) what inc) passes in
    let kept = c.self.invariant (not-true old.spent (left-true (not old.spent) (enabled (machine.given_of m) (machine.state_of m) what inc) passes)) in
    let found = enabled-happens (machine.given_of m) (machine.state_of m) what inc kept.given kept.node c.known.ensures may in
    let done = c.happen.new.done in
    let event : Happening = record { place = c.place-place.result; what = what; effects = done.effects } in
    -- the journal as if the event stood there
    let log : NodeLog = record { node = old.log.node; events = old.log.events ++ event ∷ [] } in
    λ made given n stands.
    subst (λ (e : Happening). (t : Stepped) × HappenedAside g.P.Program.wants g.P.Program.becomes made given what inc (record { inner = inner_of c.happen.new.self; log = old.log; spent = false }) e c.aside.result.1 n t) (sym c.aside.ensures.event)
    (happened-aside g.P.Program.spent g.P.Program.wants g.P.Program.becomes m c.happen.new.self old.log log what inc done c.aside.result.1 found.0 kept may c.known.ensures found.1 found.2
    (c.in_ok-happen.ensures.happens found.0 found.1) c.aside.ensures.emits c.place-place.result c.place-place.ensures refl refl old.spent made given n
    (subst (λ x. Stands g.P.Program.wants g.P.Program.becomes made given x n) (sym c.self.view_is) stands))
