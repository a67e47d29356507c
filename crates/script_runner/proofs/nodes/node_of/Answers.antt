use Rattle.std.proofs.Common.{◌≡◌, ◌∙◌, ◌-◌, ◌≤◌, slice_index_or, refl, ap, sym, subst, arith, false}
use Rattle.std.specs.Prelude.{IfSome}
use Rattle.uid_names.specs.Openings.{Start, IsStart}
use Rattle.uid_names.specs.Wires.{IsWire, wire_room}
use Rattle.script_reader.proofs.Kept.{IsWire-of, written-of}
use Rattle.dom_history.specs.declared.op.Want.TheVariants.{Phase}
use Rattle.script_reader.specs.declared.script.NodeRow.{NodeRow}
use Rattle.aegis_shell.specs.Shells.{shell_wants}
use Rattle.node_core.specs.declared.setup.NodeSetup.{NodeSetup}
use Rattle.node_core.specs.Programs.{program_in, numbers_in}
use Rattle.node_runs.specs.Setups.{ArePrograms}
use Rattle.script_runs.specs.Processes.{processes_of}
use Rattle.script_runner.specs.Nodes.{shells_among}
use Rattle.script_runner.proofs.FirstNodes.{are_programs, given_by, shells_whole, shells_fresh, frames_at, first_node_is}
use Rattle.script_runner.proofs.nodes.node_of.Goals as goal

pub new-requires-2-clause-wire : goal.new-requires-2-clause-wire
new-requires-2-clause-wire c = subst IsWire (sym c.wire.ensures.value) (IsWire-of c.args.script.now c.wire.ensures.content.draft)

pub new-requires-2-clause-rooms : goal.new-requires-2-clause-rooms
new-requires-2-clause-rooms c =
    let s = c.args.script.now in
    subst (λ (o : Start). o.greatest ≤ wire_room c.wire.result) (sym c.opening-2.ensures.value)
    (subst (λ w. s.opening.greatest ≤ wire_room w) (sym c.wire.ensures.value) (written-of s c.wire.ensures.content.draft))

pub new-requires-2-clause-numbers : goal.new-requires-2-clause-numbers
new-requires-2-clause-numbers c =
    let s = c.args.script.now in
    let are : c.in_ok-shells.shells.items ≡ shells_among c.args.script.now c.args.node (processes_of c.args.script.now.commands) =
    c.in_ok-shells.ensures ∙ ap (shells_among c.args.script.now c.args.node) c.requires.procs in
    let low : 1 ≤ c.args.node = omega (arith, c.number.ensures.least, c.number.ensures.value) in
    subst (λ shells. ArePrograms (numbers_in shells)) (sym are)
    (are_programs s c.opening.ensures.content c.args.node low c.requires.node
    (c.scripts_set_nodes_up.ensures s c.opening.ensures.content (subst IsStart c.opening.ensures.value c.nodes.ensures.start)))

pub new-requires-2-clause-whole : goal.new-requires-2-clause-whole
new-requires-2-clause-whole c = λ p.
    subst (λ shells. IfSome (program_in shells p) (λ y. y.spent ≡ false)) (sym c.in_ok-shells.ensures) (shells_whole c.args.script.now c.args.node p c.args.procs.now)

pub new-requires-2-clause-fresh : goal.new-requires-2-clause-fresh
new-requires-2-clause-fresh c = λ p.
    subst (λ shells. IfSome (program_in shells p) (λ y. shell_wants y ≡ Phase)) (sym c.in_ok-shells.ensures) (shells_fresh c.args.script.now c.args.node p c.args.procs.now)

pub returns : goal.returns
returns c =
    let s = c.args.script.now in
    let n = c.args.node in
    let setup : NodeSetup = record { node = c.args.node; nodes = c.nodes.result; wire = c.wire.result; frames = (slice_index_or c.nodes-2.result.now (c.number.result - 1) c.index-nodes-number.result).frames; phases = c.phases.result } in
    let low : 1 ≤ c.args.node = omega (arith, c.number.ensures.least, c.number.ensures.value) in
    first_node_is s n setup c.opening-2.result.now c.in_ok-shells.shells.items c.new-2.result refl c.opening-2.ensures.value
    (c.in_ok-shells.ensures ∙ ap (shells_among s n) c.requires.procs)
    (given_by s c.opening.ensures.content n low c.requires.node (c.shells_go_by_all_they_heard.ensures.asks s) setup refl c.wire.ensures.value
    (ap (λ (r : NodeRow). r.frames) (sym c.index-nodes-number.is)
    ∙ frames_at s n low c.requires.node c.nodes-2.result.now (c.number.result - 1) c.index-nodes-number.result c.nodes-2.ensures.value (ap (λ k. k - 1) c.number.ensures.value) c.index-nodes-number.is)
    c.phases.ensures.value)
    c.new-2.ensures.stands c.new-2.ensures.log
