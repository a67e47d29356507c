use Rattle.std.proofs.Common.{◌∙◌, ◌-◌, ◌≤◌, slice_index_or, ap, sym, subst, arith}
use Rattle.uid_names.specs.Openings.{Start}
use Rattle.uid_names.specs.Wires.{IsWire, wire_room}
use Rattle.script_reader.proofs.Kept.{IsWire-of, written-of}
use Rattle.script_reader.specs.declared.script.NodeRow.{NodeRow}
use Rattle.script_runner.proofs.FirstNodes.{frames_at}
use Rattle.timed_work.proofs.Making.{team_whole, team_fresh, node_made}
use Rattle.timed_work.proofs.worlds.node_of.Goals as goal

pub new-requires-2-clause-wire : goal.new-requires-2-clause-wire
new-requires-2-clause-wire c = subst IsWire (sym c.wire.ensures.value) (IsWire-of c.args.script.now c.wire.ensures.content.draft)

pub new-requires-2-clause-rooms : goal.new-requires-2-clause-rooms
new-requires-2-clause-rooms c =
    let s = c.args.script.now in
    subst (λ (o : Start). o.greatest ≤ wire_room c.wire.result) (sym c.opening-2.ensures.value)
    (subst (λ w. s.opening.greatest ≤ wire_room w) (sym c.wire.ensures.value) (written-of s c.wire.ensures.content.draft))

pub new-requires-2-clause-numbers : goal.new-requires-2-clause-numbers
new-requires-2-clause-numbers c = c.in_ok-programs.ensures.numbers

pub new-requires-2-clause-whole : goal.new-requires-2-clause-whole
new-requires-2-clause-whole c = λ p. team_whole c.in_ok-programs.programs.items p c.in_ok-programs.ensures

pub new-requires-2-clause-fresh : goal.new-requires-2-clause-fresh
new-requires-2-clause-fresh c = λ p. team_fresh c.in_ok-programs.programs.items p c.in_ok-programs.ensures

pub returns : goal.returns
returns c =
    let s = c.args.script.now in
    let n = c.args.node in
    let low : 1 ≤ c.args.node = omega (arith, c.number.ensures.least, c.number.ensures.value) in
    node_made s n c.nodes.result c.wire.result (slice_index_or c.nodes-2.result.now (c.number.result - 1) c.index-nodes-number.result).frames c.phases.result
    c.opening-2.result.now c.in_ok-programs.programs.items c.new-2.result
    (c.nodes.ensures.value ∙ ap (λ (o : Start). o.nodes) c.opening.ensures.value) c.wire.ensures.value
    (ap (λ (r : NodeRow). r.frames) (sym c.index-nodes-number.is)
    ∙ frames_at s n low c.requires.node c.nodes-2.result.now (c.number.result - 1) c.index-nodes-number.result c.nodes-2.ensures.value (ap (λ k. k - 1) c.number.ensures.value) c.index-nodes-number.is)
    c.phases.ensures.value c.opening-2.ensures.value c.in_ok-programs.ensures
    c.new-2.ensures.stands c.new-2.ensures.log
