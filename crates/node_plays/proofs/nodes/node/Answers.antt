use Rattle.std.proofs.Common.{◌≤◌, sym, subst}
use Rattle.uid_names.specs.Openings.{Start}
use Rattle.uid_names.specs.Wires.{IsWire, wire_room}
use Rattle.script_reader.proofs.Kept.{IsWire-of, written-of}
use Rattle.node_plays.proofs.nodes.node.Goals as goal

pub new-requires-3-clause-wire : goal.new-requires-3-clause-wire
new-requires-3-clause-wire c = subst IsWire (sym c.wire.ensures.value) (IsWire-of c.args.script.now c.wire.ensures.content.draft)

pub new-requires-3-clause-rooms : goal.new-requires-3-clause-rooms
new-requires-3-clause-rooms c =
    let s = c.args.script.now in
    subst (λ (o : Start). o.greatest ≤ wire_room c.wire.result) (sym c.opening-opening.ensures.value)
    (subst (λ w. s.opening.greatest ≤ wire_room w) (sym c.wire.ensures.value) (written-of s c.wire.ensures.content.draft))
