use Rattle.std.proofs.Common.{◌≡◌, ◌≤◌, ◌+◌, ◌%◌, ap, sym, subst, ◌∙◌, arith}
use Rattle.uid_names.specs.Wires.{wire_room}
use Rattle.uid_names.proofs.Wires.{wire_room-least}
use Rattle.script_reader.specs.Scripts.{Content, wire_of}
use Rattle.script_reader.specs.Words.{is_name}
use Rattle.script_maker.proofs.Adding.{object_added, object_name_free, object_room}
use Rattle.script_maker.proofs.Generating.{object_name_is}
use Rattle.script_maker.proofs.generator.declare_objects.Goals as goal

pub add_object-requires-clause-name : goal.add_object-requires-clause-name
add_object-requires-clause-name c = ap is_name (c.bytes.ensures ∙ c.in_ok-name.ensures) ∙ object_name_is c.loop-at.at c.loop-at-test.true

pub add_object-requires-clause-new : goal.add_object-requires-clause-new
add_object-requires-clause-new c = object_name_free c.loop-at.draft c.loop-at.at c.bytes.result.now c.loop-at.invariant (c.bytes.ensures ∙ c.in_ok-name.ensures) c.loop-at-test.true

pub add_object-requires-clause-low : goal.add_object-requires-clause-low
add_object-requires-clause-low c =
    let least = wire_room-least 1 in
    subst (λ (s : Content). 4 ≤ wire_room (wire_of s)) (sym c.loop-at.invariant) (omega (arith, least))

pub add_object-requires-clause-fits : goal.add_object-requires-clause-fits
add_object-requires-clause-fits c =
    let home : c.node-home.result ≡ c.loop-at.at % 8 + 1 = omega arith in
    object_room c.loop-at.draft c.loop-at.at c.node-home.result c.loop-at.invariant home c.loop-at-test.true

pub loop-at-preserved : goal.loop-at-preserved
loop-at-preserved c =
    let home : c.node-home.result ≡ c.loop-at.at % 8 + 1 = omega arith in
    object_added c.loop-at.draft c.add_object.new.self c.loop-at.at c.node-home.result c.bytes.result.now c.loop-at.invariant (c.bytes.ensures ∙ c.in_ok-name.ensures) home c.in_ok-add_object.ensures.ok c.loop-at-test.true
