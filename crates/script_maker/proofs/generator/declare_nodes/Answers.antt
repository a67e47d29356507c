use Rattle.std.proofs.Common.{ap, ◌∙◌}
use Rattle.script_maker.proofs.Adding.{node_added, node_name_free, node_room}
use Rattle.script_maker.proofs.Generating.{node_name_is}
use Rattle.script_maker.proofs.generator.declare_nodes.Goals as goal
use Rattle.script_reader.specs.Words.{is_name}

pub add_node-requires-clause-name : goal.add_node-requires-clause-name
add_node-requires-clause-name c = ap is_name (c.bytes.ensures ∙ c.in_ok-name.ensures) ∙ node_name_is c.loop-at.at c.loop-at-test.true

pub add_node-requires-clause-new : goal.add_node-requires-clause-new
add_node-requires-clause-new c = node_name_free c.loop-at.draft c.loop-at.at c.bytes.result.now c.loop-at.invariant (c.bytes.ensures ∙ c.in_ok-name.ensures) c.loop-at-test.true

pub add_node-requires-clause-room : goal.add_node-requires-clause-room
add_node-requires-clause-room c = node_room c.loop-at.draft c.loop-at.at c.loop-at.invariant c.loop-at-test.true

pub loop-at-preserved : goal.loop-at-preserved
loop-at-preserved c = node_added c.loop-at.draft c.add_node.new.self c.loop-at.at c.bytes.result.now c.loop-at.invariant (c.bytes.ensures ∙ c.in_ok-name.ensures) c.in_ok-add_node.ensures.ok
