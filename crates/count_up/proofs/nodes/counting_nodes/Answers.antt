use Rattle.count_up.proofs.Setting.{three_nodes}
use Rattle.count_up.proofs.nodes.counting_nodes.Goals as goal

pub returns : goal.returns
returns c =
    three_nodes c.args.rounds c.in_ok-nodes.nodes.items c.in_ok-counting_node.field-0 c.in_ok-counting_node-2.field-0 c.in_ok-counting_node-3.field-0 c.in_ok-nodes.ensures.items
    c.in_ok-counting_node.ensures c.in_ok-counting_node-2.ensures c.in_ok-counting_node-3.ensures
