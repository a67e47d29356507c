use Rattle.std.proofs.Common.{◌≡◌, take}
use Rattle.dom_history.proofs.node_names.NodeNames.from_list.Given as goal

abbrev pub invariant-loop-name : goal.invariant-loop-name
invariant-loop-name l = l.copies.items ≡ take l.name-index l.names
