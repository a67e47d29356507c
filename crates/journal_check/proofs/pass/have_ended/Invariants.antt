-- The nodes that came so far have ended.
use Rattle.std.proofs.Common.{◌≡◌, true, take}
use Rattle.std.specs.Prelude.{All}
use Rattle.node_core.specs.Nodes.{given_of, state_of}
use Rattle.node_runs.specs.NodeStates.{is_ended}
use Rattle.journal_check.proofs.pass.have_ended.Given as goal

abbrev pub invariant-loop-node : goal.invariant-loop-node
invariant-loop-node g l = All (λ x. is_ended (given_of x) (state_of x) ≡ true) (take l.node-index l.nodes)
