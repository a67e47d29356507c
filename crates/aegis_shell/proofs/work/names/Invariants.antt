use Rattle.std.proofs.Common.{◌≡◌, take, map}
use Rattle.aegis_shell.proofs.work.names.Given as goal

abbrev pub invariant-loop-node : goal.invariant-loop-node
invariant-loop-node l = l.names.items ≡ map (λ n. n.name) (take l.node-index l.nodes)
