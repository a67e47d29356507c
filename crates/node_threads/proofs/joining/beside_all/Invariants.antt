use Rattle.std.proofs.Common.{◌≡◌, map}
use Rattle.node_threads.proofs.joining.beside_all.Given as goal

abbrev pub invariant-loop-post : goal.invariant-loop-post
invariant-loop-post g l =
    (l.nodes.items ≡ map (λ x. x.node) l.yielded) × (l.outs.items ≡ map (λ x. x.outs) l.yielded) × (l.ins.items ≡ map (λ x. x.ins) l.yielded)
