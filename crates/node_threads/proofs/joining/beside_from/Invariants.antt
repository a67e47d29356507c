use Rattle.std.proofs.Common.{◌≢◌, ℕ, ◌<◌}
use Rattle.node_threads.specs.Joined.{IsFifo, OfLink, AllStayOuts, AllStayIns}
use Rattle.node_threads.proofs.joining.beside_from.Given as goal

abbrev pub invariant-loop-to : goal.invariant-loop-to
invariant-loop-to l =
    AllStayOuts l.fn.outs.items l.outs.items × AllStayIns l.fn.ins.items l.ins.items
    × ((to : ℕ) → to < l.to → l.from ≢ to → OfLink IsFifo l.from to l.fn.outs.items l.fn.ins.items)
