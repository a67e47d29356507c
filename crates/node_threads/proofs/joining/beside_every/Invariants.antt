use Rattle.std.proofs.Common.{◌≢◌, ℕ, ◌<◌, length}
use Rattle.node_threads.specs.Joined.{IsFifo, OfLink, AllStayOuts, AllStayIns}
use Rattle.node_threads.proofs.joining.beside_every.Given as goal

abbrev pub invariant-loop-from : goal.invariant-loop-from
invariant-loop-from l =
    AllStayOuts l.fn.outs.items l.outs.items × AllStayIns l.fn.ins.items l.ins.items
    × ((from to : ℕ) → from < l.from → to < length l.fn.ins.items → from ≢ to → OfLink IsFifo from to l.fn.outs.items l.fn.ins.items)
