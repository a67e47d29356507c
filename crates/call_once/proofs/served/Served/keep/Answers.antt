use Rattle.std.proofs.Common.{arith}
use Rattle.call_once.proofs.KeptCalls.{calls_in-set, calls_in-by_process}
use Rattle.call_once.proofs.served.Served.keep.Goals as goal

-- the process's slot is filled
pub returns-clause-kept : goal.returns-clause-kept
returns-clause-kept g c =
    rw (← c.self.view_is, ← c.place_of.ensures.place)
    (calls_in-set 0 c.place_of.result c.place_of.result (record { number = c.args.number; body = c.args.body }) c.self.inside.slots.items (omega arith) (omega arith))

pub returns-clause-by_process : goal.returns-clause-by_process
returns-clause-by_process g c = rw (← c.self.view_is) (calls_in-by_process c.self.inside.slots.items c.self.invariant)
