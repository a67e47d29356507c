use Rattle.std.proofs.Common.{arith}
use Rattle.call_once.proofs.KeptCalls.{call_of-read}
use Rattle.call_once.proofs.served.Served.call.Goals as goal

pub returns : goal.returns
returns g c =
    rw c.as_ref.ensures.value
    (call_of-read c.self.inside.slots.items c.args.self.now c.place_of.result c.args.proc c.index.result.now c.self.view_is c.place_of.ensures.place (omega arith) c.index.ensures)
