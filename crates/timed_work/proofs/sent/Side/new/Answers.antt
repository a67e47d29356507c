use Rattle.std.proofs.Common.{arith}
use Rattle.uid_names.proofs.Wires.{wire_room-least}
use Rattle.timed_work.proofs.sent.Side.new.Goals as goal

pub new-requires-2-clause-rooms : goal.new-requires-2-clause-rooms
new-requires-2-clause-rooms c =
    let least = wire_room-least c.args.wire in
    rw (c.in_ok-add.ensures.ok, c.new-opening.ensures) (omega (arith, least))
