use Rattle.std.proofs.Common.{arith}
use Rattle.uid_names.proofs.Wires.{wire_room-least}
use Rattle.timed_work.proofs.node.Side.new.Goals as goal

pub new-requires-2-clause-rooms : goal.new-requires-2-clause-rooms
new-requires-2-clause-rooms c =
    let least = wire_room-least 1 in
    rw (c.in_ok-add.ensures.ok, c.new-opening.ensures) (omega (arith, least))
