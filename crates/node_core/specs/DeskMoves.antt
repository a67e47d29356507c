-- What a desk's call makes of an operation, in the form in which the node keeps it.
use Rattle.fault_handler.specs.Outcomes.{Turn, Outcome}
use Rattle.node_core.specs.declared.moves.DeskMove.{DeskMove}
use Rattle.node_core.specs.declared.moves.DeskMove.TheVariants.{Ends, Asks, Waits}

-- the outcome that it is
abbrev pub move_seen : DeskMove → Outcome
move_seen (Ends reply dropped) = record { turn = Turn.Ends reply; dropped = dropped }
move_seen (Asks home ask dropped) = record { turn = Turn.Asks home ask; dropped = dropped }
move_seen (Waits u k dropped) = record { turn = Turn.Waits u k; dropped = dropped }
