use Rattle.ring_messages.specs.Bodies.{Ask}
use Rattle.fault_handler.specs.Outcomes.{Turn, Outcome}
use Rattle.node_core.proofs.Requests.{request-there, asks-there}
use Rattle.node_core.proofs.moves.DeskMove.of_step.Goals as goal

pub from_body-requires : goal.from_body-requires
from_body-requires c =
    request-there c.in-Send.body (λ ask. record { turn = Turn.Asks c.in-Send.home ask; dropped = c.in-Send.dropped }) (rw c.in-Send.is at c.requires)

pub returns-in-Send : goal.returns-in-Send
returns-in-Send c =
    rw c.in-Send.is
    (asks-there c.in-Send.body (λ ask. record { turn = Turn.Asks c.in-Send.home ask; dropped = c.in-Send.dropped }) (rw c.in-Send.is at c.requires) c.from_body.result c.from_body.ensures)
