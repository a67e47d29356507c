use Rattle.ring_messages.specs.Bodies.{Ask}
use Rattle.fault_handler.specs.Outcomes.{Turn, Outcome}
use Rattle.node_core.proofs.Requests.{request-there, asks-there}
use Rattle.node_core.proofs.moves.DeskMove.of_access.Goals as goal

pub from_body-requires : goal.from_body-requires
from_body-requires c =
    request-there c.in-Need.body (λ ask. record { turn = Turn.Asks c.in-Need.home ask; dropped = c.in-Need.dropped }) (rw c.in-Need.is at c.requires)

pub returns-in-Need : goal.returns-in-Need
returns-in-Need c =
    rw c.in-Need.is
    (asks-there c.in-Need.body (λ ask. record { turn = Turn.Asks c.in-Need.home ask; dropped = c.in-Need.dropped }) (rw c.in-Need.is at c.requires) c.from_body.result c.from_body.ensures)
