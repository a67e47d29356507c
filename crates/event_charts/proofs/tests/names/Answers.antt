use Rattle.event_charts.proofs.OneName.{one_name}
use Rattle.event_charts.proofs.tests.names.Goals as goal

pub from_list-requires : goal.from_list-requires
from_list-requires c = rw c.in_ok-a.ensures one_name
