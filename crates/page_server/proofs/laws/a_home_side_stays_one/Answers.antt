use Rattle.page_server.proofs.Sides.{IsSide-first, IsSide-served}
use Rattle.page_server.proofs.laws.a_home_side_stays_one.Goals as goal

pub returns : goal.returns
returns c = record { first = IsSide-first; served = IsSide-served }
