use Rattle.page_server.proofs.Within.{within-first, within-served, told-within}
use Rattle.page_server.proofs.laws.a_home_side_stays_within_a_room.Goals as goal

pub returns : goal.returns
returns c = record { first = within-first; served = within-served; told = told-within }
