use Rattle.run_laws.proofs.NotedRooms.{rooms-always}
use Rattle.run_laws.proofs.effects.rooms_are_those_of_the_homes.Goals as goal

pub returns : goal.returns
returns c = rooms-always
