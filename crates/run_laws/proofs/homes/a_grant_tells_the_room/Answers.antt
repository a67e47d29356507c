use Rattle.run_laws.proofs.ToldRooms.{rooms-told}
use Rattle.run_laws.proofs.homes.a_grant_tells_the_room.Goals as goal

pub returns : goal.returns
returns c = rooms-told
