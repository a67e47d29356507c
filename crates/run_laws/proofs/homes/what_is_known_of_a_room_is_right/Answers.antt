use Rattle.run_laws.proofs.KnownRooms.{known-are}
use Rattle.run_laws.proofs.KnownPages.{pages-are}
use Rattle.run_laws.proofs.homes.what_is_known_of_a_room_is_right.Goals as goal

pub returns : goal.returns
returns c = record { known = known-are; pages = pages-are }
