use Rattle.run_laws.proofs.TaskPlaces.{step-placed, reached-placed, runs-placed}
use Rattle.run_laws.proofs.desks.open_loads_and_stores_are_at_their_spots.Goals as goal

pub returns : goal.returns
returns c = record { step = step-placed; reached = reached-placed; runs = runs-placed }
