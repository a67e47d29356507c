use Rattle.node_runs.proofs.Worlds.{places-rise, nodes-counted}
use Rattle.node_runs.proofs.laws.places_rise.Goals as goal

pub returns : goal.returns
returns c = record { places = places-rise; counted = λ s setup cs w e n. nodes-counted s setup cs w e n }
