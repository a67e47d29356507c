use Rattle.world_runs.proofs.Counting.{runs-low}
use Rattle.world_runs.proofs.laws.ticks_are_few.Goals as goal

pub returns : goal.returns
returns c = record { events = λ s cs w e. (runs-low s cs w e).events; nodes = λ s cs w e n. (runs-low s cs w e).nodes n }
