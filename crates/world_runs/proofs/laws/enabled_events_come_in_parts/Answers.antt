use Rattle.world_runs.proofs.Alone.{enabled-parts}
use Rattle.world_runs.proofs.laws.enabled_events_come_in_parts.Goals as goal

pub returns : goal.returns
returns c = enabled-parts
