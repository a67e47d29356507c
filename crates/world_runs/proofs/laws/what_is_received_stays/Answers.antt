use Rattle.world_runs.proofs.Turning.{turn-is}
use Rattle.world_runs.proofs.TimelyTurns.{timely-turn}
use Rattle.world_runs.proofs.Happening.{received-stays, turns-marked}
use Rattle.world_runs.proofs.laws.what_is_received_stays.Goals as goal

pub returns : goal.returns
returns c = λ s plan setup cs old new choice before timely now n what incoming e.
    received-stays s plan old new (timely-turn s setup plan cs old new before (turn-is s plan old choice new now) timely) (turns-marked s setup plan cs old before timely) n what incoming e
