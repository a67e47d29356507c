-- What the moves of a run's history stand on holds in every run.
use Rattle.node_runs.specs.Setups.{Setup, IsSetup}
use Rattle.run_laws.proofs.NotedEffects.{effects-noted}
use Rattle.run_laws.proofs.NotedDeeds.{deeds-told}
use Rattle.run_laws.proofs.States.{states-told}
use Rattle.run_laws.proofs.StoresAre.{reads-are}
use Rattle.run_laws.proofs.DeskReplies.{desks-reply}
use Rattle.run_laws.proofs.HomeReplies.{homes-reply}
use Rattle.run_laws.specs.KnownRuns.{IsAlwaysKnown}

pub known-always : (s : Setup) → IsSetup s → IsAlwaysKnown s
known-always s setup cs w e timely = record {
  effects = effects-noted s setup cs w e timely;
  deeds = deeds-told s setup cs w e timely;
  states = states-told s setup cs w e timely;
  desks = desks-reply reads-are s setup cs w e timely;
  homes = homes-reply effects-noted s setup cs w e timely;
}
