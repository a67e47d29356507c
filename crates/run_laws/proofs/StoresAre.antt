-- So in every run, by what stamps, contents and mappings are.
use Rattle.std.proofs.Common.{◌≡◌, List, Some}
use Rattle.node_runs.specs.Setups.{Setup, IsSetup}
use Rattle.node_runs.specs.NodesKeep.{IsTimely}
use Rattle.node_runs.specs.Runs.{World, Choice, world_after}
use Rattle.node_runs.proofs.Running.{run-keeps}
use Rattle.run_laws.proofs.Targets.{targets-told}
use Rattle.run_laws.proofs.Stamping.{stamped-are}
use Rattle.run_laws.proofs.Keeping.{contents-are}
use Rattle.run_laws.specs.Stores.{AreStores, AreReadsRight}
use Rattle.run_laws.proofs.ReadsRight.{reads-right}
use Rattle.run_laws.proofs.StoresRun.{kept-are}

module _ (s : Setup) (setup : IsSetup s) where
  pub stores-are : (cs : List Choice) (w : World) → world_after s cs ≡ Some w → IsTimely w → AreStores s w
  stores-are cs w e timely = (kept-are s setup (stamped-are s setup) (contents-are s setup) (targets-told s setup) cs w e timely).stores

  pub reads-are : (cs : List Choice) (w : World) → world_after s cs ≡ Some w → IsTimely w → AreReadsRight s w
  reads-are cs w e timely = reads-right s setup cs w e timely ((run-keeps s setup cs w e).kept timely).nodes (contents-are s setup cs w e timely) (stamped-are s setup cs w e timely) (stores-are cs w e timely)
