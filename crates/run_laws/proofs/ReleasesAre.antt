-- So in every run, by what stores and lock states are.
use Rattle.std.proofs.Common.{◌≡◌, List, Some}
use Rattle.node_runs.specs.NodesKeep.{IsTimely}
use Rattle.node_runs.specs.Runs.{World, Choice, world_after}
use Rattle.node_runs.specs.Setups.{Setup, IsSetup}
use Rattle.run_laws.proofs.States.{states-told}
use Rattle.run_laws.proofs.StoresAre.{stores-are}
use Rattle.run_laws.specs.Releases.{AreReleasesHome}
use Rattle.run_laws.proofs.GivenBack.{releases-are}
use Rattle.run_laws.proofs.LeftRun.{left-are}

pub released-are : (s : Setup) → IsSetup s → (cs : List Choice) (w : World) → world_after s cs ≡ Some w → IsTimely w → AreReleasesHome s w
released-are s setup = releases-are s setup (left-are s setup) (stores-are s setup) (states-told s setup)
