use Rattle.world_core.proofs.Listing.{listed-enabled}
use Rattle.world_core.proofs.laws.what_is_listed_is_enabled.Goals as goal

pub returns : goal.returns
returns g c = λ made s plan w n x few waits is. listed-enabled g.P.Program.wants g.P.Program.becomes made s plan w n x few waits is
