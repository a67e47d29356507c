use Rattle.world_core.proofs.Turning.{receives}
use Rattle.world_core.proofs.laws.listed_events_receive_what_was_sent.Goals as goal

pub returns : goal.returns
returns g c = λ made s plan w n x few waits is place d there. receives g.P.Program.wants g.P.Program.becomes made s plan w n x few waits is place d there
