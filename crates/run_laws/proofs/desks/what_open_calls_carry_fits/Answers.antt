use Rattle.run_laws.proofs.OpenCalls.{step-carries, reached-carries}
use Rattle.run_laws.proofs.desks.what_open_calls_carry_fits.Goals as goal

pub returns : goal.returns
returns c = record { step = step-carries; reached = reached-carries }
