use Rattle.run_laws.proofs.OpenCalls.{runs-carry}
use Rattle.run_laws.proofs.desks.what_open_calls_of_a_run_carry_fits.Goals as goal

pub returns : goal.returns
returns c = runs-carry
