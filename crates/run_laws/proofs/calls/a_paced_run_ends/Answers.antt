use Rattle.run_laws.proofs.PacedSample.{sample-paced, sample-runs, sample-ends}
use Rattle.run_laws.proofs.calls.a_paced_run_ends.Goals as goal

pub returns : goal.returns
returns c = record { paced = sample-paced; run = sample-runs; ends = sample-ends }
