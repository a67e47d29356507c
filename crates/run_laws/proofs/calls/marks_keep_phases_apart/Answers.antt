use Rattle.run_laws.proofs.InPhases.{in_phases-are}
use Rattle.run_laws.proofs.calls.marks_keep_phases_apart.Goals as goal

pub returns : goal.returns
returns c = in_phases-are
