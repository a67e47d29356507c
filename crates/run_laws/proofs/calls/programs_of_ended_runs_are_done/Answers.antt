use Rattle.std.specs.Prelude.{map}
use Rattle.node_runs.specs.Runs.{choice_of}
use Rattle.run_laws.proofs.Ending.{program-done}
use Rattle.run_laws.proofs.calls.programs_of_ended_runs_are_done.Goals as goal

pub returns : goal.returns
returns c = λ s setup paced es w e timely ended. program-done s setup (map choice_of es) w e timely ended paced
