use Rattle.run_laws.proofs.Acting.{acts-behind}
use Rattle.run_laws.proofs.calls.acts_stand_behind_the_begin.Goals as goal

pub returns : goal.returns
returns c = acts-behind
