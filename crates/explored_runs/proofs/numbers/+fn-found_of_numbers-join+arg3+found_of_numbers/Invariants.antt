use Rattle.std.proofs.Common.{◌*◌, ◌-◌}
use Rattle.explored_runs.proofs.numbers.+fn-found_of_numbers-join+arg3+found_of_numbers.Given as goal

abbrev pub decreases-found_of_numbers : goal.decreases-found_of_numbers
decreases-found_of_numbers g l = 2 * l.threads

abbrev pub decreases-join+arg3 : goal.decreases-join+arg3
decreases-join+arg3 g l = 2 * l.threads - 1
