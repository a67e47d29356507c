use Rattle.std.proofs.Common.{◌*◌, ◌-◌}
use Rattle.explored_runs.proofs.numbers.+explored_of_numbers+fn-explored_of_numbers-join+arg3.Given as goal

abbrev pub decreases-explored_of_numbers : goal.decreases-explored_of_numbers
decreases-explored_of_numbers g l = 2 * l.threads

abbrev pub decreases-join+arg3 : goal.decreases-join+arg3
decreases-join+arg3 g l = 2 * l.threads - 1
