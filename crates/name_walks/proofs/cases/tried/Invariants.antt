use Rattle.std.proofs.Common.{length}
use Rattle.name_walks.proofs.cases.tried.Given as goal

abbrev pub decreases-loop-line : goal.decreases-loop-line
decreases-loop-line l = length l.rest
