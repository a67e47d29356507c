use Rattle.std.proofs.Common.{◌≡◌, take}
use Rattle.run_views.proofs.views.objects_of.Given as goal

abbrev pub invariant-loop-row : goal.invariant-loop-row
invariant-loop-row l = l.objects ≡ take l.row-index l.rows
