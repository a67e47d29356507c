-- So many rows at least are of smaller numbers.
use Rattle.std.proofs.Common.{◌≤◌, ◌-◌}
use Rattle.wire_links.specs.Rows.{count_below}
use Rattle.wire_links.proofs.fates.place_from.Given as goal

abbrev pub invariant-loop-place : goal.invariant-loop-place
invariant-loop-place l = l.place ≤ count_below l.index l.rows

abbrev pub decreases-loop-place : goal.decreases-loop-place
decreases-loop-place l = count_below l.index l.rows - l.place
