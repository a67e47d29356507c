-- So many came before so far.
use Rattle.std.proofs.Common.{◌≡◌, ◌+◌, ◌≤◌, length, drop}
use Rattle.world_core.specs.Before.{count_before}
use Rattle.world_core.proofs.station.count_before.Given as goal

abbrev pub invariant-loop-i : goal.invariant-loop-i
invariant-loop-i l = (count_before l.at l.list ≡ l.i + count_before l.at (drop l.i l.list)) × (l.i ≤ length l.list)
