use Rattle.std.proofs.Common.{◌≡◌, ◌≤◌, true, drop, length}
use Rattle.dir_records.specs.declared.component.TheConstants.{MARKS}
use Rattle.dir_records.specs.Directories.{are_apart}
use Rattle.dir_records.proofs.NamesMarked.{AreMarked}
use Rattle.dir_records.proofs.directory.are_apart.Given as goal

abbrev pub invariant-loop-i : goal.invariant-loop-i
invariant-loop-i l = record {
  within : l.i ≤ length l.slots;
  size : length l.marked ≡ MARKS;
  -- those that were passed are apart from each other
  apart : are_apart (drop l.i l.slots) ≡ true;
  marked : AreMarked l.marked (drop l.i l.slots);
}

abbrev pub decreases-loop-i : goal.decreases-loop-i
decreases-loop-i l = l.i
