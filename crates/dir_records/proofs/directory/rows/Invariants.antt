use Rattle.std.proofs.Common.{◌≡◌, ◌++◌, drop}
use Rattle.dir_records.specs.Directories.{rows_of}
use Rattle.dir_records.proofs.directory.rows.Given as goal

-- the rows so far, and those to come
abbrev pub invariant-loop-slot : goal.invariant-loop-slot
invariant-loop-slot l = rows_of l.slots ≡ l.rows ++ rows_of (drop l.slot-index l.slots)
