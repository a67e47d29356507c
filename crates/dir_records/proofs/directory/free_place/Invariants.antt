use Rattle.std.proofs.Common.{◌≡◌, ◌+◌, drop}
use Rattle.dir_records.specs.Directories.{first_free}
use Rattle.dir_records.proofs.directory.free_place.Given as goal

-- none so far is free
abbrev pub invariant-loop-i : goal.invariant-loop-i
invariant-loop-i l = first_free l.slots ≡ l.i + first_free (drop l.i l.slots)
