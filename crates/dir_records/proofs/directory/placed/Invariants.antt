use Rattle.std.proofs.Common.{◌≡◌, drop}
use Rattle.dir_records.specs.Directories.{placed_from}
use Rattle.dir_records.proofs.directory.placed.Given as goal

-- none so far has the name
abbrev pub invariant-loop-i : goal.invariant-loop-i
invariant-loop-i l = placed_from 0 l.name l.slots ≡ placed_from l.i l.name (drop l.i l.slots)
