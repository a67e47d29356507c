use Rattle.std.proofs.Common.{◌≡◌, drop}
use Rattle.dir_records.specs.Directories.{row_named}
use Rattle.dir_records.proofs.directory.find.Given as goal

-- none so far has the name
abbrev pub invariant-loop-slot : goal.invariant-loop-slot
invariant-loop-slot l = row_named l.name l.slots ≡ row_named l.name (drop l.slot-index l.slots)
