use Rattle.std.proofs.Common.{◌≡◌, drop}
use Rattle.std.specs.List.{list_any}
use Rattle.dir_records.specs.Directories.{has_name}
use Rattle.dir_records.proofs.directory.is_taken.Given as goal

-- none so far has the name
abbrev pub invariant-loop-slot : goal.invariant-loop-slot
invariant-loop-slot l = list_any (has_name l.name) l.slots ≡ list_any (has_name l.name) (drop l.slot-index l.slots)
