use Rattle.std.proofs.Common.{◌≡◌, drop}
use Rattle.std.specs.Prelude.{find}
use Rattle.fault_handler.specs.Entries.{is_on}
use Rattle.fault_handler.proofs.entries.entry_of.Given as goal

abbrev pub invariant-loop-entry : goal.invariant-loop-entry
invariant-loop-entry l = find (is_on l.uid) (drop l.entry-index l.entries) ≡ find (is_on l.uid) l.entries
