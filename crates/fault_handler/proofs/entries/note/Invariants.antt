use Rattle.std.proofs.Common.{◌≡◌, ◌++◌, map, take, drop}
use Rattle.fault_handler.specs.Entries.{is_on, noted_if}
use Rattle.fault_handler.proofs.entries.note.Given as goal

-- the entries so far are noted where they are of the object, the others stay
abbrev pub invariant-loop-entry : goal.invariant-loop-entry
invariant-loop-entry l = l.entries ≡ map (λ e. noted_if (is_on l.uid e) e) (take l.entry-index l.initial.entries) ++ drop l.entry-index l.initial.entries
