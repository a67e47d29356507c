use Rattle.std.proofs.Common.{◌≡◌, ◌≤◌, ◌-◌, ℕ, [], length, slice_index_or}
use Rattle.uid_names.specs.declared.limits.TheConstants.{PROCESSES}
use Rattle.script_reader.proofs.index.Places.new.Given as goal

abbrev pub invariant-loop-alloc : goal.invariant-loop-alloc
invariant-loop-alloc l = (length l.lists.items ≤ PROCESSES) × ((slot : ℕ) → slice_index_or l.lists.items slot [] ≡ [])

abbrev pub decreases-loop-alloc : goal.decreases-loop-alloc
decreases-loop-alloc l = PROCESSES - length l.lists.items
