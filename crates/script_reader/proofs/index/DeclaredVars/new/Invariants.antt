use Rattle.std.proofs.Common.{◌≡◌, ◌≤◌, ◌-◌, ℕ, [], length, slice_index_or}
use Rattle.script_reader.proofs.index.DeclaredVars.new.Given as goal

abbrev pub invariant-loop-alloc : goal.invariant-loop-alloc
invariant-loop-alloc l = (length l.lists.items ≤ 64) × ((place : ℕ) → slice_index_or l.lists.items place [] ≡ [])

abbrev pub decreases-loop-alloc : goal.decreases-loop-alloc
decreases-loop-alloc l = 64 - length l.lists.items
