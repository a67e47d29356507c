use Rattle.std.proofs.Common.{◌≡◌, ◌≤◌, take}
use Rattle.std.specs.Prelude.{count_by}
use Rattle.event_counts.specs.CommandCounts.{is_of_kind}
use Rattle.event_counts.proofs.commands.commands_of_kind.Given as goal

abbrev pub invariant-loop-row : goal.invariant-loop-row
invariant-loop-row l = (l.count ≤ l.row-index) × (l.count ≡ count_by (is_of_kind l.kind) (take l.row-index l.run.commands))
