use Rattle.std.proofs.Common.{◌≡◌, ◌≤◌, take}
use Rattle.std.specs.Prelude.{count_by}
use Rattle.event_counts.specs.CommandCounts.{is_refused}
use Rattle.event_counts.proofs.commands.locks_refused.Given as goal

abbrev pub invariant-loop-row : goal.invariant-loop-row
invariant-loop-row l = (l.count ≤ l.row-index) × (l.count ≡ count_by is_refused (take l.row-index l.run.commands))
