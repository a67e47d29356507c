use Rattle.std.proofs.Common.{◌≡◌, ◌++◌, drop}
use Rattle.std.specs.List.{filter_map}
use Rattle.event_counts.specs.CommandCounts.{span_of_kind}
use Rattle.event_counts.proofs.commands.spans_of_kind.Given as goal

abbrev pub invariant-loop-row : goal.invariant-loop-row
invariant-loop-row l =
    l.spans ++ filter_map (span_of_kind l.run.events l.kind) (drop l.row-index l.run.commands) ≡ filter_map (span_of_kind l.run.events l.kind) l.run.commands
