use Rattle.std.proofs.Common.{◌≡◌, drop}
use Rattle.std.specs.List.{list_any}
use Rattle.event_views.specs.Commands.{same_command}
use Rattle.event_counts.proofs.commands.is_among.Given as goal

abbrev pub invariant-loop-other : goal.invariant-loop-other
invariant-loop-other l = list_any (same_command l.command) l.named ≡ list_any (same_command l.command) (drop l.other-index l.named)
