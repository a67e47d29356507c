use Rattle.std.proofs.Common.{◌≡◌, drop}
use Rattle.event_views.specs.Labels.{command_in}
use Rattle.event_views.proofs.labels.command_of.Given as goal

abbrev pub invariant-loop-row : goal.invariant-loop-row
invariant-loop-row l = command_in l.commands l.name ≡ command_in (drop l.row-index l.commands) l.name
