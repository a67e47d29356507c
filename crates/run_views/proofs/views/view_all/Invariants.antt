-- The events that came so far were done, and are seen.
use Rattle.std.proofs.Common.{◌≡◌, take}
use Rattle.std.specs.Prelude.{reverse}
use Rattle.event_views.specs.Runs.{events_of}
use Rattle.run_views.specs.Walked.{HasDone}
use Rattle.run_views.proofs.views.view_all.Given as goal

abbrev pub invariant-loop-event : goal.invariant-loop-event
invariant-loop-event l = (events_of l.views ≡ take l.event-index l.events) × HasDone l.script l.pass (reverse (take l.event-index l.events))
