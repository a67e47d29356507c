use Rattle.std.proofs.Common.{◌≡◌, ◌≤◌, take}
use Rattle.std.specs.Prelude.{count_by}
use Rattle.event_counts.specs.PageCounts.{sends_home}
use Rattle.event_counts.proofs.pages.pages_sent_home_for.Given as goal

abbrev pub invariant-loop-view : goal.invariant-loop-view
invariant-loop-view l = (l.count ≤ l.view-index) × (l.count ≡ count_by (sends_home l.node l.run.commands l.errand) (take l.view-index l.run.events))
