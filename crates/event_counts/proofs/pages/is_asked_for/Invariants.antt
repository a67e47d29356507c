use Rattle.std.proofs.Common.{◌≡◌, drop}
use Rattle.std.specs.List.{list_any}
use Rattle.event_counts.specs.PageCounts.{asks_for}
use Rattle.event_counts.proofs.pages.is_asked_for.Given as goal

abbrev pub invariant-loop-view : goal.invariant-loop-view
invariant-loop-view l = list_any (λ v. asks_for l.command v.sent) l.views ≡ list_any (λ v. asks_for l.command v.sent) (drop l.view-index l.views)
