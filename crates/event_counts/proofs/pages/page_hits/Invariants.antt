use Rattle.std.proofs.Common.{◌≡◌, ◌≤◌, take}
use Rattle.std.specs.Prelude.{count_by}
use Rattle.event_counts.specs.PageCounts.{is_hit}
use Rattle.event_counts.proofs.pages.page_hits.Given as goal

abbrev pub invariant-loop-row : goal.invariant-loop-row
invariant-loop-row l = (l.count ≤ l.row-index) × (l.count ≡ count_by (is_hit l.node l.run.events) (take l.row-index l.run.commands))
