use Rattle.std.proofs.Common.{◌≡◌, ◌<◌, ◌+◌, ℕ, get_or, true}
use Rattle.uid_names.specs.Names.{ObjectName}
use Rattle.dom_history.specs.Events.{page_lt}
use Rattle.dom_history.proofs.event.are_rising.Given as goal

abbrev pub invariant-loop-i : goal.invariant-loop-i
invariant-loop-i l = (k : ℕ) (d : ObjectName × ℕ) → k + 1 < l.i → page_lt (get_or l.pages k d) (get_or l.pages (k + 1) d) ≡ true
