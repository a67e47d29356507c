-- What a line has at most of the events that were read, and what is left of them.
use Rattle.std.proofs.Common.{◌≡◌, ◌++◌, ◌+◌, ◌*◌, ◌≤◌, length, List}
use Rattle.std.specs.Prelude.{All}
use Rattle.dom_history.specs.Events.{Happening}
use Rattle.journal_text.specs.Lines.{line}
use Rattle.journal_text.proofs.lines.longest_of.Given as goal

abbrev pub invariant-loop-event : goal.invariant-loop-event
invariant-loop-event l = (read : List Happening) × (read ++ l.left ≡ l.fn.reader) × All (λ e. length (line l.names e) ≤ 300 + 44 * l.dropped) read

abbrev pub decreases-loop-event : goal.decreases-loop-event
decreases-loop-event l = length l.left
