use Rattle.std.proofs.Common.{◌≡◌, ◌++◌, length}
use Rattle.dom_history.proofs.merged_logs.MergedLogs.to_list.Given as goal

abbrev pub invariant-loop-event : goal.invariant-loop-event
invariant-loop-event l = l.list.items ++ l.reader ≡ l.self.events

abbrev pub decreases-loop-event : goal.decreases-loop-event
decreases-loop-event l = length l.reader
