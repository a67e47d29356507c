use Rattle.std.proofs.Common.{length}
use Rattle.std.specs.Prelude.{◌↔◌, All}
use Rattle.journal_text.specs.Lines.{Names}
use Rattle.journal_text.proofs.named.are_merged_named.Given as goal

abbrev pub invariant-loop-event : goal.invariant-loop-event
invariant-loop-event l = All (Names l.names) l.left ↔ All (Names l.names) l.events.events

abbrev pub decreases-loop-event : goal.decreases-loop-event
decreases-loop-event l = length l.left
