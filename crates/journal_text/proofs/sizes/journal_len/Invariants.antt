use Rattle.std.proofs.Common.{◌≡◌, take, length}
use Rattle.journal_text.specs.Lines.{journal}
use Rattle.journal_text.proofs.sizes.journal_len.Given as goal

abbrev pub invariant-loop-event : goal.invariant-loop-event
invariant-loop-event l = l.total ≡ length (journal l.names (take l.event-index l.events))
