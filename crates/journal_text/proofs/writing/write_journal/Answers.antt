use Rattle.std.proofs.Common.{[], arith}
use Rattle.journal_text.specs.Lines.{line}
use Rattle.journal_text.proofs.Drops.{one_more_fits}
use Rattle.journal_text.proofs.writing.write_journal.Goals as goal

pub write_event-requires-clause-room : goal.write_event-requires-clause-room
write_event-requires-clause-room c =
    rw c.loop-event.invariant.text
    (one_more_fits (line c.args.names.now) [] _ c.loop-event.event-index c.loop-event.lines.room c.event-item.result c.event-item.is c.loop-event-test.true (omega (arith, c.loop-event.invariant.room)))

pub write_event-requires-clause-named : goal.write_event-requires-clause-named
write_event-requires-clause-named c = rw c.event-item.is (c.loop-event.invariant.named c.loop-event.event-index _ c.loop-event-test.true)
