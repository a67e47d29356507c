use Rattle.std.proofs.Common.{◌≡◌, ◌≤◌, take, length}
use Rattle.std.specs.Prelude.{All}
use Rattle.journal_text.specs.Lines.{Names, journal}
use Rattle.journal_text.proofs.writing.write_journal.Given as goal

abbrev pub invariant-loop-event : goal.invariant-loop-event
invariant-loop-event l = record {
  text : l.lines.text ≡ journal l.names (take l.event-index l.list);
  room : length (journal l.names l.list) ≤ l.lines.room;
  named : All (Names l.names) l.list;
}
