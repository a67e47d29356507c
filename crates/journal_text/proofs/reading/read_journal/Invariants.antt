use Rattle.std.proofs.Common.{◌≡◌, ◌≤◌, ◌+◌, ◌++◌, All, None, length}
use Rattle.journal_text.specs.Lines.{journal}
use Rattle.journal_text.specs.Written.{IsWritten, RiseFrom, last_from}
use Rattle.journal_text.proofs.reading.read_journal.Given as goal

abbrev pub invariant-loop-rest : goal.invariant-loop-rest
invariant-loop-rest l = record {
  text : l.bytes ≡ journal l.names l.events ++ l.rest;
  written : All (IsWritten l.names) l.events;
  rising : RiseFrom None l.events;
  before : l.before ≡ last_from None l.events;
  count : l.number ≡ length l.events;
  bound : l.number + length l.rest ≤ length l.bytes;
}

abbrev pub decreases-loop-rest : goal.decreases-loop-rest
decreases-loop-rest l = length l.rest
