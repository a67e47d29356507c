use Rattle.std.proofs.Common.{◌≡◌, ◌-◌}
use Rattle.ring_messages.specs.ReaderRows.{rows_at}
use Rattle.ring_messages.proofs.Loop.{with_front}
use Rattle.ring_messages.proofs.reading.rows.rows.Given as goal

abbrev pub invariant-loop : goal.invariant-loop
invariant-loop l = with_front l.rows (rows_at (l.count - l.counter) l.rest) ≡ rows_at l.count l.bytes
