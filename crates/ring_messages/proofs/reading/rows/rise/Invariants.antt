use Rattle.std.proofs.Common.{◌≡◌, ◌-◌, drop}
use Rattle.ring_messages.specs.ReaderRows.{is_rising}
use Rattle.ring_messages.proofs.reading.rows.rise.Given as goal

abbrev pub invariant-loop-i : goal.invariant-loop-i
invariant-loop-i l = is_rising l.rows ≡ is_rising (drop (l.i - 1) l.rows)
