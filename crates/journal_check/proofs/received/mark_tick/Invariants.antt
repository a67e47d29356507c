-- No mark that came so far, from the last one on, is the one that is looked for.
use Rattle.std.proofs.Common.{◌≡◌, drop}
use Rattle.std.specs.List.{find}
use Rattle.journal_check.proofs.Marks.{is_this_mark, seen_all}
use Rattle.journal_check.proofs.received.mark_tick.Given as goal

abbrev pub invariant-loop-i : goal.invariant-loop-i
invariant-loop-i l = find (is_this_mark l.from l.phase) (seen_all l.marks) ≡ find (is_this_mark l.from l.phase) (drop l.i (seen_all l.marks))
