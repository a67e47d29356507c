-- Those that were asked so far.
use Rattle.std.proofs.Common.{take}
use Rattle.count_up.specs.Sums.{HaveSeen}
use Rattle.count_up.proofs.runs.seen_by_all.Given as goal

abbrev pub invariant-loop-counter : goal.invariant-loop-counter
invariant-loop-counter l = HaveSeen l.sum (take l.counter-index l.counters)
