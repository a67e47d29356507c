-- The least rank so far.
use Rattle.ring_links.proofs.FirstSoFar.{LeastSoFar}
use Rattle.ring_links.proofs.merge.first_log.Given as goal

abbrev pub invariant-loop-i : goal.invariant-loop-i
invariant-loop-i l = LeastSoFar l.nexts l.i l.first l.least
