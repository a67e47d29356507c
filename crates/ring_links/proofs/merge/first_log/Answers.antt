use Rattle.ring_links.proofs.FirstSoFar.{first-of-all}
use Rattle.ring_links.proofs.merge.first_log.Goals as goal

pub returns-clause-first : goal.returns-clause-first
returns-clause-first c = first-of-all c.args.nexts.now c.loop-i.i c.loop-i.first c.loop-i.least c.loop-i-test.false c.loop-i.invariant
