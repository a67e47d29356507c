-- The links of the numbers that came so far.
use Rattle.std.proofs.Common.{◌≡◌}
use Rattle.world_core.specs.Firsts.{first_links}
use Rattle.world_core.proofs.station.links.Given as goal

abbrev pub invariant-loop-n : goal.invariant-loop-n
invariant-loop-n l = l.links.items ≡ first_links l.n
