use Rattle.std.proofs.Common.{◌≡◌, take, map}
use Rattle.timed_work.proofs.worlds.names_of.Given as goal

abbrev pub invariant-loop-row : goal.invariant-loop-row
invariant-loop-row l = l.names.items ≡ map (λ n. n.name) (take l.row-index l.rows)
