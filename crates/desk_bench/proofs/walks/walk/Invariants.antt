use Rattle.desk_bench.specs.AllReady.{AllReady}
use Rattle.desk_bench.proofs.walks.walk.Given as goal

abbrev pub invariant-loop : goal.invariant-loop
invariant-loop l = AllReady l.desk
