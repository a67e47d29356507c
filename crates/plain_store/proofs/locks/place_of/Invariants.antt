use Rattle.std.proofs.Common.{◌≡◌, take, drop, ◌++◌}
use Rattle.dom_history.specs.Locks.{rows_with}
use Rattle.plain_store.proofs.locks.place_of.Given as goal

abbrev pub invariant-loop-i : goal.invariant-loop-i
invariant-loop-i l = take l.i l.rows ++ rows_with l.new (drop l.i l.rows) ≡ rows_with l.new l.rows
