use Rattle.std.proofs.Common.{◌≡◌, ◌+◌}
use Rattle.std.specs.Vec.Iter.{into_iter_items}
use Rattle.run_outcomes.specs.Tallies.{counts_of, rows_tallied}
use Rattle.run_outcomes.proofs.tally.Tally.add_rows.Given as goal

abbrev pub invariant-loop-row : goal.invariant-loop-row
invariant-loop-row l =
    let rest = into_iter_items l.row-iterator in
    record {
      goes_on : rows_tallied rest l.self ≡ rows_tallied l.fn.other.rows l.initial.self;
      counted : l.self.added + counts_of rest ≡ l.initial.self.added + counts_of l.fn.other.rows;
    }
