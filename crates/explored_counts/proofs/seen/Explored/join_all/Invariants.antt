use Rattle.std.proofs.Common.{◌≡◌, ◌+◌, All}
use Rattle.std.specs.Vec.Iter.{into_iter_items}
use Rattle.explored_counts.specs.declared.seen.Explored.{Explored}
use Rattle.explored_counts.specs.Seen.{joined_all, total_of, totals_of}
use Rattle.explored_counts.proofs.seen.Explored.join_all.Given as goal

abbrev pub invariant-loop-part : goal.invariant-loop-part
invariant-loop-part l =
    let rest = into_iter_items l.part-iterator in
    record {
      goes_on : joined_all rest l.self ≡ joined_all l.fn.parts.items l.initial.self;
      counted : total_of l.self + totals_of rest ≡ total_of l.initial.self + totals_of l.fn.parts.items;
      kept : All (λ (part : Explored). part.tally.rest ≡ 0) rest;
    }
