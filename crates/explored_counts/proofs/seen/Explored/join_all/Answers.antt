use Rattle.std.proofs.Common.{◌≡◌, ◌∙◌, ◌∷◌, All, ap, sym, subst, arith}
use Rattle.std.proofs.lemmas.List.Elements.{All-tail}
use Rattle.std.proofs.lemmas.List.Sums.{sum_by-cons}
use Rattle.std.specs.Vec.Iter.{into_iter_items}
use Rattle.explored_counts.specs.declared.seen.Explored.{Explored}
use Rattle.explored_counts.specs.Seen.{joined_all, total_of, totals_of}
use Rattle.explored_counts.proofs.seen.Explored.join_all.Goals as goal

pub loop-part-preserved : goal.loop-part-preserved
loop-part-preserved c =
    let so_far = c.loop-part.invariant in
    let P : Explored → Type 0 = λ part. part.tally.rest ≡ 0 in
    let rest = into_iter_items c.next.new.self in
    let all : into_iter_items c.loop-part.part-iterator ≡ c.in-Some.part ∷ rest = c.in-Some.ensures.steps.0 in
    record {
      goes_on = ap (joined_all rest) c.in_ok-join.ensures.added ∙ ap (λ parts. joined_all parts c.loop-part.self) (sym all) ∙ so_far.goes_on;
      counted = omega (arith, c.in_ok-join.ensures.total, ap totals_of all, sum_by-cons total_of c.in-Some.part rest, so_far.counted);
      kept = All-tail P c.in-Some.part rest (subst (All P) all so_far.kept);
    }
