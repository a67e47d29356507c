use Rattle.std.proofs.Common.{◌+◌, ◌≤◌, List, sym, subst, arith}
use Rattle.run_outcomes.specs.declared.tally.TheConstants.{KEPT_OUTCOMES}
use Rattle.explored_counts.specs.declared.seen.Explored.{Explored}
use Rattle.explored_runs.specs.Explored.{AreParts}
use Rattle.explored_runs.proofs.Lists.{part-kept, parts-push}
use Rattle.explored_runs.proofs.numbers.explored_in_turn.Goals as goal

pub loop-next-preserved : goal.loop-next-preserved
loop-next-preserved c =
    let s = c.args.script.now in
    let next = c.loop-next.next in
    let part = c.in_ok-explored_part.field-0 in
    let end = next + c.min.result in
    let few : end ≤ next + KEPT_OUTCOMES = omega arith in
    let kept = part-kept s next end part c.in_ok-explored_part.ensures few in
    (subst (λ (xs : List Explored). AreParts s c.args.from end xs) (sym {A = List Explored} c.in_ok-push.ensures.items) (parts-push s c.args.from next end c.loop-next.parts.items part c.loop-next.invariant.0 c.in_ok-explored_part.ensures kept), omega arith)
