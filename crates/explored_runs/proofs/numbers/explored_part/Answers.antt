use Rattle.std.proofs.Common.{sym, ap, subst, arith}
use Rattle.explored_counts.specs.Seen.{total_of}
use Rattle.explored_runs.specs.Explored.{IsExplored}
use Rattle.explored_runs.proofs.Lists.{explored-none, explored-next}
use Rattle.explored_runs.proofs.numbers.explored_part.Goals as goal

pub loop-number-init : goal.loop-number-init
loop-number-init c =
    let s = c.args.script.now in
    let from = c.args.from in
    (subst (IsExplored s from from) (sym c.new-explored.ensures) (explored-none s from), omega (arith, ap total_of c.new-explored.ensures))

pub loop-number-preserved : goal.loop-number-preserved
loop-number-preserved c =
    let s = c.args.script.now in
    let so_far = c.loop-number.invariant in (
      explored-next s c.args.from c.loop-number.number c.loop-number.explored c.add.new.self c.came_of.result so_far.0 c.came_of.ensures c.in_ok-add.ensures.added,
      omega (arith, c.in_ok-add.ensures.total, so_far.1),
    )
