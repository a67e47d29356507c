use Rattle.std.proofs.Common.{sym, subst, arith}
use Rattle.explored_runs.specs.Explored.{IsExplored}
use Rattle.explored_runs.proofs.Lists.{batch-explored, explored-none, explored-total, parts-kept, parts-total}
use Rattle.explored_runs.proofs.exploring.explore.Goals as goal

pub loop-next-init : goal.loop-next-init
loop-next-init g c =
    let s = c.args.script.now in
    let first = c.args.first in
    (subst (IsExplored s first first) (sym c.new-explored.ensures) (explored-none s first), omega arith, omega arith)

pub join_all-requires-clause-few : goal.join_all-requires-clause-few
join_all-requires-clause-few g c =
    let s = c.args.script.now in
    omega (arith, explored-total s c.args.first c.loop-next.next c.loop-next.explored c.loop-next.invariant.0, parts-total s c.loop-next.next c.batch_end-to.result c.in_ok-parts.parts.items c.in_ok-parts.ensures)

pub join_all-requires-clause-kept : goal.join_all-requires-clause-kept
join_all-requires-clause-kept g c = parts-kept c.args.script.now c.loop-next.next c.batch_end-to.result c.in_ok-parts.parts.items c.in_ok-parts.ensures

pub loop-next-preserved-in-Some : goal.loop-next-preserved-in-Some
loop-next-preserved-in-Some g c =
    let so_far = c.loop-next.invariant in
    (batch-explored c.args.script.now c.args.first c.loop-next.next c.batch_end-to.result c.loop-next.explored c.join_all.new.self c.in_ok-parts.parts.items so_far.0 c.in_ok-parts.ensures c.in_ok-join_all.ensures.added, omega arith, omega arith)

pub loop-next-preserved : goal.loop-next-preserved
loop-next-preserved g c =
    let so_far = c.loop-next.invariant in
    (batch-explored c.args.script.now c.args.first c.loop-next.next c.batch_end-to.result c.loop-next.explored c.join_all.new.self c.in_ok-parts.parts.items so_far.0 c.in_ok-parts.ensures c.in_ok-join_all.ensures.added, omega arith, omega arith)
