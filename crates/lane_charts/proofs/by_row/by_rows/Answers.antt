use Rattle.std.proofs.Common.{◌∙◌, ◌<◌, List, ap, get_or, length, subst}
use Rattle.lane_charts.specs.declared.chart.Arrow.{Arrow}
use Rattle.lane_charts.specs.ArrowKeys.{key_as}
use Rattle.lane_charts.specs.Places.{with_place}
use Rattle.lane_charts.proofs.Keyed.{key-low, keyed-more}
use Rattle.lane_charts.proofs.by_row.by_rows.Goals as goal

pub loop-place-preserved : goal.loop-place-preserved
loop-place-preserved c =
    let chart = c.args.chart.now in
    let arrows = chart.arrows in
    let i = c.loop-place.place in
    let x = c.arrow-item.result in
    let same = c.arrows-arrow-items.ensures.value in
    let low = subst (λ (all : List Arrow). i < length all) same c.loop-place-test.true in
    let is = c.arrow-item.is ∙ ap (λ (all : List Arrow). get_or all i x) same in
    let placed = c.arrows-arrow-items.ensures.placed i x low in
    keyed-more (key_as c.args.standing) (length chart.rows) i c.loop-place.places c.put.new.self arrows x c.loop-place.invariant low is
    (key-low chart.lanes chart.rows c.args.standing (get_or arrows i x) placed) (c.in_ok-put.ensures ∙ ap (λ o. with_place o i c.loop-place.places) c.row_of.ensures)
