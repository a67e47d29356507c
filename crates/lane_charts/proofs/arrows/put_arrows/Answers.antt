use Rattle.std.proofs.Common.{◌∙◌, List, ℕ, ◌++◌, ap, length, arith}
use Rattle.std.proofs.lemmas.List.Sums.{count_by-le-length}
use Rattle.std.proofs.lemmas.Result.{on_ok_weaker}
use Rattle.lane_charts.specs.ArrowKeys.{key_as}
use Rattle.lane_charts.specs.Places.{is_key}
use Rattle.lane_charts.specs.declared.by_row.Standing.TheVariants.{Sent}
use Rattle.lane_charts.specs.declared.chart.Arrow.{Arrow}
use Rattle.lane_charts.proofs.ByRow.{groups-all}
use Rattle.lane_charts.proofs.Keyed.{keyed-list, length-places_of, listed-within}
use Rattle.lane_charts.proofs.arrows.put_arrows.Goals as goal

pub put_groups-requires-clause-there : goal.put_groups-requires-clause-there
put_groups-requires-clause-there c =
    let chart = c.args.chart.now in
    listed-within (λ (a : Arrow). is_key c.args.at (key_as Sent a)) chart.arrows c.of.result.now
    (keyed-list (key_as Sent) (length chart.rows) c.args.lines.now.sent chart.arrows c.args.at c.of.result.now c.requires.lines.sent c.requires.there c.of.ensures)

pub put_groups-requires-clause-few : goal.put_groups-requires-clause-few
put_groups-requires-clause-few c =
    let chart = c.args.chart.now in
    let test = λ (a : Arrow). is_key c.args.at (key_as Sent a) in
    let list = keyed-list (key_as Sent) (length chart.rows) c.args.lines.now.sent chart.arrows c.args.at c.of.result.now c.requires.lines.sent c.requires.there c.of.ensures in
    omega (arith, ap length list, length-places_of test 0 chart.arrows, count_by-le-length test chart.arrows)

pub returns : goal.returns
returns c =
    let chart = c.args.chart.now in
    on_ok_weaker c.put_groups.result
    (λ h.
    h
    ∙ ap (λ (t : List ℕ). c.args.to.now ++ t)
    (groups-all chart c.args.at c.args.from c.args.line c.of.result.now
    (keyed-list (key_as Sent) (length chart.rows) c.args.lines.now.sent chart.arrows c.args.at c.of.result.now c.requires.lines.sent c.requires.there c.of.ensures)))
    c.put_groups.ensures
