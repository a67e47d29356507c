use Rattle.std.proofs.Common.{◌∙◌, List, ℕ, ◌++◌, ap, length, true, false}
use Rattle.std.proofs.lemmas.Result.{on_ok_weaker}
use Rattle.lane_charts.specs.ArrowKeys.{key_as}
use Rattle.lane_charts.specs.Places.{is_key}
use Rattle.lane_charts.specs.TextCharts.{arrow_if, arrow_in, is_taken_at}
use Rattle.lane_charts.specs.declared.by_row.Standing.TheVariants.{Taken}
use Rattle.lane_charts.specs.declared.chart.Arrow.{Arrow}
use Rattle.lane_charts.proofs.ByRow.{taken-if}
use Rattle.lane_charts.proofs.Keyed.{drawn-all, keyed-list, listed-within}
use Rattle.lane_charts.proofs.text.put_taken.Goals as goal

pub put_arrows-requires-clause-there : goal.put_arrows-requires-clause-there
put_arrows-requires-clause-there c =
    let chart = c.args.chart.now in
    listed-within (λ (a : Arrow). is_key c.args.at (key_as Taken a)) chart.arrows c.of.result.now
    (keyed-list (key_as Taken) (length chart.rows) c.args.taken.now chart.arrows c.args.at c.of.result.now c.requires.taken c.requires.there c.of.ensures)

pub returns : goal.returns
returns c =
    let chart = c.args.chart.now in
    let k = c.args.at in
    on_ok_weaker c.put_arrows.result
    (λ h.
    h
    ∙ ap (λ (t : List ℕ). c.args.to.now ++ t)
    (drawn-all (λ (a : Arrow). is_key k (key_as Taken a)) (arrow_in c.args.column chart) (λ (a : Arrow). arrow_if (is_taken_at k a.end) c.args.column chart a)
    (taken-if c.args.column chart k true) (taken-if c.args.column chart k false) chart.arrows c.of.result.now
    (keyed-list (key_as Taken) (length chart.rows) c.args.taken.now chart.arrows k c.of.result.now c.requires.taken c.requires.there c.of.ensures)))
    c.put_arrows.ensures
