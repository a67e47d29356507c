use Rattle.std.proofs.Common.{◌≡◌, ◌∙◌, ◌+◌, ◌/◌, length, ap, sym, arith}
use Rattle.lane_charts.specs.ArrowKeys.{key_as}
use Rattle.lane_charts.specs.declared.by_row.Standing.TheVariants.{Sent}
use Rattle.lane_charts.specs.Layout.{lines_to}
use Rattle.lane_charts.proofs.Keyed.{keyed-list}
use Rattle.lane_charts.proofs.Lines.{few_above, lines_next, next_above, none_above}
use Rattle.lane_charts.proofs.layout.lines_of.Goals as goal

pub loop-at-init : goal.loop-at-init
loop-at-init c = record { lines = c.new-lines.ensures; above = sym (none_above c.args.chart.now.arrows) }

pub line_at-requires-clause-arrows : goal.line_at-requires-clause-arrows
line_at-requires-clause-arrows c = omega (arith, c.loop-at.invariant.above, few_above c.args.chart.now.arrows c.loop-at.at, c.arrows-few.ensures.few)

pub overflow_add-above : goal.overflow_add-above
overflow_add-above c =
    let chart = c.args.chart.now in
    let at = c.loop-at.at in
    let list = keyed-list (key_as Sent) (length chart.rows) c.args.sent.now chart.arrows at c.of.result.now c.requires (omega (arith, c.loop-at-test.true, ap length c.rows-rows.ensures.value)) c.of.ensures in
    omega (arith, next_above chart.arrows at c.of.result.now list, few_above chart.arrows (at + 1), c.loop-at.invariant.above, c.arrows-few.ensures.few)

pub loop-at-preserved : goal.loop-at-preserved
loop-at-preserved c =
    let chart = c.args.chart.now in
    let at = c.loop-at.at in
    let list = keyed-list (key_as Sent) (length chart.rows) c.args.sent.now chart.arrows at c.of.result.now c.requires (omega (arith, c.loop-at-test.true, ap length c.rows-rows.ensures.value)) c.of.ensures in
    record {
      lines = lines_next chart.arrows at c.loop-at.above c.line_at.result c.loop-at.lines c.push.new.self c.loop-at.invariant.above c.line_at.ensures c.loop-at.invariant.lines c.in_ok-push.ensures.ok;
      above = omega (arith, next_above chart.arrows at c.of.result.now list, c.loop-at.invariant.above);
    }

pub line_at-requires-2-clause-arrows : goal.line_at-requires-2-clause-arrows
line_at-requires-2-clause-arrows c = omega (arith, c.loop-at.invariant.above, few_above c.args.chart.now.arrows c.loop-at.at, c.arrows-few.ensures.few)

pub returns : goal.returns
returns c =
    let chart = c.args.chart.now in
    let last : c.loop-at.at ≡ length c.rows-rows.result.now = omega arith in
    lines_next chart.arrows c.loop-at.at c.loop-at.above c.line_at-2.result c.loop-at.lines c.push-2.new.self c.loop-at.invariant.above (c.line_at-2.ensures ∙ ap (λ n. 2 + n + n / 50 + c.loop-at.above) (sym last)) c.loop-at.invariant.lines c.in_ok-push-2.ensures.ok
    ∙ ap (λ n. lines_to chart.arrows (n + 1)) (last ∙ ap length c.rows-rows.ensures.value)
