use Rattle.std.proofs.Common.{◌∙◌, ◌+◌, ℕ, List, get_or, length, ap, arith}
use Rattle.lane_charts.proofs.Lines.{line_high, line_low, line_read, lines_long}
use Rattle.lane_charts.proofs.layout.RowLines.line.Goals as goal

pub bounds-items-at : goal.bounds-items-at
bounds-items-at c =
    let chart = c.args.chart.now in
    omega (arith, c.requires.there, ap length c.items.ensures, lines_long chart.arrows (length chart.rows + 1) c.args.self.now.lines c.requires.lines.lines)

pub returns-clause-value : goal.returns-clause-value
returns-clause-value c =
    let chart = c.args.chart.now in
    ap (λ (l : List ℕ). get_or l c.args.at 0) c.items.ensures
    ∙ line_read chart.arrows (length chart.rows + 1) c.args.at c.args.self.now.lines c.requires.lines.lines (omega (arith, c.requires.there))

pub returns-clause-low : goal.returns-clause-low
returns-clause-low c = omega (arith, returns-clause-value c, line_low c.args.chart.now.arrows c.args.at)

pub returns-clause-high : goal.returns-clause-high
returns-clause-high c =
    omega (arith, returns-clause-value c, line_high c.args.chart.now.arrows c.args.at, c.requires.there, c.rows-few_rows.ensures.few, c.arrows-few_arrows.ensures.few)
