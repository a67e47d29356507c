-- The lines of rows, kept beside a chart while it is drawn. No public clause cites these.
use Rattle.std.specs.Prelude.{◌≡◌, ◌+◌, length}
use Rattle.lane_charts.specs.ArrowKeys.{key_as}
use Rattle.lane_charts.specs.Charts.{Drawing}
use Rattle.lane_charts.specs.Layout.{lines_to}
use Rattle.lane_charts.specs.Places.{AreKeyed}
use Rattle.lane_charts.specs.declared.by_row.Standing.TheVariants.{Sent}
use Rattle.lane_charts.specs.declared.layout.RowLines.{RowLines}

-- the line of each row and of the first below all, and the places of the arrows that each row sends
pub record AreLinesOf (c : Drawing) (of_rows : RowLines) : Type 0 where
  pub lines : of_rows.lines ≡ lines_to c.arrows (length c.rows + 1)
  pub sent : AreKeyed (key_as Sent) (length c.rows) of_rows.sent c.arrows
