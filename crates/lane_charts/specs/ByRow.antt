-- The arrows of a chart by the rows at which they stand. No public clause cites these.
use Rattle.std.specs.Prelude.{length}
use Rattle.lane_charts.specs.ArrowKeys.{key_as}
use Rattle.lane_charts.specs.Charts.{Drawing}
use Rattle.lane_charts.specs.Places.{AreKeyed}
use Rattle.lane_charts.specs.declared.by_row.Standing.TheVariants.{Failed, Taken}
use Rattle.lane_charts.specs.declared.by_row.RowArrows.{RowArrows}

-- the places of the arrows that each row takes, and of those that it sends and that no row takes
pub record AreOfRows (c : Drawing) (arrows : RowArrows) : Type 0 where
  pub taken : AreKeyed (key_as Taken) (length c.rows) arrows.taken c.arrows
  pub failed : AreKeyed (key_as Failed) (length c.rows) arrows.failed c.arrows
