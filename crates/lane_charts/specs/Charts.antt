-- What a chart shows.
use Rattle.std.specs.Prelude.{ℕ, ◌<◌, ◌≤◌, Option, Some, None, List, [], ◌∷◌, ◌++◌, All, length}
use Rattle.std.specs.List.{slice_get}
use Rattle.lane_charts.specs.declared.chart.ChartRow.{ChartRow}
use Rattle.lane_charts.specs.declared.chart.Arrow.{Arrow}
use Rattle.lane_charts.specs.declared.chart.Arrival.{Arrival}
use Rattle.lane_charts.specs.declared.chart.Arrival.TheVariants.{Row, Lost, Never}
use Rattle.lane_charts.specs.declared.chart.TheConstants.{MOST_LANES, MOST_ROWS}

-- lanes by their names from left to right, rows from the top down, and arrows
pub record Drawing : Type 0 where
  pub title : List ℕ
  pub lanes : List (List ℕ)
  pub rows : List ChartRow
  pub arrows : List Arrow

-- the row is in one of the lanes
abbrev pub IsRowOf : List (List ℕ) → ChartRow → Type 0
IsRowOf lanes row = row.lane < length lanes

-- the row that takes it, if one does, is one of these
abbrev pub EndsAmong : List ChartRow → Arrival → Type 0
EndsAmong rows (Row at) = at < length rows
EndsAmong rows Lost = Unit {0}
EndsAmong rows Never = Unit {0}

-- the arrow goes from one of the rows to one of the lanes
pub record IsArrowOf (lanes : List (List ℕ)) (rows : List ChartRow) (arrow : Arrow) : Type 0 where
  pub sender : arrow.sender < length rows
  pub to : arrow.to < length lanes
  pub end : EndsAmong rows arrow.end

-- rows and arrows name only what is there, and there is room for a picture
pub record IsChart (c : Drawing) : Type 0 where
  pub lanes : length c.lanes ≤ MOST_LANES
  pub rows : All (IsRowOf c.lanes) c.rows
  pub arrows : All (IsArrowOf c.lanes c.rows) c.arrows
  pub few_rows : length c.rows ≤ MOST_ROWS
  pub few_arrows : length c.arrows ≤ MOST_ROWS

-- lanes in which nothing happened yet
abbrev pub blank : List ℕ → List (List ℕ) → Drawing
blank title lanes = record { title = title; lanes = lanes; rows = []; arrows = [] }

abbrev pub with_row : Drawing → ChartRow → Drawing
with_row c row = record c { rows = c.rows ++ row ∷ [] }

abbrev pub with_arrow : Drawing → Arrow → Drawing
with_arrow c arrow = record c { arrows = c.arrows ++ arrow ∷ [] }

abbrev pub lane_in : Option ChartRow → ℕ
lane_in None = 0
lane_in (Some row) = row.lane

-- the lane of the row of an index
abbrev pub lane_at : List ChartRow → ℕ → ℕ
lane_at rows at = lane_in (slice_get rows at)
