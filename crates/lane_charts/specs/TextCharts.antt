-- A chart as it is drawn for a terminal: a head, and then a block for each row, in their order.
use Rattle.std.specs.Prelude.{ℕ, ◌+◌, ◌-◌, ◌*◌, ◌==◌, min, max, Bool, true, false, ◌&&◌, List, [], ◌∷◌, ◌++◌, codes, length}
use Rattle.std.specs.List.{flat_map}
use Rattle.lane_charts.specs.Charts.{Drawing, lane_at}
use Rattle.lane_charts.specs.Heads.{is_headed}
use Rattle.lane_charts.specs.TextCells.{column_of, dash_of, head_of, lifeline, margin, repeated, shaft, shown, worded}
use Rattle.lane_charts.specs.Ways.{way_of}
use Rattle.lane_charts.specs.declared.chart.ChartRow.{ChartRow}
use Rattle.lane_charts.specs.declared.chart.Arrow.{Arrow}
use Rattle.lane_charts.specs.declared.chart.Arrival.{Arrival}
use Rattle.lane_charts.specs.declared.chart.Arrival.TheVariants.{Row, Lost, Never}

-- the line with the names of all lanes
abbrev pub names_line : ℕ → List (List ℕ) → List ℕ
names_line column lanes = codes "         " ++ (flat_map (worded (column - 1) 32) lanes ++ codes "\n")

-- a row in its lane, and one that goes across all lanes
abbrev pub row_cells : ℕ → ℕ → Bool → ChartRow → List ℕ
row_cells column lanes false row =
    repeated row.lane (lifeline column) ++ (codes "* " ++ (worded (column - 3) 32 row.label ++ repeated (lanes - row.lane - 1) (lifeline column)))
row_cells column lanes true row = codes "= " ++ worded (lanes * column - 3) 61 row.label

-- the line of a row
abbrev pub row_line : ℕ → ℕ → ChartRow → List ℕ
row_line column lanes row = margin row.tick ++ (row_cells column lanes row.is_mark row ++ codes "\n")

-- an arrow from one lane to another, over the columns from the one to the other
abbrev pub arrow_cells : ℕ → ℕ → ℕ → ℕ → ℕ → Arrow → List ℕ
arrow_cells column lanes from low high arrow =
    let way = way_of from arrow.to in
    repeated low (lifeline column)
    ++ (codes "|" ++ (shaft way ((high - low) * column - 5) (dash_of arrow.is_copy) (head_of way arrow.end) arrow.label
    ++ repeated (lanes - high) (lifeline column)))

-- the line of an arrow that starts in a lane
abbrev pub arrow_line : ℕ → ℕ → ℕ → Arrow → List ℕ
arrow_line column lanes from arrow =
    let low = min from arrow.to in
    codes "         " ++ (arrow_cells column lanes from low (max (max from arrow.to) (low + 1)) arrow ++ codes "\n")

-- the line of an arrow of a chart
abbrev pub arrow_in : ℕ → Drawing → Arrow → List ℕ
arrow_in column c arrow = arrow_line column (length c.lanes) (lane_at c.rows arrow.sender) arrow

-- the line of an arrow where this says that it is drawn
abbrev pub arrow_if : Bool → ℕ → Drawing → Arrow → List ℕ
arrow_if false column c arrow = []
arrow_if true column c arrow = arrow_in column c arrow

-- an arrow is taken by the row of this index
abbrev pub is_taken_at : ℕ → Arrival → Bool
is_taken_at at (Row row) = row == at
is_taken_at at Lost = false
is_taken_at at Never = false

-- no row takes it
abbrev pub is_not_taken : Arrival → Bool
is_not_taken (Row row) = false
is_not_taken Lost = true
is_not_taken Never = true

-- an arrow starts at the row of this index, and no row takes it
abbrev pub fails_at : ℕ → Arrow → Bool
fails_at at arrow = (arrow.sender == at) && is_not_taken arrow.end

-- the names of the lanes once more
abbrev pub names_if : Bool → ℕ → List (List ℕ) → List ℕ
names_if false column lanes = []
names_if true column lanes = names_line column lanes

-- the lines of a row: the arrows that it takes, the row, and the arrows that start here and that no row takes
abbrev pub row_block : ℕ → Drawing → ℕ → ChartRow → List ℕ
row_block column c at row =
    names_if (is_headed at) column c.lanes
    ++ (flat_map (λ a. arrow_if (is_taken_at at a.end) column c a) c.arrows
    ++ (row_line column (length c.lanes) row
    ++ flat_map (λ a. arrow_if (fails_at at a) column c a) c.arrows))

-- a block for each of these rows, the first of which has this index
abbrev pub row_blocks : ℕ → Drawing → ℕ → List ChartRow → List ℕ
row_blocks column c at [] = []
row_blocks column c at (row ∷ rows) = row_block column c at row ++ row_blocks column c (at + 1) rows

-- the chart, where each lane has so many columns
abbrev pub text_in : ℕ → Drawing → List ℕ
text_in column c = shown c.title ++ (codes "\n" ++ (names_line column c.lanes ++ row_blocks column c 0 c.rows))

-- the chart in lines of this width
abbrev pub text_of : Drawing → ℕ → List ℕ
text_of c width = text_in (column_of width (length c.lanes)) c
