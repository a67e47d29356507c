-- What the lines of a chart in a terminal are made of.
use Rattle.std.specs.Prelude.{ℕ, zero, suc, ◌-◌, ◌/◌, min, max, Bool, true, false, if◌then◌else◌, List, [], ◌∷◌, ◌++◌, codes, decimal, length, map, take}
use Rattle.lane_charts.specs.Escapes.{is_seen}
use Rattle.lane_charts.specs.declared.way.Way.{Way}
use Rattle.lane_charts.specs.declared.way.Way.TheVariants.{Right, Left, Back}
use Rattle.lane_charts.specs.declared.chart.Arrival.{Arrival}
use Rattle.lane_charts.specs.declared.chart.Arrival.TheVariants.{Row, Lost, Never}

-- how wide a lane is where this many bytes are free for a line: the margin has nine of them, and the lanes share the others
abbrev pub column_of : ℕ → ℕ → ℕ
column_of width lanes = max 8 (min 60 ((width - 9) / max 1 lanes))

-- so often the same
abbrev pub repeated : ℕ → List ℕ → List ℕ
repeated zero piece = []
repeated (suc n) piece = repeated n piece ++ piece

-- a byte that is not seen is shown as a dot
abbrev pub shown_byte : ℕ → ℕ
shown_byte b = if is_seen b then b else 46

abbrev pub shown : List ℕ → List ℕ
shown text = map shown_byte text

-- a text in a room of its own: cut where it is too long, a space behind it, and filled up
abbrev pub worded : ℕ → ℕ → List ℕ → List ℕ
worded room fill text = shown (take room text) ++ (codes " " ++ repeated (room - length text) (fill ∷ []))

-- a lane where nothing happens
abbrev pub lifeline : ℕ → List ℕ
lifeline column = codes "|" ++ repeated (column - 1) (codes " ")

-- the place of a tick, to the left of all lanes
abbrev pub margin : ℕ → List ℕ
margin tick = repeated (8 - length (decimal tick)) (codes " ") ++ (decimal tick ++ codes " ")

-- an arrow's shaft: a copy is another one
abbrev pub dash_of : Bool → ℕ
dash_of false = 45
dash_of true = 126

-- the point of an arrow that is taken
abbrev pub point_of : Way → ℕ
point_of Right = 62
point_of Left = 60
point_of Back = 60

-- how an arrow ends
abbrev pub head_of : Way → Arrival → ℕ
head_of way (Row at) = point_of way
head_of way Lost = 120
head_of way Never = 63

-- an arrow between two lanes, with its label
abbrev pub shaft : Way → ℕ → ℕ → ℕ → List ℕ → List ℕ
shaft Right room dash head label = (dash ∷ (32 ∷ [])) ++ (worded room dash label ++ head ∷ [])
shaft Left room dash head label = (head ∷ (dash ∷ (32 ∷ []))) ++ worded room dash label
shaft Back room dash head label = (head ∷ (dash ∷ (32 ∷ []))) ++ worded room 32 label
