-- A chart as a picture: a head, a group for each row in their order, each with the arrows that it sends, and an end.
use Rattle.std.specs.Prelude.{ℕ, zero, suc, ◌+◌, ◌-◌, ◌==◌, Bool, true, false, List, [], ◌∷◌, ◌++◌, codes, decimal, length, slice_get}
use Rattle.lane_charts.specs.Charts.{Drawing}
use Rattle.lane_charts.specs.Escapes.{escaped_text}
use Rattle.lane_charts.specs.Heads.{is_headed}
use Rattle.lane_charts.specs.Layout.{fitting, lane_x, line_of, line_y, lines_in, right_of, stub_x, width_of, words_x}
use Rattle.lane_charts.specs.Markup.{attribute, point_at, titled, words}
use Rattle.lane_charts.specs.Places.{drawn}
use Rattle.lane_charts.specs.Ways.{way_of}
use Rattle.lane_charts.specs.declared.chart.ChartRow.{ChartRow}
use Rattle.lane_charts.specs.declared.chart.Arrow.{Arrow}
use Rattle.lane_charts.specs.declared.chart.Arrival.{Arrival}
use Rattle.lane_charts.specs.declared.chart.Arrival.TheVariants.{Row, Lost, Never}
use Rattle.lane_charts.specs.declared.way.Way.{Way}
use Rattle.lane_charts.specs.declared.way.Way.TheVariants.{Right, Left, Back}
use Rattle.lane_charts.specs.declared.svg.TheConstants.{STYLE}

-- ---- arrows

-- the class of an arrow by its end
unfoldable pub end_class : Arrival → List ℕ
end_class (Row at) = codes "taken"
end_class Lost = codes "lost"
end_class Never = codes "never"

unfoldable pub copy_class : Bool → List ℕ
copy_class false = []
copy_class true = codes " copy"

-- the way from a place to a row that takes the arrow: straight, or round where it stays in its lane
unfoldable pub taken_path : Way → ℕ → ℕ → ℕ → ℕ → List ℕ
taken_path Right x y to_x to_y = codes "L" ++ point_at to_x to_y
taken_path Left x y to_x to_y = codes "L" ++ point_at to_x to_y
taken_path Back x y to_x to_y = codes "C" ++ (point_at (x + 60) y ++ (codes " " ++ (point_at (x + 60) to_y ++ (codes " " ++ point_at to_x to_y))))

-- the way of an arrow from a place, as it ends
unfoldable pub end_path : List Arrow → Arrival → Way → ℕ → ℕ → ℕ → List ℕ
end_path arrows (Row at) way x y to_x = taken_path way x y to_x (line_y (line_of arrows at) + 4)
end_path arrows Lost way x y to_x = codes "H" ++ decimal (stub_x way x)
end_path arrows Never way x y to_x = codes "H" ++ decimal (stub_x way x)

unfoldable pub arrow_path : List Arrow → Arrow → ℕ → ℕ → List ℕ
arrow_path arrows arrow from y =
    codes "<path d=\"M" ++ (point_at (lane_x from) y ++ (end_path arrows arrow.end (way_of from arrow.to) (lane_x from) y (lane_x arrow.to) ++ codes "\"/>"))

-- what ties an arrow to its row
unfoldable pub tie : ℕ → ℕ → List ℕ
tie from line = codes "<rect" ++ (attribute (codes "x") (lane_x from - 2) ++ (attribute (codes "y") (line_y line - 12) ++ codes " width=\"4\" height=\"32\"/>"))

-- its label, in a line
unfoldable pub note : ℕ → ℕ → ℕ → List ℕ → List ℕ
note lanes from line label = words (codes "note") (words_x from) (line_y line + 14) (fitting (words_x from) (right_of lanes) label)

-- what opens the group of an arrow
unfoldable pub arrow_open : Arrow → List ℕ
arrow_open arrow = codes "<g class=\"arrow " ++ (end_class arrow.end ++ (copy_class arrow.is_copy ++ codes "\">"))

-- an arrow that starts in a lane, with its label in a line of its own
unfoldable pub arrow_group : Drawing → ℕ → ℕ → Arrow → List ℕ
arrow_group c from line arrow =
    arrow_open arrow ++ (titled arrow.title ++ (tie from line ++ (arrow_path c.arrows arrow from (line_y line + 20)
    ++ (note (length c.lanes) from line arrow.label ++ codes "</g>\n"))))

abbrev pub group_if : Bool → Drawing → ℕ → ℕ → Arrow → List ℕ
group_if false c from line arrow = []
group_if true c from line arrow = arrow_group c from line arrow

abbrev pub line_after : Bool → ℕ → ℕ
line_after false line = line
line_after true line = line + 1

-- of these arrows those that the row of an index sends, from a line on
abbrev pub arrows_of : Drawing → ℕ → ℕ → ℕ → List Arrow → List ℕ
arrows_of c at from line [] = []
arrows_of c at from line (arrow ∷ arrows) =
    group_if (arrow.sender == at) c from line arrow ++ arrows_of c at from (line_after (arrow.sender == at) line) arrows

-- of the arrows of a chart those at these places, from a line on
abbrev pub groups_at : Drawing → ℕ → ℕ → List ℕ → List ℕ
groups_at c from line [] = []
groups_at c from line (place ∷ places) = drawn (arrow_group c from line) (slice_get c.arrows place) ++ groups_at c from (line + 1) places

-- ---- rows

-- a line across all lanes
unfoldable pub across : ℕ → ℕ → List ℕ
across lanes y = codes "<path class=\"across\" d=\"M104 " ++ (decimal y ++ (codes "H" ++ (decimal (right_of lanes) ++ codes "\"/>")))

abbrev pub across_if : Bool → ℕ → ℕ → List ℕ
across_if false lanes y = []
across_if true lanes y = across lanes y

unfoldable pub dot : ℕ → ℕ → List ℕ
dot x y = codes "<circle" ++ (attribute (codes "cx") x ++ (attribute (codes "cy") y ++ codes " r=\"4\"/>"))

-- what is shown where a row is pointed at
unfoldable pub row_title : ChartRow → List ℕ
row_title row = codes "<title>" ++ (decimal row.tick ++ (codes " " ++ (escaped_text row.label ++ codes "</title>")))

unfoldable pub tick_words : ℕ → ℕ → List ℕ
tick_words tick y = codes "<text class=\"tick\" x=\"100\"" ++ (attribute (codes "y") y ++ (codes ">" ++ (decimal tick ++ codes "</text>")))

-- a row in a line, without its arrows
unfoldable pub row_head : ℕ → ℕ → ChartRow → List ℕ
row_head lanes line row =
    row_title row ++ (across_if row.is_mark lanes (line_y line + 4) ++ (dot (lane_x row.lane) (line_y line + 4)
    ++ (tick_words row.tick (line_y line + 16)
    ++ words (codes "label") (words_x row.lane) (line_y line + 16) (fitting (words_x row.lane) (right_of lanes) row.label))))

-- the name of a lane
unfoldable pub name_line : ℕ → ℕ → List ℕ → List ℕ
name_line y lane name = words (codes "name") (words_x lane) y (fitting 0 148 name) ++ codes "\n"

-- the names of these lanes, the first of which has this index
abbrev pub names_from : ℕ → ℕ → List (List ℕ) → List ℕ
names_from y lane [] = []
names_from y lane (name ∷ names) = name_line y lane name ++ names_from y (lane + 1) names

abbrev pub names_if : Bool → ℕ → List (List ℕ) → List ℕ
names_if false line lanes = []
names_if true line lanes = names_from (line_y (line - 1) + 16) 0 lanes

-- the group of a row, with the arrows that it sends
unfoldable pub row_group : Drawing → ℕ → ChartRow → List ℕ
row_group c at row =
    let line = line_of c.arrows at in
    names_if (is_headed at) line c.lanes
    ++ (codes "<g class=\"row\">" ++ (row_head (length c.lanes) line row ++ (codes "\n"
    ++ (arrows_of c at row.lane (line + 1) c.arrows ++ codes "</g>\n"))))

-- a group for each of these rows, the first of which has this index
abbrev pub row_groups : Drawing → ℕ → List ChartRow → List ℕ
row_groups c at [] = []
row_groups c at (row ∷ rows) = row_group c at row ++ row_groups c (at + 1) rows

-- ---- the whole

-- the line of a lane, down to a height
unfoldable pub lane_line : ℕ → ℕ → List ℕ
lane_line height lane = codes "<path class=\"lane\" d=\"M" ++ (point_at (lane_x lane) 42 ++ (codes "V" ++ (decimal height ++ codes "\"/>\n")))

abbrev pub lane_lines : ℕ → ℕ → List ℕ
lane_lines height zero = []
lane_lines height (suc lanes) = lane_lines height lanes ++ lane_line height lanes

-- width and height, twice
unfoldable pub sizes : ℕ → ℕ → List ℕ
sizes width height =
    codes " viewBox=\"0 0 " ++ (point_at width height ++ (codes "\"" ++ (attribute (codes "width") width ++ attribute (codes "height") height)))

unfoldable pub described : Drawing → List ℕ
described c =
    codes "<desc>Lanes: " ++ (decimal (length c.lanes) ++ (codes ", rows: " ++ (decimal (length c.rows)
    ++ (codes ", arrows: " ++ (decimal (length c.arrows) ++ codes "</desc>\n")))))

unfoldable pub opening : Drawing → List ℕ
opening c =
    codes "<svg xmlns=\"http://www.w3.org/2000/svg\" role=\"img\"" ++ (sizes (width_of (length c.lanes)) (line_y (lines_in c))
    ++ (codes ">\n" ++ (titled c.title ++ (codes "\n" ++ (described c ++ STYLE.now)))))

unfoldable pub picture_head : Drawing → List ℕ
picture_head c =
    opening c ++ (lane_lines (line_y (lines_in c) - 8) (length c.lanes)
    ++ (words (codes "head") 8 16 (fitting 8 (right_of (length c.lanes)) c.title) ++ (codes "\n" ++ names_from 36 0 c.lanes)))

unfoldable pub picture_of : Drawing → List ℕ
picture_of c = picture_head c ++ (row_groups c 0 c.rows ++ codes "</svg>\n")
