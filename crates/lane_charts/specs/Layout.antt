-- Where things stand in a picture, in pixels. A line is 20 of them high, and each text has a line of its own: the title, the names
-- of the lanes, each row, and below a row each arrow that it sends.
use Rattle.std.specs.Prelude.{ℕ, zero, suc, ◌+◌, ◌-◌, ◌*◌, ◌/◌, ◌==◌, nat_lt, count_by, List, [], ◌∷◌, ◌++◌, length, take}
use Rattle.lane_charts.specs.Charts.{Drawing}
use Rattle.lane_charts.specs.declared.chart.Arrow.{Arrow}
use Rattle.lane_charts.specs.declared.way.Way.{Way}
use Rattle.lane_charts.specs.declared.way.Way.TheVariants.{Right, Left, Back}

abbrev pub lane_x : ℕ → ℕ
lane_x lane = 112 + 160 * lane

-- where the texts of a lane begin
abbrev pub words_x : ℕ → ℕ
words_x lane = 124 + 160 * lane

abbrev pub width_of : ℕ → ℕ
width_of lanes = 252 + 160 * lanes

-- where texts end
abbrev pub right_of : ℕ → ℕ
right_of lanes = 244 + 160 * lanes

-- how many letters, each at most 7.3 wide, fit between two places
abbrev pub letters_between : ℕ → ℕ → ℕ
letters_between left right = ((right - left) * 10) / 73

-- what fits of a text that begins at a place
abbrev pub fitting : ℕ → ℕ → List ℕ → List ℕ
fitting left right text = take (letters_between left right) text

-- how many arrows the rows above a row send
unfoldable pub sent_above : ℕ → List Arrow → ℕ
sent_above at arrows = count_by (λ a. nat_lt a.sender at) arrows

-- how many arrows a row sends
unfoldable pub sent_at : ℕ → List Arrow → ℕ
sent_at at arrows = count_by (λ a. a.sender == at) arrows

-- the line of the row of an index: above it stand the title, the names of the lanes, the rows above it with the arrows that they
-- send, and the names once more at each fiftieth row
unfoldable pub line_of : List Arrow → ℕ → ℕ
line_of arrows at = 2 + at + at / 50 + sent_above at arrows

-- the lines of the rows below an index
abbrev pub lines_to : List Arrow → ℕ → List ℕ
lines_to arrows zero = []
lines_to arrows (suc at) = lines_to arrows at ++ line_of arrows at ∷ []

-- how many lines the picture has, the last of them empty
unfoldable pub lines_in : Drawing → ℕ
lines_in c = line_of c.arrows (length c.rows) + 1

abbrev pub line_y : ℕ → ℕ
line_y line = 20 * line

-- where an arrow ends that no row takes
abbrev pub stub_x : Way → ℕ → ℕ
stub_x Right x = x + 60
stub_x Left x = x - 60
stub_x Back x = x + 60
