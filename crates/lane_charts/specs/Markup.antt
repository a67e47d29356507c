-- What the markup of a picture is made of.
use Rattle.std.specs.Prelude.{ℕ, List, ◌++◌, codes, decimal}
use Rattle.lane_charts.specs.Escapes.{escaped_text}

unfoldable pub attribute : List ℕ → ℕ → List ℕ
attribute name n = codes " " ++ (name ++ (codes "=\"" ++ (decimal n ++ codes "\"")))

unfoldable pub point_at : ℕ → ℕ → List ℕ
point_at x y = decimal x ++ (codes " " ++ decimal y)

-- a text that is shown where its group is pointed at
unfoldable pub titled : List ℕ → List ℕ
titled text = codes "<title>" ++ (escaped_text text ++ codes "</title>")

-- a text of a class at a place
unfoldable pub words : List ℕ → ℕ → ℕ → List ℕ → List ℕ
words class x y text =
    codes "<text class=\"" ++ (class ++ (codes "\"" ++ (attribute (codes "x") x ++ (attribute (codes "y") y ++ (codes ">" ++ (escaped_text text ++ codes "</text>"))))))
