-- How a text is written in a picture.
use Rattle.std.specs.Prelude.{ℕ, ◌+◌, ◌==◌, nat_le, Bool, true, false, ◌&&◌, if◌then◌else◌, Option, Some, None, List, [], ◌∷◌, ◌++◌, codes, decimal}
use Rattle.std.specs.List.{flat_map}

-- the sign that stands for a byte that is not seen: for 0 to 31 the pictures of control codes, U+2400 to U+241F, and so on
abbrev pub sign_of : ℕ → ℕ
sign_of b = 9216 + b

-- a space, or a byte that is seen
abbrev pub is_seen : ℕ → Bool
is_seen b = nat_le 32 b && nat_le b 126

-- the name of a byte that markup is made of
abbrev pub name_of : ℕ → Option (List ℕ)
name_of b =
    if b == 38 then Some (codes "amp")
    else if b == 60 then Some (codes "lt")
    else if b == 62 then Some (codes "gt")
    else if b == 34 then Some (codes "quot")
    else if b == 39 then Some (codes "apos")
    else None

-- a byte that has no name, and is seen or not
abbrev pub unnamed : Bool → ℕ → List ℕ
unnamed true b = b ∷ []
unnamed false b = codes "&#" ++ (decimal (sign_of b) ++ codes ";")

abbrev pub written : Option (List ℕ) → ℕ → List ℕ
written (Some name) b = codes "&" ++ (name ++ codes ";")
written None b = unnamed (is_seen b) b

-- one byte in a picture
abbrev pub escape : ℕ → List ℕ
escape b = written (name_of b) b

-- a text in a picture
abbrev pub escaped_text : List ℕ → List ℕ
escaped_text text = flat_map escape text
