-- What is written so, and the text of an object's name.
use Rattle.std.specs.Prelude.{ℕ, Bool, false, ◌==◌, Option, List, [], ◌∷◌, filter, find, bytes_eq}
use Rattle.std.specs.Int.{w64, to_be_bytes}
use Rattle.hex.specs.Hex.{encode_lower}
use Rattle.uid_names.specs.Names.{ObjectName, number_of}

-- the first of these that is written so
abbrev pub written_so : {X : Type 0} → (X → List ℕ) → List X → List ℕ → Option X
written_so text xs word = find (λ x. bytes_eq (text x) word) xs

-- whether a text begins with this byte
abbrev pub begins_with : ℕ → List ℕ → Bool
begins_with first [] = false
begins_with first (c ∷ text) = c == first

-- those of these that are written with it first
abbrev pub begun_so : {X : Type 0} → (X → List ℕ) → List X → ℕ → List X
begun_so text xs first = filter (λ x. begins_with first (text x)) xs

-- the sixteen lower-case hexadecimal digits of an object's number
abbrev pub text_of : ObjectName → List ℕ
text_of u = encode_lower (to_be_bytes w64 (number_of u))
