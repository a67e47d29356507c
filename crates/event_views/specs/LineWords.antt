-- Which lines of a journal have some words in order.
use Rattle.std.specs.Prelude.{ℕ, Bool, true, false, ◌==◌, ◌||◌, if◌then◌else◌, List, [], ◌∷◌, bytes_eq}
use Rattle.std.specs.List.{slice_split}

-- what stands between the words of a line
abbrev pub is_between : ℕ → Bool
is_between b = (b == 32) || (b == 59)

-- the words of a line
abbrev pub words_in : List ℕ → List (List ℕ)
words_in line = slice_split is_between line

-- what is still sought behind a word, of words that are sought in order
abbrev pub left_behind : List ℕ → List (List ℕ) → List (List ℕ)
left_behind word [] = []
left_behind word (sought ∷ more) = if bytes_eq word sought then more else sought ∷ more

-- the words that are sought stand among these in order, whatever stands between them
abbrev pub are_found : List (List ℕ) → List (List ℕ) → Bool
are_found [] [] = true
are_found [] (sought ∷ more) = false
are_found (word ∷ words) sought = are_found words (left_behind word sought)
