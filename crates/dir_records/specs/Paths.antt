-- The texts of paths, and where they lead from.
use Rattle.std.specs.Prelude.{ℕ, ◌==◌, nat_le, Bool, cond, Option, Some, None, List, [], ◌∷◌, length}
use Rattle.dom_text.specs.NameWords.{is_name}
use Rattle.dir_records.specs.declared.path.Route.{Route}
use Rattle.dir_records.specs.declared.path.Start.{Start}
use Rattle.dir_records.specs.declared.path.Start.TheVariants.{Root, Node, Own, Working}
use Rattle.dir_records.specs.Components.{component_of}
use Rattle.dir_records.specs.Wholes.{before}

-- a byte before the first of some pieces
abbrev pub onto_first : ℕ → List (List ℕ) → List (List ℕ)
onto_first b [] = (b ∷ []) ∷ []
onto_first b (piece ∷ pieces) = (b ∷ piece) ∷ pieces

-- the pieces of a text between its slashes
unfoldable pub pieces : List ℕ → List (List ℕ)
pieces [] = [] ∷ []
pieces (b ∷ rest) = cond (b == 47) ([] ∷ pieces rest) (onto_first b (pieces rest))

-- the name of a node, which is one of a directory too
abbrev pub is_node_name : List ℕ → Bool
is_node_name name = is_name name

-- the pieces, where each is a name
abbrev pub names_of : List (List ℕ) → Option (List (List ℕ))
names_of [] = Some []
names_of (piece ∷ pieces) = before (component_of piece) (names_of pieces)

-- from a start along names, if they are there
abbrev pub along : Start → Option (List (List ℕ)) → Option Route
along start None = None
along start (Some names) = Some (record { start = start; names = names })

-- from a node, the first of the pieces
abbrev pub from_node : List (List ℕ) → Option Route
from_node [] = None
from_node (node ∷ names) = cond (is_node_name node) (along (Node node) (names_of names)) None

-- behind two slashes
abbrev pub from_root : List ℕ → Option Route
from_root [] = Some (record { start = Root; names = [] })
from_root (b ∷ rest) = from_node (pieces (b ∷ rest))

-- behind one slash
abbrev pub from_slash : List ℕ → Option Route
from_slash [] = Some (record { start = Own; names = [] })
from_slash (b ∷ rest) = cond (b == 47) (from_root rest) (along Own (names_of (pieces (b ∷ rest))))

abbrev pub from_text : List ℕ → Option Route
from_text [] = None
from_text (b ∷ rest) = cond (b == 47) (from_slash rest) (along Working (names_of (pieces (b ∷ rest))))

-- the path of a text of at most 256 bytes; None where it is none
abbrev pub route_of : List ℕ → Option Route
route_of text = cond (nat_le (length text) 256) (from_text text) None
