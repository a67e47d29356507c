-- Lists that are there only where each of their parts is.
use Rattle.std.specs.Prelude.{Option, Some, None, List, ◌∷◌, ◌++◌}

module _ {X : Type 0} where
  -- a part before the others
  abbrev pub before : Option X → Option (List X) → Option (List X)
  before None rest = None
  before (Some part) None = None
  before (Some part) (Some rest) = Some (part ∷ rest)

  -- some parts in front of the others
  abbrev pub in_front : List X → Option (List X) → Option (List X)
  in_front front None = None
  in_front front (Some rest) = Some (front ++ rest)
