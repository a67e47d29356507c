-- Lists in an order.
use Rattle.std.specs.Prelude.{Bool, if◌then◌else◌, List, [], ◌∷◌, AllPairs, IsTrue}

-- each element is below the later ones
abbrev pub AreInOrder : {X : Type 0} → (X → X → Bool) → List X → Type 0
AreInOrder lt xs = AllPairs (λ a b. IsTrue (lt a b)) xs

-- a list in order, with one element more
abbrev pub put_in_order : {X : Type 0} → (X → X → Bool) → X → List X → List X
put_in_order lt new [] = new ∷ []
put_in_order lt new (x ∷ xs) = if lt x new then x ∷ put_in_order lt new xs else new ∷ x ∷ xs
