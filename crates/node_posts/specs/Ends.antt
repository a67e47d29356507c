-- Where the ends of a node's links stand: by rising number of the other node, none for the node itself.
use Rattle.std.specs.Prelude.{ℕ, ◌+◌, ◌-◌, Bool, true, false, nat_lt, List, [], ◌∷◌}
use Rattle.dom_history.specs.declared.event.What.{What}
use Rattle.dom_history.specs.declared.event.What.TheVariants as events
use Rattle.ring_links.specs.declared.entry.Waiting.{Waiting}
use Rattle.ring_links.specs.declared.entry.Waiting.TheVariants as waiting

-- the other node of the link at a place, which is counted from 0
abbrev pub other_if : Bool → ℕ → ℕ
other_if true at = at + 1
other_if false at = at + 2

abbrev pub other_at : ℕ → ℕ → ℕ
other_at n at = other_if (nat_lt (at + 1) n) at

-- the place of the link between a node and another
abbrev pub place_if : Bool → ℕ → ℕ
place_if true other = other - 1
place_if false other = other - 2

abbrev pub place_of : ℕ → ℕ → ℕ
place_of n other = place_if (nat_lt other n) other

-- the event that takes what waits on a node's link to itself
abbrev pub own_event : ℕ → Waiting → What
own_event n (waiting.Copy index) = events.Take n index
own_event n (waiting.Mark phase) = events.Mark n phase

-- R holds of the items of two lists and of their place, of which the first is this
abbrev pub AllZipFrom : {A : Type 0} → (ℕ → A → A → Type 0) → ℕ → List A → List A → Type 0
AllZipFrom R at [] [] = Unit {0}
AllZipFrom R at (x ∷ xs) (y ∷ ys) = R at x y × AllZipFrom R (at + 1) xs ys
AllZipFrom R at [] (y ∷ ys) = ⊥
AllZipFrom R at (x ∷ xs) [] = ⊥
