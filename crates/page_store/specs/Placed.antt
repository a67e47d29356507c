-- Where pages lie, seen as one map from a page's name to its place. It decides nothing that a caller sees: only the
-- private bodies of `BlockPages` speak of it.
use Rattle.std.specs.Prelude.{◌≡◌, ℕ, nat_eq, List, [], ◌∷◌, ◌++◌, map, refl}
use Rattle.std.specs.HashMap.{HashMap}
use Rattle.std.specs.HashMap as hash
use Rattle.std.specs.FinMap.{FinMap, from_entries, get}
use Rattle.std.specs.FinMap as finite
use Rattle.std.specs.Coded.{Coded, code_by, coded×, coded_ℕ}
use Rattle.page_store.specs.declared.blocks.Place.{Place}
use Rattle.page_store.specs.Volumes.{PageName, page_cmp}

-- the places of the pages that have one
abbrev pub Placed : Type 0
Placed = FinMap page_cmp Place

-- a place is stored as its two numbers
abbrev pub place_code : Coded Place
place_code = code_by (ℕ × ℕ) (coded× coded_ℕ coded_ℕ) (λ p. (p.block, p.key)) (λ x. record { block = x.0; key = x.1 }) (λ _. refl)

-- how the places are stored
abbrev pub placed_code : Coded Placed
placed_code = finite.code (coded× coded_ℕ coded_ℕ) place_code

-- the places of one object's pages, by their names
abbrev pub named_by : ℕ → List (ℕ × Place) → List (PageName × Place)
named_by counter pages = map (λ e. ((counter, e.0), e.1)) pages

module _ {S : Type 0} where
  -- the places of all objects' pages, by their names
  abbrev pub all_named : List (ℕ × HashMap ℕ Place S) → List (PageName × Place)
  all_named [] = []
  all_named (object ∷ objects) = named_by object.0 object.1.entries ++ all_named objects

  -- the map that the objects' maps are together
  abbrev pub placed_of : List (ℕ × HashMap ℕ Place S) → Placed
  placed_of objects = from_entries (all_named objects)

-- these are the places of the object's pages
abbrev pub ArePlacesOf : {S : Type 0} → Placed → ℕ → HashMap ℕ Place S → Type 0
ArePlacesOf places counter pages = (page : ℕ) → hash.get nat_eq pages page ≡ get places (counter, page)
