-- The volume that places and blocks are. It decides nothing that a caller sees: only the private bodies of `BlockPages`
-- speak of it.
use Rattle.std.specs.Prelude.{◌≡◌, ℕ, List, [], map, Some, IsSome, unwrap_or}
use Rattle.std.specs.FinMap.{from_entries, entries, get}
use Rattle.slab.specs.Slab.{Slab}
use Rattle.page_store.specs.declared.blocks.Place.{Place}
use Rattle.page_store.specs.Volumes.{PageName, Volume}
use Rattle.page_store.specs.Placed.{Placed}
use Rattle.page_store.specs.Stored.{stored_in}

-- the page in a place that is not free
abbrev pub page_in : List (Slab (List ℕ)) → Place → List ℕ
page_in blocks place = unwrap_or (stored_in blocks place) []

-- the pages that have a place, each as the blocks have it there
abbrev pub volume_of : Placed → List (Slab (List ℕ)) → Volume
volume_of places blocks = from_entries (map (λ e. (e.0, page_in blocks e.1)) (entries places))

-- what holds of places and blocks: there is a page in each place, and no two pages have one place
pub record IsHoused (places : Placed) (blocks : List (Slab (List ℕ))) : Type 0 where
  pub stored : (name : PageName) (place : Place) → get places name ≡ Some place → IsSome (stored_in blocks place)
  pub apart : (a b : PageName) (place : Place) → get places a ≡ Some place → get places b ≡ Some place → a ≡ b
