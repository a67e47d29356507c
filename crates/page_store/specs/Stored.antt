-- The page that blocks have in a place. It decides nothing that a caller sees: only the private bodies of `BlockPages`
-- speak of it.
use Rattle.std.specs.Prelude.{◌≡◌, ◌≢◌, ℕ, List, [], Option, slice_index_or}
use Rattle.slab.specs.Slab.{Slab, get}
use Rattle.page_store.specs.declared.blocks.Place.{Place}

-- a block without a page
abbrev pub no_block : Slab (List ℕ)
no_block = record { slots = []; vacant_key = 0; capacity = 0 }

-- the page in a place; None where the place is free, or there is none
abbrev pub stored_in : List (Slab (List ℕ)) → Place → Option (List ℕ)
stored_in blocks place = get (slice_index_or blocks place.block no_block) place.key

-- the new blocks have this in the place, and what the old ones had in each other
pub record Stores (old new : List (Slab (List ℕ))) (place : Place) (page : Option (List ℕ)) : Type 0 where
  pub changed : stored_in new place ≡ page
  pub others : (other : Place) → other ≢ place → stored_in new other ≡ stored_in old other

-- the new blocks have in each place what the old ones had
abbrev pub AsStored : List (Slab (List ℕ)) → List (Slab (List ℕ)) → Type 0
AsStored old new = (place : Place) → stored_in new place ≡ stored_in old place
