-- Where an object's row stands.
use Rattle.std.specs.Prelude.{◌≡◌, ℕ, ◌<◌, List, length, Some}
use Rattle.std.specs.List.{HoldsAt}
use Rattle.uid_names.specs.Names.{ObjectName}
use Rattle.object_store.specs.declared.attributes.ObjectRow.{ObjectRow}
use Rattle.object_store.specs.Objects.{attr_at}
use Rattle.object_store.specs.HomeStates.{HomeState, attr_of}

-- the row with this counter stands at this place
pub record IsRowAt (rows : List ObjectRow) (counter at : ℕ) : Type 0 where
  pub within : at < length rows
  pub named : HoldsAt (λ (row : ObjectRow). row.counter ≡ counter) rows at
  pub found : HoldsAt (λ (row : ObjectRow). attr_at rows counter ≡ Some row.attr) rows at

-- the object's row stands at this place
pub record StandsAt (home : HomeState) (uid : ObjectName) (at : ℕ) : Type 0 where
  pub within : at < length home.objects
  pub named : HoldsAt (λ (row : ObjectRow). row.counter ≡ uid.counter) home.objects at
  pub found : HoldsAt (λ (row : ObjectRow). attr_of home uid ≡ Some row.attr) home.objects at
