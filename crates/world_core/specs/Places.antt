-- Places among the enabled events of all nodes, counted from the first node's on.
use Rattle.std.specs.Prelude.{◌≡◌, ◌+◌, ◌<◌, ℕ, Some, List, map, length, take, sum, slice_get}
use Rattle.world_core.specs.declared.station.Station.{Station}

module _ {P G : Type 0} where
  -- how many events are enabled at each node
  abbrev pub enabled_counts : List (Station P G) → List ℕ
  enabled_counts stations = map (λ y. length y.enabled.items) stations

-- the event at this place of all is the one at that place of the node there
pub record IsPlace (counts : List ℕ) (place node own : ℕ) : Type 0 where
  pub count : ℕ
  pub node_is : slice_get counts node ≡ Some count
  pub own_is : own < count
  pub place_is : sum (take node counts) + own ≡ place
