-- Where the last store of each byte is: dirty at the one node that writes, or else at the home. So what a process that keeps an object reads at
-- its node is what one store has.
use Rattle.std.specs.Prelude.{◌≡◌, ℕ, ◌*◌, ◌≤◌, true, false, Some, List}
use Rattle.uid_names.specs.Names.{ObjectName}
use Rattle.uid_names.specs.Openings.{Start}
use Rattle.uid_names.specs.declared.mode.Mode.{Mode}
use Rattle.uid_names.specs.declared.limits.TheConstants.{PAGE_BYTES}
use Rattle.dom_history.specs.StoreEffects.{StoreEffect}
use Rattle.dom_history.specs.Bytes.{bytes_from, length_of}
use Rattle.dom_history.specs.Objects.{is_node}
use Rattle.object_store.specs.Objects.{room_of}
use Rattle.object_store.specs.HomeStates.{attr_of}
use Rattle.node_runs.specs.Setups.{Setup}
use Rattle.node_runs.specs.Runs.{World}
use Rattle.run_laws.specs.NotedEffects.{noted_past}
use Rattle.run_laws.specs.StandingLocks.{IsKeeping}
use Rattle.run_laws.specs.Items.{Item, Value, desk_value, is_dirty_at, home_value}
use Rattle.run_laws.specs.Stamps.{IsThere, home_at}

-- what one store has of an item
abbrev pub store_value : Start → List StoreEffect → ObjectName → Item → Value
store_value opening past u (Item.Page k) = Value.Bytes (bytes_from opening past u (PAGE_BYTES * k) PAGE_BYTES)
store_value opening past u Item.Size = Value.Length (length_of opening past u)

abbrev pub stored_value : Setup → World → ObjectName → Item → Value
stored_value s w u x = store_value s.opening (noted_past w.trace) u x

-- the item is dirty at no node
abbrev pub IsCleanEverywhere : Setup → World → ObjectName → Item → Type 0
IsCleanEverywhere s w u x = (n : ℕ) → is_node s.opening n ≡ true → is_dirty_at (w.nodes n).desk u x ≡ false

pub record AreStores (s : Setup) (w : World) : Type 0 where
  pub dirty : (n : ℕ) → is_node s.opening n ≡ true → (u : ObjectName) (x : Item) → IsThere w u → is_dirty_at (w.nodes n).desk u x ≡ true → desk_value (w.nodes n).desk u x ≡ Some (stored_value s w u x)
  pub clean : (u : ObjectName) (x : Item) → is_node s.opening u.home ≡ true → IsThere w u → IsCleanEverywhere s w u x → home_value (home_at w u) u x ≡ stored_value s w u x
  pub within : (u : ObjectName) → is_node s.opening u.home ≡ true → IsThere w u → length_of s.opening (noted_past w.trace) u ≤ PAGE_BYTES * room_of (attr_of (home_at w u) u)

-- what a node has of an object that one of its processes keeps is what one store has
abbrev pub AreReadsRight : Setup → World → Type 0
AreReadsRight s w = (n p : ℕ) → is_node s.opening n ≡ true → (u : ObjectName) (m : Mode) (grant : ℕ) → IsKeeping w n p u m grant → (x : Item) (v : Value) → desk_value (w.nodes n).desk u x ≡ Some v → v ≡ stored_value s w u x
