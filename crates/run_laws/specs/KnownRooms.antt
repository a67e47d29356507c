-- What desks know of the rooms and lengths of objects, against their homes.
use Rattle.std.specs.Prelude.{◌≡◌, ℕ, ◌<◌, true, Option, Some, None}
use Rattle.uid_names.specs.Names.{ObjectName}
use Rattle.dom_history.specs.Objects.{is_node}
use Rattle.object_store.specs.HomeStates.{HomeState}
use Rattle.fault_handler.specs.declared.lengths.Known.{Known}
use Rattle.fault_handler.specs.Lengths.{known_of}
use Rattle.node_runs.specs.Setups.{Setup}
use Rattle.page_cache.specs.Caches.{Resident}
use Rattle.node_runs.specs.Runs.{World}
use Rattle.node_runs.specs.CallsKeep.{EachOf}
use Rattle.run_laws.specs.ToldRooms.{IsRoomOf}

-- the known room is the object's, as long as that is there, and the known length lies within it
abbrev pub IsKnownRight : HomeState → ObjectName → Option Known → Type 0
IsKnownRight home u None = Unit {0}
IsKnownRight home u (Some k) = IsRoomOf home u k.room k.length

-- of each row of each node
abbrev pub AreKnownRight : Setup → World → Type 0
AreKnownRight s w = (n : ℕ) → is_node s.opening n ≡ true → (u : ObjectName) → IsKnownRight (w.nodes u.home).side.home u (known_of u (w.nodes n).desk.known)

-- the page is one of the object's, as long as that is there
abbrev pub IsPageOf : HomeState → ObjectName → ℕ → Type 0
IsPageOf home u k = (room : ℕ) × IsRoomOf home u room 0 × (k < room)

-- each resident page of each node
abbrev pub ArePagesRight : Setup → World → Type 0
ArePagesRight s w = (n : ℕ) → is_node s.opening n ≡ true → EachOf (λ (r : Resident). IsPageOf (w.nodes r.uid.home).side.home r.uid r.page) (w.nodes n).desk.cache.pages
