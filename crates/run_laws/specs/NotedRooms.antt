-- The room of an object that is there is, by what the notes did up to a place, that of its home.
use Rattle.std.specs.Prelude.{◌≡◌, true, is_some, List, ◌++◌}
use Rattle.uid_names.specs.Names.{ObjectName}
use Rattle.dom_history.specs.Objects.{is_node, room_of}
use Rattle.object_store.specs.Objects.{room_of as room_in}
use Rattle.object_store.specs.HomeStates.{attr_of}
use Rattle.node_runs.specs.Setups.{Setup}
use Rattle.node_runs.specs.Runs.{Noted, World}
use Rattle.run_laws.specs.HistoryHomes.{held_then}
use Rattle.run_laws.specs.NotedEffects.{noted_past}

abbrev pub AreRoomsAlways : Setup → World → Type 0
AreRoomsAlways s w =
    (newer older : List Noted) → w.trace ≡ newer ++ older → (u : ObjectName) → is_node s.opening u.home ≡ true
    → is_some (attr_of (held_then s u.home older).home u) ≡ true → room_of s.opening (noted_past older) u ≡ room_in (attr_of (held_then s u.home older).home u)
