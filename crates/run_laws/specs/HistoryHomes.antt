-- That homes have what the history of a run says of objects and locks, at each place of it.
use Rattle.std.specs.Prelude.{◌≡◌, ℕ, true, is_some, List, ◌++◌}
use Rattle.uid_names.specs.Names.{ObjectName}
use Rattle.dom_history.specs.StoreEffects.{StoreEffect, store_effects}
use Rattle.dom_history.specs.Histories.{deeds}
use Rattle.dom_history.specs.Locks.{rows}
use Rattle.dom_history.specs.Objects.{is_node, is_present}
use Rattle.object_store.specs.HomeStates.{attr_of}
use Rattle.lock_manager.specs.Grants.{rows_of}
use Rattle.lock_manager.specs.Tables.{IsTable}
use Rattle.node_runs.specs.Setups.{Setup}
use Rattle.node_runs.specs.Runs.{Noted, World}
use Rattle.node_runs.specs.RunHistories.{all_told, items_from}
use Rattle.node_runs.specs.Replays.{Held, first_held, replay}
use Rattle.run_laws.specs.DecidedEffects.{home_effects, decided_effects}

-- a home after these notes
abbrev pub held_then : Setup → ℕ → List Noted → Held
held_then s n notes = replay (first_held s n) n notes

-- the effects of what the history of the whole run has of these notes
abbrev pub past_then : World → List Noted → List StoreEffect
past_then w notes = store_effects (deeds (items_from w (all_told w.trace) notes))

-- after the notes up to a place
pub record AreHomesThen (s : Setup) (w : World) (notes : List Noted) : Type 0 where
  -- what homes did in the history is what they decided, in that order
  pub decided : home_effects (past_then w notes) ≡ decided_effects notes
  -- the lock rows are those of the homes, in order
  pub rows : (n : ℕ) → rows n (past_then w notes) ≡ rows_of (held_then s n notes).locks.grants
  pub tables : (n : ℕ) → IsTable (held_then s n notes).locks
  -- the present objects are those of the homes
  pub present : (u : ObjectName) → is_node s.opening u.home ≡ true → is_present s.opening (past_then w notes) u ≡ is_some (attr_of (held_then s u.home notes).home u)

abbrev pub AreHomesAlways : Setup → World → Type 0
AreHomesAlways s w = (newer older : List Noted) → w.trace ≡ newer ++ older → AreHomesThen s w older
