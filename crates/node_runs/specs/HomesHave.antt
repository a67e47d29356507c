-- That a home has what a process stored to an object, by the history of a run; and all of it, where no other process holds it shared.
use Rattle.std.specs.Prelude.{◌≡◌, ℕ, ◌+◌, ◌*◌, ◌<◌, ◌≤◌, ◌⊎◌, Bool, true, false, Option, Some, None, List, [], ◌∷◌, slice_index}
use Rattle.uid_names.specs.Names.{ProcName, ObjectName}
use Rattle.uid_names.specs.Openings.{Start}
use Rattle.uid_names.specs.declared.ids.Place.{Place}
use Rattle.uid_names.specs.declared.limits.TheConstants.{PAGE_BYTES}
use Rattle.dom_history.specs.StoreEffects.{StoreEffect, store_effects}
use Rattle.dom_history.specs.Bytes.{byte, length_of, last_storer, end_of}
use Rattle.dom_history.specs.Events.{Happening}
use Rattle.dom_history.specs.Locks.{IsAlone}
use Rattle.dom_history.specs.Histories.{before, deeds, place_lt}
use Rattle.object_store.specs.declared.attributes.Attr.{Attr}
use Rattle.object_store.specs.HomeStates.{HomeState, attr_of}
use Rattle.page_store.specs.Volumes.{page_of}
use Rattle.node_runs.specs.Setups.{Setup}
use Rattle.node_runs.specs.Runs.{World, world_of}
use Rattle.node_runs.specs.RunHistories.{history_of}

-- whether the event stands above the place
abbrev pub until_by : Bool → Happening → List Happening → List Happening → List Happening
until_by true e older found = found
until_by false e older found = e ∷ older

-- the events up to a place
abbrev pub until : Place → List Happening → List Happening
until x [] = []
until x (e ∷ older) = until_by (place_lt x e.place) e older (until x older)

-- the object has the bytes whose last store is p's, and no length below the ends of p's stores; and where p is alone, each byte and the length
pub record HasBytes (opening : Start) (past : List StoreEffect) (home : HomeState) (u : ObjectName) (p : ProcName) (attr : Attr) : Type 0 where
  pub bytes : (k i : ℕ) → k < attr.room → i < PAGE_BYTES → (last_storer opening past u (PAGE_BYTES * k + i) ≡ Some p) ⊎ IsAlone p u past
      → slice_index (page_of home.pages u.counter k) i ≡ byte opening past u (PAGE_BYTES * k + i)
  pub length : IsAlone p u past → attr.length ≡ length_of opening past u
  pub least : end_of opening past p u ≤ attr.length

abbrev pub HasObject : Start → List StoreEffect → HomeState → ObjectName → ProcName → Option Attr → Type 0
HasObject opening past home u p None = ⊥
HasObject opening past home u p (Some attr) = HasBytes opening past home u p attr

abbrev pub HomeHasIn : Start → List StoreEffect → ObjectName → ProcName → Option World → Type 0
HomeHasIn opening past u p None = ⊥
HomeHasIn opening past u p (Some w) = let home = (w.nodes u.home).side.home in HasObject opening past home u p (attr_of home u)

-- after the events up to the place, the home of u has what p stored to it by the history before the place
abbrev pub HomeHas : Setup → List Happening → Place → ObjectName → ProcName → Type 0
HomeHas s es x u p = HomeHasIn s.opening (store_effects (deeds (before x (history_of s es).items))) u p (world_of s (until x es))
