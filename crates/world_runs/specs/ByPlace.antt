-- The events of turns, by place.
use Rattle.std.specs.Prelude.{◌≡◌, ℕ, ◌==◌, Bool, true, false, Some, List, [], ◌∷◌, filter}
use Rattle.dom_history.specs.Events.{Happening}
use Rattle.dom_history.specs.Histories.{place_lt}
use Rattle.node_runs.specs.Setups.{Setup}
use Rattle.node_runs.specs.Runs.{World, mark_of, world_of}

-- an event goes behind another one, or before it into its place among the older ones
abbrev pub behind_if : Bool → Happening → Happening → List Happening → List Happening → List Happening
behind_if true e x older with_it = e ∷ x ∷ older
behind_if false e x older with_it = x ∷ with_it

abbrev pub put_in_place : Happening → List Happening → List Happening
put_in_place e [] = e ∷ []
put_in_place e (x ∷ older) = behind_if (place_lt x.place e.place) e x older (put_in_place e older)

-- by rising place, the last one first
abbrev pub by_place : List Happening → List Happening
by_place [] = []
by_place (e ∷ older) = put_in_place e (by_place older)

-- the events of one node
abbrev pub events_of : ℕ → List Happening → List Happening
events_of n es = filter (λ e. e.place.node == n) es

-- two worlds to which the same events led in different orders: all nodes, frames, marks and calls are the same
pub record IsLike (w v : World) : Type 0 where
  pub nodes : (n : ℕ) → w.nodes n ≡ v.nodes n
  pub frames : (from to : ℕ) → w.frames from to ≡ v.frames from to
  pub marks : (from phase : ℕ) → mark_of w from phase ≡ mark_of v from phase
  pub calls : (n p : ℕ) → w.calls n p ≡ v.calls n p

-- the events lead to a world like this one
abbrev pub LeadsAlike : Setup → List Happening → World → Type 0
LeadsAlike s es w = (v : World) × (world_of s es ≡ Some v) × IsLike w v
