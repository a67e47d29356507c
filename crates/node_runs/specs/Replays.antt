-- The homes are what their decisions made of them, one after the other.
use Rattle.std.specs.Prelude.{◌≡◌, ℕ, ◌==◌, Bool, true, false, List, [], ◌∷◌}
use Rattle.object_store.specs.HomeStates.{HomeState}
use Rattle.lock_manager.specs.Tables.{Table}
use Rattle.page_server.specs.Serving.{HomeSide}
use Rattle.page_server.specs.Decisions.{decide}
use Rattle.node_runs.specs.Setups.{Setup, given}
use Rattle.node_runs.specs.NodeStates.{first_node}
use Rattle.node_runs.specs.Notes.{Note}
use Rattle.node_runs.specs.Runs.{Noted, World}

-- the objects and the lock table of a home
pub record Held : Type 0 where
  pub home : HomeState
  pub locks : Table

abbrev pub held_by : HomeSide → Held
held_by side = record { home = side.home; locks = side.locks }

-- after a decision
abbrev pub after_note : Held → Note → Held
after_note h (Note.Decided p number ask answer) = record { home = (decide h.home h.locks p ask).home; locks = (decide h.home h.locks p ask).locks }
after_note h note = h

abbrev pub after_if : Bool → Held → Note → Held
after_if true h note = after_note h note
after_if false h note = h

-- a home after what its node noted; the last comes first
abbrev pub replay : Held → ℕ → List Noted → Held
replay first node [] = first
replay first node (m ∷ older) = after_if (m.place.node == node) (replay first node older) m.note

abbrev pub first_held : Setup → ℕ → Held
first_held s n = held_by (first_node (given s n)).side

-- an answer is that of the decision
abbrev pub IsAnswered : Held → Note → Type 0
IsAnswered h (Note.Decided p number ask answer) = answer ≡ (decide h.home h.locks p ask).answer
IsAnswered h note = Unit {0}

abbrev pub AreAnswered : Setup → List Noted → Type 0
AreAnswered s [] = Unit {0}
AreAnswered s (m ∷ older) = IsAnswered (replay (first_held s m.place.node) m.place.node older) m.note × AreAnswered s older

pub record AreReplays (s : Setup) (w : World) : Type 0 where
  pub homes : (n : ℕ) → held_by (w.nodes n).side ≡ replay (first_held s n) n w.trace
  pub answers : AreAnswered s w.trace
