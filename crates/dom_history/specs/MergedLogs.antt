-- Events of several logs in one order, which names, event by event, the place of the log that has it.
use Rattle.std.specs.Prelude.{ℕ, zero, suc, ◌+◌, Option, Some, None, IsSome, List, [], ◌∷◌, length, replicate, slice_get, slice_index, slice_set}
use Rattle.dom_history.specs.Events.{Happening}
use Rattle.dom_history.specs.declared.event.NodeLog.{NodeLog}

-- logs, how many events of each came, and those in the order in which they came
pub record Merged : Type 0 where
  pub logs : List NodeLog
  pub came : List ℕ
  pub events : List Happening

-- the event of this log that comes next, where so many of each came
abbrev pub next_at : List NodeLog → List ℕ → ℕ → Option Happening
next_at [] came i = None
next_at (log ∷ logs) [] i = None
next_at (log ∷ logs) (c ∷ came) zero = slice_get log.events c
next_at (log ∷ logs) (c ∷ came) (suc i) = next_at logs came i

-- one more of this log came
abbrev pub one_more : List ℕ → ℕ → List ℕ
one_more came i = slice_set came i (slice_index came i + 1)

-- none came
abbrev pub none_came : List NodeLog → List ℕ
none_came logs = replicate (length logs) 0

-- how many of each came by an order
abbrev pub came_by : List ℕ → List ℕ → List ℕ
came_by came [] = came
came_by came (i ∷ order) = came_by (one_more came i) order

-- an event, if there is one, before others
abbrev pub first_before : Option Happening → List Happening → List Happening
first_before None events = events
first_before (Some e) events = e ∷ events

-- the events that an order names, where so many came before
abbrev pub in_order : List NodeLog → List ℕ → List ℕ → List Happening
in_order logs came [] = []
in_order logs came (i ∷ order) = first_before (next_at logs came i) (in_order logs (one_more came i) order)

-- each event that the order names is there
abbrev pub IsOrder : List NodeLog → List ℕ → List ℕ → Type 0
IsOrder logs came [] = Unit
IsOrder logs came (i ∷ order) = IsSome (next_at logs came i) × IsOrder logs (one_more came i) order
