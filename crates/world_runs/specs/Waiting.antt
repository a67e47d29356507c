-- What waits on a link to be delivered: copies of frames by the plan, and marks in between.
use Rattle.std.specs.Prelude.{ℕ, ◌+◌, ◌==◌, Bool, true, false, ◌&&◌, List, [], ◌∷◌, ◌++◌, map, length, drop}
use Rattle.dom_history.specs.declared.event.What.{What}
use Rattle.dom_history.specs.declared.event.What.TheVariants as events
use Rattle.dom_history.specs.declared.plan.Fate.{Fate}
use Rattle.dom_history.specs.declared.plan.FateRow.{FateRow}
use Rattle.dom_history.specs.Events.{Happening}
use Rattle.dom_history.specs.Plans.{fate_of}
use Rattle.node_runs.specs.Deliveries.{in_place, copies}
use Rattle.world_runs.specs.Sendings.{Sending, sendings, frames_in}

-- a copy of the frame of this number, or the mark of a phase
pub data Entry : Type 0 where
  Copy : (index : ℕ) → Entry
  Mark : (phase : ℕ) → Entry

-- the copies that are delivered behind so many frames and one more: that one, then those that fall behind it
abbrev pub due : (ℕ → Fate) → ℕ → List ℕ
due fate n = in_place (n + 1) (fate (n + 1)) ++ copies fate (n + 1) (n + 1)

-- a mark stands behind all copies that fall behind the frames sent before it
abbrev pub put_by : (ℕ → Fate) → ℕ → Sending → List Entry
put_by fate n Sending.Frame = map Entry.Copy (due fate n)
put_by fate n (Sending.Mark phase) = Entry.Mark phase ∷ []

-- all entries of a link on which this was sent, the first one first
abbrev pub entries : (ℕ → Fate) → List Sending → List Entry
entries fate [] = []
entries fate (x ∷ older) = entries fate older ++ put_by fate (frames_in older) x

abbrev pub entry_if : Bool → Entry → List Entry
entry_if true x = x ∷ []
entry_if false x = []

-- the entry that an event of a node took from a link
abbrev pub entry_by : ℕ → ℕ → ℕ → What → List Entry
entry_by from to node (events.Take sender index) = entry_if ((sender == from) && (node == to)) (Entry.Copy index)
entry_by from to node (events.Mark sender phase) = entry_if ((sender == from) && (node == to)) (Entry.Mark phase)
entry_by from to node what = []

-- the entries that were taken from a link, the first one first
abbrev pub entries_taken : ℕ → ℕ → List Happening → List Entry
entries_taken from to [] = []
entries_taken from to (e ∷ older) = entries_taken from to older ++ entry_by from to e.place.node e.what

-- all entries of a link, after these events
abbrev pub entries_put : List FateRow → ℕ → ℕ → List Happening → List Entry
entries_put plan from to es = entries (fate_of plan from to) (sendings from to es)

-- those that wait, the oldest first
abbrev pub waiting : List FateRow → ℕ → ℕ → List Happening → List Entry
waiting plan from to es = drop (length (entries_taken from to es)) (entries_put plan from to es)
