-- The journal of a run, and that no other events have it.
use Rattle.std.specs.Prelude.{◌≡◌, ℕ, Some, List, reverse}
use Rattle.dom_history.specs.Events.{Happening}
use Rattle.journal_text.specs.Lines.{journal}
use Rattle.journal_text.specs.Written.{IsJournal}
use Rattle.node_runs.specs.Setups.{Setup}
use Rattle.node_runs.specs.NodesKeep.{IsTimely}
use Rattle.node_runs.specs.Runs.{World, IsRun, world_of}

-- the events are a run, in which no tick is above the greatest one
pub record IsTimelyRun (s : Setup) (events : List Happening) : Type 0 where
  pub run : IsRun s events
  pub world : World
  pub leads : world_of s events ≡ Some world
  pub timely : IsTimely world

-- the bytes of the journal of events; a run has the last one first, and a journal has it last
abbrev pub journal_of : List (List ℕ) → List Happening → List ℕ
journal_of names events = journal names (reverse events)

-- the bytes are the journal of these events, and of no others
pub record SpellsOnly (names : List (List ℕ)) (bytes : List ℕ) (events : List Happening) : Type 0 where
  pub journal : IsJournal names bytes (reverse events)
  pub only : (read : List Happening) → IsJournal names bytes read → read ≡ reverse events

-- the journal of each run of this set-up is that of no other events
abbrev pub AreRunsTold : List (List ℕ) → Setup → Type 0
AreRunsTold names s = (events : List Happening) → IsTimelyRun s events → SpellsOnly names (journal_of names events) events

-- a run of one set-up and a run of another have the same journal only where they are one
abbrev pub AreJournalsApart : List (List ℕ) → Setup → Setup → Type 0
AreJournalsApart names s t =
    (events others : List Happening) → IsTimelyRun s events → IsTimelyRun t others → journal_of names events ≡ journal_of names others → events ≡ others
