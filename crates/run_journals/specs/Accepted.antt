-- The journals that are accepted: those of ended, planned and recent runs of a script.
use Rattle.std.specs.Prelude.{◌≡◌, ℕ, Some, List, reverse}
use Rattle.dom_history.specs.Events.{Happening}
use Rattle.script_reader.specs.Scripts.{Content}
use Rattle.journal_text.specs.Written.{IsJournal}
use Rattle.node_runs.specs.Runs.{World, world_of, HasEnded}
use Rattle.node_runs.specs.Deliveries.{IsPlanned}
use Rattle.recent_runs.specs.Recent.{IsRecent}
use Rattle.script_runs.specs.Reports.{names_of}
use Rattle.script_runs.specs.Runs.{IsEndedRunOf}
use Rattle.script_runs.specs.Setups.{setup_of}

-- the bytes are the journal of these events, which are a run of the script that has ended in this world, planned by its faults, and a recent one
pub record IsAcceptedOf (s : Content) (bytes : List ℕ) (events : List Happening) (world : World) : Type 0 where
  pub journal : IsJournal (names_of s) bytes (reverse events)
  pub run : IsEndedRunOf s events world
  pub recent : IsRecent (setup_of s) events

pub record IsAccepted (s : Content) (bytes : List ℕ) : Type 0 where
  pub events : List Happening
  pub world : World
  pub is : IsAcceptedOf s bytes events world

-- the same in single words, where nothing is said of ticks: of a journal of at most 2^40 lines these follow
pub record IsJournalOfRun (s : Content) (bytes : List ℕ) (events : List Happening) (world : World) : Type 0 where
  pub journal : IsJournal (names_of s) bytes (reverse events)
  pub planned : IsPlanned (setup_of s) s.plan events
  pub recent : IsRecent (setup_of s) events
  pub leads : world_of (setup_of s) events ≡ Some world
  pub ended : HasEnded (setup_of s) world
