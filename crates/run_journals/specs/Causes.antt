-- Where a journal is at fault that is not accepted, and why: the first cause that holds, with its line, counted from 1. Events stand here in the order
-- of the lines.
use Rattle.std.specs.Prelude.{◌≡◌, ℕ, ◌+◌, false, Some, List, ◌∷◌, ◌++◌, length, reverse}
use Rattle.dom_history.specs.Events.{Happening}
use Rattle.script_reader.specs.Scripts.{Content}
use Rattle.journal_text.specs.Written.{IsJournal, IsBadLine}
use Rattle.node_runs.specs.Runs.{World, world_of, HasEnded}
use Rattle.node_runs.specs.Deliveries.{IsPlanned}
use Rattle.script_runs.specs.Reports.{names_of}
use Rattle.script_runs.specs.Setups.{setup_of}
use Rattle.run_journals.specs.RecentRuns.{IsRecentRun}
use Rattle.run_journals.specs.Places.{sent_in, keeps_plan, AllKeepPlan}

-- why a journal is not accepted
pub data Cause : Type 0 where
  -- a line is no line, or does not stand above the one before
  Form : Cause
  -- an event may not happen there, or not with this tick and these effects
  Step : Cause
  -- a frame is taken out of its order, or one is told that is not lost or late, or was told before
  Plan : Cause
  -- the lines stop before all nodes have ended
  End : Cause

-- the event of a line, and those of the lines before and behind
pub record IsAtLine (events : List Happening) (line : ℕ) : Type 0 where
  pub before : List Happening
  pub event : Happening
  pub behind : List Happening
  pub are : events ≡ before ++ event ∷ behind
  pub line_is : line ≡ length before + 1

-- the events of the lines before are a recent run, and with the event of this line they are none
pub record IsStepFault (s : Content) (events : List Happening) (line : ℕ) : Type 0 where
  pub at : IsAtLine events line
  pub good : IsRecentRun (setup_of s) (reverse at.before)
  pub bad : IsRecentRun (setup_of s) (at.event ∷ reverse at.before) → ⊥

-- all events are a recent run; those of the lines before have their places by the plan, and that of this line has not
pub record IsPlanFault (s : Content) (events : List Happening) (line : ℕ) : Type 0 where
  pub at : IsAtLine events line
  pub run : IsRecentRun (setup_of s) (reverse events)
  pub good : AllKeepPlan s.plan (sent_in (reverse events)) (reverse at.before)
  pub bad : keeps_plan s.plan (sent_in (reverse events)) (reverse at.before) at.event ≡ false

-- all events are a recent run by the plan that has not ended; the line is one behind the last
pub record IsEndFault (s : Content) (events : List Happening) (line : ℕ) : Type 0 where
  pub line_is : line ≡ length events + 1
  pub run : IsRecentRun (setup_of s) (reverse events)
  pub planned : IsPlanned (setup_of s) s.plan (reverse events)
  pub bad : (w : World) → world_of (setup_of s) (reverse events) ≡ Some w → HasEnded (setup_of s) w → ⊥

-- the bytes are the journal of events that are at fault so
pub record IsJournalWith (s : Content) (bytes : List ℕ) (Fault : List Happening → Type 0) : Type 0 where
  pub events : List Happening
  pub journal : IsJournal (names_of s) bytes events
  pub fault : Fault events

-- the bytes are no journal of a run of the script: this line is at fault, for this cause
abbrev pub IsNo : Content → List ℕ → ℕ → Cause → Type 0
IsNo s bytes line Cause.Form = IsBadLine (names_of s) bytes line
IsNo s bytes line Cause.Step = IsJournalWith s bytes (λ events. IsStepFault s events line)
IsNo s bytes line Cause.Plan = IsJournalWith s bytes (λ events. IsPlanFault s events line)
IsNo s bytes line Cause.End = IsJournalWith s bytes (λ events. IsEndFault s events line)
