-- Logs of nodes, merged by place. In a log, and in what is merged, the first event comes first.
use Rattle.std.specs.Prelude.{◌≡◌, ◌≢◌, ℕ, ◌+◌, ◌-◌, false, Some, List, [], ◌∷◌, length, reverse, All, AllPairs}
use Rattle.dom_history.specs.Events.{Happening}
use Rattle.dom_history.specs.Histories.{place_lt}
use Rattle.dom_history.specs.MergedLogs.{next_at}
use Rattle.dom_history.specs.declared.event.NodeLog.{NodeLog}
use Rattle.node_runs.specs.Runs.{AreRising}
use Rattle.world_runs.specs.ByPlace.{events_of}

-- the log is that of its node, by rising place
pub record IsLog (log : NodeLog) : Type 0 where
  pub own : All (λ e. e.place.node ≡ log.node) log.events
  pub rising : AreRising (reverse log.events)

-- each log is one, and no two are of one node
pub record AreLogs (logs : List NodeLog) : Type 0 where
  pub each : All IsLog logs
  pub apart : AllPairs (λ a b. a.node ≢ b.node) logs

-- no other log's next event comes before this log's
pub record IsFirst (logs : List NodeLog) (came : List ℕ) (i : ℕ) : Type 0 where
  pub event : Happening
  pub next : next_at logs came i ≡ Some event
  pub least : (j : ℕ) (other : Happening) → next_at logs came j ≡ Some other → place_lt other.place event.place ≡ false

-- how many events are left
abbrev pub left : List NodeLog → List ℕ → ℕ
left [] came = 0
left (log ∷ logs) [] = 0
left (log ∷ logs) (c ∷ came) = (length log.events - c) + left logs came

-- the events of these logs by rising place, and no others
pub record AreMerged (logs : List NodeLog) (events : List Happening) : Type 0 where
  pub rising : AreRising (reverse events)
  pub own : All (λ log. events_of log.node events ≡ log.events) logs
  pub only : (n : ℕ) → All (λ log. log.node ≢ n) logs → events_of n events ≡ []
