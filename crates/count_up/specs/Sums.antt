-- What comes of three nodes that count.
use Rattle.std.specs.Prelude.{◌≡◌, ℕ, Some, List, [], All}
use Rattle.uid_names.specs.Names.{ProcName}
use Rattle.dom_history.specs.Events.{Happening}
use Rattle.dom_history.specs.Programs.{program_after}
use Rattle.fault_handler.specs.Desks.{IsNode}
use Rattle.node_runs.specs.NodeStates.{proc_of}
use Rattle.node_runs.specs.NodesKeep.{IsTimely}
use Rattle.node_runs.specs.Runs.{World}
use Rattle.world_runs.specs.EndedRuns.{IsEndedRun}
use Rattle.run_laws.specs.EveryRun.{IsRightRun}
use Rattle.count_up.specs.declared.counter.Counter.{Counter}
use Rattle.count_up.specs.Counters.{first_counter, counter_after, seen_by}
use Rattle.count_up.specs.Counting.{counting}
use Rattle.count_up.specs.Starting.{object}

-- the counter of a node's process in a world, as it became by what it heard
abbrev pub counter_in : ℕ → World → ℕ → Counter
counter_in rounds w n = program_after counter_after (first_counter object rounds) (proc_of (w.nodes n) 1).heard

-- there is a run of the three nodes without a fault, which is one of one store and has ended, and this is the number that each process
-- loaded last
pub record CountsTo (rounds sum : ℕ) : Type 0 where
  pub events : List Happening
  pub world : World
  pub run : IsEndedRun (counting rounds) [] events world
  pub timely : IsTimely world
  pub right : IsRightRun (counting rounds) events
  pub seen : (n : ℕ) → IsNode 3 n → seen_by (counter_in rounds world n) ≡ Some sum

-- each of these counters came to its end and loaded this number last
abbrev pub HaveSeen : ℕ → List (ProcName × Counter) → Type 0
HaveSeen sum counters = All (λ e. seen_by e.1 ≡ Some sum) counters
