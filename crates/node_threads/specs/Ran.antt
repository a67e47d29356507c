-- What node threads hand back: the logs of runs of nodes alone that fit one another, and the programs.
use Rattle.std.specs.Prelude.{◌≡◌, ℕ, ◌≤◌, ◌^◌, true, Option, Some, IsSome, List, reverse}
use Rattle.std.specs.Option.{option_map}
use Rattle.uid_names.specs.Names.{ProcName}
use Rattle.dom_history.specs.declared.event.NodeLog.{NodeLog}
use Rattle.dom_history.specs.declared.op.Reply.{Reply}
use Rattle.dom_history.specs.declared.op.Want.{Want}
use Rattle.dom_history.specs.declared.plan.FateRow.{FateRow}
use Rattle.dom_history.specs.Events.{Happening}
use Rattle.dom_history.specs.Objects.{is_node}
use Rattle.dom_history.specs.Plans.{IsPlan}
use Rattle.dom_history.specs.Programs.{program_after}
use Rattle.fault_handler.specs.Desks.{IsNode}
use Rattle.node_runs.specs.Setups.{Setup, IsSetup, given}
use Rattle.node_runs.specs.NodeStates.{proc_of, is_ended}
use Rattle.node_runs.specs.NodesKeep.{IsTimely}
use Rattle.node_runs.specs.Runs.{World, world_of}
use Rattle.node_runs.specs.Deliveries.{IsPlanned}
use Rattle.recent_runs.specs.Recent.{IsRecent}
use Rattle.ring_links.specs.Merged.{AreMerged}
use Rattle.local_runs.specs.LocalRuns.{Own, AreLocalRuns, AreDelivered, IsTogether}
use Rattle.local_runs.specs.NamedRuns.{AreAllNamedAlone}
use Rattle.local_runs.specs.Logs.{AreLogsOf}
use Rattle.local_runs.specs.Merges.{AreApart}
use Rattle.world_runs.specs.EndedRuns.{IsEndedRun}
use Rattle.ended_nodes.specs.Ended.{named}

-- the logs are those of runs of nodes alone, in which all that was received was sent; on each link what was taken is a first part of what was
-- put by the plan; each node made room as its cache names it; and each has ended
pub record AreEndedRuns (s : Setup) (plan : List FateRow) (logs : List NodeLog) (owns : ℕ → List Own) (worlds : ℕ → World) : Type 0 where
  pub runs : AreLocalRuns s owns worlds
  pub delivered : AreDelivered plan owns
  pub named_alone : AreAllNamedAlone s owns
  pub logs_of : AreLogsOf owns logs
  pub apart : AreApart logs
  pub timely : (n : ℕ) → ((worlds n).nodes n).tick ≤ 2 ^ 40
  pub ended : (n : ℕ) → is_node s.opening n ≡ true → is_ended (given s n) ((worlds n).nodes n) ≡ true

-- the events, the last one first, are a run by the plan that has ended, with no tick above the greatest one; in it each page that was
-- dropped for another was the clean one used longest ago, and each node is as it is alone
pub record EndsTogether (s : Setup) (plan : List FateRow) (worlds : ℕ → World) (es : List Happening) : Type 0 where
  pub world : World
  pub run : IsEndedRun s plan es world
  pub timely : IsTimely world
  pub recent : IsRecent s es
  pub together : IsTogether worlds world

-- merged by place these logs are so
abbrev pub EndsWhereMerged : Setup → List FateRow → List NodeLog → (ℕ → World) → Type 0
EndsWhereMerged s plan logs worlds = (events : List Happening) → AreMerged logs events → EndsTogether s plan worlds (reverse events)

module _ {P : Type 0} (wants : P → Want) (becomes : P → Option Reply → P) (made : ℕ → ℕ → Option P) (s : Setup) where
  -- each program is what it became by what its process heard, and there are no others
  pub record AreEndedPrograms (worlds : ℕ → World) (programs : List (ProcName × P)) : Type 0 where
    pub ended : (p : ProcName) → IsNode s.opening.nodes p.node
        → named programs p ≡ option_map (λ y. program_after becomes y (proc_of ((worlds p.node).nodes p.node) p.number).heard) (made p.node p.number)
    pub only : (p : ProcName) → IsSome (named programs p) → IsNode s.opening.nodes p.node

  -- threads came to the end with these logs and programs
  pub record HaveRun (plan : List FateRow) (logs : List NodeLog) (programs : List (ProcName × P)) : Type 0 where
    pub owns : ℕ → List Own
    pub worlds : ℕ → World
    pub runs : AreEndedRuns s plan logs owns worlds
    pub programs_are : AreEndedPrograms worlds programs
    pub merged : IsSetup s → IsPlan plan → EndsWhereMerged s plan logs worlds

-- in a run by the plan this node has such a tick
pub record ReachesTick (s : Setup) (plan : List FateRow) (last node : ℕ) : Type 0 where
  pub events : List Happening
  pub world : World
  pub planned : IsPlanned s plan events
  pub leads : world_of s events ≡ Some world
  pub late : last ≤ (world.nodes node).tick
