-- What is said of every run, planned or not, ended or not.
use Rattle.std.specs.Prelude.{◌≡◌, Some, List, ◌++◌}
use Rattle.dom_history.specs.Events.{Happening}
use Rattle.dom_history.specs.Histories.{entries}
use Rattle.dom_history.specs.Legal.{IsLegal}
use Rattle.dom_history.specs.Follows.{Follows, IsPhased}
use Rattle.node_runs.specs.Setups.{Setup}
use Rattle.node_runs.specs.Runs.{World, world_of}
use Rattle.node_runs.specs.RunHistories.{history_of}
use Rattle.run_laws.specs.Entries.{AreRepliesHeard, AreAskedHeard}
use Rattle.run_laws.specs.OpenDecisions.{AreOpenRight}
pub use Rattle.run_laws.specs.HomesAtUnlocks.{HomesHaveAll}

-- what is right after these events, which led to this world
pub record IsRightAt (s : Setup) (es : List Happening) (w : World) : Type 0 where
  -- the history is one of one store, without nodes or caches
  pub legal : IsLegal s.opening (history_of s es)
  -- no entry stands before one of a smaller phase
  pub phased : IsPhased (entries (history_of s es).items)
  -- each process did what its program asks, each operation once and in order
  pub follows : Follows s.asks (history_of s es)
  -- its entries have exactly the replies that its program heard
  pub replies : AreRepliesHeard s w
  -- and the operations that its program asked, each in its phase
  pub asked : AreAskedHeard s w
  -- no home refused an open call for a page, a length or a removal
  pub answered : AreOpenRight s w
  -- at each unlock of a lock that its process held the home has what the process stored, and all where no other holds the object shared
  pub homes : HomesHaveAll s es

-- all is right after these events, and was so after each event before: the newer ones stand first
pub record IsRightRun (s : Setup) (es : List Happening) : Type 0 where
  pub world : World
  pub leads : world_of s es ≡ Some world
  pub done : world.done ≡ es
  pub each : (newer older : List Happening) → es ≡ newer ++ older → (v : World) × (world_of s older ≡ Some v) × IsRightAt s older v
