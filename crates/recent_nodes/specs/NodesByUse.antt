-- Nodes of code whose resident pages stand by their last uses.
use Rattle.std.specs.Prelude.{◌≡◌, ℕ, true, Option, List}
use Rattle.dom_history.specs.declared.op.Reply.{Reply}
use Rattle.dom_history.specs.declared.op.Want.{Want}
use Rattle.dom_history.specs.declared.event.What.{What}
use Rattle.node_runs.specs.Setups.{Given, IsGiven}
use Rattle.node_runs.specs.NodeStates.{NodeState}
use Rattle.node_runs.specs.Incomings.{Incoming, enabled}
use Rattle.node_runs.specs.Outcomes.{Stepped}
use Rattle.node_runs.specs.SentFrames.{IsIncoming}
use Rattle.node_runs.specs.NodesKeep.{Reached}
use Rattle.node_core.specs.declared.setup.Emitted.{Emitted}
use Rattle.node_core.specs.Nodes.{Noted, state_of, Stands, Happened, Does}
use Rattle.recent_runs.specs.Uses.{PageName, used_in, with_use}
use Rattle.recent_runs.specs.CacheOrders.{StandByUse}
use Rattle.recent_runs.specs.Recent.{DropsTheOldest}

module _ {P : Type 0} (wants : P → Want) (becomes : P → Option Reply → P) (made : ℕ → Option P) (g : Given) where
  -- the node stands for a state to which its start leads, whose resident pages stand by these uses
  pub record StandsByUse (x : Noted P) (n : NodeState) (used : List PageName) : Type 0 where
    pub given : IsGiven g
    pub stands : Stands wants becomes made g x n
    pub reached : Reached g n
    pub order : StandByUse used n.desk

  -- this event happened; the page that it dropped for another was used longest ago of those that are clean, resident and moved by no process
  -- behind it; and the pages stand by their last uses again, of which that of this event is one
  pub record DropsByUse (what : What) (incoming : Incoming) (old new : Noted P) (emitted : Emitted) (n : NodeState) (used : List PageName) (s : Stepped) : Type 0 where
    pub happened : Happened wants becomes made g what incoming old new emitted n s
    pub oldest : DropsTheOldest used (state_of new).desk s.effects
    pub stands : StandsByUse new s.node (with_use (used_in n.desk s.note) used)

  -- so is each event that the node does
  abbrev pub StepsByUse : Type 0
  StepsByUse =
      (what : What) (incoming : Incoming) (old new : Noted P) (emitted : Emitted) (n : NodeState) (used : List PageName) →
      StandsByUse old n used → IsIncoming incoming → enabled g n what incoming ≡ true → Does wants becomes what incoming old new emitted →
      (s : Stepped) × DropsByUse what incoming old new emitted n used s
