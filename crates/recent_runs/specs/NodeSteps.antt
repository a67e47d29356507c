-- What holds of each step of a node, wherever its events led, whose resident pages stand by these uses.
use Rattle.std.specs.Prelude.{◌≡◌, Some, List}
use Rattle.dom_history.specs.declared.event.What.{What}
use Rattle.node_runs.specs.Setups.{Given, IsGiven}
use Rattle.node_runs.specs.NodeStates.{NodeState}
use Rattle.node_runs.specs.Incomings.{Incoming}
use Rattle.node_runs.specs.Outcomes.{Stepped}
use Rattle.node_runs.specs.Steps.{step_of}
use Rattle.node_runs.specs.SentFrames.{IsIncoming}
use Rattle.node_runs.specs.NodesKeep.{Reached}
use Rattle.recent_runs.specs.Uses.{PageName}
use Rattle.recent_runs.specs.CacheOrders.{StandByUse}

-- it holds of each such step, with the uses before it
abbrev pub OfEachStepByUse : (Given → NodeState → What → Incoming → Stepped → List PageName → Type 0) → Type 0
OfEachStepByUse P =
    (g : Given) → IsGiven g → (n : NodeState) → Reached g n → (what : What) (incoming : Incoming) (dropped : List PageName) (s : Stepped) →
    IsIncoming incoming → step_of g n what incoming dropped ≡ Some s → (used : List PageName) → StandByUse used n.desk → P g n what incoming s used
