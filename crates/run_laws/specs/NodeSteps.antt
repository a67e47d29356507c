-- What holds of each step of a node, whatever it received, and what each step keeps.
use Rattle.std.specs.Prelude.{◌≡◌, ℕ, Some, List}
use Rattle.uid_names.specs.Names.{ObjectName}
use Rattle.dom_history.specs.declared.event.What.{What}
use Rattle.node_runs.specs.Setups.{Given, IsGiven}
use Rattle.node_runs.specs.NodeStates.{NodeState}
use Rattle.node_runs.specs.Incomings.{Incoming}
use Rattle.node_runs.specs.Outcomes.{Stepped}
use Rattle.node_runs.specs.Steps.{step_of}
use Rattle.node_runs.specs.SentFrames.{IsIncoming}
use Rattle.node_runs.specs.NodesKeep.{IsNodeOf}

-- it holds of each step of a node
abbrev pub OfEachStep : (Given → NodeState → Incoming → Stepped → Type 0) → Type 0
OfEachStep P =
    (g : Given) (n : NodeState) (what : What) (incoming : Incoming) (dropped : List (ObjectName × ℕ)) (s : Stepped) →
    IsGiven g → IsNodeOf g n → IsIncoming incoming → step_of g n what incoming dropped ≡ Some s → P g n incoming s

-- each step keeps it
abbrev pub EachStepKeeps : (NodeState → Type 0) → Type 0
EachStepKeeps P =
    (g : Given) (n : NodeState) (what : What) (incoming : Incoming) (dropped : List (ObjectName × ℕ)) (s : Stepped) →
    IsGiven g → IsNodeOf g n → IsIncoming incoming → P n → step_of g n what incoming dropped ≡ Some s → P s.node

-- where the first holds, each step keeps the second
abbrev pub EachStepKeepsWith : (NodeState → Type 0) → (NodeState → Type 0) → Type 0
EachStepKeepsWith P Q =
    (g : Given) (n : NodeState) (what : What) (incoming : Incoming) (dropped : List (ObjectName × ℕ)) (s : Stepped) →
    IsGiven g → IsNodeOf g n → IsIncoming incoming → P n → Q n → step_of g n what incoming dropped ≡ Some s → Q s.node
