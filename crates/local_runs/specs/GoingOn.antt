-- How a run of a node alone goes on.
use Rattle.std.specs.Prelude.{◌≡◌, ℕ, true, Some, List, ◌∷◌}
use Rattle.dom_history.specs.declared.event.What.{What}
use Rattle.dom_history.specs.Objects.{is_node}
use Rattle.node_runs.specs.Setups.{Setup, IsSetup, given}
use Rattle.node_runs.specs.Incomings.{Incoming, enabled}
use Rattle.node_runs.specs.Outcomes.{Stepped}
use Rattle.node_runs.specs.Steps.{named_step}
use Rattle.node_runs.specs.SentFrames.{IsIncoming}
use Rattle.node_runs.specs.Runs.{World}
use Rattle.local_runs.specs.LocalRuns.{Own, IsLocalRun, AreIncomings, own_event, own_world}

-- it holds of each run of a node alone in which each frame that was received is as nodes send them
abbrev pub OfEachLocalRun : (Setup → ℕ → List Own → World → Type 0) → Type 0
OfEachLocalRun P =
    (s : Setup) → IsSetup s → (n : ℕ) → is_node s.opening n ≡ true → (own : List Own) (w : World) → IsLocalRun s n own w → AreIncomings own → P s n own w

-- with each event that is enabled then, at which room is made as the cache names it, the run is one of the node alone
abbrev pub GoesOnByEach : Setup → ℕ → List Own → World → Type 0
GoesOnByEach s n own w =
    (what : What) (incoming : Incoming) (step : Stepped) → IsIncoming incoming → enabled (given s n) (w.nodes n) what incoming ≡ true →
    named_step (given s n) (w.nodes n) what incoming ≡ Some step → IsLocalRun s n (own_event n what incoming step ∷ own) (own_world n w what step)
