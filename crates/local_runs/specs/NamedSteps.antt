-- That a run of a node alone stays one in which room is made as its cache names it.
use Rattle.std.specs.Prelude.{◌≡◌, ℕ, Some, List, ◌∷◌}
use Rattle.dom_history.specs.declared.event.What.{What}
use Rattle.node_runs.specs.Setups.{Setup, given}
use Rattle.node_runs.specs.Incomings.{Incoming}
use Rattle.node_runs.specs.Outcomes.{Stepped}
use Rattle.node_runs.specs.Steps.{named_step, step_of}
use Rattle.node_runs.specs.Runs.{World}
use Rattle.local_runs.specs.LocalRuns.{Own, own_event}
use Rattle.local_runs.specs.NamedRuns.{AreNamedAlone}

-- with each event that happens in this world as the cache names the page, the run is such
abbrev pub GoesOnAsNamed : Setup → ℕ → List Own → World → Type 0
GoesOnAsNamed s n own w =
    (what : What) (incoming : Incoming) (step : Stepped) → named_step (given s n) (w.nodes n) what incoming ≡ Some step →
    step_of (given s n) (w.nodes n) what incoming step.effects.dropped ≡ Some step → AreNamedAlone s n (own_event n what incoming step ∷ own)
