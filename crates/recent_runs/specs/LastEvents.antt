-- What holds of the last event of each run in which no tick is above 2^40, whatever was before it.
use Rattle.std.specs.Prelude.{◌≡◌, Some, List, ◌∷◌}
use Rattle.dom_history.specs.Events.{Happening}
use Rattle.node_runs.specs.Setups.{Setup, IsSetup}
use Rattle.node_runs.specs.NodesKeep.{IsTimely}
use Rattle.node_runs.specs.Runs.{World, IsRun, world_of}

-- it holds of the event, after these older ones and in the world that they led to
abbrev pub OfEachLastEvent : (Setup → List Happening → World → Happening → Type 0) → Type 0
OfEachLastEvent P =
    (s : Setup) → IsSetup s → (e : Happening) (es : List Happening) (old new : World) → IsRun s (e ∷ es) →
    world_of s es ≡ Some old → world_of s (e ∷ es) ≡ Some new → IsTimely new → P s es old e
