-- Runs of a script's nodes that have ended, and the one that a seed picks. The last event is first.
use Rattle.std.specs.Prelude.{ℕ, ◌^◌, List}
use Rattle.dom_history.specs.Events.{Happening}
use Rattle.script_reader.specs.Scripts.{Content}
use Rattle.node_runs.specs.NodesKeep.{IsTimely}
use Rattle.node_runs.specs.Runs.{World}
use Rattle.world_runs.specs.ByPlace.{IsLike}
use Rattle.world_runs.specs.Draws.{ComesToLast}
use Rattle.world_runs.specs.Picked.{IsPicked}
use Rattle.world_runs.specs.EndedRuns.{IsEndedRun}
use Rattle.script_runs.specs.Setups.{setup_of}

-- no event gives a node this tick
abbrev pub last_tick : ℕ
last_tick = 2 ^ 40

-- whoever picked the events: they are a run of the script's nodes, planned by its faults, and lead to this world, in which all nodes have ended
-- and no tick is above the greatest one
pub record IsEndedRunOf (s : Content) (events : List Happening) (w : World) : Type 0 where
  pub run : IsEndedRun (setup_of s) s.plan events w
  pub timely : IsTimely w

-- the events are a run of the script that has ended, in a world like this one
abbrev pub EndsAlikeOf : Content → List Happening → World → Type 0
EndsAlikeOf s events w = (v : World) × IsEndedRunOf s events v × IsLike w v

-- the events are those that the turns of the seed pick, until no event is enabled; no tick came to the last one
abbrev pub IsPickedRunOf : Content → ℕ → ℕ → List Happening → Type 0
IsPickedRunOf s seed last events = IsPicked (setup_of s) s.plan seed last events

-- the seed picks a run
abbrev pub PicksRun : Content → ℕ → ℕ → Type 0
PicksRun s seed last = (events : List Happening) × IsPickedRunOf s seed last events

-- it holds of each run that the seed picks, and of the world in which its turns end
abbrev pub OfPickedRuns : Content → ℕ → ℕ → (List Happening → World → Type 0) → Type 0
OfPickedRuns s seed last P = (events : List Happening) (picked : IsPickedRunOf s seed last events) → P events picked.world

-- the turns of the seed give this node the last tick, before any other
abbrev pub ComesToTick : Content → ℕ → ℕ → ℕ → Type 0
ComesToTick s seed last node = ComesToLast (setup_of s) s.plan seed last node
