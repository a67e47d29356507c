-- The turns that a seed picks.
use Rattle.std.specs.Prelude.{◌≡◌, ℕ, zero, suc, ◌<◌, ◌≤◌, Option, Some, List, [], ◌∷◌, map, sum}
use Rattle.drawn_numbers.specs.Draws.{drawn, state_after}
use Rattle.dom_history.specs.declared.plan.FateRow.{FateRow}
use Rattle.node_runs.specs.Setups.{Setup}
use Rattle.node_runs.specs.Doings.{node_numbers}
use Rattle.node_runs.specs.Runs.{World}
use Rattle.world_runs.specs.Turns.{enabled_events, turn, after_turns}

-- what the first draws gave, the last first
abbrev pub draws : ℕ → ℕ → List ℕ
draws seed zero = []
draws seed (suc k) = drawn (state_after seed (suc k)) ∷ draws seed k

-- the world after so many turns; None where all events were done before
abbrev pub turns : Setup → List FateRow → ℕ → ℕ → Option World
turns s plan seed k = after_turns s plan (draws seed k)

-- no node's tick has come so far
abbrev pub IsBelow : ℕ → World → Type 0
IsBelow last w = (n : ℕ) → (w.nodes n).tick < last

-- a turn from a world in which no node's tick has come so far brings none beyond it
abbrev pub GoesNoFurther : Setup → List FateRow → ℕ → Type 0
GoesNoFurther s plan last =
    (cs : List ℕ) (old new : World) (choice : ℕ) →
    after_turns s plan cs ≡ Some old → IsBelow last old → turn s plan old choice ≡ Some new → (n : ℕ) → (new.nodes n).tick ≤ last

-- the turns end in this world: no event is enabled, and no tick came to the last one
pub record EndsIn (s : Setup) (plan : List FateRow) (seed last : ℕ) (w : World) : Type 0 where
  pub count : ℕ
  pub comes : turns s plan seed count ≡ Some w
  pub nothing : enabled_events s plan w ≡ []
  pub below : IsBelow last w

-- the turns come to the last tick: a turn gives it to this node, and none gave it before
pub record ComesToLast (s : Setup) (plan : List FateRow) (seed last n : ℕ) : Type 0 where
  pub count : ℕ
  pub before : World
  pub after : World
  pub comes : turns s plan seed count ≡ Some before
  pub below : IsBelow last before
  pub next : turns s plan seed (suc count) ≡ Some after
  pub tick : (after.nodes n).tick ≡ last

-- the ticks of all nodes together
abbrev pub ticks_in : World → ℕ
ticks_in w = sum (map (λ n. (w.nodes n).tick) node_numbers)
