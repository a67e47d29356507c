-- The world stands for as many turns as were done.
use Rattle.std.proofs.Common.{◌≡◌, ℕ, Option}
use Rattle.node_runs.specs.Setups.{Setup}
use Rattle.node_runs.specs.Runs.{first_world}
use Rattle.drawn_numbers.specs.Draws.{state_after}
use Rattle.world_core.specs.Stands.{Stands}
use Rattle.world_core.proofs.Running.{IsRunning}
use Rattle.world_core.proofs.world.World.run_merged.Given as goal

abbrev pub invariant-loop-turn : goal.invariant-loop-turn
invariant-loop-turn g l =
    (l.world.plan ≡ l.fn.self.plan)
    × ((l.draws ≡ state_after l.seed l.turn)
    × ((made : ℕ → ℕ → Option g.row.P.Denot) (s : Setup) → Stands g.P.Program.wants g.P.Program.becomes made s l.fn.self (first_world s)
    → IsRunning g.P.Program.wants g.P.Program.becomes made s l.seed l.last_tick l.turn l.world))
