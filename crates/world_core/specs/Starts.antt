-- What holds of runs from the start.
use Rattle.std.specs.Prelude.{ℕ, Option}
use Rattle.dom_history.specs.declared.op.Reply.{Reply}
use Rattle.dom_history.specs.declared.op.Want.{Want}
use Rattle.node_runs.specs.Setups.{Setup}
use Rattle.node_runs.specs.Runs.{first_world}
use Rattle.world_core.specs.declared.world.World.{World}
use Rattle.world_core.specs.Stands.{Stands}

module _ {P G : Type 0} (wants : P → Want) (becomes : P → Option Reply → P) where
  -- it holds of each setup, and of the programs that were made, if the world is the first one by them
  abbrev pub OfEachStart : World P G → ((ℕ → ℕ → Option P) → Setup → Type 0) → Type 0
  OfEachStart x Q = (made : ℕ → ℕ → Option P) (s : Setup) → Stands wants becomes made s x (first_world s) → Q made s
