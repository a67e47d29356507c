-- Why a script has no run.
use Rattle.std.specs.Prelude.{ℕ, Option, Some, None}
use Rattle.script_reader.specs.Scripts.{Content}
use Rattle.node_core.specs.declared.fault.RunFault.{RunFault}
use Rattle.node_core.specs.declared.fault.RunFault.TheVariants.{TickLimit, NoMemory}
use Rattle.node_threads.specs.Ran.{ReachesTick}
use Rattle.script_runs.specs.Setups.{setup_of}
use Rattle.script_runs.specs.Runs.{ComesToTick}

-- the turns of the number give this node of the script the last tick; or where no number is given, in a run of the script's nodes, planned
-- by its faults, this node has come to it
abbrev pub ComesToLastTick : Content → Option ℕ → ℕ → ℕ → Type 0
ComesToLastTick s None last node = ReachesTick (setup_of s) s.plan last node
ComesToLastTick s (Some number) last node = ComesToTick s number last node

abbrev pub IsFaultOf : Content → Option ℕ → ℕ → RunFault → Type 0
IsFaultOf s turns last (TickLimit node) = ComesToLastTick s turns last node
IsFaultOf s turns last NoMemory = Unit {0}
