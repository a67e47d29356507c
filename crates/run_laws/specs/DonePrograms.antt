-- Programs that are done.
use Rattle.std.specs.Prelude.{◌≡◌}
use Rattle.uid_names.specs.Names.{ProcName}
use Rattle.dom_history.specs.declared.op.Want.TheVariants.{Done}
use Rattle.fault_handler.specs.Invariant.{IsProc}
use Rattle.node_runs.specs.Setups.{Setup}
use Rattle.node_runs.specs.NodeStates.{proc_of}
use Rattle.node_runs.specs.Runs.{World}

-- each program asks for nothing more, by what it has heard
abbrev pub AreProgramsDone : Setup → World → Type 0
AreProgramsDone s w = (p : ProcName) → IsProc p.number → s.asks p (proc_of (w.nodes p.node) p.number).heard ≡ Done
