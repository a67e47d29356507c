-- Who is alone on an object.
use Rattle.std.specs.Prelude.{◌≡◌, false, Some}
use Rattle.uid_names.specs.Names.{ProcName, ObjectName}
use Rattle.uid_names.specs.Modes.{mode_shared}
use Rattle.uid_names.specs.declared.mode.Mode.{Mode}
use Rattle.dom_history.specs.Locks.{IsAlone, holds}
use Rattle.node_runs.specs.Setups.{Setup}
use Rattle.node_runs.specs.Runs.{World}
use Rattle.run_laws.specs.NotedEffects.{noted_past}

-- each process that holds an object in a mode that is not shared
abbrev pub AreAloneUnshared : Setup → World → Type 0
AreAloneUnshared s w = (p : ProcName) (u : ObjectName) (m : Mode) → holds p u (noted_past w.trace) ≡ Some m → mode_shared m ≡ false → IsAlone p u (noted_past w.trace)
