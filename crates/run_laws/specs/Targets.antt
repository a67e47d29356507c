-- What a desk has of its processes' mappings is what the store has: a spot names the same place.
use Rattle.std.specs.Prelude.{◌≡◌, ℕ, true}
use Rattle.std.specs.Option.{option_map}
use Rattle.uid_names.specs.Names.{ObjectName}
use Rattle.dom_history.specs.declared.op.Spot.{Spot}
use Rattle.dom_history.specs.Mappings.{Target, target}
use Rattle.dom_history.specs.Objects.{is_node}
use Rattle.fault_handler.specs.Accesses.{target_of}
use Rattle.fault_handler.specs.Invariant.{IsProc}
use Rattle.node_runs.specs.Setups.{Setup}
use Rattle.node_runs.specs.Runs.{World}
use Rattle.run_laws.specs.DecidedReplies.{proc_at}
use Rattle.run_laws.specs.NotedEffects.{noted_past}

abbrev pub target_at : ObjectName × ℕ → Target
target_at t = record { uid = t.0; offset = t.1 }

abbrev pub AreTargetsTold : Setup → World → Type 0
AreTargetsTold s w = (n p : ℕ) → is_node s.opening n ≡ true → IsProc p → (spot : Spot) → target s.opening (noted_past w.trace) (proc_at n p) spot ≡ option_map target_at (target_of (w.nodes n).desk p spot)
