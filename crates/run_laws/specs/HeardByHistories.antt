-- What the history of a run says of what its programs heard.
use Rattle.std.specs.Prelude.{◌≡◌, ◌≢◌, ◌⊎◌}
use Rattle.uid_names.specs.Names.{ProcName, IsProcNumber}
use Rattle.dom_history.specs.declared.op.Want.TheVariants.{Phase, Done}
use Rattle.dom_history.specs.Follows.{Heard}
use Rattle.dom_history.specs.Histories.{History}
use Rattle.node_runs.specs.NodeStates.{proc_of}
use Rattle.node_runs.specs.Setups.{Setup}
use Rattle.node_runs.specs.Runs.{World}
use Rattle.run_laws.specs.HeardOf.{heard_in, own_entries, heard_by_phase, heard_of}

-- what the program of a process heard, as a history says it, by what the program asks
abbrev pub heard_by_history : Setup → History → ProcName → Heard
heard_by_history s h p = heard_of (s.asks p) s.phases (own_entries h p)

-- each program heard what the history says by the phase that its process is in, until it is done
abbrev pub AreHeardByPhase : Setup → History → World → Type 0
AreHeardByPhase s h w =
    (p : ProcName) → IsProcNumber p.number →
    (heard_in w p ≡ heard_by_phase (own_entries h p) (proc_of (w.nodes p.node) p.number).phase) ⊎ (s.asks p (heard_in w p) ≡ Done)

-- each program heard what the history says by what it asks
abbrev pub AreHeardAsSaid : Setup → History → World → Type 0
AreHeardAsSaid s h w = (p : ProcName) → IsProcNumber p.number → heard_in w p ≡ heard_by_history s h p

-- each program that asks for no phase did so
abbrev pub AreHeardByAsks : Setup → History → World → Type 0
AreHeardByAsks s h w = (p : ProcName) → IsProcNumber p.number → s.asks p (heard_in w p) ≢ Phase → heard_in w p ≡ heard_by_history s h p
