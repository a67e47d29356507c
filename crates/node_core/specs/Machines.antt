-- What definitions see of the inside of a node, and what it keeps within an event.
use Rattle.std.specs.Prelude.{◌≡◌, length, ℕ, ◌≤◌, ◌<◌, ◌^◌, Bool, List, map}
use Rattle.dom_history.specs.declared.op.Want.{Want}
use Rattle.dom_history.specs.Ranges.{IsWant}
use Rattle.uid_names.specs.declared.limits.TheConstants.{MAX_PHASES, NODE_PROCESSES}
use Rattle.fault_handler.specs.Invariant.{IsProc}
use Rattle.node_runs.specs.Setups.{Given, IsGiven}
use Rattle.fault_handler.specs.Desks.{at}
use Rattle.node_runs.specs.NodeStates.{NodeState, first_proc}
use Rattle.node_runs.specs.NodesKeep.{IsNodeOf}
use Rattle.node_core.specs.declared.machine.Machine.{Machine}
use Rattle.node_core.specs.declared.processes.Proc.{Proc}
use Rattle.node_core.specs.Processes.{proc_seen, want_at}
use Rattle.node_core.specs.Nodes as nodes
use Rattle.node_core.specs.Nodes.{Inner, given_in, state_in, AreTold}

-- what a node keeps within an event, whose tick it has by now, beside the agreement with its desk
pub record IsWithin {P : Type 0} (spent : P → Bool) (wants : P → Want) (programs : List (ℕ × P)) (procs : List Proc) (served tick : ℕ) (emitted : List ℕ) : Type 0 where
  pub four : length procs ≡ NODE_PROCESSES
  pub told : AreTold spent wants programs procs
  pub wanted : (p : ℕ) → IsWant (want_at procs p)
  pub earlier : served ≤ tick
  pub late : tick ≤ 2 ^ 40
  pub ticked : 1 ≤ tick
  pub counted : (to : ℕ) → at emitted to 0 < 2 ^ 40
  pub last : (p : ℕ) → IsProc p → (at (map proc_seen procs) p first_proc).last < 2 ^ 40

module _ {P G : Type 0} where
  abbrev pub inner_of : Machine P G → Inner P
  inner_of m =
      record {
        greatest = m.greatest;
        phases = m.phases;
        server = m.server;
        desk = m.desk;
        programs = m.programs.items;
        procs = m.procs;
        emitted = m.emitted;
        tick = m.tick;
        phase = m.phase;
        ready = m.ready;
        marks = m.marks;
      }

  abbrev pub given_of : Machine P G → Given
  given_of m = given_in (inner_of m)

  abbrev pub state_of : Machine P G → NodeState
  state_of m = state_in (inner_of m)

  abbrev pub IsKept : (P → Bool) → (P → Want) → Machine P G → Type 0
  IsKept spent wants m = nodes.IsKept spent wants (inner_of m)

  abbrev pub IsAtEvent : (P → Bool) → (P → Want) → Machine P G → Type 0
  IsAtEvent spent wants m = IsWithin spent wants m.programs.items m.procs m.server.tick m.tick m.emitted

  -- what it keeps as an event begins
  pub record IsBefore (spent : P → Bool) (wants : P → Want) (m : Machine P G) : Type 0 where
    pub given : IsGiven (given_of m)
    pub node : IsNodeOf (given_of m) (state_of m)
    pub within : IsAtEvent spent wants m
    pub earlier : m.server.tick < m.tick
    pub phases : m.phases ≤ MAX_PHASES
