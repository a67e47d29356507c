-- What an event of the code leaves, seen beside what the definition leaves.
use Rattle.std.specs.Prelude.{◌≡◌, ◌≢◌, ℕ, ◌≤◌, Bool, Option, Some, None, List, []}
use Rattle.std.specs.Option.{option_map, ForSome}
use Rattle.uid_names.specs.Names.{ObjectName, IsProcNumber}
use Rattle.uid_names.specs.Steps.{◌>>=◌}
use Rattle.uid_names.specs.declared.ids.Place.{Place}
use Rattle.dom_history.specs.declared.op.Op.{Op}
use Rattle.dom_history.specs.declared.op.Reply.{Reply}
use Rattle.dom_history.specs.declared.op.Want.{Want}
use Rattle.dom_history.specs.declared.op.Want.TheVariants.{Do}
use Rattle.dom_history.specs.Ranges.{IsWant}
use Rattle.ring_messages.specs.declared.body.Body.{Body}
use Rattle.ring_messages.specs.Frames.{Message}
use Rattle.fault_handler.specs.Outcomes.{Turn}
use Rattle.fault_handler.specs.Accesses.{Accessed}
use Rattle.node_runs.specs.Setups.{Given}
use Rattle.node_runs.specs.NodeStates.{NodeState, proc_of, with_proc}
use Rattle.node_runs.specs.Notes.{Note}
use Rattle.node_runs.specs.Outcomes.{Stepped, Stage, sending, quiet, dropping, turned, moved}
use Rattle.node_runs.specs.Doings.{Doing, after_marks, hears_said}
use Rattle.node_runs.specs.Operations.{begun as begun_as, failed as failed_as, said_of}
use Rattle.node_runs.specs.Rooms.{moved_as_named}
use Rattle.node_runs.specs.Steps.{stepped_as_named}
use Rattle.node_runs.specs.Alikes.{AreAlike}
use Rattle.node_core.specs.declared.machine.Machine.{Machine}
use Rattle.node_core.specs.declared.turns.Done.{Done}
use Rattle.node_core.specs.Processes.{want_at}
use Rattle.node_core.specs.Programs.{program_in, numbers_in, told_all}
use Rattle.node_core.specs.Nodes.{AreTold}
use Rattle.node_core.specs.Receivings.{frame_of}
use Rattle.node_core.specs.Machines.{given_of, state_of, IsKept}

-- an event did nothing yet
abbrev pub IsFresh : Done → Type 0
IsFresh done = done ≡ record { frame = None; effects = record { dropped = []; sent = None; ended = None } }

-- a frame was sent
pub record Sent {P G : Type 0} (old new : Machine P G) (done : Done) (m : Message) (dropped : List (ObjectName × ℕ)) : Type 0 where
  pub state : state_of new ≡ (sending (state_of old) m None Note.Nothing).node
  pub frame : done.frame ≡ frame_of (sending (state_of old) m None Note.Nothing)
  pub effects : done.effects ≡ (dropping dropped (sending (state_of old) m None Note.Nothing)).effects
  pub same : new ≡ record old { emitted = new.emitted }

module _ {P G : Type 0} (spent : P → Bool) (wants : P → Want) (becomes : P → Option Reply → P) where
  -- with these programs and this given, an event led to a machine as the definition has it; each program was told what its
  -- process heard at it
  pub record LedFrom (before : List (ℕ × P)) (greatest phases wire : ℕ) (new : Machine P G) (done : Done) (s : Stepped) : Type 0 where
    pub alike : AreAlike (state_of new) s.node
    pub programs : (p : ℕ) → IsProcNumber p → program_in new.programs.items p ≡ option_map (λ x. told_all becomes x (proc_of s.node p).heard) (program_in before p)
    pub told : AreTold spent wants new.programs.items new.procs
    pub wanted : (p : ℕ) → IsWant (want_at new.procs p)
    pub frame : done.frame ≡ frame_of s
    pub effects : done.effects ≡ s.effects
    pub numbers : numbers_in new.programs.items ≡ numbers_in before
    pub same_greatest : new.greatest ≡ greatest
    pub same_phases : new.phases ≡ phases
    pub same_wire : new.server.wire ≡ wire
    pub served : new.server.tick ≤ new.tick

  abbrev pub Led : Machine P G → Machine P G → Done → Stepped → Type 0
  Led old new done s = LedFrom old.programs.items old.greatest old.phases old.server.wire new done s

  -- a program was told this, its process is in this phase, and nothing of it is open
  pub record Told (old new : Machine P G) (p phase : ℕ) (last : Option Reply) : Type 0 where
    pub state : state_of new ≡ with_proc (state_of old) p (record (proc_of (state_of old) p) { doing = None; phase = phase })
    pub program : program_in new.programs.items p ≡ option_map (λ x. becomes x last) (program_in old.programs.items p)
    pub others : (q : ℕ) → q ≢ p → program_in new.programs.items q ≡ program_in old.programs.items q
    pub told : AreTold spent wants new.programs.items new.procs
    pub wanted : (q : ℕ) → IsWant (want_at new.procs q)
    pub numbers : numbers_in new.programs.items ≡ numbers_in old.programs.items
    pub same : new ≡ record old { programs = new.programs; procs = new.procs }

  -- its program, if it has one, was asked for the first time; the node's state is the same
  pub record FirstAsked (old new : Machine P G) (p : ℕ) : Type 0 where
    pub state : state_of new ≡ state_of old
    pub program : program_in new.programs.items p ≡ option_map (λ x. becomes x None) (program_in old.programs.items p)
    pub others : (q : ℕ) → q ≢ p → program_in new.programs.items q ≡ program_in old.programs.items q
    pub kept : IsKept spent wants new
    pub greatest : new.greatest ≡ old.greatest
    pub phases : new.phases ≡ old.phases
    pub wire : new.server.wire ≡ old.server.wire

  -- so was each program
  pub record AllAsked (old new : Machine P G) : Type 0 where
    pub state : state_of new ≡ state_of old
    pub programs : (p : ℕ) → program_in new.programs.items p ≡ option_map (λ x. becomes x None) (program_in old.programs.items p)
    pub kept : IsKept spent wants new
    pub greatest : new.greatest ≡ old.greatest
    pub phases : new.phases ≡ old.phases
    pub wire : new.server.wire ≡ old.server.wire

  -- the operation of a process that began there came to this: it ended, asked a home, or waits
  abbrev pub Turns : Machine P G → Machine P G → Done → ℕ → Place → Turn → List (ObjectName × ℕ) → Type 0
  Turns old new done p begun turn dropped =
      (g : Given) (op : Op) (stage : Stage) → g.number ≡ old.desk.node → g.wire ≡ old.server.wire → want_at old.procs p ≡ Do op
      → Led old new done (dropping dropped (turned g (state_of old) p (record { op = op; begun = begun }) stage turn))

  -- what its desk made of it, and it came to what that makes of the operation and the node
  abbrev pub Moves : Machine P G → Machine P G → Done → ℕ → Place → Accessed → Type 0
  Moves old new done p begun accessed =
      (g : Given) (op : Op) (stage : Stage) → g.number ≡ old.desk.node → g.wire ≡ old.server.wire → want_at old.procs p ≡ Do op
      → ForSome (moved_as_named p accessed) (λ m. Led old new done (moved g (state_of old) p (record { op = op; begun = begun }) stage m))

  -- a reply to the open call of a process came to what the definition makes of it
  abbrev pub Hears : Machine P G → Machine P G → Done → ℕ → Place → Body → Type 0
  Hears old new done p begun body =
      (g : Given) (op : Op) (m : Message) → g.number ≡ old.desk.node → g.wire ≡ old.server.wire → want_at old.procs p ≡ Do op → m.proc ≡ p
      → ForSome (stepped_as_named g (state_of old) (hears_said (state_of old) m (record { op = op; begun = begun }) (said_of old.desk p op body))) (λ s. Led old new done s)

  -- it did what the definition has
  abbrev pub Does : Machine P G → Machine P G → Done → Option Doing → Type 0
  Does old new done doing = ForSome (doing >>= stepped_as_named (given_of old) (state_of old)) (λ s. Led old new done s)

  -- the operation that a process wants began there, as the definition has it
  abbrev pub Begins : Machine P G → Machine P G → Done → ℕ → Place → Type 0
  Begins old new done p begun = (op : Op) → want_at old.procs p ≡ Do op → Moves old new done p begun (begun_as (given_of old).opening old.desk p op)

  -- its open call was given up, as the definition has it
  abbrev pub GivesUp : Machine P G → Machine P G → Done → ℕ → Type 0
  GivesUp old new done p =
      (begun : Place) (op : Op) → want_at old.procs p ≡ Do op → ForSome (failed_as old.desk p op) (λ m. Moves old new done p begun (Accessed.Settled m))

  -- with this state a mark was sent or taken, and the phase was over if that was the last one
  abbrev pub PassesPhase : Machine P G → Machine P G → Done → NodeState → Type 0
  PassesPhase old new done n = Does old new done (Some (Doing.Does (quiet (after_marks (given_of old) n) Note.Nothing)))
