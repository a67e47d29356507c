-- What contracts see of a node, and what it stands for, whatever its programs heard before.
use Rattle.std.specs.Prelude.{◌≡◌, ℕ, ◌≤◌, Bool, false, not, ◌&&◌, is_some, Option, Some, None, List, [], ◌∷◌, ◌++◌, map, refl}
use Rattle.std.specs.Coded.{Coded, code_by, coded×, coded_list, coded_ℕ, coded_bool}
use Rattle.std.specs.Option.{option_map}
use Rattle.uid_names.specs.Names.{IsProcNumber}
use Rattle.uid_names.specs.Openings.{Start}
use Rattle.uid_names.specs.declared.limits.TheConstants.{MAX_PHASES}
use Rattle.dom_history.specs.declared.op.Reply.{Reply}
use Rattle.dom_history.specs.declared.op.Want.{Want}
use Rattle.dom_history.specs.declared.op.Want.TheVariants.{Phase}
use Rattle.dom_history.specs.declared.event.What.{What}
use Rattle.dom_history.specs.declared.event.NodeLog.{NodeLog}
use Rattle.dom_history.specs.contracts.event.NodeLog as logs
use Rattle.dom_history.specs.Events.{Happening}
use Rattle.dom_history.specs.Follows.{Heard}
use Rattle.dom_history.specs.Programs.{program_after, asked_by}
use Rattle.page_server.specs.ServerStates.{ServerState, server_code}
use Rattle.fault_handler.specs.Desks.{DeskState}
use Rattle.fault_handler.specs.contracts.desk.Desk as desks
use Rattle.node_runs.specs.Setups.{Given, IsGiven}
use Rattle.node_runs.specs.NodeStates.{NodeState, proc_of}
use Rattle.node_runs.specs.Incomings.{Incoming, has_program, enabled}
use Rattle.node_runs.specs.Outcomes.{Stepped}
use Rattle.node_runs.specs.Steps.{named_step}
use Rattle.node_runs.specs.NodesKeep.{IsNodeOf, IsCounted}
use Rattle.node_runs.specs.Alikes.{AreAlike}
use Rattle.node_core.specs.declared.setup.NodeSetup.{NodeSetup}
use Rattle.node_core.specs.declared.setup.Emitted.{Emitted}
use Rattle.node_core.specs.declared.processes.Proc.{Proc}
use Rattle.node_core.specs.contracts.processes.Proc as procs
use Rattle.node_core.specs.Processes.{proc_seen, want_at}
use Rattle.node_core.specs.Programs.{program_in, numbers_in, AreRising}
use Rattle.node_core.specs.Receivings.{emitted_by}

-- what a node consists of, without its journal
pub record Inner (P : Type 0) : Type 0 where
  pub greatest : ℕ
  pub phases : ℕ
  pub server : ServerState
  pub desk : DeskState
  pub programs : List (ℕ × P)
  pub procs : List Proc
  pub emitted : List ℕ
  pub tick : ℕ
  pub phase : ℕ
  pub ready : Bool
  pub marks : List (ℕ × ℕ)

-- a node, and whether it found no memory
pub record Noted (P : Type 0) : Type 0 where
  pub inner : Inner P
  pub log : NodeLog
  pub spent : Bool

-- how they are stored
abbrev inner_code : {P : Type 0} → Coded P → Coded (Inner P)
inner_code {P} code =
    code_by (ℕ × (ℕ × (ServerState × (DeskState × (List (ℕ × P) × (List Proc × (List ℕ × (ℕ × (ℕ × (Bool × (List (ℕ × ℕ))))))))))))
    (coded× coded_ℕ (coded× coded_ℕ (coded× server_code (coded× desks.the_row.coded (coded× (coded_list (coded× coded_ℕ code)) (coded× (coded_list procs.the_row.coded) (coded× (coded_list coded_ℕ) (coded× coded_ℕ (coded× coded_ℕ (coded× coded_bool (coded_list (coded× coded_ℕ coded_ℕ))))))))))))
    (λ x. (x.greatest, (x.phases, (x.server, (x.desk, (x.programs, (x.procs, (x.emitted, (x.tick, (x.phase, (x.ready, x.marks)))))))))))
    (λ t. record { greatest = t.0; phases = t.1.0; server = t.1.1.0; desk = t.1.1.1.0; programs = t.1.1.1.1.0; procs = t.1.1.1.1.1.0; emitted = t.1.1.1.1.1.1.0; tick = t.1.1.1.1.1.1.1.0; phase = t.1.1.1.1.1.1.1.1.0; ready = t.1.1.1.1.1.1.1.1.1.0; marks = t.1.1.1.1.1.1.1.1.1.1 })
    (λ _. refl)

abbrev pub noted_code : {P : Type 0} → Coded P → Coded (Noted P)
noted_code {P} code =
    code_by (Inner P × (NodeLog × Bool)) (coded× (inner_code code) (coded× logs.the_row.coded coded_bool))
    (λ x. (x.inner, (x.log, x.spent))) (λ t. record { inner = t.0; log = t.1.0; spent = t.1.1 }) (λ _. refl)

-- the line of the journal
abbrev pub line_of : ℕ → What → Stepped → Happening
line_of number what s = record { place = record { tick = s.node.tick; node = number }; what = what; effects = s.effects }

module _ {P : Type 0} where
  -- what a node was given, as far as an event asks for it: no object of the opening, and of each program what it wants now
  abbrev pub given_in : Inner P → Given
  given_in x =
      record {
        number = x.desk.node;
        opening = record { nodes = x.desk.nodes; greatest = x.greatest; objects = [] };
        wire = x.server.wire;
        frames = x.desk.cache.frames;
        phases = x.phases;
        programs = numbers_in x.programs;
        asks = λ p heard. want_at x.procs p;
      }

  -- its state, as if no program had heard anything before
  abbrev pub state_in : Inner P → NodeState
  state_in x =
      record {
        side = x.server.side;
        desk = x.desk;
        procs = map proc_seen x.procs;
        emitted = x.emitted;
        tick = x.tick;
        phase = x.phase;
        ready = x.ready;
        marks = x.marks;
      }

  abbrev pub given_of : Noted P → Given
  given_of x = given_in x.inner

  abbrev pub state_of : Noted P → NodeState
  state_of x = state_in x.inner

  -- the program of a process, as it is now
  abbrev pub program_of : Noted P → ℕ → Option P
  program_of x p = program_in x.inner.programs p

  -- whether an event is enabled; none is at a node that found no memory
  abbrev pub is_enabled : Noted P → What → Incoming → Bool
  is_enabled x what incoming = not x.spent && enabled (given_of x) (state_of x) what incoming

  -- a program lives, and wants what is known of it; a process without one wants nothing but the next phase
  abbrev pub IsTold : (P → Bool) → (P → Want) → Option P → Want → Type 0
  IsTold spent wants None want = want ≡ Phase
  IsTold spent wants (Some y) want = (spent y ≡ false) × (wants y ≡ want)

  abbrev pub AreTold : (P → Bool) → (P → Want) → List (ℕ × P) → List Proc → Type 0
  AreTold spent wants programs procs = (p : ℕ) → IsProcNumber p → IsTold spent wants (program_in programs p) (want_at procs p)

  -- what every node keeps that found memory
  pub record IsKept (spent : P → Bool) (wants : P → Want) (x : Inner P) : Type 0 where
    pub given : IsGiven (given_in x)
    pub node : IsNodeOf (given_in x) (state_in x)
    pub counted : IsCounted (state_in x)
    pub told : AreTold spent wants x.programs x.procs
    pub served : x.server.tick ≤ x.tick
    pub phases : x.phases ≤ MAX_PHASES
    pub rising : AreRising (numbers_in x.programs)

  -- a node stands for what it was given, with the programs as they were made, and a state in which each program is what it
  -- became by what its process heard
  pub record Stands (wants : P → Want) (becomes : P → Option Reply → P) (made : ℕ → Option P) (g : Given) (x : Noted P) (n : NodeState) : Type 0 where
    pub whole : x.spent ≡ false
    pub number : g.number ≡ (given_of x).number
    pub nodes : g.opening.nodes ≡ (given_of x).opening.nodes
    pub greatest : g.opening.greatest ≡ (given_of x).opening.greatest
    pub wire : g.wire ≡ (given_of x).wire
    pub frames : g.frames ≡ (given_of x).frames
    pub phases : g.phases ≡ (given_of x).phases
    pub programs : (p : ℕ) → has_program g p ≡ is_some (made p)
    pub asks : (p : ℕ) (y : P) → made p ≡ Some y → (heard : Heard) → g.asks p heard ≡ asked_by wants becomes y heard
    pub told : (p : ℕ) → program_of x p ≡ option_map (λ y. program_after becomes y (proc_of n p).heard) (made p)
    pub alike : AreAlike (state_of x) n

  -- the event that a call did, of a state for which the node stood
  pub record Happened (wants : P → Want) (becomes : P → Option Reply → P) (made : ℕ → Option P) (g : Given) (what : What) (incoming : Incoming) (old new : Noted P) (emitted : Emitted) (n : NodeState) (s : Stepped) : Type 0 where
    pub step : named_step g n what incoming ≡ Some s
    pub stands : Stands wants becomes made g new s.node
    pub emits : emitted ≡ emitted_by what s
    pub events : new.log.events ≡ old.log.events ++ line_of g.number what s ∷ []
    pub node : new.log.node ≡ old.log.node

  -- the event that a call did, whatever the node stood for
  abbrev pub Does : (P → Want) → (P → Option Reply → P) → What → Incoming → Noted P → Noted P → Emitted → Type 0
  Does wants becomes what incoming old new emitted =
      (made : ℕ → Option P) (g : Given) (n : NodeState) → Stands wants becomes made g old n →
      (s : Stepped) × Happened wants becomes made g what incoming old new emitted n s

  -- the event that a call did and handed back, of a state for which the node stood
  pub record HappenedAside (wants : P → Want) (becomes : P → Option Reply → P) (made : ℕ → Option P) (g : Given) (what : What) (incoming : Incoming) (new : Noted P) (event : Happening) (emitted : Emitted) (n : NodeState) (s : Stepped) : Type 0 where
    pub step : named_step g n what incoming ≡ Some s
    pub stands : Stands wants becomes made g new s.node
    pub emits : emitted ≡ emitted_by what s
    pub event_is : event ≡ line_of g.number what s

  -- the same, whatever the node stood for
  abbrev pub DoesAside : (P → Want) → (P → Option Reply → P) → What → Incoming → Noted P → Noted P → Happening → Emitted → Type 0
  DoesAside wants becomes what incoming old new event emitted =
      (made : ℕ → Option P) (g : Given) (n : NodeState) → Stands wants becomes made g old n →
      (s : Stepped) × HappenedAside wants becomes made g what incoming new event emitted n s

  -- a node was given this
  pub record IsGivenBy (wants : P → Want) (becomes : P → Option Reply → P) (setup : NodeSetup) (start : Start) (made : List (ℕ × P)) (g : Given) : Type 0 where
    pub number : g.number ≡ setup.node
    pub opening : g.opening ≡ start
    pub wire : g.wire ≡ setup.wire
    pub frames : g.frames ≡ setup.frames
    pub phases : g.phases ≡ setup.phases
    pub programs : (p : ℕ) → has_program g p ≡ is_some (program_in made p)
    pub asks : (p : ℕ) (y : P) → program_in made p ≡ Some y → (heard : Heard) → g.asks p heard ≡ asked_by wants becomes y heard
