-- The state of a node.
use Rattle.std.specs.Prelude.{ℕ, ◌==◌, nat_lt, Bool, false, ◌&&◌, Option, None, List, [], replicate}
use Rattle.std.specs.List.{list_any}
use Rattle.uid_names.specs.Names.{ProcName, ObjectName}
use Rattle.uid_names.specs.Beginnings.{at_home}
use Rattle.uid_names.specs.declared.ids.Place.{Place}
use Rattle.uid_names.specs.declared.limits.TheConstants.{MAX_NODES, NODE_PROCESSES}
use Rattle.dom_history.specs.declared.op.Op.{Op}
use Rattle.dom_history.specs.Follows.{Heard}
use Rattle.object_store.specs.Beginnings.{first_home}
use Rattle.call_once.specs.Notices.{Waiting}
use Rattle.ring_messages.specs.Bodies.{Ask}
use Rattle.page_server.specs.Serving.{HomeSide, first_side}
use Rattle.fault_handler.specs.Desks.{DeskState, at, put_at}
use Rattle.fault_handler.specs.Conditions.{empty_desk}
use Rattle.node_runs.specs.Setups.{Given}

-- a call: its number and notices, the home that is asked, and what it is asked
pub record Asked : Type 0 where
  pub waiting : Waiting
  pub home : ℕ
  pub ask : Ask

-- what an open operation awaits: the answer to a call, or that a page is no longer on its way
pub data Await : Type 0 where
  Answer : (call : Asked) → Await
  Page : (uid : ObjectName) (page : ℕ) → Await

-- an operation, and where it began
pub record BegunOp : Type 0 where
  pub op : Op
  pub begun : Place

pub record OpenOp : Type 0 where
  pub began : BegunOp
  pub awaits : Await

-- a process: what its program has heard, its open operation, the number of its last call, and the phase of what its
-- program wants next, which is above that of the node once it is at the end of that phase
pub record ProcState : Type 0 where
  pub heard : Heard
  pub doing : Option OpenOp
  pub last : ℕ
  pub phase : ℕ

-- a node: its home side, its desk, its four processes, how many frames it sent to each node, its tick and phase,
-- whether it sent the mark of its phase, and the marks that it took, each with its node and phase
pub record NodeState : Type 0 where
  pub side : HomeSide
  pub desk : DeskState
  pub procs : List ProcState
  pub emitted : List ℕ
  pub tick : ℕ
  pub phase : ℕ
  pub ready : Bool
  pub marks : List (ℕ × ℕ)

abbrev pub first_proc : ProcState
first_proc = record { heard = []; doing = None; last = 0; phase = 1 }

-- a node at the start
abbrev pub first_node : Given → NodeState
first_node g =
    record {
      side = first_side (first_home g.number (at_home g.number g.opening.objects));
      desk = empty_desk g.number g.opening.nodes g.frames;
      procs = replicate NODE_PROCESSES first_proc;
      emitted = replicate MAX_NODES 0;
      tick = 0;
      phase = 1;
      ready = false;
      marks = [];
    }

abbrev pub proc_of : NodeState → ℕ → ProcState
proc_of n p = at n.procs p first_proc

abbrev pub with_proc : NodeState → ℕ → ProcState → NodeState
with_proc n p q = record n { procs = put_at n.procs p q }

-- how many frames were sent to a node
abbrev pub emitted_to : NodeState → ℕ → ℕ
emitted_to n to = at n.emitted to 0

abbrev pub name_of : Given → ℕ → ProcName
name_of g p = record { node = g.number; number = p }

-- the process is at the end of the node's phase
abbrev pub is_at_end : NodeState → ℕ → Bool
is_at_end n p = nat_lt n.phase (proc_of n p).phase

-- whether that node's mark of that phase was taken
abbrev pub is_marked : NodeState → ℕ → ℕ → Bool
is_marked n from phase = list_any (λ m. (m.0 == from) && (m.1 == phase)) n.marks

-- its last phase is over
abbrev pub is_ended : Given → NodeState → Bool
is_ended g n = nat_lt g.phases n.phase
