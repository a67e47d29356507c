-- What each kind of event comes to at a node at which it is enabled.
use Rattle.std.specs.Prelude.{ℕ, ◌+◌, ◌==◌, nat_le, Bool, true, false, not, ◌&&◌, ◌||◌, max, Option, Some, None, List, [], ◌∷◌}
use Rattle.std.specs.List.{list_all}
use Rattle.std.specs.Option.{option_map}
use Rattle.uid_names.specs.Names.{ProcName}
use Rattle.dom_history.specs.declared.op.Op.{Op}
use Rattle.dom_history.specs.declared.op.Want.{Want}
use Rattle.dom_history.specs.declared.op.Want.TheVariants.{Do, Phase, Done}
use Rattle.dom_history.specs.declared.event.What.{What}
use Rattle.dom_history.specs.declared.event.What.TheVariants.{Begin, Go, Take, Notice, Ready, Mark}
use Rattle.call_once.specs.Notices.{noticed}
use Rattle.call_once.specs.Calls.{looked, last_of}
use Rattle.call_once.specs.declared.asking.Noticed.{Noticed}
use Rattle.call_once.specs.declared.asking.Noticed.TheVariants.{Resend, GiveUp}
use Rattle.call_once.specs.declared.served.Looked.{Looked}
use Rattle.call_once.specs.declared.served.Looked.TheVariants.{Fresh, Again, Old}
use Rattle.ring_messages.specs.Bodies.{Ask, Answer, ask_of}
use Rattle.ring_messages.specs.Frames.{Message, caller_of}
use Rattle.page_server.specs.Serving.{Serving, serve_of, reply_to}
use Rattle.fault_handler.specs.Accesses.{Accessed}
use Rattle.fault_handler.specs.Outcomes.{Moved}
use Rattle.node_runs.specs.Setups.{Given}
use Rattle.node_runs.specs.NodeStates.{Asked, Await, BegunOp, OpenOp, NodeState, proc_of, with_proc, is_marked}
use Rattle.node_runs.specs.Operations.{begun, gone_on, Said, said_of, answered, failed}
use Rattle.node_runs.specs.Incomings.{Incoming, tick_of}
use Rattle.node_runs.specs.Notes.{Note}
use Rattle.node_runs.specs.Outcomes.{Stepped, quiet, sending, request, Stage}

-- it is done; or the desk moves for an operation of a process, and where room has to be made it is still open how
pub data Doing : Type 0 where
  Does : (stepped : Stepped) → Doing
  Moves : (proc : ℕ) (op : BegunOp) (stage : Stage) (accessed : Accessed) → Doing

-- nothing of it
abbrev pub passed : NodeState → Doing
passed n = Doing.Does (quiet n Note.Nothing)

-- a process asks its program
abbrev pub begun_at : Given → NodeState → Op → BegunOp
begun_at g n op = record { op = op; begun = record { tick = n.tick; node = g.number } }

-- it is at the end of its phase, or of all
abbrev pub pauses : NodeState → ℕ → Stepped
pauses n p = quiet (with_proc n p (record (proc_of n p) { heard = None ∷ (proc_of n p).heard; phase = (proc_of n p).phase + 1 })) Note.Nothing

abbrev pub finishes : Given → NodeState → ℕ → Stepped
finishes g n p = quiet (with_proc n p (record (proc_of n p) { phase = g.phases + 1 })) Note.Nothing

abbrev pub begins : Given → NodeState → ℕ → Want → Doing
begins g n p (Do op) = Doing.Moves p (begun_at g n op) Stage.Starts (begun g.opening n.desk p op)
begins g n p Phase = Doing.Does (pauses n p)
begins g n p Done = Doing.Does (finishes g n p)

-- a process goes on after a wait
abbrev pub goes_on : NodeState → ℕ → Option OpenOp → Option Doing
goes_on n p None = None
goes_on n p (Some o) = option_map (Doing.Moves p o.began Stage.Resumes) (gone_on n.desk p o.began.op)

-- a request is served
abbrev pub served_note : Looked → ProcName → ℕ → Ask → Answer → Note
served_note Fresh p number ask answer = Note.Decided p number ask answer
served_note Again p number ask answer = Note.Nothing
served_note Old p number ask answer = Note.Nothing

abbrev pub replies : NodeState → Message → Ask → Looked → Option Answer → Stepped
replies n m ask how None = quiet n Note.Nothing
replies n m ask how (Some answer) = sending n (reply_to m n.tick answer) None (served_note how (caller_of m) m.number ask answer)

abbrev pub serving : NodeState → Message → Ask → Looked → Serving → Stepped
serving n m ask how s = replies (record n { side = s.side }) m ask how s.answer

abbrev pub serves : NodeState → Message → Ask → Stepped
serves n m ask = serving n m ask (looked m.number (last_of (caller_of m) n.side.served)) (serve_of n.side (caller_of m) m.number ask)

-- a reply is taken: a load or store goes on at its desk, the others are settled by it
abbrev pub stage_of : ℕ → Said → Stage
stage_of number (Said.Replies reply) = Stage.Settles number
stage_of number (Said.ToAccess answer) = Stage.Resumes
stage_of number (Said.ToLock answer) = Stage.Settles number

-- one that doesn't fit, or that is of another call, does nothing
abbrev pub hears_said : NodeState → Message → BegunOp → Option Said → Doing
hears_said n m o None = passed n
hears_said n m o (Some said) = Doing.Moves m.proc o (stage_of m.number said) (answered n.desk m.proc said)

abbrev pub hears_if : Bool → NodeState → Message → BegunOp → Doing
hears_if true n m o = hears_said n m o (said_of n.desk m.proc o.op m.body)
hears_if false n m o = passed n

abbrev pub hears_at : NodeState → Message → BegunOp → Await → Doing
hears_at n m o (Await.Answer c) = hears_if (m.number == c.waiting.number) n m o
hears_at n m o (Await.Page u k) = passed n

abbrev pub hears : NodeState → Message → Option OpenOp → Doing
hears n m None = passed n
hears n m (Some o) = hears_at n m o.began o.awaits

abbrev pub takes : NodeState → Message → Option Ask → Doing
takes n m (Some ask) = Doing.Does (serves n m ask)
takes n m None = hears n m (proc_of n m.proc).doing

-- a frame of a process's call was lost or is late
abbrev pub noticed_call : Asked → Asked
noticed_call c = record c { waiting = record c.waiting { notices = c.waiting.notices + 1 } }

abbrev pub resends : Given → NodeState → ℕ → BegunOp → Asked → Stepped
resends g n p o c =
    sending (with_proc n p (record (proc_of n p) { doing = Some (record { began = o; awaits = Await.Answer c }) })) (request g n p c) None Note.Nothing

abbrev pub gives_up : NodeState → ℕ → BegunOp → ℕ → Moved → Doing
gives_up n p o number m = Doing.Moves p o (Stage.Settles number) (Accessed.Settled m)

abbrev pub notices_as : Given → NodeState → ℕ → BegunOp → Asked → Noticed → Option Doing
notices_as g n p o c Resend = Some (Doing.Does (resends g n p o c))
notices_as g n p o c GiveUp = option_map (gives_up n p o c.waiting.number) (failed n.desk p o.op)

abbrev pub notices_at : Given → NodeState → ℕ → BegunOp → Await → Option Doing
notices_at g n p o (Await.Answer c) = notices_as g n p o (noticed_call c) (noticed (c.waiting.notices + 1))
notices_at g n p o (Await.Page u k) = None

abbrev pub notices : Given → NodeState → ℕ → Option OpenOp → Option Doing
notices g n p None = None
notices g n p (Some o) = notices_at g n p o.began o.awaits

-- the phase is over once its mark was sent and those of all other nodes were taken
abbrev pub in_next_phase : Bool → NodeState → NodeState
in_next_phase true n = record n { phase = n.phase + 1; ready = false }
in_next_phase false n = n

-- the nodes that there can be
abbrev pub node_numbers : List ℕ
node_numbers = 1 ∷ 2 ∷ 3 ∷ 4 ∷ 5 ∷ 6 ∷ 7 ∷ 8 ∷ []

abbrev pub others_marked : Given → NodeState → Bool
others_marked g n = list_all (λ m. not (nat_le m g.opening.nodes) || ((m == g.number) || is_marked n m n.phase)) node_numbers

abbrev pub after_marks : Given → NodeState → NodeState
after_marks g n = in_next_phase (n.ready && others_marked g n) n

-- what an event comes to at a node whose tick is that of the event; None where it doesn't receive what it needs
abbrev pub event_of : Given → NodeState → What → Incoming → Option Doing
event_of g n (Begin p) Incoming.Nothing = Some (begins g n p (g.asks p (proc_of n p).heard))
event_of g n (Go p) Incoming.Nothing = goes_on n p (proc_of n p).doing
event_of g n (Take from index) (Incoming.Frame m) = Some (takes n m (ask_of m.body))
event_of g n (Notice p from to index) (Incoming.Gone number tick) = notices g n p (proc_of n p).doing
event_of g n (Ready phase) Incoming.Nothing = Some (Doing.Does (quiet (after_marks g (record n { ready = true })) Note.Nothing))
event_of g n (Mark from phase) (Incoming.Mark tick) = Some (Doing.Does (quiet (after_marks g (record n { marks = (from, phase) ∷ n.marks })) Note.Nothing))
event_of g n what incoming = None

-- the tick of the event: one more than the greater of the node's own and that of what it receives
abbrev pub ticked : NodeState → Incoming → NodeState
ticked n incoming = record n { tick = max n.tick (tick_of incoming) + 1 }
