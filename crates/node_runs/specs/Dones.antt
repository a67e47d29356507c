-- What an event did: one case for each kind, with what enabled it. What is said of runs goes by these cases, and opens
-- a step no more.
use Rattle.std.specs.Prelude.{◌≡◌, ℕ, ◌+◌, true, false, ◌==◌, Option, Some, None, ◌∷◌}
use Rattle.uid_names.specs.Names.{ObjectName}
use Rattle.dom_history.specs.declared.op.Op.{Op}
use Rattle.dom_history.specs.declared.op.Want.TheVariants.{Do, Phase, Done}
use Rattle.dom_history.specs.declared.event.What.{What}
use Rattle.dom_history.specs.declared.event.What.TheVariants.{Begin, Go, Take, Notice, Ready, Mark}
use Rattle.call_once.specs.Notices.{noticed}
use Rattle.call_once.specs.Calls.{looked, last_of}
use Rattle.call_once.specs.declared.asking.Noticed.TheVariants.{Resend, GiveUp}
use Rattle.ring_messages.specs.Bodies.{Ask, Answer, ask_of}
use Rattle.ring_messages.specs.Frames.{Message, caller_of}
use Rattle.page_server.specs.Serving.{serve_of, reply_to}
use Rattle.fault_handler.specs.Desks.{is_in_transit_there}
use Rattle.fault_handler.specs.Outcomes.{Moved}
use Rattle.fault_handler.specs.Accesses.{Accessed}
use Rattle.node_runs.specs.Setups.{Given}
use Rattle.node_runs.specs.NodeStates.{Asked, Await, BegunOp, OpenOp, NodeState, proc_of}
use Rattle.node_runs.specs.Operations.{begun, gone_on, Said, said_of, answered, failed}
use Rattle.node_runs.specs.Incomings.{Incoming, has_program, may_happen}
use Rattle.node_runs.specs.Notes.{Note}
use Rattle.node_runs.specs.Outcomes.{Stepped, Stage, quiet, sending, moved}
use Rattle.node_runs.specs.Doings.{begun_at, pauses, finishes, stage_of, noticed_call, resends, served_note, after_marks}
use Rattle.node_runs.specs.Rooms.{MayMove}

-- an operation that awaits the answer to a call, or a page
abbrev pub asking : BegunOp → Asked → Option OpenOp
asking o c = Some (record { began = o; awaits = Await.Answer c })

abbrev pub waiting : BegunOp → ObjectName → ℕ → Option OpenOp
waiting o u k = Some (record { began = o; awaits = Await.Page u k })

-- the node has the tick of the event
pub data Did (g : Given) (n : NodeState) : What → Incoming → Stepped → Type 0 where
  -- a process came to the end of its phase, or of its program
  paused : (p : ℕ) → has_program g p ≡ true → (proc_of n p).doing ≡ None → g.asks p (proc_of n p).heard ≡ Phase → Did g n (Begin p) Incoming.Nothing (pauses n p)
  finished : (p : ℕ) → has_program g p ≡ true → (proc_of n p).doing ≡ None → g.asks p (proc_of n p).heard ≡ Done → Did g n (Begin p) Incoming.Nothing (finishes g n p)
  -- an operation began, or went on after a wait
  began : (p : ℕ) (op : Op) (to : Moved) → has_program g p ≡ true → (proc_of n p).doing ≡ None → g.asks p (proc_of n p).heard ≡ Do op → MayMove p (begun g.opening n.desk p op) to
      → Did g n (Begin p) Incoming.Nothing (moved g n p (begun_at g n op) Stage.Starts to)
  resumed : (p : ℕ) (o : BegunOp) (u : ObjectName) (k : ℕ) (accessed : Accessed) (to : Moved) → has_program g p ≡ true → (proc_of n p).doing ≡ waiting o u k → is_in_transit_there n.desk.moving u k ≡ false
      → gone_on n.desk p o.op ≡ Some accessed → MayMove p accessed to → Did g n (Go p) Incoming.Nothing (moved g n p o Stage.Resumes to)
  -- a request was answered, or was too old
  served : (from index : ℕ) (m : Message) (ask : Ask) (answer : Answer) → m.from ≡ from → m.to ≡ g.number → ask_of m.body ≡ Some ask → (serve_of n.side (caller_of m) m.number ask).answer ≡ Some answer
      → Did g n (Take from index) (Incoming.Frame m)
      (sending (record n { side = (serve_of n.side (caller_of m) m.number ask).side }) (reply_to m n.tick answer) None
      (served_note (looked m.number (last_of (caller_of m) n.side.served)) (caller_of m) m.number ask answer))
  passed_over : (from index : ℕ) (m : Message) (ask : Ask) → m.from ≡ from → m.to ≡ g.number → ask_of m.body ≡ Some ask → (serve_of n.side (caller_of m) m.number ask).answer ≡ None
      → Did g n (Take from index) (Incoming.Frame m) (quiet (record n { side = (serve_of n.side (caller_of m) m.number ask).side }) Note.Nothing)
  -- a reply came that fits, or any other
  heard : (from index : ℕ) (m : Message) (o : BegunOp) (c : Asked) (said : Said) (to : Moved) → m.from ≡ from → m.to ≡ g.number → ask_of m.body ≡ None → (proc_of n m.proc).doing ≡ asking o c
      → (m.number == c.waiting.number) ≡ true → said_of n.desk m.proc o.op m.body ≡ Some said → MayMove m.proc (answered n.desk m.proc said) to
      → Did g n (Take from index) (Incoming.Frame m) (moved g n m.proc o (stage_of m.number said) to)
  ignored : (from index : ℕ) (m : Message) → m.from ≡ from → m.to ≡ g.number → ask_of m.body ≡ None → Did g n (Take from index) (Incoming.Frame m) (quiet n Note.Nothing)
  -- a call's frame was sent again, or the call was given up
  resent : (p from to index number tick : ℕ) (o : BegunOp) (c : Asked) → has_program g p ≡ true → (proc_of n p).doing ≡ asking o c → (number == c.waiting.number) ≡ true → noticed (c.waiting.notices + 1) ≡ Resend
      → Did g n (Notice p from to index) (Incoming.Gone number tick) (resends g n p o (noticed_call c))
  gave_up : (p from to index number tick : ℕ) (o : BegunOp) (c : Asked) (into : Moved) → has_program g p ≡ true → (proc_of n p).doing ≡ asking o c → (number == c.waiting.number) ≡ true → noticed (c.waiting.notices + 1) ≡ GiveUp
      → failed n.desk p o.op ≡ Some into → Did g n (Notice p from to index) (Incoming.Gone number tick) (moved g n p o (Stage.Settles c.waiting.number) into)
  -- the node's mark was sent, or another's was taken
  got_ready : (phase : ℕ) → may_happen g n (Ready phase) Incoming.Nothing ≡ true → Did g n (Ready phase) Incoming.Nothing (quiet (after_marks g (record n { ready = true })) Note.Nothing)
  marked : (from phase tick : ℕ) → may_happen g n (Mark from phase) (Incoming.Mark tick) ≡ true
      → Did g n (Mark from phase) (Incoming.Mark tick) (quiet (after_marks g (record n { marks = (from, phase) ∷ n.marks })) Note.Nothing)
