-- That the desk of a node agrees with what each of its processes does.
use Rattle.std.specs.Prelude.{◌≡◌, ℕ, ◌≤◌, ◌<◌, Option, Some, None}
use Rattle.dom_history.specs.declared.op.Op.{Op}
use Rattle.dom_history.specs.declared.op.Op.TheVariants as ops
use Rattle.dom_history.specs.Ranges.{IsOp}
use Rattle.call_once.specs.declared.asking.TheConstants.{MOST_NOTICES}
use Rattle.ring_messages.specs.Bodies.{Ask, body_of_ask}
use Rattle.ring_messages.specs.Ranges.{IsBody}
use Rattle.fault_handler.specs.Desks.{DeskState, IsNode, open_call_of, moving_of}
use Rattle.fault_handler.specs.Conditions.{IsIdle}
use Rattle.fault_handler.specs.Ready.{IsReady}
use Rattle.fault_handler.specs.Next.{IsOpen, IsRequest, MayGoOn}
use Rattle.node_runs.specs.NodeStates.{Asked, Await, OpenOp}

-- the desk, where a call of the operation is open there: the call stands, and this is what it asks
pub record IsCallOpen (d : DeskState) (p : ℕ) (op : Op) (ask : Ask) : Type 0 where
  pub opened : IsOpen d p op
  pub ready : IsReady d p
  pub request : IsRequest (moving_of d p) (open_call_of d p) ask

-- the desk, where the operation asked this; a New and a List have no call there
abbrev pub IsCalling : DeskState → ℕ → Op → Ask → Type 0
IsCalling d p (ops.New home kind room) ask = IsIdle d p × (ask ≡ Ask.Make kind room)
IsCalling d p (ops.List home after) ask = IsIdle d p × (ask ≡ Ask.ListLocks after)
IsCalling d p op ask = IsCallOpen d p op ask

-- the desk, where the operation waits for a page
pub record IsWaiting (d : DeskState) (p : ℕ) (op : Op) : Type 0 where
  pub idle : IsIdle d p
  pub resumes : MayGoOn d p op

-- an open call: its home is a node, and a frame to it can carry what it asks; its number is the process's last one, and
-- it may be noticed once more
pub record IsOpenCall (nodes last : ℕ) (c : Asked) : Type 0 where
  pub home : IsNode nodes c.home
  pub body : IsBody c.home (body_of_ask c.ask)
  pub number : c.waiting.number ≡ last
  pub least : 1 ≤ last
  pub few : c.waiting.notices < MOST_NOTICES

abbrev pub IsDoing : DeskState → ℕ → ℕ → Op → Await → Type 0
IsDoing d p last op (Await.Answer c) = IsCalling d p op c.ask × IsOpenCall d.nodes last c
IsDoing d p last op (Await.Page u k) = IsWaiting d p op

-- the desk agrees with the process: where it does nothing, it may begin, and so it keeps each object on which it is Held
abbrev pub Agrees : DeskState → ℕ → ℕ → Option OpenOp → Type 0
Agrees d p last None = IsIdle d p
Agrees d p last (Some o) = IsOp o.began.op × IsDoing d p last o.began.op o.awaits
