-- Where the open loads and stores of a node lie, as long as they are open; and which page each process moves.
use Rattle.std.specs.Prelude.{◌≡◌, ℕ, ◌+◌, ◌*◌, ◌≤◌, Option, Some, None, IfSome, List, length}
use Rattle.uid_names.specs.declared.limits.TheConstants.{PAGE_BYTES}
use Rattle.dom_history.specs.declared.op.Op.{Op}
use Rattle.dom_history.specs.declared.op.Op.TheVariants as ops
use Rattle.ring_messages.specs.Bodies.{Ask}
use Rattle.fault_handler.specs.declared.lengths.Known.{Known}
use Rattle.fault_handler.specs.declared.tasks.Work.{Work}
use Rattle.fault_handler.specs.declared.tasks.Work.TheVariants.{Load, Store}
use Rattle.fault_handler.specs.declared.tasks.Task.{Task}
use Rattle.fault_handler.specs.declared.transits.Transit.{Transit}
use Rattle.fault_handler.specs.Lengths.{known_of, length_of, room_of}
use Rattle.fault_handler.specs.Transits.{coming, going}
use Rattle.fault_handler.specs.Desks.{DeskState, task_of, moving_of}
use Rattle.fault_handler.specs.Accesses.{target_of}
use Rattle.fault_handler.specs.Invariant.{IsProc}
use Rattle.node_runs.specs.NodeStates.{Await, OpenOp, NodeState, proc_of}

-- a load ends within the known length, a store within the known room
abbrev pub IsWithin : Option Known → ℕ → Work → Type 0
IsWithin known offset (Load count) = offset + count ≤ length_of known
IsWithin known offset (Store bytes) = offset + length bytes ≤ PAGE_BYTES * room_of known

abbrev pub IsTaskWithin : List Known → Task → Type 0
IsTaskWithin known task = IsWithin (known_of task.uid known) task.offset task.work

-- each open load or store of a desk
abbrev pub AreTasksWithin : DeskState → Type 0
AreTasksWithin d = (p : ℕ) → IsProc p → IfSome (task_of d p) (IsTaskWithin d.known)

-- the load or store is at the place that the spot of its operation names
abbrev pub IsAtSpot : DeskState → ℕ → Op → Task → Type 0
IsAtSpot d p (ops.Load spot count) task = target_of d p spot ≡ Some (task.uid, task.offset)
IsAtSpot d p (ops.Store spot bytes) task = target_of d p spot ≡ Some (task.uid, task.offset)
IsAtSpot d p op task = ⊥

abbrev pub IsPlacedAt : DeskState → ℕ → Option OpenOp → Option Task → Type 0
IsPlacedAt d p doing None = Unit {0}
IsPlacedAt d p None (Some task) = ⊥
IsPlacedAt d p (Some o) (Some task) = IsAtSpot d p o.began.op task

-- each open load or store of a node is one of its process's open operation
abbrev pub AreTasksPlaced : NodeState → Type 0
AreTasksPlaced n = (p : ℕ) → IsProc p → IsPlacedAt n.desk p (proc_of n p).doing (task_of n.desk p)

-- the page that a call brings or sends
abbrev pub transit_of_ask : Ask → Option Transit
transit_of_ask (Ask.PageIn u k) = coming u k
transit_of_ask (Ask.PageOut u k grant base bytes) = going u k
transit_of_ask ask = None

abbrev pub transit_of_await : Await → Option Transit
transit_of_await (Await.Answer c) = transit_of_ask c.ask
transit_of_await (Await.Page u k) = None

abbrev pub transit_of_open : Option OpenOp → Option Transit
transit_of_open None = None
transit_of_open (Some o) = transit_of_await o.awaits

-- each process moves the page that its open call asks for or sends, and no other
abbrev pub AreTransits : NodeState → Type 0
AreTransits n = (p : ℕ) → IsProc p → moving_of n.desk p ≡ transit_of_open (proc_of n p).doing
