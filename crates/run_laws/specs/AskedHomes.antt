-- A call about an object asks the object's home.
use Rattle.std.specs.Prelude.{◌≡◌, ℕ, Option, Some, None}
use Rattle.dom_history.specs.declared.op.Op.{Op}
use Rattle.dom_history.specs.declared.op.Op.TheVariants as ops
use Rattle.ring_messages.specs.Bodies.{Ask}
use Rattle.fault_handler.specs.Invariant.{IsProc}
use Rattle.node_runs.specs.NodeStates.{Asked, Await, OpenOp, NodeState, proc_of}
use Rattle.node_runs.specs.Runs.{World}
use Rattle.node_runs.specs.CallsKeep.{EachOf}

abbrev pub IsAtHome : ℕ → Ask → Type 0
IsAtHome home (Ask.PageIn u k) = home ≡ u.home
IsAtHome home (Ask.PageOut u k grant base bytes) = home ≡ u.home
IsAtHome home (Ask.AttrOut u n grant base) = home ≡ u.home
IsAtHome home (Ask.Lock u m) = home ≡ u.home
IsAtHome home (Ask.Unlock u) = home ≡ u.home
IsAtHome home (Ask.Remove u) = home ≡ u.home
IsAtHome home (Ask.Make kind room) = Unit {0}
IsAtHome home (Ask.ListLocks after) = Unit {0}

-- a new object or a list asks the home that its operand names
abbrev pub IsOpAtHome : Op → ℕ → Type 0
IsOpAtHome (ops.New home kind room) to = to ≡ home
IsOpAtHome (ops.List home after) to = to ≡ home
IsOpAtHome op to = Unit {0}

abbrev pub IsAwaitAtHome : Op → Await → Type 0
IsAwaitAtHome op (Await.Answer c) = IsAtHome c.home c.ask × IsOpAtHome op c.home
IsAwaitAtHome op (Await.Page u k) = Unit {0}

abbrev pub IsOpenAtHome : Option OpenOp → Type 0
IsOpenAtHome None = Unit {0}
IsOpenAtHome (Some o) = IsAwaitAtHome o.began.op o.awaits

-- each open call of a node
abbrev pub AreOpenAtHomes : NodeState → Type 0
AreOpenAtHomes n = (p : ℕ) → IsProc p → IsOpenAtHome (proc_of n p).doing

-- each call that was ever made
abbrev pub AreCallsAtHomes : World → Type 0
AreCallsAtHomes w = (n p : ℕ) → EachOf (λ (c : Asked). IsAtHome c.home c.ask) (w.calls n p)
