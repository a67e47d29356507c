-- What holds after a call of a desk, of the operation whose call it was.
use Rattle.std.specs.Prelude.{◌≡◌, ℕ, Bool, true, false, Option, Some, None}
use Rattle.uid_names.specs.Names.{ObjectName}
use Rattle.dom_history.specs.declared.op.Spot.{Spot}
use Rattle.dom_history.specs.declared.op.Spot.TheVariants.{Of, Addr}
use Rattle.dom_history.specs.declared.op.Op.{Op}
use Rattle.dom_history.specs.declared.op.Op.TheVariants as ops
use Rattle.dom_history.specs.Fitting.{Fits}
use Rattle.dom_history.specs.Locks.{is_free}
use Rattle.dom_history.specs.Replies.{may_delete}
use Rattle.ring_messages.specs.Bodies.{Ask, body_of_ask}
use Rattle.ring_messages.specs.Ranges.{IsBody}
use Rattle.fault_handler.specs.declared.tasks.Work.TheVariants.{Load, Store}
use Rattle.fault_handler.specs.declared.tasks.Task.{Task}
use Rattle.fault_handler.specs.declared.transits.Transit.{Transit}
use Rattle.fault_handler.specs.declared.open_call.OpenCall.{OpenCall}
use Rattle.fault_handler.specs.declared.open_call.OpenCall.TheVariants as calls
use Rattle.fault_handler.specs.Transits.{coming, going}
use Rattle.fault_handler.specs.Desks.{DeskState, IsNode, state_of, open_call_of, task_of, moving_of}
use Rattle.fault_handler.specs.Conditions.{IsIdle}
use Rattle.fault_handler.specs.Outcomes.{Turn}

-- a reply is one that the operation can have
abbrev pub FitsTurn : Op → Turn → Type 0
FitsTurn op (Turn.Ends reply) = Fits op reply
FitsTurn op (Turn.Asks home ask) = Unit {0}
FitsTurn op (Turn.Waits u k) = Unit {0}

-- a request is one that a frame to that home can carry, and the home is a node
abbrev pub IsAsked : ℕ → Turn → Type 0
IsAsked nodes (Turn.Ends reply) = Unit {0}
IsAsked nodes (Turn.Asks home ask) = IsNode nodes home × IsBody home (body_of_ask ask)
IsAsked nodes (Turn.Waits u k) = Unit {0}

-- the task is the load or store of this spot
abbrev pub IsAt : Spot → Task → Type 0
IsAt (Of u offset) task = (task.uid ≡ u) × (task.offset ≡ offset)
IsAt (Addr address) task = Unit {0}

-- a load or store is open that this operation is
abbrev pub IsTaskOf : Op → Option Task → Type 0
IsTaskOf (ops.Load spot count) (Some task) = IsAt spot task × (task.work ≡ Load count)
IsTaskOf (ops.Store spot bytes) (Some task) = IsAt spot task × (task.work ≡ Store bytes)
IsTaskOf op task = ⊥

abbrev pub release_op : Bool → ObjectName → Op
release_op true u = ops.Delete u
release_op false u = ops.Unlock u

-- the open call is one that this operation makes
abbrev pub IsCallOf : Op → Option Task → Option OpenCall → Type 0
IsCallOf op task None = ⊥
IsCallOf op task (Some calls.Access) = IsTaskOf op task
IsCallOf op task (Some (calls.Lock u m)) = op ≡ ops.Lock u m
IsCallOf op task (Some (calls.PageOut u k delete)) = op ≡ release_op delete u
IsCallOf op task (Some (calls.AttrOut u n delete)) = op ≡ release_op delete u
IsCallOf op task (Some (calls.Unlock u)) = op ≡ ops.Unlock u
IsCallOf op task (Some (calls.Remove u)) = op ≡ ops.Delete u

abbrev pub IsOpen : DeskState → ℕ → Op → Type 0
IsOpen d p op = IsCallOf op (task_of d p) (open_call_of d p)

-- the request is that of the open call: a page is asked for exactly where the process moves one from its home
abbrev pub IsRequestOf : Option Transit → OpenCall → Ask → Type 0
IsRequestOf moving calls.Access (Ask.PageIn u k) = moving ≡ coming u k
IsRequestOf moving calls.Access (Ask.PageOut u k grant base bytes) = moving ≡ going u k
IsRequestOf moving (calls.Lock u m) (Ask.Lock v n) = (v ≡ u) × (n ≡ m)
IsRequestOf moving (calls.PageOut u k delete) (Ask.PageOut v j grant base bytes) = (v ≡ u) × (j ≡ k)
IsRequestOf moving (calls.AttrOut u n delete) (Ask.AttrOut v m grant base) = (v ≡ u) × (m ≡ n)
IsRequestOf moving (calls.Unlock u) (Ask.Unlock v) = v ≡ u
IsRequestOf moving (calls.Remove u) (Ask.Remove v) = v ≡ u
IsRequestOf moving call ask = ⊥

abbrev pub IsRequest : Option Transit → Option OpenCall → Ask → Type 0
IsRequest moving None ask = ⊥
IsRequest moving (Some call) ask = IsRequestOf moving call ask

-- an operation that waited may go on: a load or store, or an unlock or a removal that passes the tests on the process's state
abbrev pub MayGoOn : DeskState → ℕ → Op → Type 0
MayGoOn d p (ops.Load spot count) = Unit {0}
MayGoOn d p (ops.Store spot bytes) = Unit {0}
MayGoOn d p (ops.Unlock u) = is_free (state_of d p u) ≡ false
MayGoOn d p (ops.Delete u) = may_delete (state_of d p u) ≡ true
MayGoOn d p op = ⊥

-- where the operation ends the process is idle; where it asks, its open call is one of it, and the request that of the
-- call; where it waits, it may go on
abbrev pub IsNext : DeskState → ℕ → Op → Turn → Type 0
IsNext d p op (Turn.Ends reply) = IsIdle d p
IsNext d p op (Turn.Asks home ask) = IsOpen d p op × IsRequest (moving_of d p) (open_call_of d p) ask
IsNext d p op (Turn.Waits u k) = IsIdle d p × MayGoOn d p op

-- a length or a mapping is answered at once
abbrev pub IsAtOnce : Op → Turn → Type 0
IsAtOnce (ops.Load spot count) turn = Unit {0}
IsAtOnce (ops.Store spot bytes) turn = Unit {0}
IsAtOnce op (Turn.Ends reply) = Unit {0}
IsAtOnce op turn = ⊥
