-- How an operation begins, goes on after a wait or with an answer, or fails: which desk's function it is.
use Rattle.std.specs.Prelude.{ℕ, nat_le, Bool, true, false, ◌&&◌, Option, Some, None, []}
use Rattle.std.specs.Option.{option_map}
use Rattle.uid_names.specs.Names.{ObjectName, ProcName}
use Rattle.uid_names.specs.Steps.{◌>>=◌}
use Rattle.uid_names.specs.Openings.{Start}
use Rattle.uid_names.specs.declared.mode.ObjKind.{ObjKind}
use Rattle.dom_history.specs.declared.op.Op.{Op}
use Rattle.dom_history.specs.declared.op.Op.TheVariants as ops
use Rattle.dom_history.specs.declared.op.Reply.{Reply}
use Rattle.dom_history.specs.declared.op.Reply.TheVariants as replies
use Rattle.dom_history.specs.Objects.{is_node}
use Rattle.ring_messages.specs.declared.body.Body.{Body}
use Rattle.ring_messages.specs.Bodies.{Ask, Answer, answer_of}
use Rattle.fault_handler.specs.declared.open_call.OpenCall.{OpenCall}
use Rattle.fault_handler.specs.declared.transits.Transit.{Transit}
use Rattle.fault_handler.specs.Desks.{DeskState, open_call_of, moving_of}
use Rattle.fault_handler.specs.Outcomes.{Turn, Moved, ended}
use Rattle.fault_handler.specs.Accesses.{DeskOp, Accessed, access_of}
use Rattle.fault_handler.specs.PageReplies.{PageAnswer, page_answer, page_came_of, access_failed_of}
use Rattle.fault_handler.specs.LockCalls.{LockCall, LockAnswer, lock_call, lock_answer}
use Rattle.lock_validate.specs.Locking.{begin_lock_of}
use Rattle.lock_validate.specs.Releases.{begin_unlock_of, begin_delete_of}
use Rattle.lock_validate.specs.Answers.{answer_came_of}
use Rattle.lock_validate.specs.Faults.{call_failed_of}

-- the desk has no part in it: the operation asks a home at once
abbrev pub asking_home : DeskState → ℕ → Ask → Moved
asking_home d home ask = record { desk = d; turn = Turn.Asks home ask; dropped = [] }

-- whether the home is a node, and the room not too great
abbrev pub new_by : DeskState → ℕ → ObjKind → ℕ → Bool → Moved
new_by d home kind room true = asking_home d home (Ask.Make kind room)
new_by d home kind room false = ended d replies.NoSpace

-- whether the home is a node
abbrev pub list_by : DeskState → ℕ → Option (ObjectName × ProcName) → Bool → Moved
list_by d home after true = asking_home d home (Ask.ListLocks after)
list_by d home after false = ended d (replies.Locks [] false)

abbrev pub begun : Start → DeskState → ℕ → Op → Accessed
begun opening d p (ops.New home kind room) = Accessed.Settled (new_by d home kind room (is_node opening home && nat_le room opening.greatest))
begun opening d p (ops.List home after) = Accessed.Settled (list_by d home after (is_node opening home))
begun opening d p (ops.Lock u m) = Accessed.Settled (begin_lock_of d p u m)
begun opening d p (ops.Unlock u) = Accessed.Settled (begin_unlock_of d p u)
begun opening d p (ops.Delete u) = Accessed.Settled (begin_delete_of d p u)
begun opening d p (ops.Load spot count) = access_of d p (DeskOp.Loads spot count)
begun opening d p (ops.Store spot bytes) = access_of d p (DeskOp.Stores spot bytes)
begun opening d p (ops.Length u) = access_of d p (DeskOp.Measures u)
begun opening d p (ops.Map u) = access_of d p (DeskOp.Maps u)
begun opening d p (ops.Unmap u) = access_of d p (DeskOp.Unmaps u)

-- an operation that waited for a page begins anew: a load, a store, an unlock or a removal; the others never wait
abbrev pub gone_on : DeskState → ℕ → Op → Option Accessed
gone_on d p (ops.Load spot count) = Some (access_of d p (DeskOp.Loads spot count))
gone_on d p (ops.Store spot bytes) = Some (access_of d p (DeskOp.Stores spot bytes))
gone_on d p (ops.Unlock u) = Some (Accessed.Settled (begin_unlock_of d p u))
gone_on d p (ops.Delete u) = Some (Accessed.Settled (begin_delete_of d p u))
gone_on d p op = None

-- what an answer says to the call of an operation: the reply to a New or a List, of which the desk knows nothing, or
-- what the desk makes of it
pub data Said : Type 0 where
  Replies : (reply : Reply) → Said
  ToAccess : (answer : PageAnswer) → Said
  ToLock : (answer : LockAnswer) → Said

abbrev pub said_to_new : Answer → Option Said
said_to_new (Answer.Made u) = Some (Said.Replies (replies.Made u))
said_to_new Answer.NoSpace = Some (Said.Replies replies.NoSpace)
said_to_new _ = None

abbrev pub said_to_list : Answer → Option Said
said_to_list (Answer.Listed rows more) = Some (Said.Replies (replies.Locks rows more))
said_to_list _ = None

abbrev pub said_to_lock : DeskState → ℕ → Answer → Option LockCall → Option Said
said_to_lock d p answer None = option_map Said.ToAccess (page_answer d p answer)
said_to_lock d p answer (Some call) = option_map Said.ToLock (lock_answer call answer)

-- to the desk's open call
abbrev pub said_to_call : DeskState → ℕ → Answer → OpenCall → Option Said
said_to_call d p answer call = said_to_lock d p answer (lock_call call)

-- None where the answer doesn't fit
abbrev pub said_by : DeskState → ℕ → Op → Answer → Option Said
said_by d p (ops.New home kind room) answer = said_to_new answer
said_by d p (ops.List home after) answer = said_to_list answer
said_by d p op answer = open_call_of d p >>= said_to_call d p answer

-- what a body says to it
abbrev pub said_of : DeskState → ℕ → Op → Body → Option Said
said_of d p op body = answer_of body >>= said_by d p op

-- what comes of that
abbrev pub answered : DeskState → ℕ → Said → Accessed
answered d p (Said.Replies reply) = Accessed.Settled (ended d reply)
answered d p (Said.ToAccess answer) = page_came_of d p answer
answered d p (Said.ToLock answer) = Accessed.Settled (answer_came_of d p answer)

-- a load's or store's call fails, which moves this page, or that of a lock, an unlock or a removal
abbrev pub access_failed : DeskState → ℕ → Transit → Moved
access_failed d p t = ended (access_failed_of d p t) replies.LinkFault

abbrev pub call_failed : DeskState → ℕ → Option LockCall → Option Moved
call_failed d p None = option_map (access_failed d p) (moving_of d p)
call_failed d p (Some call) = Some (call_failed_of d p call)

-- the call of an operation is given up; None where it has none
abbrev pub failed : DeskState → ℕ → Op → Option Moved
failed d p (ops.New home kind room) = Some (ended d replies.LinkFault)
failed d p (ops.List home after) = Some (ended d replies.LinkFault)
failed d p op = open_call_of d p >>= λ call. call_failed d p (lock_call call)
