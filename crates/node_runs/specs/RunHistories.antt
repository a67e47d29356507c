-- The history of a run, as one of a store.
use Rattle.std.specs.Prelude.{ℕ, zero, suc, ◌==◌, Bool, true, false, ◌&&◌, Option, Some, None, List, [], ◌∷◌, ◌++◌}
use Rattle.std.specs.List.{find}
use Rattle.uid_names.specs.Names.{ProcName, same_proc}
use Rattle.uid_names.specs.declared.ids.Place.{Place}
use Rattle.dom_history.specs.declared.op.Op.{Op}
use Rattle.dom_history.specs.declared.op.Op.TheVariants as ops
use Rattle.dom_history.specs.declared.op.Reply.{Reply}
use Rattle.dom_history.specs.declared.op.Reply.TheVariants.{Made, Fine, Kept, Doubt, LinkFault}
use Rattle.dom_history.specs.Histories.{Item, Answered, Acted, Pending, History, same_place}
use Rattle.dom_history.specs.Events.{Happening}
use Rattle.ring_messages.specs.Bodies.{Ask, Answer}
use Rattle.fault_handler.specs.Desks.{procs}
use Rattle.node_runs.specs.Setups.{Setup}
use Rattle.node_runs.specs.NodeStates.{OpenOp, proc_of}
use Rattle.node_runs.specs.Notes.{Told, Note}
use Rattle.node_runs.specs.Runs.{Noted, World, world_of}

-- a reply that a link fault gave
abbrev pub is_fault : Reply → Bool
is_fault Kept = true
is_fault Doubt = true
is_fault LinkFault = true
is_fault _ = false

-- the operation that is settled by a home's decision on a call, which is its last; a page or a length settles none
abbrev pub settled_op : ℕ → Ask → Option Op
settled_op home (Ask.PageIn u k) = None
settled_op home (Ask.PageOut u k grant base bytes) = None
settled_op home (Ask.AttrOut u n grant base) = None
settled_op home (Ask.Lock u m) = Some (ops.Lock u m)
settled_op home (Ask.Unlock u) = Some (ops.Unlock u)
settled_op home (Ask.Remove u) = Some (ops.Delete u)
settled_op home (Ask.Make kind room) = Some (ops.New home kind room)
settled_op home (Ask.ListLocks after) = Some (ops.List home after)

-- the reply by which a home tells of a change of its objects or locks; None where it made none
abbrev pub change_reply : Answer → Option Reply
change_reply (Answer.Made u) = Some (Made u)
change_reply (Answer.Granted grant stamp kind room n) = Some Fine
change_reply Answer.Done = Some Fine
change_reply _ = None

abbrev pub act_item : Place → Place → ProcName → Op → Option Reply → List Item
act_item x begun p op None = []
act_item x begun p op (Some reply) = Acted (record { place = x; begun = begun; deed = record { proc = p; op = op; reply = reply } }) ∷ []

-- the operations that were ended by the answer to a call or a link fault
abbrev pub told_by : Note → List Told
told_by (Note.Ended t) = t ∷ []
told_by _ = []

abbrev pub all_told : List Noted → List Told
all_told [] = []
all_told (m ∷ older) = told_by m.note ++ all_told older

abbrev pub entry_at : Place → Told → Item
entry_at x t = Answered (record { place = x; proc = t.proc; phase = t.phase; op = t.op; reply = t.reply })

-- an operation began: it stands there where a link fault ended it
abbrev pub fault_item : Bool → Place → Told → List Item
fault_item true x t = entry_at x t ∷ []
fault_item false x t = []

abbrev pub begun_item : Place → Option Told → List Item
begun_item x None = []
begun_item x (Some t) = fault_item (is_fault t.reply) x t

-- a home decided the last call of an operation: its entry where the process was told, else an act where it made a change
abbrev pub told_item : Bool → Place → Op → Answer → Told → List Item
told_item true x op answer t = act_item x t.begun t.proc op (change_reply answer)
told_item false x op answer t = entry_at x t ∷ []

abbrev pub open_item : Place → ProcName → Op → Answer → Option OpenOp → List Item
open_item x p op answer None = []
open_item x p op answer (Some o) = act_item x o.began.begun p op (change_reply answer)

abbrev pub settled_item : Place → ProcName → Op → Answer → Option Told → Option OpenOp → List Item
settled_item x p op answer (Some t) doing = told_item (is_fault t.reply) x op answer t
settled_item x p op answer None doing = open_item x p op answer doing

abbrev pub decided_item : Place → ProcName → Option Op → Answer → Option Told → Option OpenOp → List Item
decided_item x p None answer told doing = []
decided_item x p (Some op) answer told doing = settled_item x p op answer told doing

-- the open operation of a process of these nodes
abbrev pub doing_of : World → ProcName → Option OpenOp
doing_of w p = (proc_of (w.nodes p.node) p.number).doing

abbrev pub ended_at : ProcName → Place → List Told → Option Told
ended_at p begun told = find (λ t. same_proc t.proc p && same_place t.begun begun) told

abbrev pub ended_by : ProcName → ℕ → List Told → Option Told
ended_by p number told = find (λ t. same_proc t.proc p && (t.number == number)) told

-- what an event adds to the history
abbrev pub items_of : World → List Told → Place → Note → List Item
items_of w told x Note.Nothing = []
items_of w told x (Note.Began p op) = begun_item x (ended_at p x told)
items_of w told x (Note.Did p phase op reply) = Answered (record { place = x; proc = p; phase = phase; op = op; reply = reply }) ∷ []
items_of w told x (Note.Ended t) = []
items_of w told x (Note.Decided p number ask answer) = decided_item x p (settled_op x.node ask) answer (ended_by p number told) (doing_of w p)

abbrev pub items_from : World → List Told → List Noted → List Item
items_from w told [] = []
items_from w told (m ∷ older) = items_of w told m.place m.note ++ items_from w told older

-- the operations that are open
abbrev pub pending_in : ProcName → Option OpenOp → List Pending
pending_in p None = []
pending_in p (Some o) = record { begun = o.began.begun; proc = p; op = o.began.op } ∷ []

abbrev pub pending_at : World → ℕ → List ℕ → List Pending
pending_at w n [] = []
pending_at w n (p ∷ ps) = pending_in (record { node = n; number = p }) (doing_of w (record { node = n; number = p })) ++ pending_at w n ps

abbrev pub pending_to : World → ℕ → List Pending
pending_to w zero = []
pending_to w (suc n) = pending_to w n ++ pending_at w (suc n) procs

abbrev pub history_in : Setup → World → History
history_in s w = record { items = items_from w (all_told w.trace) w.trace; open_ops = pending_to w s.opening.nodes }

abbrev pub history_if : Setup → Option World → History
history_if s None = record { items = []; open_ops = [] }
history_if s (Some w) = history_in s w

-- the history of events
abbrev pub history_of : Setup → List Happening → History
history_of s es = history_if s (world_of s es)
