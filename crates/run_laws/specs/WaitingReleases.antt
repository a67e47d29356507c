-- What an unlock or a delete keeps while its release is not sent: the lock, in a mode that writes. It speaks of the entries
-- of its process alone.
use Rattle.std.specs.Prelude.{◌≡◌, ℕ, true, Option, Some, None, List}
use Rattle.uid_names.specs.Names.{ObjectName}
use Rattle.dom_history.specs.declared.op.Op.{Op}
use Rattle.dom_history.specs.declared.op.Op.TheVariants as ops
use Rattle.dom_history.specs.Replies.{may_delete}
use Rattle.ring_messages.specs.Bodies.{Ask}
use Rattle.fault_handler.specs.declared.entries.LockEntry.{LockEntry}
use Rattle.fault_handler.specs.Entries.{entry_of, state_in, grant_in, keeps_writing}
use Rattle.fault_handler.specs.Desks.{entries_of}
use Rattle.fault_handler.specs.Invariant.{IsProc}
use Rattle.node_runs.specs.NodeStates.{Await, OpenOp, NodeState, proc_of}

-- the process keeps the object in a mode that writes
abbrev pub IsKeptToWrite : List LockEntry → ObjectName → Type 0
IsKeptToWrite entries u = keeps_writing (entry_of u entries) ≡ true

-- a page of the object, or its length, goes home under the process's own grant; or the release or removal is sent
abbrev pub SendsHome : List LockEntry → ObjectName → Ask → Ask → Type 0
SendsHome entries u release (Ask.PageOut v k grant base bytes) = (v ≡ u) × IsKeptToWrite entries u × (grant_in (entry_of u entries) ≡ grant)
SendsHome entries u release (Ask.AttrOut v n grant base) = (v ≡ u) × IsKeptToWrite entries u × (grant_in (entry_of u entries) ≡ grant)
SendsHome entries u release ask = ask ≡ release

-- or it waits for a page of the object
abbrev pub SendsOrWaits : List LockEntry → ObjectName → Ask → Await → Type 0
SendsOrWaits entries u release (Await.Answer c) = SendsHome entries u release c.ask
SendsOrWaits entries u release (Await.Page v k) = (v ≡ u) × IsKeptToWrite entries u

-- a delete holds the object in a mode that removes
abbrev pub IsReleaseOpen : List LockEntry → Op → Await → Type 0
IsReleaseOpen entries (ops.Unlock u) a = SendsOrWaits entries u (Ask.Unlock u) a
IsReleaseOpen entries (ops.Delete u) a = SendsOrWaits entries u (Ask.Remove u) a × (may_delete (state_in (entry_of u entries)) ≡ true)
IsReleaseOpen entries op a = Unit {0}

abbrev pub IsOpenRelease : List LockEntry → Option OpenOp → Type 0
IsOpenRelease entries None = Unit {0}
IsOpenRelease entries (Some o) = IsReleaseOpen entries o.began.op o.awaits

-- each open unlock or delete of a node
abbrev pub AreOpenReleases : NodeState → Type 0
AreOpenReleases n = (p : ℕ) → IsProc p → IsOpenRelease (entries_of n.desk p) (proc_of n p).doing
