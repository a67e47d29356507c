-- What the open calls of a node carry, as long as they are open: each fits its desk still, whatever other processes did.
use Rattle.std.specs.Prelude.{◌≡◌, ℕ, ◌≤◌, ◌==◌, Bool, true, false, ◌&&◌, Option, Some, None, List}
use Rattle.std.specs.List.{list_any}
use Rattle.uid_names.specs.Names.{ObjectName}
use Rattle.dom_history.specs.Locks.{is_free}
use Rattle.dom_history.specs.Replies.{may_delete}
use Rattle.page_cache.specs.Caches.{Resident, page_at}
use Rattle.ring_messages.specs.Bodies.{Ask}
use Rattle.fault_handler.specs.declared.entries.LockEntry.{LockEntry}
use Rattle.fault_handler.specs.Entries.{grant_in, keeps_writing}
use Rattle.fault_handler.specs.Lengths.{known_of, length_of}
use Rattle.fault_handler.specs.Transits.{coming, going}
use Rattle.fault_handler.specs.Desks.{DeskState, procs, entry_at, state_of, moving_of, base_of}
use Rattle.fault_handler.specs.Invariant.{IsProc}
use Rattle.node_runs.specs.NodeStates.{Await, OpenOp, NodeState, proc_of}

-- whether a process keeps the object in a mode that writes, under this grant
abbrev pub writes_under : List (List LockEntry) → ObjectName → ℕ → ℕ → Bool
writes_under entries u grant q = keeps_writing (entry_at entries q u) && (grant_in (entry_at entries q u) == grant)

-- whether a process of the node does, not always the one that sends
abbrev pub is_writing_grant : List (List LockEntry) → ObjectName → ℕ → Bool
is_writing_grant entries u grant = list_any (writes_under entries u grant) procs

-- the page is dirty; until it is stored to again it has the bytes that were sent
pub record IsAsSent (bytes : List ℕ) (r : Resident) : Type 0 where
  pub dirty : r.flags.dirty ≡ true
  pub same : r.flags.sent ≡ true → r.bytes ≡ bytes

abbrev pub HasSent : List ℕ → Option Resident → Type 0
HasSent bytes None = ⊥
HasSent bytes (Some r) = IsAsSent bytes r

-- a page on its way home
pub record IsPageSent (d : DeskState) (p : ℕ) (u : ObjectName) (k grant base : ℕ) (bytes : List ℕ) : Type 0 where
  pub moves : moving_of d p ≡ going u k
  pub granted : is_writing_grant d.entries u grant ≡ true
  pub based : base ≤ base_of d.seen u
  pub page : HasSent bytes (page_at d.cache.pages u k)

-- a length on its way home: under the process's own grant, and not above the known one
pub record IsLengthSent (d : DeskState) (p : ℕ) (u : ObjectName) (n grant base : ℕ) : Type 0 where
  pub still : moving_of d p ≡ None
  pub granted : writes_under d.entries u grant p ≡ true
  pub based : base ≤ base_of d.seen u
  pub length : n ≤ length_of (known_of u d.known)

-- what a process asks
abbrev pub Carries : DeskState → ℕ → Ask → Type 0
Carries d p (Ask.PageIn u k) = moving_of d p ≡ coming u k
Carries d p (Ask.PageOut u k grant base bytes) = IsPageSent d p u k grant base bytes
Carries d p (Ask.AttrOut u n grant base) = IsLengthSent d p u n grant base
Carries d p (Ask.Lock u m) = (moving_of d p ≡ None) × (is_free (state_of d p u) ≡ true)
Carries d p (Ask.Unlock u) = (moving_of d p ≡ None) × (is_free (state_of d p u) ≡ false)
Carries d p (Ask.Remove u) = (moving_of d p ≡ None) × (may_delete (state_of d p u) ≡ true)
Carries d p (Ask.Make kind room) = moving_of d p ≡ None
Carries d p (Ask.ListLocks after) = moving_of d p ≡ None

abbrev pub CarriesAwait : DeskState → ℕ → Await → Type 0
CarriesAwait d p (Await.Answer c) = Carries d p c.ask
CarriesAwait d p (Await.Page u k) = moving_of d p ≡ None

abbrev pub CarriesOpen : DeskState → ℕ → Option OpenOp → Type 0
CarriesOpen d p None = moving_of d p ≡ None
CarriesOpen d p (Some o) = CarriesAwait d p o.awaits

-- each process of the node
abbrev pub AreCarried : NodeState → Type 0
AreCarried n = (p : ℕ) → IsProc p → CarriesOpen n.desk p (proc_of n p).doing
