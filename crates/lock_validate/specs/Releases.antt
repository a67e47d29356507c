-- An unlock or a removal: what is still to be sent home before it, in this order.
use Rattle.std.specs.Prelude.{ℕ, Bool, true, false, Option, Some, None, List, []}
use Rattle.uid_names.specs.Names.{ObjectName}
use Rattle.dom_history.specs.declared.op.Op.{Op}
use Rattle.dom_history.specs.declared.op.Op.TheVariants as ops
use Rattle.dom_history.specs.declared.op.Reply.TheVariants.{NotHeld, NoLock, WrongMode}
use Rattle.dom_history.specs.Locks.{is_free, is_held}
use Rattle.dom_history.specs.Replies.{may_write, may_delete}
use Rattle.page_cache.specs.Caches.{Resident, page_at}
use Rattle.page_cache.specs.Numbers.{dirty_page}
use Rattle.ring_messages.specs.Bodies.{Ask}
use Rattle.fault_handler.specs.Entries.{grant_in}
use Rattle.fault_handler.specs.Lengths.{known_of, changed_length}
use Rattle.fault_handler.specs.Desks.{DeskState, entry_at, state_of, other_transit, base_of}
use Rattle.fault_handler.specs.Changes.{with_note, with_sent_page}
use Rattle.fault_handler.specs.Accesses.{own_page_out}
use Rattle.fault_handler.specs.Outcomes.{Moved, ended, waiting}
use Rattle.fault_handler.specs.LockCalls.{LockCall}
use Rattle.lock_validate.specs.Steps.{sent}

-- what gives the lock up: a removal deletes the object too
abbrev pub release_call : Bool → ObjectName → LockCall
release_call true u = LockCall.Remove u
release_call false u = LockCall.Unlock u

abbrev pub release_ask : Bool → ObjectName → Ask
release_ask true u = Ask.Remove u
release_ask false u = Ask.Unlock u

-- a changed length is sent home first
abbrev pub length_first : DeskState → ℕ → ObjectName → Bool → Option ℕ → Moved
length_first d p u delete (Some length) =
    sent d p (LockCall.AttrOut u length delete) u.home (Ask.AttrOut u length (grant_in (entry_at d.entries p u)) (base_of d.seen u))
length_first d p u delete None = sent (with_note d p u) p (release_call delete u) u.home (release_ask delete u)

-- the bytes of a resident page
abbrev pub bytes_in : Option Resident → List ℕ
bytes_in None = []
bytes_in (Some r) = r.bytes

-- the lowest dirty page is sent home before it
abbrev pub page_first : DeskState → ℕ → ObjectName → Bool → Option ℕ → Moved
page_first d p u delete (Some k) =
    sent (with_sent_page d p u k) p (LockCall.PageOut u k delete) u.home (own_page_out d p u k (bytes_in (page_at d.cache.pages u k)))
page_first d p u delete None = length_first d p u delete (changed_length (known_of u d.known))

-- the lowest page that another process has in transit is waited for before that
abbrev pub transit_first : DeskState → ℕ → ObjectName → Bool → Option ℕ → Moved
transit_first d p u delete (Some k) = waiting d u k
transit_first d p u delete None = page_first d p u delete (dirty_page d.cache.pages u)

-- the release of a lock that is held in a mode that writes, or the removal of its object
abbrev pub release_of : DeskState → ℕ → ObjectName → Bool → Moved
release_of d p u delete = transit_first d p u delete (other_transit d.moving p u)

-- whether the process is Free, whether it is Held, and whether in a mode that writes
abbrev pub unlock_by : DeskState → ℕ → ObjectName → Bool → Bool → Bool → Moved
unlock_by d p u true held writes = ended d NotHeld
unlock_by d p u false true true = release_of d p u false
unlock_by d p u false true false = sent (with_note d p u) p (LockCall.Unlock u) u.home (Ask.Unlock u)
unlock_by d p u false false writes = sent d p (LockCall.Unlock u) u.home (Ask.Unlock u)

abbrev pub begin_unlock_of : DeskState → ℕ → ObjectName → Moved
begin_unlock_of d p u = unlock_by d p u (is_free (state_of d p u)) (is_held (state_of d p u)) (may_write (state_of d p u))

-- whether the process is Held, and whether in a mode that allows a removal
abbrev pub delete_by : DeskState → ℕ → ObjectName → Bool → Bool → Moved
delete_by d p u false may = ended d NoLock
delete_by d p u true false = ended d WrongMode
delete_by d p u true true = release_of d p u true

abbrev pub begin_delete_of : DeskState → ℕ → ObjectName → Moved
begin_delete_of d p u = delete_by d p u (is_held (state_of d p u)) (may_delete (state_of d p u))

-- an unlock, or a removal
abbrev pub begin_release_of : DeskState → ℕ → Bool → ObjectName → Moved
begin_release_of d p true u = begin_delete_of d p u
begin_release_of d p false u = begin_unlock_of d p u

-- whether an operation is a removal, and of which object, or an unlock; the others never wait for a lock
abbrev pub release_in : Op → Option (Bool × ObjectName)
release_in (ops.Delete u) = Some (true, u)
release_in (ops.Unlock u) = Some (false, u)
release_in _ = None
