-- What each desk keeps.
use Rattle.std.specs.Prelude.{◌≡◌, ℕ, ◌≤◌, Bool, true, false, Option, Some, None, List, [], length, count_by, IsSome, IfSome}
use Rattle.uid_names.specs.Names.{ObjectName, IsProcNumber}
use Rattle.uid_names.specs.Rooms.{IsRoom, IsPageNumber, IsLength}
use Rattle.uid_names.specs.declared.limits.TheConstants.{PAGE_BYTES, NODE_PROCESSES}
use Rattle.dom_history.specs.declared.deed.LockState.{LockState}
use Rattle.dom_history.specs.declared.deed.LockState.TheVariants.{Free, Held}
use Rattle.dom_history.specs.Locks.{is_held}
use Rattle.page_frames.specs.declared.frame.TheConstants.{FEWEST_FRAMES}
use Rattle.page_cache.specs.Caches.{Resident, is_page, page_at}
use Rattle.version_stamps.specs.declared.stamps.Stamp.{Stamp}
use Rattle.version_stamps.specs.Stamps.{stamp_of}
use Rattle.address_map.specs.declared.mapping.Mapping.{Mapping}
use Rattle.address_map.specs.Maps.{IsLayout}
use Rattle.fault_handler.specs.declared.entries.LockEntry.{LockEntry}
use Rattle.fault_handler.specs.declared.lengths.Known.{Known}
use Rattle.fault_handler.specs.declared.transits.Transit.{Transit}
use Rattle.fault_handler.specs.declared.tasks.Work.{Work}
use Rattle.fault_handler.specs.declared.tasks.Work.TheVariants.{Load, Store}
use Rattle.fault_handler.specs.declared.tasks.Task.{Task}
use Rattle.fault_handler.specs.declared.open_call.OpenCall.{OpenCall}
use Rattle.fault_handler.specs.declared.open_call.OpenCall.TheVariants.{Access, Lock, PageOut, AttrOut, Unlock, Remove}
use Rattle.fault_handler.specs.Entries.{state_in, keeps, keeps_writing}
use Rattle.fault_handler.specs.Lengths.{known_of, is_changed}
use Rattle.fault_handler.specs.Transits.{is_moving, inward_count}
use Rattle.fault_handler.specs.Tasks.{page_of, IsTask}
use Rattle.fault_handler.specs.Desks.{DeskState, IsNode, at, entry_at, any_keeps, any_writes, count_of}

-- the number of a process of a node
abbrev pub IsProc : ℕ → Type 0
IsProc = IsProcNumber

-- a page that an object may have, whole; where it is dirty, a process of the node keeps its object in a mode that writes
pub record IsShownPage (entries : List (List LockEntry)) (r : Resident) : Type 0 where
  pub page : IsPageNumber r.page
  pub bytes : length r.bytes ≡ PAGE_BYTES
  pub written : r.flags.dirty ≡ true → any_writes entries r.uid ≡ true

-- each page is resident once
pub record ArePages (pages : List Resident) (entries : List (List LockEntry)) : Type 0 where
  pub once : (u : ObjectName) (k : ℕ) → count_by (is_page u k) pages ≤ 1
  pub each : (u : ObjectName) (k : ℕ) → IfSome (page_at pages u k) (IsShownPage entries)

-- resident, and changed since it came from its home or was last taken there
abbrev pub is_dirty : Option Resident → Bool
is_dirty None = false
is_dirty (Some r) = r.flags.dirty

-- a page that comes is not resident, and its process keeps the object; one that goes home is resident, and a process of
-- the node keeps its object
abbrev pub FitsWay : Bool → List Resident → List (List LockEntry) → ℕ → ObjectName → ℕ → Type 0
FitsWay true pages entries q u k = (page_at pages u k ≡ None) × (keeps (entry_at entries q u) ≡ true)
FitsWay false pages entries q u k = IsSome (page_at pages u k) × (any_keeps entries u ≡ true)

abbrev pub FitsTransit : List Resident → List (List LockEntry) → ℕ → Option Transit → Type 0
FitsTransit pages entries q None = Unit {0}
FitsTransit pages entries q (Some t) = FitsWay t.inward pages entries q t.uid t.page

-- no two processes move one page
abbrev pub AreApart : List (Option Transit) → Type 0
AreApart moving =
    (q r : ℕ) → IsProc q → IsProc r → (u : ObjectName) (k : ℕ)
    → is_moving u k (at moving q None) ≡ true → is_moving u k (at moving r None) ≡ true → q ≡ r

-- a frame is reserved for each page that comes
pub record AreMoved (frames : ℕ) (pages : List Resident) (entries : List (List LockEntry)) (moving : List (Option Transit)) : Type 0 where
  pub reserved : frames ≡ count_of inward_count moving
  pub each : (q : ℕ) → IsProc q → FitsTransit pages entries q (at moving q None)
  pub apart : AreApart moving

-- a store is of a process that keeps the object in a mode that writes
abbrev pub MayWork : Work → Option LockEntry → Type 0
MayWork (Load count) entry = Unit {0}
MayWork (Store bytes) entry = keeps_writing entry ≡ true

-- a load or store whose process keeps the object
pub record IsAllowed (entries : List (List LockEntry)) (q : ℕ) (task : Task) : Type 0 where
  pub range : IsTask task
  pub kept : keeps (entry_at entries q task.uid) ≡ true
  pub mode : MayWork task.work (entry_at entries q task.uid)

-- a process keeps each object on which it is Held
abbrev pub KeepsAll : List (List LockEntry) → ℕ → Type 0
KeepsAll entries q = (u : ObjectName) → is_held (state_in (entry_at entries q u)) ≡ true → keeps (entry_at entries q u) ≡ true

-- one that is open: its process moves the page that it needs, or a dirty one home, and keeps each object on which
-- it is Held
pub record IsOpenTask (pages : List Resident) (entries : List (List LockEntry)) (q : ℕ) (task : Task) (t : Transit) : Type 0 where
  pub allowed : IsAllowed entries q task
  pub keeping : KeepsAll entries q
  pub comes : t.inward ≡ true → is_moving task.uid (page_of task) (Some t) ≡ true
  pub goes : t.inward ≡ false → is_dirty (page_at pages t.uid t.page) ≡ true

-- the open call is that of a load or store
abbrev pub is_access : Option OpenCall → Bool
is_access (Some Access) = true
is_access _ = false

-- a page comes to a load or store that is open alone; without one a process sends home pages of objects that it keeps
abbrev pub FitsOpen : List Resident → List (List LockEntry) → ℕ → Bool → Option Task → Option Transit → Type 0
FitsOpen pages entries q true (Some task) (Some t) = IsOpenTask pages entries q task t
FitsOpen pages entries q true _ _ = ⊥
FitsOpen pages entries q false None None = Unit {0}
FitsOpen pages entries q false None (Some t) = (t.inward ≡ false) × (keeps (entry_at entries q t.uid) ≡ true)
FitsOpen pages entries q false (Some task) _ = ⊥

abbrev pub AreOpen : List Resident → List (List LockEntry) → List (Option OpenCall) → List (Option Task) → List (Option Transit) → Type 0
AreOpen pages entries calls tasks moving =
    (q : ℕ) → IsProc q → FitsOpen pages entries q (is_access (at calls q None)) (at tasks q None) (at moving q None)

-- an entry is of no object on which the process is Free; a grant is a number from 1
abbrev pub IsLockEntryState : LockState → ℕ → Type 0
IsLockEntryState Free grant = ⊥
IsLockEntryState (Held m) grant = 1 ≤ grant
IsLockEntryState _ grant = Unit {0}

abbrev pub IsLockEntry : LockEntry → Type 0
IsLockEntry e = IsLockEntryState e.state e.grant

abbrev pub AreEntries : List (List LockEntry) → Type 0
AreEntries entries = (q : ℕ) → IsProc q → (u : ObjectName) → IfSome (entry_at entries q u) IsLockEntry

-- what is known of an object
pub record IsKnown (k : Known) : Type 0 where
  pub room : IsRoom k.room
  pub length : IsLength k.length

-- stamps are from 1; of an object that a process keeps a stamp was seen, and of each object of which one was seen
-- the room and the length are known
pub record AreKnown (seen : List Stamp) (known : List Known) (entries : List (List LockEntry)) : Type 0 where
  pub rows : (u : ObjectName) → IfSome (known_of u known) IsKnown
  pub stamps : (u : ObjectName) → IfSome (stamp_of u seen) (λ stamp. 1 ≤ stamp)
  pub kept : (q : ℕ) → IsProc q → (u : ObjectName) → keeps (entry_at entries q u) ≡ true → IsSome (stamp_of u seen)
  pub both : (u : ObjectName) → IsSome (stamp_of u seen) → IsSome (known_of u known)

-- a changed length is of an object that a process of the node keeps in a mode that writes
abbrev pub AreLengthsWritten : List Known → List (List LockEntry) → Type 0
AreLengthsWritten known entries = (u : ObjectName) → is_changed (known_of u known) ≡ true → any_writes entries u ≡ true

-- the object that a call speaks of; a load's or store's speaks of none
abbrev pub call_object : OpenCall → Option ObjectName
call_object Access = None
call_object (Lock u m) = Some u
call_object (PageOut u k delete) = Some u
call_object (AttrOut u n delete) = Some u
call_object (Unlock u) = Some u
call_object (Remove u) = Some u

-- the home of an open call's object is a node
abbrev pub IsCallAtNode : ℕ → OpenCall → Type 0
IsCallAtNode nodes call = IfSome (call_object call) (λ u. IsNode nodes u.home)

-- entries and open calls are of objects whose home is a node
pub record AreAtNodes (nodes : ℕ) (entries : List (List LockEntry)) (calls : List (Option OpenCall)) : Type 0 where
  pub locked : (q : ℕ) → IsProc q → (u : ObjectName) → IsSome (entry_at entries q u) → IsNode nodes u.home
  pub asked : (q : ℕ) → IsProc q → IfSome (at calls q None) (IsCallAtNode nodes)

-- each process's mappings are laid out in its address space
abbrev pub AreMaps : List (List Mapping) → Type 0
AreMaps maps = (q : ℕ) → IsProc q → IsLayout (at maps q [])

pub record IsFour (d : DeskState) : Type 0 where
  pub entries : length d.entries ≡ NODE_PROCESSES
  pub maps : length d.maps ≡ NODE_PROCESSES
  pub calls : length d.calls ≡ NODE_PROCESSES
  pub tasks : length d.tasks ≡ NODE_PROCESSES
  pub moving : length d.moving ≡ NODE_PROCESSES

pub record IsDesk (d : DeskState) : Type 0 where
  pub four : IsFour d
  pub frames : FEWEST_FRAMES ≤ d.cache.frames
  pub pages : ArePages d.cache.pages d.entries
  pub moved : AreMoved d.cache.reserved d.cache.pages d.entries d.moving
  pub calls : AreOpen d.cache.pages d.entries d.calls d.tasks d.moving
  pub entries : AreEntries d.entries
  pub maps : AreMaps d.maps
  pub known : AreKnown d.seen d.known d.entries
  pub lengths : AreLengthsWritten d.known d.entries
  pub at_nodes : AreAtNodes d.nodes d.entries d.calls
