-- A decision gives at most one number of each kind.
use Rattle.std.proofs.Common.{◌≡◌, ℕ, ◌+◌, ◌<◌, ◌≤◌, List, refl, arith}
use Rattle.std.specs.Prelude.{Bool, true, false, if◌then◌else◌}
use Rattle.uid_names.specs.Names.{ProcName, ObjectName}
use Rattle.uid_names.specs.declared.lock_row.LockRow.{LockRow}
use Rattle.uid_names.specs.declared.mode.ObjKind.{ObjKind}
use Rattle.uid_names.specs.declared.limits.TheConstants.{VOLUME_ROOM}
use Rattle.object_store.specs.declared.attributes.Attr.{Attr}
use Rattle.object_store.specs.Objects.{stamped, resized, with_change, without_row}
use Rattle.object_store.specs.HomeStates.{HomeState, next_row, after_make, after_remove, after_page, after_length}
use Rattle.lock_manager.specs.Tables.{Table, with_grant, without_grants_on}
use Rattle.call_once.specs.Calls.{Call}
use Rattle.ring_messages.specs.Bodies.{Ask, Answer}
use Rattle.page_server.specs.Decisions.{Decision, decide}
use Rattle.page_server.specs.Serving.{HomeSide}
use Rattle.page_server.specs.ServerStates.{ServerState, AreStampedTo, IsCountedTo, IsServer}
use Rattle.page_server.proofs.Stamps.{AreStampedTo-weaker, AreStampedTo-push, AreStampedTo-without_row, AreStampedTo-with_change}

-- what holds of both holds of the chosen one
pub either : {X : Type 0} (P : X → Type 0) (b : Bool) {x y : X} → P x → P y → P (if b then x else y)
either P true first second = first
either P false first second = second

-- a home to which no more than this was given
record IsHomeTo (greatest stamp : ℕ) (home : HomeState) : Type 0 where
  counters : home.greatest ≤ greatest
  stamps : AreStampedTo stamp home.objects

module _ (home : HomeState) (stamp : ℕ) (stamps : AreStampedTo stamp home.objects) where
  abbrev NextHome : HomeState → Type 0
  NextHome = IsHomeTo (home.greatest + 1) (stamp + 1)

  same : NextHome home
  same = record { counters = omega arith; stamps = AreStampedTo-weaker stamp (stamp + 1) home.objects (omega arith) stamps }

  written : (change : Attr → Attr) (counter : ℕ) (after : HomeState) → ((attr : Attr) → (change attr).stamp ≡ attr.stamp + 1)
      → after.greatest ≡ home.greatest → after.objects ≡ with_change change counter home.objects → NextHome after
  written change counter after raises one rows =
      record { counters = omega arith; stamps = rw rows (AreStampedTo-with_change change stamp counter home.objects raises stamps) }

  removed : (counter : ℕ) → NextHome (after_remove home counter)
  removed counter =
      record { counters = omega arith; stamps = AreStampedTo-weaker stamp (stamp + 1) (without_row counter home.objects) (omega arith) (AreStampedTo-without_row stamp counter home.objects stamps) }

  made : (kind : ObjKind) (room : ℕ) → NextHome (after_make home kind room)
  made kind room =
      record { counters = omega arith; stamps = AreStampedTo-push (stamp + 1) home.objects (next_row home kind room) (AreStampedTo-weaker stamp (stamp + 1) home.objects (omega arith) stamps) (omega arith) }

  -- what a decision makes of the objects
  decided-home : (locks : Table) (p : ProcName) (ask : Ask) → NextHome (decide home locks p ask).home
  decided-home locks p (Ask.PageIn u page) = same
  decided-home locks p (Ask.PageOut u page grant base bytes) =
      either NextHome _ (written stamped u.counter (after_page home u.counter page bytes) (λ attr. refl) refl refl) same
  decided-home locks p (Ask.AttrOut u length grant base) =
      either NextHome _ (written (resized length) u.counter (after_length home u.counter length) (λ attr. refl) refl refl) same
  decided-home locks p (Ask.Lock u mode) = same
  decided-home locks p (Ask.Unlock u) = same
  decided-home locks p (Ask.Remove u) = either NextHome _ (removed u.counter) same
  decided-home locks p (Ask.Make kind room) = either NextHome _ (made kind room) same
  decided-home locks p (Ask.ListLocks after) = same

module _ (locks : Table) where
  abbrev NextTable : Table → Type 0
  NextTable next = next.last ≤ locks.last + 1

  same-table : NextTable locks
  same-table = omega arith

  granted : (row : LockRow) → NextTable (with_grant row locks)
  granted row = omega arith

  dropped : (u : ObjectName) → NextTable (without_grants_on u locks)
  dropped u = omega arith

  -- what a decision makes of the lock table
  decided-table : (home : HomeState) (p : ProcName) (ask : Ask) → NextTable (decide home locks p ask).locks
  decided-table home p (Ask.PageIn u page) = same-table
  decided-table home p (Ask.PageOut u page grant base bytes) = same-table
  decided-table home p (Ask.AttrOut u length grant base) = same-table
  decided-table home p (Ask.Lock u mode) = either NextTable _ (granted (record { uid = u; proc = p; mode = mode })) same-table
  decided-table home p (Ask.Unlock u) = same-table
  decided-table home p (Ask.Remove u) = either NextTable _ (dropped u) same-table
  decided-table home p (Ask.Make kind room) = same-table
  decided-table home p (Ask.ListLocks after) = same-table

-- a home side that decided has counted to each later tick
pub IsCountedTo-decided : (side : HomeSide) (p : ProcName) (ask : Ask) (served : List (Call Answer)) (before tick : ℕ) → IsCountedTo before side → before < tick
    → let d = decide side.home side.locks p ask in
    IsCountedTo tick (record { home = d.home; locks = d.locks; served = served })
IsCountedTo-decided side p ask served before tick counted later =
    let d : Decision = decide side.home side.locks p ask in
    let home : IsHomeTo (side.home.greatest + 1) (1 + before + 1) d.home = decided-home side.home (1 + before) counted.stamps side.locks p ask in
    let given : d.locks.last ≤ side.locks.last + 1 = decided-table side.locks side.home p ask in
    let grants : side.locks.last ≤ before = counted.grants in
    let counters : side.home.greatest ≤ VOLUME_ROOM + before = counted.counters in
    let made : d.home.greatest ≤ side.home.greatest + 1 = home.counters in
    record {
      grants = omega arith;
      counters = omega arith;
      stamps = AreStampedTo-weaker (1 + before + 1) (1 + tick) d.home.objects (omega arith) home.stamps;
    }

-- a home side that has counted to a tick has to each later one
pub IsCountedTo-later : (side : HomeSide) (before tick : ℕ) → IsCountedTo before side → before < tick → IsCountedTo tick side
IsCountedTo-later side before tick counted later =
    let grants : side.locks.last ≤ before = counted.grants in
    let counters : side.home.greatest ≤ VOLUME_ROOM + before = counted.counters in
    record {
      grants = omega arith;
      counters = omega arith;
      stamps = AreStampedTo-weaker (1 + before) (1 + tick) side.home.objects (omega arith) counted.stamps;
    }

-- a server at a later tick
pub IsServer-later : (server : ServerState) (tick : ℕ) → IsServer server → server.tick < tick → IsServer (record { side = server.side; tick = tick; wire = server.wire })
IsServer-later server tick keeps later = record { side = keeps.side; counted = IsCountedTo-later server.side server.tick tick keeps.counted later; wire = keeps.wire; within = keeps.within }
