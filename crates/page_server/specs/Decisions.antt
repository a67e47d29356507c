-- What a home decides on a request: a function for each kind, test by test.
use Rattle.std.specs.Prelude.{ℕ, ◌+◌, ◌==◌, nat_lt, nat_le, Bool, true, false, ◌&&◌, if◌then◌else◌, List, length, take, Option, Some, None, is_some, is_none}
use Rattle.std.specs.List.{list_any}
use Rattle.uid_names.specs.Names.{ProcName, ObjectName}
use Rattle.uid_names.specs.Rows.{rows_after}
use Rattle.uid_names.specs.declared.lock_row.LockRow.{LockRow}
use Rattle.uid_names.specs.declared.mode.Mode.{Mode}
use Rattle.uid_names.specs.Modes.{mode_removes}
use Rattle.uid_names.specs.declared.mode.ObjKind.{ObjKind}
use Rattle.page_store.specs.Volumes.{page_of}
use Rattle.object_store.specs.declared.attributes.Attr.{Attr}
use Rattle.uid_names.specs.declared.limits.TheConstants.{VOLUME_ROOM}
use Rattle.object_store.specs.Objects.{rooms}
use Rattle.object_store.specs.Rules.{has_page, has_length, stamp_of}
use Rattle.object_store.specs.HomeStates.{HomeState, attr_of, after_make, after_remove, after_page, after_length}
use Rattle.lock_manager.specs.declared.grants.Grant.{Grant}
use Rattle.uid_names.specs.declared.limits.TheConstants.{LISTED_ROWS}
use Rattle.lock_manager.specs.Grants.{rows_of, grant_of, conflict_of, is_writing}
use Rattle.lock_manager.specs.Tables.{Table, with_grant, without_grant, without_grants_on}
use Rattle.ring_messages.specs.declared.body.Body.{Body}
use Rattle.ring_messages.specs.declared.body.Body.TheVariants as bodies
use Rattle.ring_messages.specs.Bodies.{Ask, Answer}

-- an answer, and the objects and the lock table afterwards
pub record Decision : Type 0 where
  pub answer : Answer
  pub home : HomeState
  pub locks : Table

-- an answer, and the objects afterwards
pub record HomeDecision : Type 0 where
  pub answer : Answer
  pub home : HomeState

-- an answer, and the lock table afterwards
pub record LockDecision : Type 0 where
  pub answer : Answer
  pub locks : Table

-- PageIn: the page is there
abbrev pub page_answer : Bool → ℕ → List ℕ → Answer
page_answer false stamp bytes = Answer.NoObject
page_answer true stamp bytes = Answer.Page stamp bytes

abbrev pub page_in : HomeState → ObjectName → ℕ → Answer
page_in home u page = page_answer (has_page (attr_of home u) page) (stamp_of (attr_of home u)) (page_of home.pages u.counter page)

-- PageOut and AttrOut: the object is there, with room for what is written; then, the node holds the grant; then, the
-- base is the stamp
abbrev pub write_answer : Bool → Bool → Bool → ℕ → Answer
write_answer false granted current stamp = Answer.NoObject
write_answer true false current stamp = Answer.NoGrant
write_answer true true false stamp = Answer.Stale stamp
write_answer true true true stamp = Answer.Stored (stamp + 1)

abbrev pub write_by : Bool → Bool → Bool → ℕ → HomeState → HomeState → HomeDecision
write_by there granted current stamp home after =
    record { answer = write_answer there granted current stamp; home = if there && (granted && current) then after else home }

abbrev pub page_out : HomeState → Bool → ObjectName → ℕ → ℕ → List ℕ → HomeDecision
page_out home granted u page base bytes =
    let attr = attr_of home u in
    write_by (has_page attr page) granted (base == stamp_of attr) (stamp_of attr) home (after_page home u.counter page bytes)

abbrev pub attr_out : HomeState → Bool → ObjectName → ℕ → ℕ → HomeDecision
attr_out home granted u length base =
    let attr = attr_of home u in
    write_by (has_length attr length) granted (base == stamp_of attr) (stamp_of attr) home (after_length home u.counter length)

-- whether a process of the node holds the object in a mode that writes, under the grant of this number
abbrev pub is_granted : Table → ℕ → ObjectName → ℕ → Bool
is_granted locks grant u node = list_any (is_writing grant u node) locks.grants

-- Lock: the object is there; then, no other process holds it in conflict
abbrev pub lock_answer : Option Attr → Option (ProcName × Mode) → ℕ → Answer
lock_answer None conflict grant = Answer.NoObject
lock_answer (Some attr) (Some (holder, held)) grant = Answer.Conflict holder held
lock_answer (Some attr) None grant = Answer.Granted grant attr.stamp attr.kind attr.room attr.length

abbrev pub lock_by : Option Attr → Option (ProcName × Mode) → LockRow → Table → LockDecision
lock_by attr conflict row locks =
    record { answer = lock_answer attr conflict (locks.last + 1); locks = if is_some attr && is_none conflict then with_grant row locks else locks }

abbrev pub lock : Table → Option Attr → ProcName → ObjectName → Mode → LockDecision
lock locks attr p u mode = lock_by attr (conflict_of p u mode locks.grants) (record { uid = u; proc = p; mode = mode }) locks

-- Unlock
abbrev pub unlock : Table → ProcName → ObjectName → LockDecision
unlock locks p u = record { answer = Answer.Done; locks = without_grant p u locks }

-- Remove: the object is there; then, the process holds it in a mode that removes
abbrev pub remove_answer : Bool → Bool → Answer
remove_answer false held = Answer.NoObject
remove_answer true false = Answer.NoGrant
remove_answer true true = Answer.Done

abbrev pub remove_by : Bool → Bool → ObjectName → HomeState → Table → Decision
remove_by there held u home locks =
    record {
      answer = remove_answer there held;
      home = if there && held then after_remove home u.counter else home;
      locks = if there && held then without_grants_on u locks else locks;
    }

-- whether what a process holds on an object, if anything, lets it remove the object
abbrev pub may_remove : Option Grant → Bool
may_remove None = false
may_remove (Some g) = mode_removes g.row.mode

abbrev pub remove : HomeState → Table → ProcName → ObjectName → Decision
remove home locks p u = remove_by (is_some (attr_of home u)) (may_remove (grant_of p u locks.grants)) u home locks

-- Make: the room fits the volume
abbrev pub make_answer : Bool → ObjectName → Answer
make_answer false uid = Answer.NoSpace
make_answer true uid = Answer.Made uid

abbrev pub make_by : Bool → HomeState → ObjKind → ℕ → HomeDecision
make_by fits home kind room =
    record {
      answer = make_answer fits (record { counter = home.greatest + 1; home = home.node });
      home = if fits then after_make home kind room else home;
    }

abbrev pub make : HomeState → ObjKind → ℕ → HomeDecision
make home kind room = make_by (nat_le (rooms home.objects + room) VOLUME_ROOM) home kind room

-- List: the first rows behind the one that is named, and whether more follow
abbrev pub list_answer : List LockRow → Answer
list_answer rows = Answer.Listed (take LISTED_ROWS rows) (nat_lt LISTED_ROWS (length rows))

abbrev pub list_rows : Table → Option (ObjectName × ProcName) → Answer
list_rows locks after = list_answer (rows_after after (rows_of locks.grants))

-- what a request leaves that changes the objects alone, the lock table alone, or nothing
abbrev pub on_home : Table → HomeDecision → Decision
on_home locks decision = record { answer = decision.answer; home = decision.home; locks = locks }

abbrev pub on_locks : HomeState → LockDecision → Decision
on_locks home decision = record { answer = decision.answer; home = home; locks = decision.locks }

abbrev pub on_nothing : HomeState → Table → Answer → Decision
on_nothing home locks answer = record { answer = answer; home = home; locks = locks }

-- a body that asks to write a page or a length
abbrev pub is_write : Body → Bool
is_write (bodies.PageOut u page grant base bytes) = true
is_write (bodies.AttrOut u length grant base) = true
is_write _ = false

-- the table of requests
abbrev pub decide : HomeState → Table → ProcName → Ask → Decision
decide home locks p (Ask.PageIn u page) = on_nothing home locks (page_in home u page)
decide home locks p (Ask.PageOut u page grant base bytes) = on_home locks (page_out home (is_granted locks grant u p.node) u page base bytes)
decide home locks p (Ask.AttrOut u length grant base) = on_home locks (attr_out home (is_granted locks grant u p.node) u length base)
decide home locks p (Ask.Lock u mode) = on_locks home (lock locks (attr_of home u) p u mode)
decide home locks p (Ask.Unlock u) = on_locks home (unlock locks p u)
decide home locks p (Ask.Remove u) = remove home locks p u
decide home locks p (Ask.Make kind room) = on_home locks (make home kind room)
decide home locks p (Ask.ListLocks after) = on_nothing home locks (list_rows locks after)
