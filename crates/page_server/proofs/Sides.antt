-- Whatever is asked, a home side stays one.
use Rattle.std.proofs.Common.{◌≡◌, ℕ, ◌+◌, ◌*◌, ◌<◌, ◌≤◌, List, refl, subst, arith}
use Rattle.std.specs.Prelude.{Bool, true, false, ◌&&◌, if◌then◌else◌, nat_le, All, Option, Some, None, is_some, is_none}
use Rattle.std.proofs.lemmas.Bool.{eq-eqb, ltb-true, leb-true}
use Rattle.uid_names.specs.Names.{ProcName, ObjectName}
use Rattle.uid_names.specs.declared.lock_row.LockRow.{LockRow}
use Rattle.uid_names.specs.declared.mode.Mode.{Mode}
use Rattle.uid_names.specs.declared.mode.ObjKind.{ObjKind}
use Rattle.uid_names.specs.declared.limits.TheConstants.{VOLUME_ROOM, PAGE_BYTES}
use Rattle.page_store.specs.Volumes.{page_of}
use Rattle.object_store.specs.declared.attributes.Attr.{Attr}
use Rattle.object_store.specs.Objects.{attr_at, room_of, rooms}
use Rattle.object_store.specs.HomeStates.{HomeState, attr_of, after_make, after_page, after_length}
use Rattle.object_store.specs.Kept.{IsAttr, IsHome}
use Rattle.object_store.specs.Rules.{has_page, has_length, stamp_of}
use Rattle.object_store.proofs.HomeLemmas.{IsHome-after_make, IsHome-after_remove, IsHome-after_page, IsHome-after_length, IsAttr-attr_of}
use Rattle.lock_manager.specs.Grants.{conflict_of, grant_of}
use Rattle.lock_manager.specs.Tables.{Table, IsTable, with_grant}
use Rattle.lock_manager.proofs.Keeps.{IsTable-none, IsTable-with_grant, IsTable-without_grant, IsTable-without_grants_on}
use Rattle.call_once.specs.declared.served.Looked.{Looked}
use Rattle.call_once.specs.declared.served.Looked.TheVariants.{Fresh, Again, Old}
use Rattle.call_once.specs.Calls.{Call, call_of, body_in, last_of, looked, with_call}
use Rattle.call_once.proofs.KeptCalls.{with_call-all, call_of-all}
use Rattle.std.proofs.lemmas.List.Elements.{All-nil}
use Rattle.ring_messages.specs.Bodies.{Ask, Answer, body_of_ask, body_of_answer}
use Rattle.ring_messages.specs.Ranges.{IsBody}
use Rattle.page_server.specs.Answers.{IsCarried}
use Rattle.page_server.specs.Decisions.{Decision, decide, page_answer, write_answer, lock_answer, remove_answer, make_answer, may_remove}
use Rattle.page_server.specs.Serving.{HomeSide, first_side, serve_as, serve_of}
use Rattle.page_server.specs.ServerStates.{IsSide}
use Rattle.page_server.proofs.Bounds.{either}
use Rattle.page_server.proofs.Listing.{listed}

-- ---- the objects

-- an object of this home is among its rows
attr_here : (home : HomeState) (u : ObjectName) → u.home ≡ home.node → attr_of home u ≡ attr_at home.objects u.counter
attr_here home u here = rw (eq-eqb u.home home.node here) refl

page-below : (attr : Option Attr) (page : ℕ) → has_page attr page ≡ true → page < room_of attr
page-below None page there = absurd cc
page-below (Some attr) page there = ltb-true page attr.room there

length-below : (attr : Option Attr) (length : ℕ) → has_length attr length ≡ true → length ≤ PAGE_BYTES * room_of attr
length-below None length there = absurd cc
length-below (Some attr) length there = leb-true length (PAGE_BYTES * attr.room) there

module _ (home : HomeState) (kept : IsHome home) where
  -- a write that is taken or not, where what is written is there
  wrote : (there rest : Bool) (after : HomeState) → (there ≡ true → IsHome after) → IsHome (if there && rest then after else home)
  wrote true rest after is = either IsHome rest (is refl) kept
  wrote false rest after is = kept

  make-kept : (kind : ObjKind) (room : ℕ) (fits : Bool) → nat_le (rooms home.objects + room) VOLUME_ROOM ≡ fits → IsBody home.node (body_of_ask (Ask.Make kind room))
      → IsHome (if fits then after_make home kind room else home)
  make-kept kind room true fits range = IsHome-after_make home kind room kept range.0 range.1 (leb-true _ _ fits)
  make-kept kind room false fits range = kept

  pub decided-home : (locks : Table) (p : ProcName) (ask : Ask) → IsBody home.node (body_of_ask ask) → IsHome (decide home locks p ask).home
  decided-home locks p (Ask.PageIn u page) range = kept
  decided-home locks p (Ask.PageOut u page grant base bytes) range =
      wrote (has_page (attr_of home u) page) _ (after_page home u.counter page bytes)
      (λ there. IsHome-after_page home u.counter page bytes kept (rw (attr_here home u range.0) at (page-below (attr_of home u) page there)) range.4)
  decided-home locks p (Ask.AttrOut u length grant base) range =
      wrote (has_length (attr_of home u) length) _ (after_length home u.counter length)
      (λ there. IsHome-after_length home u.counter length kept (rw (attr_here home u range.0) at (length-below (attr_of home u) length there)))
  decided-home locks p (Ask.Lock u mode) range = kept
  decided-home locks p (Ask.Unlock u) range = kept
  decided-home locks p (Ask.Remove u) range = either IsHome _ (IsHome-after_remove home u.counter kept) kept
  decided-home locks p (Ask.Make kind room) range = make-kept kind room (nat_le (rooms home.objects + room) VOLUME_ROOM) refl range
  decided-home locks p (Ask.ListLocks after) range = kept

-- ---- the locks

module _ (locks : Table) (kept : IsTable locks) where
  lock-kept : (attr : Option Attr) (row : LockRow) (conflict : Option (ProcName × Mode)) → conflict_of row.proc row.uid row.mode locks.grants ≡ conflict
      → IsTable (if is_some attr && is_none conflict then with_grant row locks else locks)
  lock-kept None row conflict is = kept
  lock-kept (Some attr) row (Some held) is = kept
  lock-kept (Some attr) row None is = IsTable-with_grant row locks kept is

  pub decided-table : (home : HomeState) (p : ProcName) (ask : Ask) → IsTable (decide home locks p ask).locks
  decided-table home p (Ask.PageIn u page) = kept
  decided-table home p (Ask.PageOut u page grant base bytes) = kept
  decided-table home p (Ask.AttrOut u length grant base) = kept
  decided-table home p (Ask.Lock u mode) = lock-kept (attr_of home u) (record { uid = u; proc = p; mode = mode }) (conflict_of p u mode locks.grants) refl
  decided-table home p (Ask.Unlock u) = IsTable-without_grant p u locks kept
  decided-table home p (Ask.Remove u) = either IsTable _ (IsTable-without_grants_on u locks kept) kept
  decided-table home p (Ask.Make kind room) = kept
  decided-table home p (Ask.ListLocks after) = kept

-- ---- the answers

-- the stamp of what is there is from 1
stamp-low : (home : HomeState) (u : ObjectName) (attr : Option Attr) → IsHome home → attr_of home u ≡ attr → is_some attr ≡ true → 1 ≤ stamp_of attr
stamp-low home u None kept is there = absurd cc
stamp-low home u (Some attr) kept is there = (IsAttr-attr_of home u attr kept is).stamp_low

pub page-there : (attr : Option Attr) (page : ℕ) → has_page attr page ≡ true → is_some attr ≡ true
page-there None page there = absurd cc
page-there (Some attr) page there = refl

pub length-there : (attr : Option Attr) (length : ℕ) → has_length attr length ≡ true → is_some attr ≡ true
length-there None length there = absurd cc
length-there (Some attr) length there = refl

page-carried : (there : Bool) (stamp : ℕ) (bytes : List ℕ) → (there ≡ true → 1 ≤ stamp) → ((to : ℕ) → IsBody to (body_of_answer (Answer.Page 1 bytes))) → IsCarried (page_answer there stamp bytes)
page-carried false stamp bytes low whole to = tt
page-carried true stamp bytes low whole to = (low refl, (whole to).1)

write-carried : (there granted current : Bool) (stamp : ℕ) → (there ≡ true → 1 ≤ stamp) → IsCarried (write_answer there granted current stamp)
write-carried false granted current stamp low to = tt
write-carried true false current stamp low to = tt
write-carried true true false stamp low to = low refl
write-carried true true true stamp low to = omega arith

lock-carried : (attr : Option Attr) (conflict : Option (ProcName × Mode)) (last : ℕ) → ((a : Attr) → attr ≡ Some a → IsAttr a) → IsCarried (lock_answer attr conflict (last + 1))
lock-carried None conflict last ranges to = tt
lock-carried (Some attr) (Some held) last ranges to = tt
lock-carried (Some attr) None last ranges to =
    let is : IsAttr attr = ranges attr refl in
    (omega arith, is.stamp_low, (is.room_low, is.room_high), omega (arith, is.length_high, is.room_high))

remove-carried : (there held : Bool) → IsCarried (remove_answer there held)
remove-carried false held to = tt
remove-carried true false to = tt
remove-carried true true to = tt

make-carried : (fits : Bool) (u : ObjectName) → IsCarried (make_answer fits u)
make-carried false u to = tt
make-carried true u to = tt

module _ (home : HomeState) (locks : Table) (kept : IsHome home) (table : IsTable locks) where
  low : (u : ObjectName) → is_some (attr_of home u) ≡ true → 1 ≤ stamp_of (attr_of home u)
  low u = stamp-low home u (attr_of home u) kept refl

  pub decided-answer : (p : ProcName) (ask : Ask) → IsCarried (decide home locks p ask).answer
  decided-answer p (Ask.PageIn u page) =
      page-carried (has_page (attr_of home u) page) (stamp_of (attr_of home u)) (page_of home.pages u.counter page)
      (λ there. low u (page-there (attr_of home u) page there)) (λ to. (omega arith, kept.whole u.counter page))
  decided-answer p (Ask.PageOut u page grant base bytes) =
      write-carried (has_page (attr_of home u) page) _ _ (stamp_of (attr_of home u)) (λ there. low u (page-there (attr_of home u) page there))
  decided-answer p (Ask.AttrOut u length grant base) =
      write-carried (has_length (attr_of home u) length) _ _ (stamp_of (attr_of home u)) (λ there. low u (length-there (attr_of home u) length there))
  decided-answer p (Ask.Lock u mode) =
      lock-carried (attr_of home u) (conflict_of p u mode locks.grants) locks.last (λ attr is. IsAttr-attr_of home u attr kept is)
  decided-answer p (Ask.Unlock u) = λ to. tt
  decided-answer p (Ask.Remove u) = remove-carried (is_some (attr_of home u)) (may_remove (grant_of p u locks.grants))
  decided-answer p (Ask.Make kind room) = make-carried (nat_le (rooms home.objects + room) VOLUME_ROOM) _
  decided-answer p (Ask.ListLocks after) = λ to. listed after locks.grants table.rising

-- ---- the side

pub IsSide-first : (home : HomeState) → IsHome home → IsSide (first_side home)
IsSide-first home kept = record { home = kept; table = IsTable-none; kept = All-nil (λ (call : Call Answer). IsCarried call.body) }

-- a side that decided
pub IsSide-decided : (side : HomeSide) (p : ProcName) (number : ℕ) (ask : Ask) → IsSide side → IsBody side.home.node (body_of_ask ask)
    → let d = decide side.home side.locks p ask in
    IsSide (record { home = d.home; locks = d.locks; served = with_call (record { proc = p; number = number; body = d.answer }) side.served })
IsSide-decided side p number ask kept range =
    let d : Decision = decide side.home side.locks p ask in
    let call : Call Answer = record { proc = p; number = number; body = d.answer } in
    record {
      home = decided-home side.home kept.home side.locks p ask range;
      table = decided-table side.locks kept.table side.home p ask;
      kept = with_call-all (λ (call : Call Answer). IsCarried call.body) call side.served (decided-answer side.home side.locks kept.home kept.table p ask) kept.kept;
    }

pub IsSide-served : (side : HomeSide) (p : ProcName) (number : ℕ) (ask : Ask) → IsSide side → IsBody side.home.node (body_of_ask ask) → IsSide (serve_of side p number ask).side
IsSide-served side p number ask kept range = by (looked number (last_of p side.served))
  where
    by : (l : Looked) → IsSide (serve_as l side p number ask).side
    by Fresh = IsSide-decided side p number ask kept range
    by Again = kept
    by Old = kept

-- an answer that was kept
kept-carried : (calls : List (Call Answer)) (p : ProcName) (found : Option (Call Answer)) (answer : Answer) → All (λ (call : Call Answer). IsCarried call.body) calls
    → call_of p calls ≡ found → body_in found ≡ Some answer → IsCarried answer
kept-carried calls p None answer all is told = absurd cc
kept-carried calls p (Some call) answer all is told =
    let same : call.body ≡ answer = cc in
    subst IsCarried same (call_of-all (λ (call : Call Answer). IsCarried call.body) calls p call all is)

pub told-carried : (side : HomeSide) (p : ProcName) (number : ℕ) (ask : Ask) (answer : Answer) → IsSide side → (serve_of side p number ask).answer ≡ Some answer → IsCarried answer
told-carried side p number ask answer kept = by (looked number (last_of p side.served))
  where
    by : (l : Looked) → (serve_as l side p number ask).answer ≡ Some answer → IsCarried answer
    by Fresh told =
        let same : (decide side.home side.locks p ask).answer ≡ answer = cc in
        subst IsCarried same (decided-answer side.home side.locks kept.home kept.table p ask)
    by Again told = kept-carried side.served p (call_of p side.served) answer kept.kept refl told
    by Old told = absurd cc
