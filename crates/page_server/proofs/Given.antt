-- Counters and grants are given once.
use Rattle.std.proofs.Common.{◌≡◌, ℕ, ◌+◌, ◌<◌, ◌≤◌, List, ap, refl, subst, arith}
use Rattle.std.specs.Prelude.{Bool, true, false, ◌&&◌, if◌then◌else◌, nat_le, Option, Some, None, is_some, is_none}
use Rattle.uid_names.specs.Names.{ProcName, ObjectName}
use Rattle.uid_names.specs.declared.mode.Mode.{Mode}
use Rattle.uid_names.specs.declared.mode.ObjKind.{ObjKind}
use Rattle.object_store.specs.declared.attributes.Attr.{Attr}
use Rattle.uid_names.specs.declared.limits.TheConstants.{VOLUME_ROOM}
use Rattle.object_store.specs.Objects.{rooms}
use Rattle.object_store.specs.HomeStates.{HomeState, attr_of, after_make, after_remove, after_page, after_length}
use Rattle.lock_manager.specs.Grants.{conflict_of}
use Rattle.lock_manager.specs.Tables.{Table, with_grant, without_grants_on}
use Rattle.ring_messages.specs.Bodies.{Ask, Answer}
use Rattle.page_server.specs.Decisions.{decide, page_answer, write_answer, lock_answer, remove_answer, make_answer}

-- a number that an answer gives, 0 for none
abbrev counter_in : Answer → ℕ
counter_in (Answer.Made u) = u.counter
counter_in _ = 0

abbrev grant_in : Answer → ℕ
grant_in (Answer.Granted grant stamp kind room length) = grant
grant_in _ = 0

-- whether an answer gives one
abbrev gives_counter : Answer → Bool
gives_counter (Answer.Made u) = true
gives_counter _ = false

abbrev gives_grant : Answer → Bool
gives_grant (Answer.Granted grant stamp kind room length) = true
gives_grant _ = false

-- answers to page-ins and writes give neither
page-gives : (there : Bool) (stamp : ℕ) (bytes : List ℕ) → (gives_counter (page_answer there stamp bytes) ≡ false) × (gives_grant (page_answer there stamp bytes) ≡ false)
page-gives false stamp bytes = (refl, refl)
page-gives true stamp bytes = (refl, refl)

write-gives : (there granted current : Bool) (stamp : ℕ) → (gives_counter (write_answer there granted current stamp) ≡ false) × (gives_grant (write_answer there granted current stamp) ≡ false)
write-gives false granted current stamp = (refl, refl)
write-gives true false current stamp = (refl, refl)
write-gives true true false stamp = (refl, refl)
write-gives true true true stamp = (refl, refl)

lock-gives : (attr : Option Attr) (conflict : Option (ProcName × Mode)) (grant : ℕ) → gives_counter (lock_answer attr conflict grant) ≡ false
lock-gives None conflict grant = refl
lock-gives (Some attr) (Some (holder, held)) grant = refl
lock-gives (Some attr) None grant = refl

remove-gives : (there held : Bool) → (gives_counter (remove_answer there held) ≡ false) × (gives_grant (remove_answer there held) ≡ false)
remove-gives false held = (refl, refl)
remove-gives true false = (refl, refl)
remove-gives true true = (refl, refl)

make-gives : (fits : Bool) (u : ObjectName) → gives_grant (make_answer fits u) ≡ false
make-gives false u = refl
make-gives true u = refl

-- an answer that gives none gives no counter above all
none-given : (answer : Answer) (low high : ℕ) → gives_counter answer ≡ false → gives_counter answer ≡ true → (low < counter_in answer) × (counter_in answer ≤ high)
none-given answer low high neither gives = absurd cc

none-granted : (answer : Answer) (low high : ℕ) → gives_grant answer ≡ false → gives_grant answer ≡ true → (low < grant_in answer) × (grant_in answer ≤ high)
none-granted answer low high neither gives = absurd cc

make-given : (home : HomeState) (kind : ObjKind) (room : ℕ) (fits : Bool)
    → let answer = make_answer fits (record { counter = home.greatest + 1; home = home.node }) in
    gives_counter answer ≡ true → (home.greatest < counter_in answer) × (counter_in answer ≤ (if fits then after_make home kind room else home).greatest)
make-given home kind room true gives = (omega arith, omega arith)
make-given home kind room false gives = absurd cc

counter-given : (home : HomeState) (locks : Table) (p : ProcName) (ask : Ask) → gives_counter (decide home locks p ask).answer ≡ true
    → (home.greatest < counter_in (decide home locks p ask).answer) × (counter_in (decide home locks p ask).answer ≤ (decide home locks p ask).home.greatest)
counter-given home locks p (Ask.PageIn u page) gives = none-given _ _ _ (page-gives _ _ _).0 gives
counter-given home locks p (Ask.PageOut u page grant base bytes) gives = none-given _ _ _ (write-gives _ _ _ _).0 gives
counter-given home locks p (Ask.AttrOut u length grant base) gives = none-given _ _ _ (write-gives _ _ _ _).0 gives
counter-given home locks p (Ask.Lock u mode) gives = none-given _ _ _ (lock-gives _ _ _) gives
counter-given home locks p (Ask.Unlock u) gives = absurd cc
counter-given home locks p (Ask.Remove u) gives = none-given _ _ _ (remove-gives _ _).0 gives
counter-given home locks p (Ask.Make kind room) gives = make-given home kind room (nat_le (rooms home.objects + room) VOLUME_ROOM) gives
counter-given home locks p (Ask.ListLocks after) gives = absurd cc

grant-given : (home : HomeState) (locks : Table) (p : ProcName) (ask : Ask) → gives_grant (decide home locks p ask).answer ≡ true
    → (locks.last < grant_in (decide home locks p ask).answer) × (grant_in (decide home locks p ask).answer ≤ (decide home locks p ask).locks.last)
grant-given home locks p (Ask.PageIn u page) gives = none-granted _ _ _ (page-gives _ _ _).1 gives
grant-given home locks p (Ask.PageOut u page grant base bytes) gives = none-granted _ _ _ (write-gives _ _ _ _).1 gives
grant-given home locks p (Ask.AttrOut u length grant base) gives = none-granted _ _ _ (write-gives _ _ _ _).1 gives
grant-given home locks p (Ask.Lock u mode) gives = by (attr_of home u) (conflict_of p u mode locks.grants) gives
  where
    by : (attr : Option Attr) (conflict : Option (ProcName × Mode)) → gives_grant (lock_answer attr conflict (locks.last + 1)) ≡ true
        → (locks.last < grant_in (lock_answer attr conflict (locks.last + 1)))
        × (grant_in (lock_answer attr conflict (locks.last + 1))
        ≤ (if is_some attr && is_none conflict then with_grant (record { uid = u; proc = p; mode = mode }) locks else locks).last)
    by None conflict gives = absurd cc
    by (Some attr) (Some (holder, held)) gives = absurd cc
    by (Some attr) None gives = (omega arith, omega arith)
grant-given home locks p (Ask.Unlock u) gives = absurd cc
grant-given home locks p (Ask.Remove u) gives = none-granted _ _ _ (remove-gives _ _).1 gives
grant-given home locks p (Ask.Make kind room) gives = none-granted _ _ _ (make-gives _ _) gives
grant-given home locks p (Ask.ListLocks after) gives = absurd cc

pub made-once : (home : HomeState) (locks : Table) (p : ProcName) (ask : Ask) (u : ObjectName) → (decide home locks p ask).answer ≡ Answer.Made u
    → (home.greatest < u.counter) × (u.counter ≤ (decide home locks p ask).home.greatest)
made-once home locks p ask u is =
    subst (λ (a : Answer). (home.greatest < counter_in a) × (counter_in a ≤ (decide home locks p ask).home.greatest)) is
    (counter-given home locks p ask (ap gives_counter is))

pub granted-once : (home : HomeState) (locks : Table) (p : ProcName) (ask : Ask) (grant stamp : ℕ) (kind : ObjKind) (room length : ℕ)
    → (decide home locks p ask).answer ≡ Answer.Granted grant stamp kind room length → (locks.last < grant) × (grant ≤ (decide home locks p ask).locks.last)
granted-once home locks p ask grant stamp kind room length is =
    subst (λ (a : Answer). (locks.last < grant_in a) × (grant_in a ≤ (decide home locks p ask).locks.last)) is
    (grant-given home locks p ask (ap gives_grant is))

greater-of : {X : Type 0} (number : X → ℕ) (b : Bool) (new old : X) → number old ≤ number new → number old ≤ number (if b then new else old)
greater-of number true new old le = le
greater-of number false new old le = omega arith

pub greatest-rises : (home : HomeState) (locks : Table) (p : ProcName) (ask : Ask) → home.greatest ≤ (decide home locks p ask).home.greatest
greatest-rises home locks p (Ask.PageIn u page) = omega arith
greatest-rises home locks p (Ask.PageOut u page grant base bytes) = greater-of (λ (h : HomeState). h.greatest) _ (after_page home u.counter page bytes) home (omega arith)
greatest-rises home locks p (Ask.AttrOut u length grant base) = greater-of (λ (h : HomeState). h.greatest) _ (after_length home u.counter length) home (omega arith)
greatest-rises home locks p (Ask.Lock u mode) = omega arith
greatest-rises home locks p (Ask.Unlock u) = omega arith
greatest-rises home locks p (Ask.Remove u) = greater-of (λ (h : HomeState). h.greatest) _ (after_remove home u.counter) home (omega arith)
greatest-rises home locks p (Ask.Make kind room) = greater-of (λ (h : HomeState). h.greatest) _ (after_make home kind room) home (omega arith)
greatest-rises home locks p (Ask.ListLocks after) = omega arith

pub last-rises : (home : HomeState) (locks : Table) (p : ProcName) (ask : Ask) → locks.last ≤ (decide home locks p ask).locks.last
last-rises home locks p (Ask.PageIn u page) = omega arith
last-rises home locks p (Ask.PageOut u page grant base bytes) = omega arith
last-rises home locks p (Ask.AttrOut u length grant base) = omega arith
last-rises home locks p (Ask.Lock u mode) = greater-of (λ (t : Table). t.last) _ (with_grant (record { uid = u; proc = p; mode = mode }) locks) locks (omega arith)
last-rises home locks p (Ask.Unlock u) = omega arith
last-rises home locks p (Ask.Remove u) = greater-of (λ (t : Table). t.last) _ (without_grants_on u locks) locks (omega arith)
last-rises home locks p (Ask.Make kind room) = omega arith
last-rises home locks p (Ask.ListLocks after) = omega arith
