-- A write is taken exactly on its base, and an old number changes nothing.
use Rattle.std.proofs.Common.{◌≡◌, ℕ, ◌+◌, ◌*◌, ◌<◌, ◌≤◌, ◌==◌, List, ap, sym, ◌∙◌, refl, arith}
use Rattle.std.specs.Prelude.{Bool, true, false, ◌&&◌, if◌then◌else◌, Option, Some, None}
use Rattle.std.specs.Option.{option_map}
use Rattle.std.proofs.lemmas.Bool.{eqb-true, eq-eqb, lt-ltb, le-leb}
use Rattle.std.proofs.lemmas.Bool.Decides.{nat_tests}
use Rattle.uid_names.specs.Names.{ProcName, ObjectName}
use Rattle.uid_names.specs.declared.limits.TheConstants.{PAGE_BYTES}
use Rattle.object_store.specs.declared.attributes.Attr.{Attr}
use Rattle.object_store.specs.Objects.{attr_at, stamped, resized, with_change}
use Rattle.object_store.specs.HomeStates.{HomeState, attr_of, after_page, after_length}
use Rattle.object_store.specs.Rules.{has_page, has_length, stamp_of}
use Rattle.object_store.proofs.RowLemmas.{attr_at-with_change}
use Rattle.lock_manager.specs.Tables.{Table}
use Rattle.call_once.specs.declared.served.Looked.{Looked}
use Rattle.call_once.specs.declared.served.Looked.TheVariants.{Old}
use Rattle.call_once.specs.Calls.{last_of, looked}
use Rattle.ring_messages.specs.Bodies.{Ask, Answer}
use Rattle.page_server.specs.Decisions.{decide, write_answer, is_granted}
use Rattle.page_server.specs.Outcomes.{write_in}
use Rattle.page_server.specs.Serving.{HomeSide, Serving, serve_as, serve_of}

-- ---- a write that is taken

-- all tests passed
write-taken : (there granted current : Bool) (stamp new : ℕ) → write_answer there granted current stamp ≡ Answer.Stored new
    → (there ≡ true) × (granted ≡ true) × (current ≡ true) × (new ≡ stamp + 1)
write-taken false granted current stamp new is = absurd cc
write-taken true false current stamp new is = absurd cc
write-taken true true false stamp new is = absurd cc
write-taken true true true stamp new is = let same : stamp + 1 ≡ new = cc in (refl, refl, refl, sym same)

-- the attributes of what was written
written-attr : (change : Attr → Attr) (home after : HomeState) (u : ObjectName) (before : Attr) → after.node ≡ home.node → after.objects ≡ with_change change u.counter home.objects
    → attr_of home u ≡ Some before → attr_of after u ≡ Some (change before)
written-attr change home after u before node rows was = rw (node, rows) (by (u.home == home.node) was)
  where
    by : (b : Bool) → (if b then attr_at home.objects u.counter else None) ≡ Some before
        → (if b then attr_at (with_change change u.counter home.objects) u.counter else None) ≡ Some (change before)
    by true was = attr_at-with_change change u.counter u.counter home.objects ∙ rw (was, eq-eqb u.counter u.counter refl) refl
    by false was = absurd cc

-- what a write left
module _ (change : Attr → Attr) (raises : (attr : Attr) → (change attr).stamp ≡ attr.stamp + 1) (home after : HomeState) (u : ObjectName) (before : Attr)
    (node : after.node ≡ home.node) (rows : after.objects ≡ with_change change u.counter home.objects) (was : attr_of home u ≡ Some before) where
  raised : (there granted : Bool) (base stamp : ℕ) → write_answer there granted (base == stamp_of (attr_of home u)) (stamp_of (attr_of home u)) ≡ Answer.Stored stamp
      → (base ≡ before.stamp) × (stamp ≡ before.stamp + 1)
      × (option_map (λ (a : Attr). a.stamp) (attr_of (if there && (granted && (base == stamp_of (attr_of home u))) then after else home) u) ≡ Some stamp)
  raised there granted base stamp told =
      let t = write-taken there granted (base == stamp_of (attr_of home u)) (stamp_of (attr_of home u)) stamp told in
      let old : stamp_of (attr_of home u) ≡ before.stamp = ap stamp_of was in
      let on : base ≡ before.stamp = eqb-true base (stamp_of (attr_of home u)) t.2 ∙ old in
      let new : stamp ≡ before.stamp + 1 = t.3 ∙ ap (λ (n : ℕ). n + 1) old in
      let now : attr_of after u ≡ Some (change before) = written-attr change home after u before node rows was in
      (on, new, rw (t.0, t.1, t.2) (ap (option_map (λ (a : Attr). a.stamp)) now ∙ ap (λ (n : ℕ). Some n) (raises before ∙ sym new)))

pub taken : (home : HomeState) (locks : Table) (p : ProcName) (ask : Ask) (u : ObjectName) (base stamp : ℕ) (before : Attr) → write_in ask ≡ Some (u, base) → attr_of home u ≡ Some before
    → (decide home locks p ask).answer ≡ Answer.Stored stamp
    → (base ≡ before.stamp) × (stamp ≡ before.stamp + 1) × (option_map (λ (a : Attr). a.stamp) (attr_of (decide home locks p ask).home u) ≡ Some stamp)
taken home locks p (Ask.PageOut v page grant b bytes) u base stamp before writes was told =
    let pair : (v, b) ≡ (u, base) = cc in
    let on : v ≡ u = ap (λ (x : ObjectName × ℕ). x.0) pair in
    let based : b ≡ base = ap (λ (x : ObjectName × ℕ). x.1) pair in
    rw (← on, ← based) (raised stamped (λ attr. refl) home (after_page home v.counter page bytes) v before refl refl (rw on was) (has_page (attr_of home v) page) (is_granted locks grant v p.node) b stamp told)
taken home locks p (Ask.AttrOut v length grant b) u base stamp before writes was told =
    let pair : (v, b) ≡ (u, base) = cc in
    let on : v ≡ u = ap (λ (x : ObjectName × ℕ). x.0) pair in
    let based : b ≡ base = ap (λ (x : ObjectName × ℕ). x.1) pair in
    rw (← on, ← based) (raised (resized length) (λ attr. refl) home (after_length home v.counter length) v before refl refl (rw on was) (has_length (attr_of home v) length) (is_granted locks grant v p.node) b stamp told)
taken home locks p (Ask.PageIn v page) u base stamp before writes was told = absurd cc
taken home locks p (Ask.Lock v mode) u base stamp before writes was told = absurd cc
taken home locks p (Ask.Unlock v) u base stamp before writes was told = absurd cc
taken home locks p (Ask.Remove v) u base stamp before writes was told = absurd cc
taken home locks p (Ask.Make kind room) u base stamp before writes was told = absurd cc
taken home locks p (Ask.ListLocks after) u base stamp before writes was told = absurd cc

-- ---- a write on its base

stored : (attr : Option Attr) (there granted : Bool) (base : ℕ) (before : Attr) → attr ≡ Some before → there ≡ true → granted ≡ true → base ≡ before.stamp
    → write_answer there granted (base == stamp_of attr) (stamp_of attr) ≡ Answer.Stored (before.stamp + 1)
stored attr there granted base before is one two on = rw (is, one, two, eq-eqb base before.stamp on) refl

pub page-taken : (home : HomeState) (locks : Table) (p : ProcName) (u : ObjectName) (page grant base : ℕ) (bytes : List ℕ) (before : Attr) → attr_of home u ≡ Some before → page < before.room
    → is_granted locks grant u p.node ≡ true → base ≡ before.stamp → (decide home locks p (Ask.PageOut u page grant base bytes)).answer ≡ Answer.Stored (before.stamp + 1)
page-taken home locks p u page grant base bytes before is within granted on =
    stored (attr_of home u) (has_page (attr_of home u) page) (is_granted locks grant u p.node) base before is (rw is (lt-ltb page before.room within)) granted on

pub length-taken : (home : HomeState) (locks : Table) (p : ProcName) (u : ObjectName) (length grant base : ℕ) (before : Attr) → attr_of home u ≡ Some before → length ≤ PAGE_BYTES * before.room
    → is_granted locks grant u p.node ≡ true → base ≡ before.stamp → (decide home locks p (Ask.AttrOut u length grant base)).answer ≡ Answer.Stored (before.stamp + 1)
length-taken home locks p u length grant base before is within granted on =
    stored (attr_of home u) (has_length (attr_of home u) length) (is_granted locks grant u p.node) base before is (rw is (le-leb length (PAGE_BYTES * before.room) within)) granted on

-- ---- an old number

looked-old : (number last : ℕ) → number < last → looked number last ≡ Old
looked-old number last below = grind (arith, nat_tests)

pub old-unchanged : (side : HomeSide) (p : ProcName) (number : ℕ) (ask : Ask) → number < last_of p side.served
    → ◌≡◌ {A = Serving} (serve_of side p number ask) (record { side = side; answer = None })
old-unchanged side p number ask below = ap (λ (l : Looked). serve_as l side p number ask) (looked-old number (last_of p side.served) below)
