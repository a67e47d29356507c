-- What a decision of a home does to one object: nothing of it is written, or one item at the next stamp, or it is gone. And which
-- rows and grants it leaves.
use Rattle.std.proofs.Common.{◌≡◌, ℕ, ◌+◌, ◌≤◌, Bool, true, false, List, [], ◌∷◌, Option, Some, None, refl, sym, ap, subst, ◌∙◌, arith}
use Rattle.std.specs.Prelude.{◌==◌, nat_le, ◌&&◌, ◌||◌, if◌then◌else◌, is_some, unwrap_or, IsTrue}
use Rattle.std.specs.Option.{option_map}
use Rattle.std.specs.List.{list_any}
use Rattle.std.proofs.lemmas.Bool.Decides.{nat_tests}
use Rattle.uid_names.specs.Names.{ProcName, ObjectName, same_proc, same_uid}
use Rattle.uid_names.specs.Rows.{same_row, row_lt}
use Rattle.uid_names.specs.Modes.{mode_writes}
use Rattle.uid_names.specs.declared.mode.Mode.{Mode}
use Rattle.uid_names.specs.declared.mode.ObjKind.{ObjKind}
use Rattle.uid_names.specs.declared.limits.TheConstants.{VOLUME_ROOM}
use Rattle.uid_names.proofs.ListLemmas.{by_cases, All-found}
use Rattle.uid_names.proofs.Finds.{find-passes}
use Rattle.uid_names.proofs.InOrder.{AllPairs-head, AllPairs-tail}
use Rattle.uid_names.proofs.Orders.{same_uid_is, same_proc_is, same_row_is, row_lt-apart}
use Rattle.page_store.specs.Volumes.{Volume}
use Rattle.object_store.specs.declared.attributes.Attr.{Attr}
use Rattle.object_store.specs.Kept.{IsHome}
use Rattle.object_store.specs.Objects.{attr_at, rooms, with_change, changed_if, stamped, resized, fresh}
use Rattle.object_store.specs.HomeStates.{HomeState, attr_of, after_make, after_remove, after_page}
use Rattle.object_store.specs.Rules.{has_page, has_length, stamp_of}
use Rattle.object_store.proofs.RowLemmas.{attr_at-with_change, attr_at-without_row}
use Rattle.object_store.proofs.HomeLemmas.{attr_at-after_make}
use Rattle.lock_manager.specs.declared.grants.Grant.{Grant}
use Rattle.lock_manager.specs.Grants.{AreGrantsRising, grant_lt, grant_of, held_in, conflict_of, is_writing}
use Rattle.lock_manager.specs.Tables.{Table, IsTable}
use Rattle.ring_messages.specs.Bodies.{Ask, Answer}
use Rattle.page_server.specs.Decisions.{decide, write_answer, remove_answer, make_answer, lock_answer, is_granted, may_remove}
use Rattle.page_server.proofs.Sides.{length-there, page-there}
use Rattle.run_laws.proofs.Grants.{grant_after, decide-grant}
use Rattle.run_laws.proofs.Standing.{any-writes}
use Rattle.run_laws.specs.Items.{Item, Value, same_item, Write, write_of}
use Rattle.run_laws.specs.Contents.{value_if, left_by}
use Rattle.run_laws.specs.Writes.{HasRoom}

pub data ObjectStep (u : ObjectName) (home : HomeState) (locks : Table) (q : ProcName) (ask : Ask) (answer : Answer) (new : HomeState) : Type 0 where
  stays : attr_of new u ≡ attr_of home u → ((x : Item) (t : ℕ) → left_by u x t (write_of ask) answer ≡ None) → ObjectStep u home locks q ask answer new
  stores : (w : Write) → write_of ask ≡ Some w → w.uid ≡ u → answer ≡ Answer.Stored (stamp_of (attr_of home u) + 1) → w.base ≡ stamp_of (attr_of home u) → is_granted locks w.grant u q.node ≡ true
      → HasRoom home u w.item w.value → stamp_of (attr_of new u) ≡ stamp_of (attr_of home u) + 1 → ObjectStep u home locks q ask answer new
  gone : is_some (attr_of new u) ≡ false → ObjectStep u home locks q ask answer new

module _ (u : ObjectName) (home : HomeState) where
  attr-is : (h : HomeState) → h.node ≡ home.node → (u.home == home.node) ≡ true → attr_of h u ≡ attr_at h.objects u.counter
  attr-is h same at = ap (λ n. if u.home == n then attr_at h.objects u.counter else None) same ∙ ap (λ b. if b then attr_at h.objects u.counter else None) at

  attr-away : (h : HomeState) → h.node ≡ home.node → (u.home == home.node) ≡ false → attr_of h u ≡ None
  attr-away h same away = ap (λ n. if u.home == n then attr_at h.objects u.counter else None) same ∙ ap (λ b. if b then attr_at h.objects u.counter else None) away

  attr-changed : (change : Attr → Attr) (counter : ℕ) (pages : Volume) → attr_of (record home { objects = with_change change counter home.objects; pages = pages }) u ≡ option_map (changed_if (u.counter == counter) change) (attr_of home u)
  attr-changed change counter pages =
      let new : HomeState = record home { objects = with_change change counter home.objects; pages = pages } in
      by_cases (u.home == home.node) (attr_of new u ≡ option_map (changed_if (u.counter == counter) change) (attr_of home u))
      (λ h. attr-is new refl h ∙ (attr_at-with_change change counter u.counter home.objects ∙ ap (option_map (changed_if (u.counter == counter) change)) (sym (attr-is home refl h))))
      (λ h. attr-away new refl h ∙ ap (option_map (changed_if (u.counter == counter) change)) (sym (attr-away home refl h)))

  there-home : is_some (attr_of home u) ≡ true → (u.home == home.node) ≡ true
  there-home is = by_cases (u.home == home.node) ((u.home == home.node) ≡ true) (λ h. h) (λ h. absurd (let e : false ≡ true = sym (ap is_some (attr-away home refl h)) ∙ is in cc))

  unchanged : (change : Attr → Attr) (o : Option Attr) → option_map (changed_if false change) o ≡ o
  unchanged change None = refl
  unchanged change (Some attr) = refl

  -- a change of another object leaves it
  changed-other : (change : Attr → Attr) (v : ObjectName) (pages : Volume) → is_some (attr_of home v) ≡ true → (v.home == home.node) ≡ true → same_uid v u ≡ false → attr_of (record home { objects = with_change change v.counter home.objects; pages = pages }) u ≡ attr_of home u
  changed-other change v pages there at differs =
      let new : HomeState = record home { objects = with_change change v.counter home.objects; pages = pages } in
      by_cases (u.home == home.node) (attr_of new u ≡ attr_of home u)
      (λ h.
      let apart : (u.counter == v.counter) ≡ false = grind (arith, nat_tests, h, at, differs) in
      attr-changed change v.counter pages ∙ (ap (λ b. option_map (changed_if b change) (attr_of home u)) apart ∙ unchanged change (attr_of home u)))
      (λ h. attr-away new refl h ∙ sym (attr-away home refl h))

module _ (u : ObjectName) (home : HomeState) (locks : Table) (q : ProcName) where
  abbrev Step : Ask → Answer → HomeState → Type 0
  Step ask answer new = ObjectStep u home locks q ask answer new

  same-counter : (n : ℕ) → (n == n) ≡ true
  same-counter n = grind (arith, nat_tests)

  stamp-up : (change : Attr → Attr) → ((attr : Attr) → (change attr).stamp ≡ attr.stamp + 1) → (o : Option Attr) → is_some o ≡ true → stamp_of (option_map (changed_if true change) o) ≡ stamp_of o + 1
  stamp-up change rises None there = absurd (cc)
  stamp-up change rises (Some attr) there = rises attr

  -- a write of a page or of the length
  module _ (ask : Ask) (w : Write) (is : write_of ask ≡ Some w) (change : Attr → Attr) (rises : (attr : Attr) → (change attr).stamp ≡ attr.stamp + 1) (pages : Volume) where
    abbrev stamp : ℕ
    stamp = stamp_of (attr_of home w.uid)

    abbrev after : HomeState
    after = record home { objects = with_change change w.uid.counter home.objects; pages = pages }

    left-none : (answer : Answer) → ((t : ℕ) (x : Item) → left_by u x t (Some w) answer ≡ None) → (x : Item) (t : ℕ) → left_by u x t (write_of ask) answer ≡ None
    left-none answer none x t = ap (λ o. left_by u x t o answer) is ∙ none t x

    write-step : (there granted current : Bool) → (there ≡ true → HasRoom home w.uid w.item w.value) → (there ≡ true → is_some (attr_of home w.uid) ≡ true) → is_granted locks w.grant w.uid q.node ≡ granted → (w.base == stamp) ≡ current
        → Step ask (write_answer there granted current stamp) (if there && (granted && current) then after else home)
    write-step false granted current room some grant base = stays refl (left-none Answer.NoObject (λ t x. refl))
    write-step true false current room some grant base = stays refl (left-none Answer.NoGrant (λ t x. refl))
    write-step true true false room some grant base = stays refl (left-none (Answer.Stale stamp) (λ t x. refl))
    write-step true true true room some grant base = by_cases (same_uid w.uid u) (Step ask (Answer.Stored (stamp + 1)) after)
        (λ same. subst (λ v. ObjectStep v home locks q ask (Answer.Stored (stamp + 1)) after) (same_uid_is w.uid u same)
        (stores w is refl refl (grind (arith, nat_tests, base)) grant (room refl)
        (ap stamp_of (attr-changed w.uid home change w.uid.counter pages ∙ ap (λ b. option_map (changed_if b change) (attr_of home w.uid)) (same-counter w.uid.counter)) ∙ stamp-up change rises (attr_of home w.uid) (some refl))))
        (λ differs. stays (changed-other u home change w.uid pages (some refl) (there-home w.uid home (some refl)) differs)
        (left-none (Answer.Stored (stamp + 1)) (λ t x. ap (λ b. value_if (b && (same_item w.item x && nat_le (stamp + 1) t)) w) differs)))

  remove-step : (v : ObjectName) (there held : Bool) → is_some (attr_of home v) ≡ there → Step (Ask.Remove v) (remove_answer there held) (if there && held then after_remove home v.counter else home)
  remove-step v false held is = stays refl (λ x t. refl)
  remove-step v true false is = stays refl (λ x t. refl)
  remove-step v true true is =
      let new : HomeState = after_remove home v.counter in
      by_cases (u.home == home.node) (Step (Ask.Remove v) Answer.Done new)
      (λ h.
      let found : attr_of new u ≡ (if u.counter == v.counter then None else attr_of home u) =
      attr-is u home new refl h ∙ (attr_at-without_row v.counter u.counter home.objects ∙ ap (λ o. if u.counter == v.counter then None else o) (sym (attr-is u home home refl h))) in
      by_cases (u.counter == v.counter) (Step (Ask.Remove v) Answer.Done new)
      (λ j. gone (ap is_some (found ∙ ap (λ b. if b then None else attr_of home u) j)))
      (λ j. stays (found ∙ ap (λ b. if b then None else attr_of home u) j) (λ x t. refl)))
      (λ h. stays (attr-away u home new refl h ∙ sym (attr-away u home home refl h)) (λ x t. refl))

  make-step : IsHome home → u.counter ≤ home.greatest → (kind : ObjKind) (room : ℕ) (fits : Bool) (v : ObjectName) → Step (Ask.Make kind room) (make_answer fits v) (if fits then after_make home kind room else home)
  make-step kept given kind room false v = stays refl (λ x t. refl)
  make-step kept given kind room true v =
      let new : HomeState = after_make home kind room in
      by_cases (u.home == home.node) (Step (Ask.Make kind room) (Answer.Made v) new)
      (λ h.
      let other : (u.counter == home.greatest + 1) ≡ false = grind (arith, nat_tests, given) in
      stays (attr-is u home new refl h ∙ (attr_at-after_make home kind room u.counter kept ∙ (ap (λ b. if b then Some (fresh kind room) else attr_at home.objects u.counter) other ∙ sym (attr-is u home home refl h)))) (λ x t. refl))
      (λ h. stays (attr-away u home new refl h ∙ sym (attr-away u home home refl h)) (λ x t. refl))

  -- of an object whose name was given
  pub decide-object : IsHome home → u.counter ≤ home.greatest → (ask : Ask) → Step ask (decide home locks q ask).answer (decide home locks q ask).home
  decide-object kept given (Ask.PageIn v k) = stays refl (λ x t. refl)
  decide-object kept given (Ask.PageOut v k grant base bytes) =
      write-step (Ask.PageOut v k grant base bytes) (record { uid = v; item = Item.Page k; value = Value.Bytes bytes; grant = grant; base = base }) refl stamped (λ attr. refl) (after_page home v.counter k bytes).pages
      (has_page (attr_of home v) k) (is_granted locks grant v q.node) (base == stamp_of (attr_of home v)) (λ is. is) (page-there (attr_of home v) k) refl refl
  decide-object kept given (Ask.AttrOut v n grant base) =
      write-step (Ask.AttrOut v n grant base) (record { uid = v; item = Item.Size; value = Value.Length n; grant = grant; base = base }) refl (resized n) (λ attr. refl) home.pages
      (has_length (attr_of home v) n) (is_granted locks grant v q.node) (base == stamp_of (attr_of home v)) (λ is. is) (length-there (attr_of home v) n) refl refl
  decide-object kept given (Ask.Lock v m) = stays refl (λ x t. refl)
  decide-object kept given (Ask.Unlock v) = stays refl (λ x t. refl)
  decide-object kept given (Ask.Remove v) = remove-step v (is_some (attr_of home v)) (may_remove (grant_of q v locks.grants)) refl
  decide-object kept given (Ask.Make kind room) = make-step kept given kind room (nat_le (rooms home.objects + room) VOLUME_ROOM) _
  decide-object kept given (Ask.ListLocks from) = stays refl (λ x t. refl)

-- a row with its process
pub record IsWriter (grants : List Grant) (number : ℕ) (u : ObjectName) (node : ℕ) : Type 0 where
  pub proc : ProcName
  pub mode : Mode
  pub at : proc.node ≡ node
  pub row : held_in (grant_of proc u grants) ≡ Some (mode, number)
  pub writes : mode_writes mode ≡ true

held-some : (o : Option Grant) (a : Mode × ℕ) → held_in o ≡ Some a → (g : Grant) × (o ≡ Some g)
held-some None a is = absurd (cc)
held-some (Some g) a is = (g, refl)

pub granted-row : (number : ℕ) (u : ObjectName) (node : ℕ) (grants : List Grant) → AreGrantsRising grants → list_any (is_writing number u node) grants ≡ true → IsWriter grants number u node
granted-row number u node [] rising any = absurd (cc)
granted-row number u node (g ∷ grants) rising any = by_cases (is_writing number u node g) (IsWriter (g ∷ grants) number u node)
    (λ is.
    let on : u ≡ g.row.uid = same_uid_is u g.row.uid (grind (arith, nat_tests, is)) in
    let numbered : g.number ≡ number = grind (arith, nat_tests, is) in
    let at : g.row.proc.node ≡ node = grind (arith, nat_tests, is) in
    let writes : mode_writes g.row.mode ≡ true = grind (arith, nat_tests, is) in
    let found : same_row g.row.proc u g.row ≡ true = grind (arith, nat_tests, is) in
    record {
      proc = g.row.proc;
      mode = g.row.mode;
      at = at;
      row = ap (λ b. held_in (if b then Some g else grant_of g.row.proc u grants)) found ∙ ap (λ n. Some (g.row.mode, n)) numbered;
      writes = writes;
    })
    (λ not.
    let later : IsWriter grants number u node = granted-row number u node grants (AllPairs-tail (λ a b. IsTrue (grant_lt a b)) g grants rising) (sym (ap (λ b. b || list_any (is_writing number u node) grants) not) ∙ any) in
    let found = held-some (grant_of later.proc u grants) (later.mode, number) later.row in
    let named = same_row_is later.proc u found.0.row (find-passes (λ h. same_row later.proc u h.row) grants found.0 found.1) in
    let below : row_lt g.row found.0.row ≡ true = All-found (λ h. IsTrue (grant_lt g h)) (λ h. same_row later.proc u h.row) grants found.0 (AllPairs-head (λ a b. IsTrue (grant_lt a b)) g grants rising) found.1 in
    let apart : same_row g.row.proc g.row.uid found.0.row ≡ false = row_lt-apart g.row found.0.row below in
    let passes : same_row later.proc u g.row ≡ false = by_cases (same_row later.proc u g.row) (same_row later.proc u g.row ≡ false)
    (λ h. absurd (
    let a = same_row_is later.proc u g.row h in
    let e : same_row g.row.proc g.row.uid found.0.row ≡ true = subst (λ p. same_row p g.row.uid found.0.row ≡ true) a.0 (subst (λ v. same_row later.proc v found.0.row ≡ true) a.1 (find-passes (λ k. same_row later.proc u k.row) grants found.0 found.1)) in
    let f : true ≡ false = sym e ∙ apart in cc))
    (λ h. h) in
    record {
      proc = later.proc;
      mode = later.mode;
      at = later.at;
      row = ap (λ b. held_in (if b then Some g else grant_of later.proc u grants)) passes ∙ later.row;
      writes = later.writes;
    })

pub row-given : (p : ProcName) (u : ObjectName) (m : Mode) (number : ℕ) (locks : Table) → IsTable locks → held_in (grant_of p u locks.grants) ≡ Some (m, number) → number ≤ locks.last
row-given p u m number locks table is =
    let found = held-some (grant_of p u locks.grants) (m, number) is in
    let most : found.0.number ≤ locks.last = All-found (λ g. g.number ≤ locks.last) (λ g. same_row p u g.row) locks.grants found.0 table.given found.1 in
    let same : found.0.number ≡ number = ap (λ (o : Option (Mode × ℕ)). (unwrap_or o (m, number)).1) (sym (ap held_in found.1) ∙ is) in
    omega (arith, most, same)

-- a row that there is after a decision was there, or its grant is the next number
pub data RowStep (p : ProcName) (u : ObjectName) (home : HomeState) (locks : Table) (q : ProcName) (ask : Ask) (answer : Answer) (m : Mode) (number : ℕ) : Type 0 where
  was_there : held_in (grant_of p u locks.grants) ≡ Some (m, number) → RowStep p u home locks q ask answer m number
  now_granted : (kind : ObjKind) (room n : ℕ) → p ≡ q → ask ≡ Ask.Lock u m → answer ≡ Answer.Granted number (stamp_of (attr_of home u)) kind room n → number ≡ locks.last + 1 → RowStep p u home locks q ask answer m number

module _ (p : ProcName) (u : ObjectName) (home : HomeState) (locks : Table) (q : ProcName) (m : Mode) (number : ℕ) where
  abbrev row : Option (Mode × ℕ)
  row = held_in (grant_of p u locks.grants)

  abbrev Row : Ask → Answer → Type 0
  Row ask answer = grant_after p u q ask answer row ≡ Some (m, number) → RowStep p u home locks q ask answer m number

  lock-row : (v : ObjectName) (k : Mode) (attr : Option Attr) (conflict : _) → attr_of home v ≡ attr → Row (Ask.Lock v k) (lock_answer attr conflict (locks.last + 1))
  lock-row v k None conflict found is = was_there is
  lock-row v k (Some attr) (Some (holder, held)) found is = was_there is
  lock-row v k (Some attr) None found is = by (same_proc p q) (same_uid u v) refl refl is
    where
      by : (a b : Bool) → same_proc p q ≡ a → same_uid u v ≡ b → (if a && b then Some (k, locks.last + 1) else row) ≡ Some (m, number)
          → RowStep p u home locks q (Ask.Lock v k) (Answer.Granted (locks.last + 1) attr.stamp attr.kind attr.room attr.length) m number
      by false b one two is = was_there is
      by true false one two is = was_there is
      by true true one two is =
          let on : u ≡ v = same_uid_is u v two in
          let mode : k ≡ m = ap (λ (o : Option (Mode × ℕ)). (unwrap_or o (m, number)).0) is in
          let next : locks.last + 1 ≡ number = ap (λ (o : Option (Mode × ℕ)). (unwrap_or o (m, number)).1) is in
          let stamp : attr.stamp ≡ stamp_of (attr_of home u) = sym (ap (λ w. stamp_of (attr_of home w)) on ∙ ap stamp_of found) in
          now_granted attr.kind attr.room attr.length (same_proc_is p q one) (ap (λ w. Ask.Lock w k) (sym on) ∙ ap (Ask.Lock u) mode)
          (ap (λ g. Answer.Granted g attr.stamp attr.kind attr.room attr.length) next ∙ ap (λ t. Answer.Granted number t attr.kind attr.room attr.length) stamp) (sym next)

  none-row : (b : Bool) → (if b then None else row) ≡ Some (m, number) → row ≡ Some (m, number)
  none-row true is = absurd (cc)
  none-row false is = is

  remove-row : (v : ObjectName) (there held : Bool) → Row (Ask.Remove v) (remove_answer there held)
  remove-row v false held is = was_there is
  remove-row v true false is = was_there is
  remove-row v true true is = was_there (none-row (same_uid u v) is)

  make-row : (kind : ObjKind) (room : ℕ) (fits : Bool) (v : ObjectName) → Row (Ask.Make kind room) (make_answer fits v)
  make-row kind room false v is = was_there is
  make-row kind room true v is = was_there is

  pub decide-row : (ask : Ask) → held_in (grant_of p u (decide home locks q ask).locks.grants) ≡ Some (m, number) → RowStep p u home locks q ask (decide home locks q ask).answer m number
  decide-row ask is = by ask (sym (decide-grant p u home locks q ask) ∙ is)
    where
      by : (ask : Ask) → Row ask (decide home locks q ask).answer
      by (Ask.PageIn v k) is = was_there is
      by (Ask.PageOut v k grant base bytes) is = was_there is
      by (Ask.AttrOut v n grant base) is = was_there is
      by (Ask.Lock v k) is = lock-row v k (attr_of home v) (conflict_of q v k locks.grants) refl is
      by (Ask.Unlock v) is = was_there (none-row (same_proc p q && same_uid u v) is)
      by (Ask.Remove v) is = remove-row v (is_some (attr_of home v)) (may_remove (grant_of q v locks.grants)) is
      by (Ask.Make kind room) is = make-row kind room (nat_le (rooms home.objects + room) VOLUME_ROOM) _ is
      by (Ask.ListLocks from) is = was_there is

-- a grant that was given before is one under which the node wrote before
pub granted-before : (number : ℕ) (u : ObjectName) (node : ℕ) (home : HomeState) (locks new : Table) (q : ProcName) (ask : Ask) → IsTable new → new ≡ (decide home locks q ask).locks → number ≤ locks.last → is_granted new number u node ≡ true → is_granted locks number u node ≡ true
granted-before number u node home locks new q ask table same given is =
    let w : IsWriter new.grants number u node = granted-row number u node new.grants table.rising is in
    by w (decide-row w.proc u home locks q w.mode number ask (subst (λ (t : Table). held_in (grant_of w.proc u t.grants) ≡ Some (w.mode, number)) same w.row))
  where
    by : (w : IsWriter new.grants number u node) → RowStep w.proc u home locks q ask (decide home locks q ask).answer w.mode number → is_granted locks number u node ≡ true
    by w (was_there row) = subst (λ n. is_granted locks number u n ≡ true) w.at (any-writes w.proc u w.mode number locks.grants row w.writes)
    by w (now_granted kind room n own asks tells next) = absurd (omega (arith, next, given))
