-- What each change of a desk leaves of an item: what is clean was clean before, and was the same where it is there; or its home took it;
-- or it came from its home, or was told with a grant.
use Rattle.std.proofs.Common.{◌≡◌, ℕ, ◌+◌, Bool, true, false, List, [], length, Option, Some, None, ◌⊎◌, inl, inr, refl, sym, ap, subst, ◌∙◌, arith}
use Rattle.std.specs.Prelude.{nat_lt, ◌&&◌, not, if◌then◌else◌}
use Rattle.std.specs.Option.{option_map}
use Rattle.std.proofs.lemmas.Bool.Decides.{nat_tests}
use Rattle.std.proofs.lemmas.Option.{same_Some}
use Rattle.std.proofs.Math.Bool.{and-true}
use Rattle.uid_names.specs.Names.{ObjectName, same_uid}
use Rattle.uid_names.specs.declared.mode.Mode.{Mode}
use Rattle.uid_names.proofs.ListLemmas.{by_cases}
use Rattle.uid_names.proofs.Orders.{same_uid_is}
use Rattle.uid_names.proofs.Tables.{row_of-named}
use Rattle.page_cache.specs.Caches.{Resident, is_page, page_at}
use Rattle.page_cache.specs.Changes.{without_page, without_object, used}
use Rattle.version_stamps.specs.Stamps.{stamp_of}
use Rattle.fault_handler.specs.declared.lengths.Known.{Known}
use Rattle.fault_handler.specs.declared.tasks.Task.{Task}
use Rattle.fault_handler.specs.Lengths.{known_name, known_of, is_changed, changed_length, grown, grown_if, known_after}
use Rattle.fault_handler.specs.ShownPages.{changed_page, fresh_page, written, stored, as_sent, settled}
use Rattle.fault_handler.specs.Tasks.{page_of, start_of}
use Rattle.fault_handler.specs.Transits.{going}
use Rattle.fault_handler.specs.Victims.{is_idle_page}
use Rattle.fault_handler.specs.Entries.{keeps, keeps_writing}
use Rattle.fault_handler.specs.Desks.{DeskState, moving_of, entry_at, any_keeps}
use Rattle.fault_handler.specs.Changes.{settled_by}
use Rattle.fault_handler.specs.PageReplies.{PageAnswer}
use Rattle.fault_handler.specs.LockCalls.{LockCall, LockAnswer}
use Rattle.fault_handler.specs.Outcomes.{Turn}
use Rattle.fault_handler.specs.Invariant.{IsProc, is_dirty, IsDesk}
use Rattle.fault_handler.proofs.Choice.{idle-clean}
use Rattle.fault_handler.proofs.Fours.{any-more}
use Rattle.fault_handler.proofs.KnownRows.{known_of-with_known, uid-grown}
use Rattle.fault_handler.proofs.Nothing.{unkept-clean}
use Rattle.fault_handler.proofs.TransitKeeps.{keeps_writing-keeps}
use Rattle.fault_handler.proofs.PageLists.{is_same, same-uid, same-page, page_at-used, page_at-without_same, page_at-without_other, page_at-without_object_same, page_at-without_object_other, page_at-changed_same, page_at-changed_other}
use Rattle.lock_validate.specs.Answers.{is_fresh}
use Rattle.lock_validate.specs.Causes.{Cause}
use Rattle.lock_validate.specs.Loading.{IsRoomAnswer}
use Rattle.lock_validate.specs.Releasing.{IsPageSettled}
use Rattle.lock_validate.specs.Told.{told_row}
use Rattle.lock_validate.specs.DeskMoves.{Change, DeskMoves}
use Rattle.lock_validate.proofs.DeskStays.{moves-desk}
use Rattle.run_laws.specs.Items.{Item, Value, page_value, known_value, desk_value, is_dirty_at}

-- the home took the item, as it was when it was sent, and it was not changed since: the desk is that before the answer
abbrev pub Cleans : Cause → DeskState → ℕ → ObjectName → Item → Value → Type 0
Cleans (Cause.PageCame (PageAnswer.Taken task r stamp)) d p u (Item.Page k) v = (r.uid ≡ u) × (r.page ≡ k) × (r.flags.sent ≡ true) × (v ≡ page_value r)
Cleans (Cause.AnswerCame (LockAnswer.PageSettled w delete true stamp)) d p u (Item.Page k) v =
    (w ≡ u) × (moving_of d p ≡ going u k) × ((r : Resident) × (page_at d.cache.pages u k ≡ Some r) × (r.flags.sent ≡ true) × (v ≡ page_value r))
Cleans (Cause.AnswerCame (LockAnswer.LengthSettled w n delete true stamp)) d p u Item.Size v = (w ≡ u) × (changed_length (known_of u d.known) ≡ Some n) × (v ≡ Value.Length n)
Cleans c d p u x v = ⊥

-- it was clean, and the same where it is there
pub record IsCleanThen (d e : DeskState) (u : ObjectName) (x : Item) : Type 0 where
  pub was : is_dirty_at d u x ≡ false
  pub value : (v : Value) → desk_value e u x ≡ Some v → desk_value d u x ≡ Some v

-- of the desks d is that before a change, e that after it, and start that at which the cause found the desk
pub data ItemStep (c : Cause) (start : DeskState) (p : ℕ) (d e : DeskState) (u : ObjectName) (x : Item) : Type 0 where
  alike : (is_dirty_at e u x ≡ false → IsCleanThen d e u x) → ItemStep c start p d e u x
  cleaned : (v : Value) → Cleans c start p u x v → ((other : Value) → is_dirty_at e u x ≡ false → desk_value e u x ≡ Some other → other ≡ v) → ItemStep c start p d e u x
  arrived : (task : Task) (stamp : ℕ) (bytes : List ℕ) → c ≡ Cause.PageCame (PageAnswer.Came task stamp bytes) → u ≡ task.uid → x ≡ Item.Page (page_of task) → is_dirty_at d u x ≡ false
      → desk_value e u x ≡ Some (Value.Bytes bytes) → stamp_of u e.seen ≡ Some stamp → ItemStep c start p d e u x
  learned : (m : Mode) (grant stamp room n : ℕ) → c ≡ Cause.AnswerCame (LockAnswer.Granted u m grant stamp room n) → x ≡ Item.Size → is_fresh stamp (stamp_of u d.seen) ≡ true
      → any_keeps d.entries u ≡ false → is_dirty_at d u x ≡ false → ItemStep c start p d e u x

-- a page that was changed in its place
pub changed-here : (pages : List Resident) (u : ObjectName) (k : ℕ) (w : ObjectName) (j : ℕ) (change : Resident → Resident) → (names : (v : ObjectName) (i : ℕ) (r : Resident) → is_page v i (change r) ≡ is_page v i r) → is_same u k w j ≡ true
    → page_at (changed_page w j change pages) u k ≡ option_map change (page_at pages u k)
changed-here pages u k w j change names same =
    subst (λ a. page_at (changed_page a j change pages) u k ≡ option_map change (page_at pages u k)) (same-uid u k w j same)
    (subst (λ i. page_at (changed_page u i change pages) u k ≡ option_map change (page_at pages u k)) (same-page u k w j same) (page_at-changed_same u k change names pages))

pub page-then : (d e : DeskState) (u : ObjectName) (k : ℕ) → page_at e.cache.pages u k ≡ page_at d.cache.pages u k → is_dirty_at e u (Item.Page k) ≡ false → IsCleanThen d e u (Item.Page k)
page-then d e u k same clean = record { was = ap is_dirty (sym same) ∙ clean; value = λ v is. ap (option_map page_value) (sym same) ∙ is }

pub length-then : (d e : DeskState) (u : ObjectName) → known_of u e.known ≡ known_of u d.known → is_dirty_at e u Item.Size ≡ false → IsCleanThen d e u Item.Size
length-then d e u same clean = record { was = ap is_changed (sym same) ∙ clean; value = λ v is. ap (option_map known_value) (sym same) ∙ is }

-- other flags leave what is clean
pub flagged-then : (d e : DeskState) (u : ObjectName) (k : ℕ) (change : Resident → Resident) → ((r : Resident) → (change r).flags.dirty ≡ r.flags.dirty) → ((r : Resident) → (change r).bytes ≡ r.bytes)
    → page_at e.cache.pages u k ≡ option_map change (page_at d.cache.pages u k) → is_dirty_at e u (Item.Page k) ≡ false → IsCleanThen d e u (Item.Page k)
flagged-then d e u k change dirty bytes now clean = by (page_at d.cache.pages u k) refl now
  where
    by : (o : Option Resident) → page_at d.cache.pages u k ≡ o → page_at e.cache.pages u k ≡ option_map change o → IsCleanThen d e u (Item.Page k)
    by None was now = page-then d e u k (now ∙ sym was) clean
    by (Some r) was now = record {
      was = ap is_dirty was ∙ (sym (dirty r) ∙ (sym (ap is_dirty now) ∙ clean));
      value = λ v is. ap (option_map page_value) was ∙ (ap (λ bs. Some (Value.Bytes bs)) (sym (bytes r)) ∙ (sym (ap (option_map page_value) now) ∙ is));
    }

pub flagged-one-then : (d e : DeskState) (u : ObjectName) (k : ℕ) (w : ObjectName) (j : ℕ) (change : Resident → Resident) → (names : (v : ObjectName) (i : ℕ) (r : Resident) → is_page v i (change r) ≡ is_page v i r) → ((r : Resident) → (change r).flags.dirty ≡ r.flags.dirty)
    → ((r : Resident) → (change r).bytes ≡ r.bytes) → e.cache.pages ≡ changed_page w j change d.cache.pages → is_dirty_at e u (Item.Page k) ≡ false → IsCleanThen d e u (Item.Page k)
flagged-one-then d e u k w j change names dirty bytes now clean = by_cases (is_same u k w j) (IsCleanThen d e u (Item.Page k))
    (λ same. flagged-then d e u k change dirty bytes (ap (λ ps. page_at ps u k) now ∙ changed-here d.cache.pages u k w j change names same) clean)
    (λ differs. page-then d e u k (ap (λ ps. page_at ps u k) now ∙ page_at-changed_other w j change names d.cache.pages u k differs) clean)

-- the answer to a page or a length that was sent before a release: what becomes of it is told by the call itself
abbrev pub IsPlain : Cause → Type 0
IsPlain (Cause.AnswerCame (LockAnswer.PageSettled u delete taken stamp)) = ⊥
IsPlain (Cause.AnswerCame (LockAnswer.LengthSettled u n delete taken stamp)) = ⊥
IsPlain c = Unit {0}

never : {X : Type 0} {b : Bool} → b ≡ true → b ≡ false → X
never is fails = absurd (let e : true ≡ false = sym is ∙ fails in cc)

-- of an object that no process keeps, the length is unchanged
pub unkept-unchanged : (d : DeskState) (u : ObjectName) → IsDesk d → any_keeps d.entries u ≡ false → is_changed (known_of u d.known) ≡ false
unkept-unchanged d u desk none = by_cases (is_changed (known_of u d.known)) (is_changed (known_of u d.known) ≡ false)
    (λ is. never (any-more (λ q. keeps_writing (entry_at d.entries q u)) (λ q. keeps (entry_at d.entries q u)) (λ q proc writes. keeps_writing-keeps (entry_at d.entries q u) writes) (desk.lengths u is)) none)
    (λ h. h)

module _ (c : Cause) (start : DeskState) (p : ℕ) (u : ObjectName) where
  abbrev Step : DeskState → DeskState → Item → Type 0
  Step d e x = ItemStep c start p d e u x

  page-same : (d e : DeskState) (k : ℕ) → page_at e.cache.pages u k ≡ page_at d.cache.pages u k → Step d e (Item.Page k)
  page-same d e k same = alike (page-then d e u k same)

  length-same : (d e : DeskState) → known_of u e.known ≡ known_of u d.known → Step d e Item.Size
  length-same d e same = alike (length-then d e u same)

  page-dirty : (d e : DeskState) (k : ℕ) → is_dirty (page_at e.cache.pages u k) ≡ true → Step d e (Item.Page k)
  page-dirty d e k dirty = alike (λ clean. never dirty clean)

  length-dirty : (d e : DeskState) → is_changed (known_of u e.known) ≡ true → Step d e Item.Size
  length-dirty d e dirty = alike (λ clean. never dirty clean)

  page-gone : (d e : DeskState) (k : ℕ) → page_at e.cache.pages u k ≡ None → is_dirty (page_at d.cache.pages u k) ≡ false → Step d e (Item.Page k)
  page-gone d e k gone clean = alike (λ now. record { was = clean; value = λ v is. absurd (let f : None ≡ Some v = sym (ap (option_map page_value) gone) ∙ is in cc) })

  -- one page, with other flags
  flagged-one : (d e : DeskState) (k : ℕ) (w : ObjectName) (j : ℕ) (change : Resident → Resident) (names : (v : ObjectName) (i : ℕ) (r : Resident) → is_page v i (change r) ≡ is_page v i r)
      → ((r : Resident) → (change r).flags.dirty ≡ r.flags.dirty) → ((r : Resident) → (change r).bytes ≡ r.bytes) → e.cache.pages ≡ changed_page w j change d.cache.pages → Step d e (Item.Page k)
  flagged-one d e k w j change names dirty bytes now = alike (flagged-one-then d e u k w j change names dirty bytes now)

  untaken-dirty : (r : Resident) → (settled false r).flags.dirty ≡ r.flags.dirty
  untaken-dirty r = and-true r.flags.dirty

  sent-one : (d e : DeskState) (k : ℕ) (w : ObjectName) (j : ℕ) → e.cache.pages ≡ changed_page w j as_sent d.cache.pages → Step d e (Item.Page k)
  sent-one d e k w j now = flagged-one d e k w j as_sent (λ v i r. refl) (λ r. refl) (λ r. refl) now

  untaken-one : (d e : DeskState) (k : ℕ) (w : ObjectName) (j : ℕ) → e.cache.pages ≡ changed_page w j (settled false) d.cache.pages → Step d e (Item.Page k)
  untaken-one d e k w j now = flagged-one d e k w j (settled false) (λ v i r. refl) untaken-dirty (λ r. refl) now

  -- a page that was stored to
  stored-one : (d e : DeskState) (k : ℕ) (w : ObjectName) (j offset : ℕ) (bytes : List ℕ) (r : Resident) → page_at d.cache.pages w j ≡ Some r → e.cache.pages ≡ stored w j offset bytes d.cache.pages → Step d e (Item.Page k)
  stored-one d e k w j offset bytes r there now = by_cases (is_same u k w j) (Step d e (Item.Page k))
      (λ same.
      let was : page_at (used d.cache.pages w j) u k ≡ Some r =
      page_at-used d.cache.pages w j u k ∙ subst (λ a. page_at d.cache.pages a k ≡ Some r) (sym (same-uid u k w j same)) (subst (λ i. page_at d.cache.pages w i ≡ Some r) (sym (same-page u k w j same)) there) in
      let found = changed-here (used d.cache.pages w j) u k w j (written offset bytes) (λ v i s. refl) same in
      page-dirty d e k (ap (λ ps. is_dirty (page_at ps u k)) now ∙ (ap is_dirty found ∙ ap (λ o. is_dirty (option_map (written offset bytes) o)) was)))
      (λ differs. page-same d e k (ap (λ ps. page_at ps u k) now ∙ (page_at-changed_other w j (written offset bytes) (λ v i s. refl) (used d.cache.pages w j) u k differs ∙ page_at-used d.cache.pages w j u k)))

  -- one that was dropped
  dropped-one : (d e : DeskState) (k : ℕ) (w : ObjectName) (j : ℕ) → is_idle_page d w j ≡ true → e.cache.pages ≡ without_page d.cache.pages w j → Step d e (Item.Page k)
  dropped-one d e k w j idle now = by_cases (is_same u k w j) (Step d e (Item.Page k))
      (λ same.
      let a = same-uid u k w j same in
      let i = same-page u k w j same in
      page-gone d e k
      (ap (λ ps. page_at ps u k) now ∙ subst (λ b. page_at (without_page d.cache.pages b j) u k ≡ None) a (subst (λ h. page_at (without_page d.cache.pages u h) u k ≡ None) i (page_at-without_same d.cache.pages u k)))
      (subst (λ b. is_dirty (page_at d.cache.pages b k) ≡ false) (sym a) (subst (λ h. is_dirty (page_at d.cache.pages w h) ≡ false) (sym i) (idle-clean d w j idle))))
      (λ differs. page-same d e k (ap (λ ps. page_at ps u k) now ∙ page_at-without_other d.cache.pages w j u k differs))

  -- the page that made room, once its home answered or a link fault ended its call
  room-one : (d e : DeskState) (k : ℕ) (task : Task) (r : Resident) (taken : Bool) → IsRoomAnswer c task r taken → page_at d.cache.pages r.uid r.page ≡ Some r → r.flags.dirty ≡ true
      → e.cache.pages ≡ changed_page r.uid r.page (settled taken) d.cache.pages → Step d e (Item.Page k)
  room-one d e k task r taken given there dirty now = by_cause c taken refl given now
    where
      settled-one : (open_task : Task) (page : Resident) (stamp : ℕ) → c ≡ Cause.PageCame (PageAnswer.Taken open_task page stamp) → r ≡ page → e.cache.pages ≡ changed_page r.uid r.page (settled true) d.cache.pages → Step d e (Item.Page k)
      settled-one open_task page stamp is same now = by_cases (is_same u k r.uid r.page) (Step d e (Item.Page k))
          (λ here.
          let a = same-uid u k r.uid r.page here in
          let i = same-page u k r.uid r.page here in
          let found : page_at e.cache.pages u k ≡ Some (settled true r) =
          ap (λ ps. page_at ps u k) now ∙ changed-here d.cache.pages u k r.uid r.page (settled true) (λ v i s. refl) here
          ∙ ap (option_map (settled true)) (subst (λ b. page_at d.cache.pages b k ≡ Some r) (sym a) (subst (λ h. page_at d.cache.pages r.uid h ≡ Some r) (sym i) there)) in
          by_cases r.flags.sent (Step d e (Item.Page k))
          (λ sent. cleaned (page_value r)
          (subst (λ x. Cleans x start p u (Item.Page k) (page_value r)) (sym is) (ap (λ (y : Resident). y.uid) (sym same) ∙ sym a, ap (λ (y : Resident). y.page) (sym same) ∙ sym i, ap (λ (y : Resident). y.flags.sent) (sym same) ∙ sent, ap page_value same))
          (λ other clean shown. same_Some other (page_value r) (sym shown ∙ ap (option_map page_value) found)))
          (λ unsent. page-dirty d e k (ap is_dirty found ∙ (ap (λ b. b && not (true && r.flags.sent)) dirty ∙ ap (λ b. not b) unsent))))
          (λ differs. page-same d e k (ap (λ ps. page_at ps u k) now ∙ page_at-changed_other r.uid r.page (settled true) (λ v i s. refl) d.cache.pages u k differs))

      by_cause : (x : Cause) (b : Bool) → c ≡ x → IsRoomAnswer x task r b → e.cache.pages ≡ changed_page r.uid r.page (settled b) d.cache.pages → Step d e (Item.Page k)
      by_cause (Cause.PageCame (PageAnswer.Taken open_task page stamp)) b is given now = settled-one open_task page stamp is given.1 (subst (λ t. e.cache.pages ≡ changed_page r.uid r.page (settled t) d.cache.pages) given.2 now)
      by_cause (Cause.AccessFailed t) b is given now = untaken-one d e k r.uid r.page (subst (λ t. e.cache.pages ≡ changed_page r.uid r.page (settled t) d.cache.pages) given now)
      by_cause (Cause.PageCame (PageAnswer.Came open_task stamp bytes)) b is given now = absurd given
      by_cause (Cause.PageCame (PageAnswer.NotTaken open_task page stamp)) b is given now = absurd given
      by_cause (Cause.Accesses op) b is given now = absurd given
      by_cause (Cause.Locks v m) b is given now = absurd given
      by_cause (Cause.Releases delete v) b is given now = absurd given
      by_cause (Cause.AnswerCame a) b is given now = absurd given
      by_cause (Cause.CallFailed call) b is given now = absurd given

  -- a page that was sent before a release, which failed
  failed-untaken : IsPlain c → (w : ObjectName) (taken : Bool) → IsPageSettled c w taken → taken ≡ false
  failed-untaken plain w taken given = by c plain given
    where
      by_answer : (a : LockAnswer) → IsPlain (Cause.AnswerCame a) → IsPageSettled (Cause.AnswerCame a) w taken → taken ≡ false
      by_answer (LockAnswer.PageSettled v delete was stamp) plain given = absurd plain
      by_answer (LockAnswer.Granted v m grant stamp room n) plain given = absurd given
      by_answer (LockAnswer.Refused q held) plain given = absurd given
      by_answer (LockAnswer.Gone v) plain given = absurd given
      by_answer (LockAnswer.LengthSettled v n delete was stamp) plain given = absurd given
      by_answer (LockAnswer.Released v) plain given = absurd given
      by_answer (LockAnswer.Removed v) plain given = absurd given

      by_call : (call : LockCall) → IsPageSettled (Cause.CallFailed call) w taken → taken ≡ false
      by_call (LockCall.PageOut v k delete) given = given.1
      by_call (LockCall.Lock v m) given = absurd given
      by_call (LockCall.AttrOut v n delete) given = absurd given
      by_call (LockCall.Unlock v) given = absurd given
      by_call (LockCall.Remove v) given = absurd given

      by : (x : Cause) → IsPlain x → IsPageSettled x w taken → taken ≡ false
      by (Cause.AnswerCame a) plain given = by_answer a plain given
      by (Cause.CallFailed call) plain given = by_call call given
      by (Cause.Accesses op) plain given = absurd given
      by (Cause.Locks v m) plain given = absurd given
      by (Cause.Releases delete v) plain given = absurd given
      by (Cause.PageCame a) plain given = absurd given
      by (Cause.AccessFailed t) plain given = absurd given

  -- a row of what is known, after a store that ended there
  grown-one : (d e : DeskState) (w : ObjectName) (end : ℕ) (o : Option Known) → known_of w d.known ≡ o → e.known ≡ known_after (grown end) o d.known → Step d e Item.Size
  grown-one d e w end None was now = length-same d e (ap (known_of u) now)
  grown-one d e w end (Some k) was now = by_cases (same_uid u (grown end k).uid) (Step d e Item.Size)
      (λ same.
      let named : (grown end k).uid ≡ w = uid-grown end k ∙ row_of-named known_name w d.known k was in
      let before : known_of u d.known ≡ Some k = ap (λ v. known_of v d.known) (same_uid_is u (grown end k).uid same ∙ named) ∙ was in
      let found : known_of u e.known ≡ Some (grown end k) = ap (known_of u) now ∙ (known_of-with_known (grown end k) d.known u ∙ ap (λ b. if b then Some (grown end k) else known_of u d.known) same) in
      by (nat_lt k.length end) before found)
      (λ differs. length-same d e (ap (known_of u) now ∙ (known_of-with_known (grown end k) d.known u ∙ ap (λ b. if b then Some (grown end k) else known_of u d.known) differs)))
    where
      by : (b : Bool) → known_of u d.known ≡ Some k → known_of u e.known ≡ Some (grown_if b end k) → Step d e Item.Size
      by true before found = length-dirty d e (ap is_changed found)
      by false before found = length-same d e (found ∙ sym before)

  module _ (turn : Turn) (plain : IsPlain c) where
    -- of a page
    change-page : (d e : DeskState) (k : ℕ) (dropped : List (ObjectName × ℕ)) → IsDesk d → Change c turn p d e dropped → Step d e (Item.Page k)
    change-page d e k dropped desk (Change.uses task count r does work there ends) = page-same d e k (page_at-used d.cache.pages task.uid (page_of task) u k)
    change-page d e k dropped desk (Change.stores task bytes r does work there ends) = stored-one d e k task.uid (page_of task) (start_of task) bytes r there refl
    change-page d e k dropped desk (Change.drops task w j does missing full may asks) = dropped-one d e k w j may refl
    change-page d e k dropped desk (Change.evicts task r does missing full clean there dirty calm asks) = sent-one d e k r.uid r.page refl
    change-page d e k dropped desk (Change.arrives task stamp bytes reply given fetches seen whole ends) = by_cases (is_same u k task.uid (page_of task)) (Step d e (Item.Page k))
        (λ same.
        let a = same-uid u k task.uid (page_of task) same in
        let i = same-page u k task.uid (page_of task) same in
        let here : is_page u k (fresh_page task.uid (page_of task) bytes) ≡ true = grind (arith, nat_tests, same) in
        arrived task stamp bytes given a (ap Item.Page i)
        (subst (λ b. is_dirty (page_at d.cache.pages b k) ≡ false) (sym a) (subst (λ h. is_dirty (page_at d.cache.pages task.uid h) ≡ false) (sym i) (ap is_dirty fetches.absent)))
        (ap (λ b. option_map page_value (if b then Some (fresh_page task.uid (page_of task) bytes) else page_at d.cache.pages u k)) here)
        (subst (λ b. stamp_of b d.seen ≡ Some stamp) (sym a) seen))
        (λ differs.
        let elsewhere : is_page u k (fresh_page task.uid (page_of task) bytes) ≡ false = grind (arith, nat_tests, differs) in
        page-same d e k (ap (λ b. if b then Some (fresh_page task.uid (page_of task) bytes) else page_at d.cache.pages u k) elsewhere))
    change-page d e k dropped desk (Change.settles_room task r taken given room) = room-one d e k task r taken given room.sends.there room.dirty refl
    change-page d e k dropped desk (Change.sends_again task r stamp given room asks) = sent-one d e k r.uid r.page refl
    change-page d e k dropped desk (Change.sends delete w j r releasing calm found there dirty asks) = sent-one d e k w j refl
    change-page d e k dropped desk (Change.page_settles w j r taken given closed sends writes keeping) =
        untaken-one d e k w j (ap (λ t. settled_by t taken d.cache.pages) sends.moves ∙ ap (λ b. changed_page w j (settled b) d.cache.pages) (failed-untaken plain w taken given))
    change-page d e k dropped desk (Change.drops_all w a given object may none) = by_cases (same_uid u w) (Step d e (Item.Page k))
        (λ same.
        let is = same_uid_is u w same in
        page-gone d e k (subst (λ b. page_at (without_object d.cache.pages b) u k ≡ None) is (page_at-without_object_same d.cache.pages u k))
        (subst (λ b. is_dirty (page_at d.cache.pages b k) ≡ false) (sym is) (unkept-clean d w desk none k)))
        (λ differs. page-same d e k (page_at-without_object_other d.cache.pages w u k differs))
    change-page d e k dropped desk change = page-same d e k refl

    not-plain : {X : Type 0} (w : ObjectName) (n : ℕ) (delete taken : Bool) (stamp : ℕ) → c ≡ Cause.AnswerCame (LockAnswer.LengthSettled w n delete taken stamp) → X
    not-plain w n delete taken stamp is = absurd (subst IsPlain is plain)

    -- of the length
    change-length : (d e : DeskState) (dropped : List (ObjectName × ℕ)) → IsDesk d → Change c turn p d e dropped → Step d e Item.Size
    change-length d e dropped desk (Change.grows task bytes does work ends) = grown-one d e task.uid (task.offset + length bytes) (known_of task.uid d.known) refl refl
    change-length d e dropped desk (Change.length_settles w n delete taken stamp given idle writes) = not-plain w n delete taken stamp given
    change-length d e dropped desk (Change.learns w m grant stamp room n given alone none fresh is_room is_length) = by_cases (same_uid u w) (Step d e Item.Size)
        (λ same.
        let is = same_uid_is u w same in
        let nobody : any_keeps d.entries u ≡ false = ap (any_keeps d.entries) is ∙ none in
        learned m grant stamp room n (subst (λ b. c ≡ Cause.AnswerCame (LockAnswer.Granted b m grant stamp room n)) (sym is) given) refl (ap (λ b. is_fresh stamp (stamp_of b d.seen)) is ∙ fresh) nobody (unkept-unchanged d u desk nobody))
        (λ differs. length-same d e (known_of-with_known (told_row w room n) d.known u ∙ ap (λ b. if b then Some (told_row w room n) else known_of u d.known) differs))
    change-length d e dropped desk change = length-same d e refl

    pub change-item : (d e : DeskState) (x : Item) (dropped : List (ObjectName × ℕ)) → IsDesk d → Change c turn p d e dropped → Step d e x
    change-item d e (Item.Page k) dropped desk change = change-page d e k dropped desk change
    change-item d e Item.Size dropped desk change = change-length d e dropped desk change

-- what is clean afterwards was clean, or its home took it
abbrev pub WasClean : Cause → DeskState → ℕ → ObjectName → Item → Type 0
WasClean c d p u x = (is_dirty_at d u x ≡ false) ⊎ ((v : Value) × Cleans c d p u x v)

pub step-clean : (c : Cause) (start : DeskState) (p : ℕ) (d e : DeskState) (u : ObjectName) (x : Item) → ItemStep c start p d e u x → is_dirty_at e u x ≡ false → (is_dirty_at d u x ≡ false) ⊎ ((v : Value) × Cleans c start p u x v)
step-clean c start p d e u x (alike was) clean = inl (was clean).was
step-clean c start p d e u x (cleaned v is now) clean = inr (v, is)
step-clean c start p d e u x (arrived task stamp bytes given a i was now seen) clean = inl was
step-clean c start p d e u x (learned m grant stamp room n given size fresh none was) clean = inl was

module _ (c : Cause) (turn : Turn) (p : ℕ) (proc : IsProc p) (plain : IsPlain c) (u : ObjectName) (x : Item) (d : DeskState) (desk : IsDesk d) where
  pub moves-clean : (e : DeskState) (dropped : List (ObjectName × ℕ)) → DeskMoves c turn p d e dropped → is_dirty_at e u x ≡ false → WasClean c d p u x
  moves-clean e dropped DeskMoves.none clean = inl clean
  moves-clean e dropped (DeskMoves.next {e = f} before change) clean = elim (step-clean c d p f e u x (change-item c d p u turn plain f e x [] (moves-desk c turn p proc d f dropped desk before) change) clean) [
    | inl was ↦ moves-clean f dropped before was
    | inr taken ↦ inr taken
  ]
  moves-clean e dropped (DeskMoves.dropping {e = f} before change) clean = elim (step-clean c d p f e u x (change-item c d p u turn plain f e x dropped (moves-desk c turn p proc d f [] desk before) change) clean) [
    | inl was ↦ moves-clean f [] before was
    | inr taken ↦ inr taken
  ]
