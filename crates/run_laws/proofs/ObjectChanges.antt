-- What a home's decision makes of an object.
use Rattle.std.proofs.Common.{◌≡◌, ℕ, ◌+◌, ◌<◌, ◌≤◌, Bool, true, false, List, Option, Some, None, refl, sym, ap, subst, ◌∙◌, arith}
use Rattle.std.specs.Prelude.{◌==◌, ◌&&◌, nat_le, if◌then◌else◌, is_some}
use Rattle.std.specs.Option.{option_map}
use Rattle.std.proofs.lemmas.Bool.Decides.{nat_tests}
use Rattle.uid_names.specs.Names.{ProcName, ObjectName, same_uid}
use Rattle.uid_names.specs.declared.mode.ObjKind.{ObjKind}
use Rattle.uid_names.specs.declared.limits.TheConstants.{VOLUME_ROOM}
use Rattle.uid_names.proofs.ListLemmas.{by_cases}
use Rattle.uid_names.proofs.Orders.{same_uid_is}
use Rattle.page_store.specs.Volumes.{Volume, page_of, zeros, with_page}
use Rattle.page_store.proofs.VolumeLemmas.{page_of-with_page, page_of-without_object}
use Rattle.object_store.specs.declared.attributes.Attr.{Attr}
use Rattle.object_store.specs.Kept.{IsHome}
use Rattle.object_store.specs.Objects.{attr_at, rooms, fresh, stamped, resized, changed_if, with_change}
use Rattle.object_store.specs.HomeStates.{HomeState, attr_of, after_make, after_remove, after_page, after_length}
use Rattle.object_store.specs.Rules.{has_page, has_length, stamp_of}
use Rattle.object_store.proofs.RowLemmas.{attr_at-high, attr_at-with_change, attr_at-without_row}
use Rattle.object_store.proofs.HomeLemmas.{attr_at-after_make, next-blank, IsAttr-attr_of}
use Rattle.lock_manager.specs.Grants.{grant_of}
use Rattle.lock_manager.specs.Tables.{Table}
use Rattle.ring_messages.specs.Bodies.{Ask, Answer}
use Rattle.page_server.specs.Decisions.{decide, write_answer, is_granted, may_remove}
use Rattle.page_server.proofs.Sides.{length-there, page-there}
use Rattle.run_laws.specs.Items.{Item, Value, same_item, blank, home_value, attr_length, Write, write_of}
use Rattle.run_laws.specs.Contents.{value_if, left_by}
use Rattle.run_laws.specs.ObjectMoves.{IsSameObject, IsWritten}

-- an object that is there
module _ (home : HomeState) (u : ObjectName) where
  pub attr-is : u.home ≡ home.node → attr_of home u ≡ attr_at home.objects u.counter
  attr-is at = ap (λ b. if b then attr_at home.objects u.counter else None) (let e : (u.home == home.node) ≡ true = grind (arith, nat_tests, at) in e)

  pub there-at : is_some (attr_of home u) ≡ true → u.home ≡ home.node
  there-at is = by_cases (u.home == home.node) (u.home ≡ home.node) (λ h. grind (arith, nat_tests, h))
      (λ h. absurd (let e : false ≡ true = sym (ap (λ b. is_some (if b then attr_at home.objects u.counter else None)) h) ∙ is in cc))

  -- its counter was given, and its stamp is from 1
  pub there-given : IsHome home → is_some (attr_of home u) ≡ true → u.counter ≤ home.greatest
  there-given kept is = by_cases (nat_le u.counter home.greatest) (u.counter ≤ home.greatest) (λ h. grind (arith, nat_tests, h))
      (λ h. absurd (
      let none = attr_at-high home.greatest u.counter home.objects kept.rows (grind (arith, nat_tests, h)) in
      let e : false ≡ true = sym (ap is_some (attr-is (there-at is) ∙ none)) ∙ is in cc))

  pub there-least : IsHome home → is_some (attr_of home u) ≡ true → 1 ≤ stamp_of (attr_of home u)
  there-least kept is = by (attr_of home u) refl is
    where
      by : (o : Option Attr) → attr_of home u ≡ o → is_some o ≡ true → 1 ≤ stamp_of o
      by None found some = absurd (cc)
      by (Some attr) found some = (IsAttr-attr_of home u attr kept found).stamp_low

abbrev pub LeavesNothing : ObjectName → Ask → Answer → Type 0
LeavesNothing u ask answer = (s : ℕ) (x : Item) → left_by u x s (write_of ask) answer ≡ None

-- it stays, as long as it is there; a write of it was taken; or it was made
pub data ObjectChange (home new : HomeState) (locks : Table) (p : ProcName) (ask : Ask) (answer : Answer) (u : ObjectName) : Type 0 where
  keeps : LeavesNothing u ask answer → (is_some (attr_of new u) ≡ true → IsSameObject home new u) → ObjectChange home new locks p ask answer u
  writes : (w : Write) → write_of ask ≡ Some w → w.uid ≡ u → answer ≡ Answer.Stored (stamp_of (attr_of home u) + 1) → is_granted locks w.grant u p.node ≡ true → IsWritten home new u w → ObjectChange home new locks p ask answer u
  makes : LeavesNothing u ask answer → home.greatest < u.counter → stamp_of (attr_of new u) ≡ 1 → ((x : Item) → home_value new u x ≡ blank x) → ObjectChange home new locks p ask answer u

pub same-home : (home : HomeState) (u : ObjectName) → is_some (attr_of home u) ≡ true → IsSameObject home home u
same-home home u is = record { there = is; stamp = refl; value = λ x. refl }

-- attributes that were changed
mapped-some : (change : Attr → Attr) (o : Option Attr) → is_some (option_map change o) ≡ is_some o
mapped-some change None = refl
mapped-some change (Some attr) = refl

unchanged : (change : Attr → Attr) (o : Option Attr) → option_map (changed_if false change) o ≡ o
unchanged change None = refl
unchanged change (Some attr) = refl

mapped-stamp : (change : Attr → Attr) → ((attr : Attr) → (change attr).stamp ≡ attr.stamp + 1) → (o : Option Attr) → is_some o ≡ true → stamp_of (option_map change o) ≡ stamp_of o + 1
mapped-stamp change rises None some = absurd (cc)
mapped-stamp change rises (Some attr) some = rises attr

stamped-length : (o : Option Attr) → attr_length (option_map stamped o) ≡ attr_length o
stamped-length None = refl
stamped-length (Some attr) = refl

resized-length : (n : ℕ) (o : Option Attr) → is_some o ≡ true → attr_length (option_map (resized n) o) ≡ n
resized-length n None some = absurd (cc)
resized-length n (Some attr) some = refl

-- a home with the attributes of one of its objects changed, and other pages
module _ (home : HomeState) (v : ObjectName) (there : is_some (attr_of home v) ≡ true) (change : Attr → Attr) (rises : (attr : Attr) → (change attr).stamp ≡ attr.stamp + 1) (pages : Volume) where
  abbrev home_then : HomeState
  home_then = record home { objects = with_change change v.counter home.objects; pages = pages }

  at : v.home ≡ home.node
  at = there-at home v there

  own-attr : attr_of home_then v ≡ option_map change (attr_of home v)
  own-attr = attr-is home_then v at ∙ (attr_at-with_change change v.counter v.counter home.objects
      ∙ (ap (λ b. option_map (changed_if b change) (attr_at home.objects v.counter)) (let e : (v.counter == v.counter) ≡ true = grind (arith, nat_tests) in e)
      ∙ ap (option_map change) (sym (attr-is home v at))))

  own-still : is_some (attr_of home_then v) ≡ true
  own-still = ap is_some own-attr ∙ (mapped-some change (attr_of home v) ∙ there)

  own-stamp : stamp_of (attr_of home_then v) ≡ stamp_of (attr_of home v) + 1
  own-stamp = ap stamp_of own-attr ∙ mapped-stamp change rises (attr_of home v) there

  module _ (u : ObjectName) (differs : same_uid v u ≡ false) (is : is_some (attr_of home_then u) ≡ true) where
    beside : (u.counter == v.counter) ≡ false
    beside = let a = at in let b : u.home ≡ home.node = there-at home_then u is in grind (arith, nat_tests, differs, a, b)

    other-attr : attr_of home_then u ≡ attr_of home u
    other-attr = attr-is home_then u (there-at home_then u is) ∙ (attr_at-with_change change v.counter u.counter home.objects
        ∙ (ap (λ b. option_map (changed_if b change) (attr_at home.objects u.counter)) beside
        ∙ (unchanged change (attr_at home.objects u.counter) ∙ sym (attr-is home u (there-at home_then u is)))))

    other-same : ((k : ℕ) → page_of pages u.counter k ≡ page_of home.pages u.counter k) → IsSameObject home home_then u
    other-same pages-same = record { there = sym (ap is_some other-attr) ∙ is; stamp = ap stamp_of other-attr; value = by }
      where
        by : (x : Item) → home_value home_then u x ≡ home_value home u x
        by (Item.Page k) = ap Value.Bytes (pages-same k)
        by Item.Size = ap (λ o. Value.Length (attr_length o)) other-attr

-- what a taken write makes of the object that it names, and of another
record IsTaken (home new : HomeState) (w : Write) : Type 0 where
  pub own : w.base ≡ stamp_of (attr_of home w.uid) → IsWritten home new w.uid w
  pub other : (u : ObjectName) → same_uid w.uid u ≡ false → is_some (attr_of new u) ≡ true → IsSameObject home new u

page-taken : (home : HomeState) (v : ObjectName) (k grant base : ℕ) (bytes : List ℕ) → has_page (attr_of home v) k ≡ true
    → IsTaken home (after_page home v.counter k bytes) (record { uid = v; item = Item.Page k; value = Value.Bytes bytes; grant = grant; base = base })
page-taken home v k grant base bytes has = record {
  own = λ based. record { room = has; there = there; still = own-still home v there stamped (λ attr. refl) (with_page home.pages v.counter k bytes); base = based; stamp = own-stamp home v there stamped (λ attr. refl) (with_page home.pages v.counter k bytes); value = own_value };
  other = λ u differs is. other-same home v there stamped (λ attr. refl) (with_page home.pages v.counter k bytes) u differs is (λ j.
      page_of-with_page home.pages v.counter k bytes u.counter j ∙ ap (λ b. if b && (j == k) then bytes else page_of home.pages u.counter j) (beside home v there stamped (λ attr. refl) (with_page home.pages v.counter k bytes) u differs is));
}
  where
    there : is_some (attr_of home v) ≡ true
    there = page-there (attr_of home v) k has

    own_page : (j : ℕ) → page_of (with_page home.pages v.counter k bytes) v.counter j ≡ (if k == j then bytes else page_of home.pages v.counter j)
    own_page j = page_of-with_page home.pages v.counter k bytes v.counter j
        ∙ ap (λ b. if b then bytes else page_of home.pages v.counter j) (let e : ((v.counter == v.counter) && (j == k)) ≡ (k == j) = grind (arith, nat_tests) in e)

    bytes-if : (b : Bool) (one other : List ℕ) → Value.Bytes (if b then one else other) ≡ (if b then Value.Bytes one else Value.Bytes other)
    bytes-if true one other = refl
    bytes-if false one other = refl

    own_value : (x : Item) → home_value (after_page home v.counter k bytes) v x ≡ (if same_item (Item.Page k) x then Value.Bytes bytes else home_value home v x)
    own_value (Item.Page j) = ap Value.Bytes (own_page j) ∙ bytes-if (k == j) bytes (page_of home.pages v.counter j)
    own_value Item.Size = ap Value.Length (ap attr_length (own-attr home v there stamped (λ attr. refl) (with_page home.pages v.counter k bytes)) ∙ stamped-length (attr_of home v))

length-taken : (home : HomeState) (v : ObjectName) (n grant base : ℕ) → has_length (attr_of home v) n ≡ true
    → IsTaken home (after_length home v.counter n) (record { uid = v; item = Item.Size; value = Value.Length n; grant = grant; base = base })
length-taken home v n grant base has = record {
  own = λ based. record { room = has; there = there; still = own-still home v there (resized n) (λ attr. refl) home.pages; base = based; stamp = own-stamp home v there (resized n) (λ attr. refl) home.pages; value = own_value };
  other = λ u differs is. other-same home v there (resized n) (λ attr. refl) home.pages u differs is (λ j. refl);
}
  where
    there : is_some (attr_of home v) ≡ true
    there = length-there (attr_of home v) n has

    own_value : (x : Item) → home_value (after_length home v.counter n) v x ≡ (if same_item Item.Size x then Value.Length n else home_value home v x)
    own_value (Item.Page j) = refl
    own_value Item.Size = ap Value.Length (ap attr_length (own-attr home v there (resized n) (λ attr. refl) home.pages) ∙ resized-length n (attr_of home v) there)

-- whether it is taken
module _ (home after : HomeState) (locks : Table) (p : ProcName) (ask : Ask) (w : Write) (is : write_of ask ≡ Some w) where
  abbrev stamp : ℕ
  stamp = stamp_of (attr_of home w.uid)

  abbrev ChangesTo : ObjectName → HomeState → Answer → Type 0
  ChangesTo u new answer = ObjectChange home new locks p ask answer u

  write-change : (u : ObjectName) (there granted current : Bool) → (there ≡ true → IsTaken home after w) → is_granted locks w.grant w.uid p.node ≡ granted → (w.base == stamp) ≡ current
      → ChangesTo u (if there && (granted && current) then after else home) (write_answer there granted current stamp)
  write-change u false granted current taken grants based = keeps (λ s x. ap (λ o. left_by u x s o Answer.NoObject) is) (same-home home u)
  write-change u true false current taken grants based = keeps (λ s x. ap (λ o. left_by u x s o Answer.NoGrant) is) (same-home home u)
  write-change u true true false taken grants based = keeps (λ s x. ap (λ o. left_by u x s o (Answer.Stale stamp)) is) (same-home home u)
  write-change u true true true taken grants based = by_cases (same_uid w.uid u) (ChangesTo u after (Answer.Stored (stamp + 1)))
      (λ same. subst (λ v. ChangesTo v after (Answer.Stored (stamp + 1))) (same_uid_is w.uid u same)
      (writes w is refl refl grants ((taken refl).own (let e : w.base ≡ stamp = grind (arith, nat_tests, based) in e))))
      (λ differs. keeps (λ s x. ap (λ o. left_by u x s o (Answer.Stored (stamp + 1))) is ∙ ap (λ b. value_if (b && (same_item w.item x && nat_le (stamp + 1) s)) w) differs) ((taken refl).other u differs))

-- an answer to a write tells the stamp that its object has then
abbrev pub TellsStamp : HomeState → ObjectName → Answer → Type 0
TellsStamp new u (Answer.Stored s) = (is_some (attr_of new u) ≡ true) × (stamp_of (attr_of new u) ≡ s)
TellsStamp new u (Answer.Stale s) = (is_some (attr_of new u) ≡ true) × (stamp_of (attr_of new u) ≡ s)
TellsStamp new u answer = Unit {0}

write-tells : (home after : HomeState) (w : Write) (there granted current : Bool) → (there ≡ true → IsTaken home after w) → (there ≡ true → is_some (attr_of home w.uid) ≡ true) → (w.base == stamp_of (attr_of home w.uid)) ≡ current
    → TellsStamp (if there && (granted && current) then after else home) w.uid (write_answer there granted current (stamp_of (attr_of home w.uid)))
write-tells home after w false granted current taken there based = tt
write-tells home after w true false current taken there based = tt
write-tells home after w true true false taken there based = (there refl, refl)
write-tells home after w true true true taken there based = let own = (taken refl).own (let e : w.base ≡ stamp_of (attr_of home w.uid) = grind (arith, nat_tests, based) in e) in (own.still, own.stamp)

-- a making, and a removal
module _ (home : HomeState) (u : ObjectName) (locks : Table) (p : ProcName) where
  make-change : (kind : ObjKind) (room : ℕ) (answer : Answer) (fits : Bool) → IsHome home → ObjectChange home (if fits then after_make home kind room else home) locks p (Ask.Make kind room) answer u
  make-change kind room answer false kept = keeps (λ s x. refl) (same-home home u)
  make-change kind room answer true kept = by_cases (is_some (attr_of (after_make home kind room) u)) (ObjectChange home (after_make home kind room) locks p (Ask.Make kind room) answer u) there (λ gone. keeps (λ s x. refl) (λ is. absurd (let e : false ≡ true = sym gone ∙ is in cc)))
    where
      there : is_some (attr_of (after_make home kind room) u) ≡ true → ObjectChange home (after_make home kind room) locks p (Ask.Make kind room) answer u
      there is = by_cases (u.counter == home.greatest + 1) (ObjectChange home (after_make home kind room) locks p (Ask.Make kind room) answer u)
          (λ h. fresh-made (let e : u.counter ≡ home.greatest + 1 = grind (arith, nat_tests, h) in e) (found ∙ ap (λ b. if b then Some (fresh kind room) else attr_at home.objects u.counter) h))
          (λ h. was (found ∙ (ap (λ b. if b then Some (fresh kind room) else attr_at home.objects u.counter) h ∙ sym (attr-is home u (there-at (after_make home kind room) u is)))))
        where
          found : attr_of (after_make home kind room) u ≡ (if u.counter == home.greatest + 1 then Some (fresh kind room) else attr_at home.objects u.counter)
          found = attr-is (after_make home kind room) u (there-at (after_make home kind room) u is) ∙ attr_at-after_make home kind room u.counter kept

          fresh-made : u.counter ≡ home.greatest + 1 → attr_of (after_make home kind room) u ≡ Some (fresh kind room) → ObjectChange home (after_make home kind room) locks p (Ask.Make kind room) answer u
          fresh-made next attr = makes (λ s x. refl) (omega (arith, next)) (ap stamp_of attr) by
            where
              by : (x : Item) → home_value (after_make home kind room) u x ≡ blank x
              by (Item.Page k) = ap Value.Bytes (ap (λ i. page_of home.pages i k) next ∙ next-blank home k kept)
              by Item.Size = ap (λ o. Value.Length (attr_length o)) attr

          was : attr_of (after_make home kind room) u ≡ attr_of home u → ObjectChange home (after_make home kind room) locks p (Ask.Make kind room) answer u
          was attr = keeps (λ s x. refl) (λ here. record { there = sym (ap is_some attr) ∙ is; stamp = ap stamp_of attr; value = by })
            where
              by : (x : Item) → home_value (after_make home kind room) u x ≡ home_value home u x
              by (Item.Page k) = refl
              by Item.Size = ap (λ o. Value.Length (attr_length o)) attr

  removed-same : (counter : ℕ) → is_some (attr_of (after_remove home counter) u) ≡ true → IsSameObject home (after_remove home counter) u
  removed-same counter is = by_cases (u.counter == counter) (IsSameObject home (after_remove home counter) u)
      (λ h. absurd (let e : false ≡ true = sym (ap is_some (found ∙ ap (λ b. if b then None else attr_at home.objects u.counter) h)) ∙ is in cc))
      (λ h. was h (found ∙ (ap (λ b. if b then None else attr_at home.objects u.counter) h ∙ sym (attr-is home u (there-at (after_remove home counter) u is)))))
    where
      found : attr_of (after_remove home counter) u ≡ (if u.counter == counter then None else attr_at home.objects u.counter)
      found = attr-is (after_remove home counter) u (there-at (after_remove home counter) u is) ∙ attr_at-without_row counter u.counter home.objects

      was : (u.counter == counter) ≡ false → attr_of (after_remove home counter) u ≡ attr_of home u → IsSameObject home (after_remove home counter) u
      was apart attr = record { there = sym (ap is_some attr) ∙ is; stamp = ap stamp_of attr; value = by }
        where
          by : (x : Item) → home_value (after_remove home counter) u x ≡ home_value home u x
          by (Item.Page k) = ap Value.Bytes (page_of-without_object home.pages counter u.counter k ∙ ap (λ b. if b then zeros else page_of home.pages u.counter k) apart)
          by Item.Size = ap (λ o. Value.Length (attr_length o)) attr

  remove-change : (v : ObjectName) (answer : Answer) (there held : Bool) → ObjectChange home (if there && held then after_remove home v.counter else home) locks p (Ask.Remove v) answer u
  remove-change v answer false held = keeps (λ s x. refl) (same-home home u)
  remove-change v answer true false = keeps (λ s x. refl) (same-home home u)
  remove-change v answer true true = keeps (λ s x. refl) (removed-same v.counter)

module _ (home : HomeState) (kept : IsHome home) (locks : Table) (p : ProcName) where
  pub decide-change : (u : ObjectName) (ask : Ask) → ObjectChange home (decide home locks p ask).home locks p ask (decide home locks p ask).answer u
  decide-change u (Ask.PageIn v k) = keeps (λ s x. refl) (same-home home u)
  decide-change u (Ask.PageOut v k grant base bytes) =
      write-change home (after_page home v.counter k bytes) locks p (Ask.PageOut v k grant base bytes) (record { uid = v; item = Item.Page k; value = Value.Bytes bytes; grant = grant; base = base }) refl u
      (has_page (attr_of home v) k) (is_granted locks grant v p.node) (base == stamp_of (attr_of home v)) (λ has. page-taken home v k grant base bytes has) refl refl
  decide-change u (Ask.AttrOut v n grant base) =
      write-change home (after_length home v.counter n) locks p (Ask.AttrOut v n grant base) (record { uid = v; item = Item.Size; value = Value.Length n; grant = grant; base = base }) refl u
      (has_length (attr_of home v) n) (is_granted locks grant v p.node) (base == stamp_of (attr_of home v)) (λ has. length-taken home v n grant base has) refl refl
  decide-change u (Ask.Lock v m) = keeps (λ s x. refl) (same-home home u)
  decide-change u (Ask.Unlock v) = keeps (λ s x. refl) (same-home home u)
  decide-change u (Ask.Remove v) = remove-change home u locks p v _ (is_some (attr_of home v)) (may_remove (grant_of p v locks.grants))
  decide-change u (Ask.Make kind room) = make-change home u locks p kind room _ (nat_le (rooms home.objects + room) VOLUME_ROOM) kept
  decide-change u (Ask.ListLocks after) = keeps (λ s x. refl) (same-home home u)

-- a home's answer to a write
abbrev pub WriteTells : HomeState → Option Write → Answer → Type 0
WriteTells new (Some w) answer = TellsStamp new w.uid answer
WriteTells new None answer = Unit {0}

pub decide-tells : (home : HomeState) (locks : Table) (p : ProcName) (ask : Ask) → WriteTells (decide home locks p ask).home (write_of ask) (decide home locks p ask).answer
decide-tells home locks p (Ask.PageIn v k) = tt
decide-tells home locks p (Ask.PageOut v k grant base bytes) =
    write-tells home (after_page home v.counter k bytes) (record { uid = v; item = Item.Page k; value = Value.Bytes bytes; grant = grant; base = base })
    (has_page (attr_of home v) k) (is_granted locks grant v p.node) (base == stamp_of (attr_of home v)) (λ has. page-taken home v k grant base bytes has) (page-there (attr_of home v) k) refl
decide-tells home locks p (Ask.AttrOut v n grant base) =
    write-tells home (after_length home v.counter n) (record { uid = v; item = Item.Size; value = Value.Length n; grant = grant; base = base })
    (has_length (attr_of home v) n) (is_granted locks grant v p.node) (base == stamp_of (attr_of home v)) (λ has. length-taken home v n grant base has) (length-there (attr_of home v) n) refl
decide-tells home locks p (Ask.Lock v m) = tt
decide-tells home locks p (Ask.Unlock v) = tt
decide-tells home locks p (Ask.Remove v) = tt
decide-tells home locks p (Ask.Make kind room) = tt
decide-tells home locks p (Ask.ListLocks after) = tt
