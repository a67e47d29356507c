-- Stamps never fall, and numbers are given once.
use Rattle.std.proofs.Common.{◌≡◌, ℕ, ◌+◌, ◌≤◌, ◌==◌, List, [], ◌∷◌, ◌++◌, ◌∙◌, ap, sym, refl, subst, arith}
use Rattle.std.specs.Prelude.{Bool, true, false, if◌then◌else◌, Option, Some, None, IsSome, IfSome}
use Rattle.std.specs.Option.{option_map}
use Rattle.uid_names.specs.Names.{ProcName, ObjectName}
use Rattle.uid_names.specs.declared.mode.ObjKind.{ObjKind}
use Rattle.object_store.specs.declared.attributes.Attr.{Attr}
use Rattle.object_store.specs.declared.attributes.ObjectRow.{ObjectRow}
use Rattle.object_store.specs.Objects.{attr_at, changed_if, stamped, resized, with_change, without_row}
use Rattle.object_store.specs.HomeStates.{HomeState, attr_of, next_row, after_make, after_remove, after_page, after_length}
use Rattle.object_store.proofs.RowLemmas.{attr_at-with_change, attr_at-without_row}
use Rattle.lock_manager.specs.Tables.{Table}
use Rattle.call_once.specs.declared.served.Looked.{Looked}
use Rattle.call_once.specs.declared.served.Looked.TheVariants.{Fresh, Again, Old}
use Rattle.call_once.specs.Calls.{looked, last_of}
use Rattle.ring_messages.specs.Bodies.{Ask}
use Rattle.page_server.specs.Decisions.{decide}
use Rattle.page_server.specs.Serving.{HomeSide, serve_as, serve_of}

-- the stamp of the object with this counter did not fall
abbrev NotFallen : List ObjectRow → ℕ → List ObjectRow → Type 0
NotFallen rows counter new = (before after : Attr) → attr_at rows counter ≡ Some before → attr_at new counter ≡ Some after → before.stamp ≤ after.stamp

same-stamp : (before after : Attr) → Some before ≡ Some after → before.stamp ≤ after.stamp
same-stamp before after is = let one : before ≡ after = cc in subst (λ (a : Attr). before.stamp ≤ a.stamp) one (omega arith)

NotFallen-same : (rows : List ObjectRow) (counter : ℕ) → NotFallen rows counter rows
NotFallen-same rows counter before after old new = same-stamp before after (sym old ∙ new)

NotFallen-with_change : (change : Attr → Attr) (counter q : ℕ) (rows : List ObjectRow) → ((attr : Attr) → (change attr).stamp ≡ attr.stamp + 1) → NotFallen rows q (with_change change counter rows)
NotFallen-with_change change counter q rows raises before after old new =
    let found : Some (changed_if (q == counter) change before) ≡ Some after =
    sym (attr_at-with_change change counter q rows ∙ ap (option_map (changed_if (q == counter) change)) old) ∙ new in
    by (q == counter) found
  where
    by : (b : Bool) → Some (changed_if b change before) ≡ Some after → before.stamp ≤ after.stamp
    by true is = let one : change before ≡ after = cc in subst (λ (a : Attr). before.stamp ≤ a.stamp) one (omega (arith, raises before))
    by false is = same-stamp before after is

NotFallen-without_row : (counter q : ℕ) (rows : List ObjectRow) → NotFallen rows q (without_row counter rows)
NotFallen-without_row counter q rows before after old new = by (q == counter) (sym (attr_at-without_row counter q rows) ∙ new)
  where
    by : (b : Bool) → (if b then None else attr_at rows q) ≡ Some after → before.stamp ≤ after.stamp
    by true is = absurd cc
    by false is = same-stamp before after (sym old ∙ is)

-- what was found is found before a row that is put last
found-push : (rows : List ObjectRow) (row : ObjectRow) (q : ℕ) (attr : Attr) → attr_at rows q ≡ Some attr → attr_at (rows ++ row ∷ []) q ≡ Some attr
found-push [] row q attr is = absurd cc
found-push (first ∷ rest) row q attr is = by (first.counter == q) is (found-push rest row q attr)
  where
    by : (b : Bool) → (if b then Some first.attr else attr_at rest q) ≡ Some attr → (attr_at rest q ≡ Some attr → attr_at (rest ++ row ∷ []) q ≡ Some attr)
        → (if b then Some first.attr else attr_at (rest ++ row ∷ []) q) ≡ Some attr
    by true is later = is
    by false is later = later is

NotFallen-push : (rows : List ObjectRow) (row : ObjectRow) (q : ℕ) → NotFallen rows q (rows ++ row ∷ [])
NotFallen-push rows row q before after old new = same-stamp before after (sym (found-push rows row q before old) ∙ new)

-- a home at which no stamp fell
record IsAfter (old new : HomeState) : Type 0 where
  node : new.node ≡ old.node
  stamps : (counter : ℕ) → NotFallen old.objects counter new.objects

module _ (home : HomeState) where
  same : IsAfter home home
  same = record { node = refl; stamps = NotFallen-same home.objects }

  written : (counter page : ℕ) (bytes : List ℕ) → IsAfter home (after_page home counter page bytes)
  written counter page bytes = record { node = refl; stamps = λ q. NotFallen-with_change stamped counter q home.objects (λ attr. refl) }

  resizes : (counter length : ℕ) → IsAfter home (after_length home counter length)
  resizes counter length = record { node = refl; stamps = λ q. NotFallen-with_change (resized length) counter q home.objects (λ attr. refl) }

  removed : (counter : ℕ) → IsAfter home (after_remove home counter)
  removed counter = record { node = refl; stamps = λ q. NotFallen-without_row counter q home.objects }

  made : (kind : ObjKind) (room : ℕ) → IsAfter home (after_make home kind room)
  made kind room = record { node = refl; stamps = λ q. NotFallen-push home.objects (next_row home kind room) q }

  choice : (b : Bool) (new : HomeState) → IsAfter home new → IsAfter home (if b then new else home)
  choice true new after = after
  choice false new after = same

  decided : (locks : Table) (p : ProcName) (ask : Ask) → IsAfter home (decide home locks p ask).home
  decided locks p (Ask.PageIn u k) = same
  decided locks p (Ask.PageOut u k grant base bytes) = choice _ (after_page home u.counter k bytes) (written u.counter k bytes)
  decided locks p (Ask.AttrOut u length grant base) = choice _ (after_length home u.counter length) (resizes u.counter length)
  decided locks p (Ask.Lock u mode) = same
  decided locks p (Ask.Unlock u) = same
  decided locks p (Ask.Remove u) = choice _ (after_remove home u.counter) (removed u.counter)
  decided locks p (Ask.Make kind room) = choice _ (after_make home kind room) (made kind room)
  decided locks p (Ask.ListLocks after) = same

-- a home keeps its node
pub decided-node : (home : HomeState) (locks : Table) (p : ProcName) (ask : Ask) → (decide home locks p ask).home.node ≡ home.node
decided-node home locks p ask = (decided home locks p ask).node

pub asked-node : (home new : HomeState) (locks : Table) (p : ProcName) (asked : Option Ask) → IsSome asked → IfSome asked (λ ask. new ≡ (decide home locks p ask).home) → new.node ≡ home.node
asked-node home new locks p None asks is = absurd cc
asked-node home new locks p (Some ask) asks is = rw is (decided-node home locks p ask)

-- the stamp of an object that is there before and afterwards
IsAfter-stamp : (old new : HomeState) → IsAfter old new → (u : ObjectName) (before after : Attr) → attr_of old u ≡ Some before → attr_of new u ≡ Some after → before.stamp ≤ after.stamp
IsAfter-stamp old new follows u before after was is = by (u.home == old.node) was (rw follows.node at is)
  where
    by : (b : Bool) → (if b then attr_at old.objects u.counter else None) ≡ Some before → (if b then attr_at new.objects u.counter else None) ≡ Some after → before.stamp ≤ after.stamp
    by true was is = follows.stamps u.counter before after was is
    by false was is = absurd cc

pub stamps-rise : (side : HomeSide) (p : ProcName) (number : ℕ) (ask : Ask) (u : ObjectName) (before after : Attr) → attr_of side.home u ≡ Some before
    → attr_of (serve_of side p number ask).side.home u ≡ Some after → before.stamp ≤ after.stamp
stamps-rise side p number ask u before after = by (looked number (last_of p side.served))
  where
    by : (l : Looked) → attr_of side.home u ≡ Some before → attr_of (serve_as l side p number ask).side.home u ≡ Some after → before.stamp ≤ after.stamp
    by Fresh was is = IsAfter-stamp side.home (decide side.home side.locks p ask).home (decided side.home side.locks p ask) u before after was is
    by Again was is = same-stamp before after (sym was ∙ is)
    by Old was is = same-stamp before after (sym was ∙ is)
