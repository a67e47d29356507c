-- Whether an object is there is told by the decisions of its home.
use Rattle.std.proofs.Common.{◌≡◌, ℕ, ◌+◌, Bool, true, false, List, [], ◌∷◌, ◌++◌, Option, None, refl, sym, ap, ◌∙◌, arith}
use Rattle.std.specs.Prelude.{◌==◌, ◌&&◌, nat_le, if◌then◌else◌, is_some}
use Rattle.std.proofs.lemmas.Bool.Decides.{nat_tests}
use Rattle.uid_names.specs.Names.{ProcName, ObjectName, same_uid}
use Rattle.uid_names.specs.declared.mode.ObjKind.{ObjKind}
use Rattle.uid_names.specs.declared.limits.TheConstants.{VOLUME_ROOM}
use Rattle.uid_names.proofs.ListLemmas.{by_cases}
use Rattle.page_store.specs.Volumes.{with_page}
use Rattle.object_store.specs.declared.attributes.Attr.{Attr}
use Rattle.object_store.specs.declared.attributes.ObjectRow.{ObjectRow}
use Rattle.object_store.specs.Objects.{attr_at, rooms, with_change, stamped, resized}
use Rattle.object_store.specs.Rules.{has_page, has_length, stamp_of}
use Rattle.object_store.specs.HomeStates.{HomeState, attr_of, next_row, after_make, after_remove, after_page, after_length}
use Rattle.object_store.proofs.RowLemmas.{attr_at-without_row}
use Rattle.lock_manager.specs.Grants.{grant_of}
use Rattle.lock_manager.specs.Tables.{Table}
use Rattle.ring_messages.specs.Bodies.{Ask, Answer}
use Rattle.page_server.specs.Decisions.{decide, remove_answer, make_answer, may_remove, is_granted}
use Rattle.node_runs.specs.Notes.{Note}
use Rattle.node_runs.specs.Replays.{Held, after_note, IsAnswered}

-- whether u is there, after this answer
abbrev pub there_after : ObjectName → Ask → Answer → Bool → Bool
there_after u (Ask.Make kind room) (Answer.Made v) old = if same_uid u v then true else old
there_after u (Ask.Remove v) Answer.Done old = if same_uid u v then false else old
there_after u _ _ old = old

abbrev pub there_noted : ObjectName → Note → Bool → Bool
there_noted u (Note.Decided q number ask answer) old = there_after u ask answer old
there_noted u note old = old

-- whether an object is there after a decision
module _ (u : ObjectName) where
  abbrev pub there_view : Held → Bool
  there_view h = is_some (attr_of h.home u)

  pub some-changed : (change : Attr → Attr) (counter k : ℕ) (rows : List ObjectRow) → is_some (attr_at (with_change change counter rows) k) ≡ is_some (attr_at rows k)
  some-changed change counter k [] = refl
  some-changed change counter k (row ∷ rest) =
      by_cases (row.counter == k) (is_some (attr_at (with_change change counter (row ∷ rest)) k) ≡ is_some (attr_at (row ∷ rest) k))
      (λ h. rw h refl)
      (λ h. rw h (some-changed change counter k rest))

  pub some-pushed : (k : ℕ) (rows : List ObjectRow) (new : ObjectRow) → is_some (attr_at (rows ++ new ∷ []) k) ≡ (if new.counter == k then true else is_some (attr_at rows k))
  some-pushed k [] new =
      by_cases (new.counter == k) (is_some (attr_at (new ∷ []) k) ≡ (if new.counter == k then true else false)) (λ h. rw h refl) (λ h. rw h refl)
  some-pushed k (row ∷ rest) new =
      by_cases (row.counter == k) (is_some (attr_at (row ∷ (rest ++ new ∷ [])) k) ≡ (if new.counter == k then true else is_some (attr_at (row ∷ rest) k)))
      (λ h. by_cases (new.counter == k) (is_some (attr_at (row ∷ (rest ++ new ∷ [])) k) ≡ (if new.counter == k then true else is_some (attr_at (row ∷ rest) k))) (λ j. rw (h, j) refl) (λ j. rw (h, j) refl))
      (λ h. rw h (some-pushed k rest new))

  -- of the objects of a home
  abbrev pub here : Bool → Bool → Bool
  here true there = there
  here false there = false

  pub attr-here : (home : HomeState) → is_some (attr_of home u) ≡ here (u.home == home.node) (is_some (attr_at home.objects u.counter))
  attr-here home = by_cases (u.home == home.node) (is_some (attr_of home u) ≡ here (u.home == home.node) (is_some (attr_at home.objects u.counter))) (λ h. rw h refl) (λ h. rw h refl)

  changed-there : (home : HomeState) (change : Attr → Attr) (counter : ℕ) (pages : _) → is_some (attr_of (record home { objects = with_change change counter home.objects; pages = pages }) u) ≡ is_some (attr_of home u)
  changed-there home change counter pages =
      attr-here (record home { objects = with_change change counter home.objects; pages = pages })
      ∙ ap (here (u.home == home.node)) (some-changed change counter u.counter home.objects)
      ∙ sym (attr-here home)

  write-there : (there granted current : Bool) (stamp : ℕ) (home after : HomeState) → is_some (attr_of after u) ≡ is_some (attr_of home u) → is_some (attr_of (if there && (granted && current) then after else home) u) ≡ is_some (attr_of home u)
  write-there false granted current stamp home after same = refl
  write-there true false current stamp home after same = refl
  write-there true true false stamp home after same = refl
  write-there true true true stamp home after same = same

  named-here : (node counter : ℕ) → same_uid u (record { counter = counter; home = node }) ≡ here (u.home == node) (counter == u.counter)
  named-here node counter = by_cases (u.home == node) (same_uid u (record { counter = counter; home = node }) ≡ here (u.home == node) (counter == u.counter)) (λ h. rw h (grind (arith, nat_tests, h))) (λ h. rw h (grind (arith, nat_tests, h)))

  pushed-here : (a b c : Bool) → here a (if b then true else c) ≡ (if here a b then true else here a c)
  pushed-here true b c = refl
  pushed-here false b c = refl

  make-there : (home : HomeState) (kind : ObjKind) (room : ℕ) (fits : Bool)
      → is_some (attr_of (if fits then after_make home kind room else home) u) ≡ there_after u (Ask.Make kind room) (make_answer fits (record { counter = home.greatest + 1; home = home.node })) (is_some (attr_of home u))
  make-there home kind room false = refl
  make-there home kind room true =
      attr-here (after_make home kind room)
      ∙ ap (here (u.home == home.node)) (some-pushed u.counter home.objects (next_row home kind room))
      ∙ pushed-here (u.home == home.node) (home.greatest + 1 == u.counter) (is_some (attr_at home.objects u.counter))
      ∙ ap (λ b. if b then true else here (u.home == home.node) (is_some (attr_at home.objects u.counter))) (sym (named-here home.node (home.greatest + 1)))
      ∙ ap (λ b. if same_uid u (record { counter = home.greatest + 1; home = home.node }) then true else b) (sym (attr-here home))

  some-taken : (b : Bool) (o : Option Attr) → is_some (if b then None else o) ≡ (if b then false else is_some o)
  some-taken true o = refl
  some-taken false o = refl

  taken-here : (a b c : Bool) → here a (if b then false else c) ≡ (if here a b then false else here a c)
  taken-here true b c = refl
  taken-here false b c = refl

  turned : (x y : ℕ) → (x == y) ≡ (y == x)
  turned x y = grind (arith, nat_tests)

  there-home : (home : HomeState) (v : ObjectName) → is_some (attr_of home v) ≡ true → v.home ≡ home.node
  there-home home v is = by_cases (v.home == home.node) (v.home ≡ home.node) (λ h. grind (arith, nat_tests, h)) (λ h. absurd (let e : false ≡ true = rw h at is in cc))

  remove-there : (home : HomeState) (v : ObjectName) (there held : Bool) → is_some (attr_of home v) ≡ there
      → is_some (attr_of (if there && held then after_remove home v.counter else home) u) ≡ there_after u (Ask.Remove v) (remove_answer there held) (is_some (attr_of home u))
  remove-there home v false held is = refl
  remove-there home v true false is = refl
  remove-there home v true true is =
      attr-here (after_remove home v.counter)
      ∙ ap (λ o. here (u.home == home.node) (is_some o)) (attr_at-without_row v.counter u.counter home.objects)
      ∙ ap (here (u.home == home.node)) (some-taken (u.counter == v.counter) (attr_at home.objects u.counter) ∙ ap (λ b. if b then false else is_some (attr_at home.objects u.counter)) (turned u.counter v.counter))
      ∙ taken-here (u.home == home.node) (v.counter == u.counter) (is_some (attr_at home.objects u.counter))
      ∙ ap (λ b. if b then false else here (u.home == home.node) (is_some (attr_at home.objects u.counter)))
      (sym (named-here home.node v.counter) ∙ ap (λ n. same_uid u (record { counter = v.counter; home = n })) (sym (there-home home v is)))
      ∙ ap (λ b. if same_uid u v then false else b) (sym (attr-here home))

  pub decide-there : (home : HomeState) (locks : Table) (q : ProcName) (ask : Ask) → is_some (attr_of (decide home locks q ask).home u) ≡ there_after u ask (decide home locks q ask).answer (is_some (attr_of home u))
  decide-there home locks q (Ask.PageIn v page) = refl
  decide-there home locks q (Ask.PageOut v page grant base bytes) =
      write-there (has_page (attr_of home v) page) (is_granted locks grant v q.node) (base == stamp_of (attr_of home v)) (stamp_of (attr_of home v)) home (after_page home v.counter page bytes) (changed-there home stamped v.counter (with_page home.pages v.counter page bytes))
  decide-there home locks q (Ask.AttrOut v length grant base) =
      write-there (has_length (attr_of home v) length) (is_granted locks grant v q.node) (base == stamp_of (attr_of home v)) (stamp_of (attr_of home v)) home (after_length home v.counter length) (changed-there home (resized length) v.counter home.pages)
  decide-there home locks q (Ask.Lock v m) = refl
  decide-there home locks q (Ask.Unlock v) = refl
  decide-there home locks q (Ask.Remove v) = remove-there home v (is_some (attr_of home v)) (may_remove (grant_of q v locks.grants)) refl
  decide-there home locks q (Ask.Make kind room) = make-there home kind room (nat_le (rooms home.objects + room) VOLUME_ROOM)
  decide-there home locks q (Ask.ListLocks after) = refl

  pub there-each : (h : Held) (note : Note) → IsAnswered h note → there_view (after_note h note) ≡ there_noted u note (there_view h)
  there-each h Note.Nothing is = refl
  there-each h (Note.Began q op) is = refl
  there-each h (Note.Did q phase op reply) is = refl
  there-each h (Note.Ended t) is = refl
  there-each h (Note.Decided q number ask answer) is = decide-there h.home h.locks q ask ∙ ap (λ a. there_after u ask a (there_view h)) (sym is)
