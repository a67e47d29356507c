-- The present objects of the history of a run are the objects of the homes.
use Rattle.std.proofs.Common.{◌≡◌, ◌≢◌, ℕ, zero, suc, ◌+◌, ◌≤◌, Bool, true, false, List, [], ◌∷◌, ◌++◌, Option, Some, None, map, inl, inr, refl, sym, ap, subst, ◌∙◌, arith}
use Rattle.std.specs.Prelude.{◌==◌, ◌&&◌, ◌||◌, not, nat_le, if◌then◌else◌, is_some, find}
use Rattle.std.proofs.lemmas.Bool.{cases_eq}
use Rattle.std.proofs.lemmas.Bool.Decides.{nat_tests}
use Rattle.uid_names.specs.Names.{ProcName, ObjectName, same_uid}
use Rattle.uid_names.specs.Openings.{Start}
use Rattle.uid_names.specs.Beginnings.{at_home, entry_directory}
use Rattle.uid_names.specs.declared.opening.Object.{Object}
use Rattle.uid_names.specs.declared.limits.TheConstants.{VOLUME_ROOM}
use Rattle.uid_names.proofs.ListLemmas.{by_cases}
use Rattle.uid_names.proofs.Orders.{same_uid-sym}
use Rattle.dom_history.specs.StoreEffects.{StoreEffect, Makes, TakesLock, FreesLock, Deletes, Writes, Maps, Unmaps}
use Rattle.dom_history.specs.Objects.{made, is_deleted, is_present, is_node, entry_directories}
use Rattle.dom_history.proofs.KeptObjects.{find-present}
use Rattle.object_store.specs.declared.attributes.Attr.{Attr}
use Rattle.object_store.specs.Objects.{attr_at, rooms, with_change, stamped, resized}
use Rattle.object_store.specs.HomeStates.{HomeState, attr_of, next_row, after_make, after_remove, after_page, after_length}
use Rattle.object_store.specs.Beginnings.{opened}
use Rattle.object_store.proofs.RowLemmas.{attr_at-without_row, attr_at-high}
use Rattle.object_store.proofs.Begun.{IsHome-first_home}
use Rattle.lock_manager.specs.Grants.{grant_of, conflict_of}
use Rattle.lock_manager.specs.Tables.{Table}
use Rattle.ring_messages.specs.Bodies.{Ask, Answer}
use Rattle.page_server.specs.Decisions.{decide, lock_answer, remove_answer, make_answer, may_remove}
use Rattle.page_server.proofs.Given.{greatest-rises}
use Rattle.page_server.proofs.Rising.{decided-node}
use Rattle.node_runs.specs.Setups.{Setup, IsSetup}
use Rattle.node_runs.specs.Notes.{Note}
use Rattle.node_runs.specs.Runs.{Noted}
use Rattle.node_runs.specs.CallsKeep.{EachOf}
use Rattle.node_runs.specs.Replays.{Held, after_note, replay, first_held, IsAnswered, after_if, AreAnswered}
use Rattle.node_runs.specs.RunHistories.{settled_op, change_reply}
use Rattle.run_laws.specs.AskedHomes.{IsAtHome}
use Rattle.run_laws.specs.DecidedEffects.{home_effects, effect_if, noted_effect, decided_effects}
use Rattle.run_laws.proofs.HomeObjects.{there_after, attr-here, here, there_view, there-each, some-changed, some-pushed}
use Rattle.run_laws.proofs.HomeRows.{IsMeantAt, kept-replay}

-- what is there is told by the effects of homes alone
pub made-home : (opening : Start) (past : List StoreEffect) → made opening (home_effects past) ≡ made opening past
made-home opening [] = refl
made-home opening (Makes o ∷ past) = ap (λ xs. xs ++ o ∷ []) (made-home opening past)
made-home opening (TakesLock q v m ∷ past) = made-home opening past
made-home opening (FreesLock q v ∷ past) = made-home opening past
made-home opening (Deletes q v ∷ past) = made-home opening past
made-home opening (Writes q spot bytes ∷ past) = made-home opening past
made-home opening (Maps q v address ∷ past) = made-home opening past
made-home opening (Unmaps q v ∷ past) = made-home opening past

pub deleted-home : (u : ObjectName) (past : List StoreEffect) → is_deleted u (home_effects past) ≡ is_deleted u past
deleted-home u [] = refl
deleted-home u (Makes o ∷ past) = deleted-home u past
deleted-home u (TakesLock q v m ∷ past) = deleted-home u past
deleted-home u (FreesLock q v ∷ past) = deleted-home u past
deleted-home u (Deletes q v ∷ past) = ap (λ b. same_uid u v || b) (deleted-home u past)
deleted-home u (Writes q spot bytes ∷ past) = deleted-home u past
deleted-home u (Maps q v address ∷ past) = deleted-home u past
deleted-home u (Unmaps q v ∷ past) = deleted-home u past

module _ (opening : Start) (u : ObjectName) where
  abbrev was_made : List StoreEffect → Bool
  was_made past = is_some (find (λ o. same_uid o.uid u) (made opening past))

  abbrev is_there : List StoreEffect → Bool
  is_there past = was_made past && not (is_deleted u past)

  present-is : (past : List StoreEffect) → is_present opening past u ≡ is_there past
  present-is past = find-present (λ v. is_deleted v past) (made opening past) u

  pub present-home : (past : List StoreEffect) → is_present opening (home_effects past) u ≡ is_present opening past u
  present-home past =
      present-is (home_effects past)
      ∙ ap (λ xs. is_some (find (λ o. same_uid o.uid u) xs) && not (is_deleted u (home_effects past))) (made-home opening past)
      ∙ ap (λ b. was_made past && not b) (deleted-home u past)
      ∙ sym (present-is past)

find-append : (test : Object → Bool) (xs ys : List Object) → is_some (find test (xs ++ ys)) ≡ (is_some (find test xs) || is_some (find test ys))
find-append test [] ys = refl
find-append test (x ∷ xs) ys =
    by_cases (test x) (is_some (find test ((x ∷ xs) ++ ys)) ≡ (is_some (find test (x ∷ xs)) || is_some (find test ys))) (λ h. rw h refl) (λ h. rw h (find-append test xs ys))

find-one : (test : Object → Bool) (x : Object) → is_some (find test (x ∷ [])) ≡ test x
find-one test x = by_cases (test x) (is_some (find test (x ∷ [])) ≡ test x) (λ h. rw h refl) (λ h. rw h refl)

find-push : (test : Object → Bool) (xs : List Object) (x : Object) → is_some (find test (xs ++ x ∷ [])) ≡ (is_some (find test xs) || test x)
find-push test xs x = find-append test xs (x ∷ []) ∙ ap (λ b. is_some (find test xs) || b) (find-one test x)

-- the counters of a home's objects are at most its greatest
abbrev IsLow : Held → Type 0
IsLow h = (k : ℕ) → is_some (attr_at h.home.objects k) ≡ true → k ≤ h.home.greatest

module _ (home : HomeState) (low : (k : ℕ) → is_some (attr_at home.objects k) ≡ true → k ≤ home.greatest) where
  abbrev Low : HomeState → Type 0
  Low x = (k : ℕ) → is_some (attr_at x.objects k) ≡ true → k ≤ x.greatest

  changed-low : (change : Attr → Attr) (counter : ℕ) (k : ℕ) → is_some (attr_at (with_change change counter home.objects) k) ≡ true → k ≤ home.greatest
  changed-low change counter k is = low k (sym (some-changed (record { counter = 0; home = 0 }) change counter k home.objects) ∙ is)

  if-low : (b : Bool) (x : HomeState) → Low x → Low (if b then x else home)
  if-low true x is = is
  if-low false x is = low

  make-low : (kind : _) (room : ℕ) → Low (after_make home kind room)
  make-low kind room k is =
      by_cases (home.greatest + 1 == k) (k ≤ home.greatest + 1) (λ h. grind (arith, nat_tests, h))
      (λ h. let e = low k (sym (some-pushed (record { counter = 0; home = 0 }) k home.objects (next_row home kind room) ∙ ap (λ b. if b then true else is_some (attr_at home.objects k)) h) ∙ is) in omega (arith, e))

  remove-low : (counter : ℕ) → Low (after_remove home counter)
  remove-low counter k is = low k (by (k == counter) (attr_at home.objects k) (sym (ap (λ o. is_some o) (attr_at-without_row counter k home.objects)) ∙ is))
    where
      by : (b : Bool) (o : Option Attr) → is_some (if b then None else o) ≡ true → is_some o ≡ true
      by true o is = absurd (cc)
      by false o is = is

  decide-low : (locks : Table) (q : ProcName) (ask : Ask) → Low (decide home locks q ask).home
  decide-low locks q (Ask.PageIn v page) = low
  decide-low locks q (Ask.PageOut v page grant base bytes) = if-low _ (after_page home v.counter page bytes) (changed-low stamped v.counter)
  decide-low locks q (Ask.AttrOut v n grant base) = if-low _ (after_length home v.counter n) (changed-low (resized n) v.counter)
  decide-low locks q (Ask.Lock v m) = low
  decide-low locks q (Ask.Unlock v) = low
  decide-low locks q (Ask.Remove v) = if-low _ (after_remove home v.counter) (remove-low v.counter)
  decide-low locks q (Ask.Make kind room) = if-low _ (after_make home kind room) (make-low kind room)
  decide-low locks q (Ask.ListLocks after) = low

low-each : (h : Held) (note : Note) → IsLow h → IsLow (after_note h note)
low-each h Note.Nothing is = is
low-each h (Note.Began q op) is = is
low-each h (Note.Did q phase op reply) is = is
low-each h (Note.Ended t) is = is
low-each h (Note.Decided q number ask answer) is = decide-low h.home is h.locks q ask

-- a home stays that of its node
node-if : (n : ℕ) (b : Bool) (x y : HomeState) → x.node ≡ n → y.node ≡ n → (if b then x else y).node ≡ n
node-if n true x y a b = a
node-if n false x y a b = b

pub node-each : (n : ℕ) (h : Held) (note : Note) → h.home.node ≡ n → (after_note h note).home.node ≡ n
node-each n h Note.Nothing is = is
node-each n h (Note.Began q op) is = is
node-each n h (Note.Did q phase op reply) is = is
node-each n h (Note.Ended t) is = is
node-each n h (Note.Decided q number ask answer) is = decided-node h.home h.locks q ask ∙ is

node-then : (s : Setup) (n : ℕ) (notes : List Noted) → (replay (first_held s n) n notes).home.node ≡ n
node-then s n notes = kept-replay (λ h. h.home.node ≡ n) (node-each n) (first_held s n) n notes refl

-- after the decisions of its home
module _ (opening : Start) (u : ObjectName) (past : List StoreEffect) where
  abbrev IsFresh : Held → Type 0
  IsFresh h = is_deleted u past ≡ true → u.counter ≤ h.home.greatest

  module _ (h : Held) (node : h.home.node ≡ u.home) (low : IsLow h) (before : is_there opening u past ≡ there_view u h) (fresh : IsFresh h) where
    abbrev IsRight : ProcName → Ask → Answer → Type 0
    IsRight q ask answer = is_there opening u (effect_if q (settled_op u.home ask) (change_reply answer) ++ past) ≡ there_after u ask answer (there_view u h)

    lock-there : (q : ProcName) (v : ObjectName) (m : _) (attr : Option Attr) (conflict : _) (grant : ℕ) → IsRight q (Ask.Lock v m) (lock_answer attr conflict grant)
    lock-there q v m None conflict grant = before
    lock-there q v m (Some attr) (Some (holder, held)) grant = before
    lock-there q v m (Some attr) None grant = before

    removed : (a m d t : Bool) → (m && not d) ≡ t → (m && not (a || d)) ≡ (if a then false else t)
    removed true true d t is = refl
    removed true false d t is = refl
    removed false m d t is = is

    remove-there : (q : ProcName) (v : ObjectName) (there held : Bool) → IsRight q (Ask.Remove v) (remove_answer there held)
    remove-there q v false held = before
    remove-there q v true false = before
    remove-there q v true true = removed (same_uid u v) (was_made opening u past) (is_deleted u past) (there_view u h) before

    pushed : (a m d t : Bool) → (m && not d) ≡ t → (a ≡ true → d ≡ true → ⊥) → ((m || a) && not d) ≡ (if a then true else t)
    pushed true true true t is new = absurd (new refl refl)
    pushed true true false t is new = refl
    pushed true false true t is new = absurd (new refl refl)
    pushed true false false t is new = refl
    pushed false true d t is new = is
    pushed false false d t is new = is

    make-there : (q : ProcName) (kind : _) (room : ℕ) (fits : Bool) → IsRight q (Ask.Make kind room) (make_answer fits (record { counter = h.home.greatest + 1; home = h.home.node }))
    make-there q kind room false = before
    make-there q kind room true =
        let v : ObjectName = record { counter = h.home.greatest + 1; home = h.home.node } in
        let o : Object = record { uid = v; kind = kind; room = room } in
        ap (λ b. b && not (is_deleted u past)) (find-push (λ x. same_uid x.uid u) (made opening past) o ∙ ap (λ b. was_made opening u past || b) (same_uid-sym v u))
        ∙ pushed (same_uid u v) (was_made opening u past) (is_deleted u past) (there_view u h) before
        (λ same gone. let e = fresh gone in let f : u.counter ≡ h.home.greatest + 1 = grind (arith, nat_tests, same) in omega (arith, e, f))

    decide-there : (q : ProcName) (ask : Ask) → IsRight q ask (decide h.home h.locks q ask).answer
    decide-there q (Ask.PageIn v page) = before
    decide-there q (Ask.PageOut v page grant base bytes) = before
    decide-there q (Ask.AttrOut v n grant base) = before
    decide-there q (Ask.Lock v m) = lock-there q v m (attr_of h.home v) (conflict_of q v m h.locks.grants) (h.locks.last + 1)
    decide-there q (Ask.Unlock v) = before
    decide-there q (Ask.Remove v) = remove-there q v (is_some (attr_of h.home v)) (may_remove (grant_of q v h.locks.grants))
    decide-there q (Ask.Make kind room) = make-there q kind room (nat_le (rooms h.home.objects + room) VOLUME_ROOM)
    decide-there q (Ask.ListLocks after) = before

    note-there : (note : Note) → IsAnswered h note → is_there opening u (noted_effect u.home note ++ past) ≡ there_view u (after_note h note)
    note-there Note.Nothing is = before
    note-there (Note.Began q op) is = before
    note-there (Note.Did q phase op reply) is = before
    note-there (Note.Ended t) is = before
    note-there (Note.Decided q number ask answer) is =
        ap (λ a. is_there opening u (effect_if q (settled_op u.home ask) (change_reply a) ++ past)) is
        ∙ decide-there q ask
        ∙ ap (λ a. there_after u ask a (there_view u h)) (sym is)
        ∙ sym (there-each u h (Note.Decided q number ask answer) is)

    -- an object that is deleted had a counter of its home
    some-low : (v : ObjectName) → same_uid u v ≡ true → is_some (attr_of h.home v) ≡ true → u.counter ≤ h.home.greatest
    some-low v same is =
        let e : u.counter ≡ v.counter = grind (arith, nat_tests, same) in
        let f = low v.counter (by (v.home == h.home.node) (attr_at h.home.objects v.counter) is) in
        omega (arith, e, f)
      where
        by : (b : Bool) (o : Option Attr) → is_some (if b then o else None) ≡ true → is_some o ≡ true
        by true o is = is
        by false o is = absurd (cc)

    lock-fresh : (q : ProcName) (v : ObjectName) (m : _) (attr : Option Attr) (conflict : _) (grant : ℕ) → is_deleted u (effect_if q (settled_op u.home (Ask.Lock v m)) (change_reply (lock_answer attr conflict grant)) ++ past) ≡ is_deleted u past
    lock-fresh q v m None conflict grant = refl
    lock-fresh q v m (Some attr) (Some (holder, held)) grant = refl
    lock-fresh q v m (Some attr) None grant = refl

    make-fresh : (q : ProcName) (kind : _) (room : ℕ) (fits : Bool) (v : ObjectName) → is_deleted u (effect_if q (settled_op u.home (Ask.Make kind room)) (change_reply (make_answer fits v)) ++ past) ≡ is_deleted u past
    make-fresh q kind room false v = refl
    make-fresh q kind room true v = refl

    remove-fresh : (q : ProcName) (v : ObjectName) (there held : Bool) → is_some (attr_of h.home v) ≡ there → is_deleted u (effect_if q (settled_op u.home (Ask.Remove v)) (change_reply (remove_answer there held)) ++ past) ≡ true → u.counter ≤ h.home.greatest
    remove-fresh q v false held is gone = fresh gone
    remove-fresh q v true false is gone = fresh gone
    remove-fresh q v true true is gone = by_cases (same_uid u v) (u.counter ≤ h.home.greatest) (λ same. some-low v same is) (λ other. fresh (sym (ap (λ b. b || is_deleted u past) other) ∙ gone))

    decide-fresh : (q : ProcName) (ask : Ask) → is_deleted u (effect_if q (settled_op u.home ask) (change_reply (decide h.home h.locks q ask).answer) ++ past) ≡ true → u.counter ≤ h.home.greatest
    decide-fresh q (Ask.PageIn v page) gone = fresh gone
    decide-fresh q (Ask.PageOut v page grant base bytes) gone = fresh gone
    decide-fresh q (Ask.AttrOut v n grant base) gone = fresh gone
    decide-fresh q (Ask.Lock v m) gone = fresh (sym (lock-fresh q v m (attr_of h.home v) (conflict_of q v m h.locks.grants) (h.locks.last + 1)) ∙ gone)
    decide-fresh q (Ask.Unlock v) gone = fresh gone
    decide-fresh q (Ask.Remove v) gone = remove-fresh q v (is_some (attr_of h.home v)) (may_remove (grant_of q v h.locks.grants)) refl gone
    decide-fresh q (Ask.Make kind room) gone = fresh (sym (make-fresh q kind room (nat_le (rooms h.home.objects + room) VOLUME_ROOM) _) ∙ gone)
    decide-fresh q (Ask.ListLocks after) gone = fresh gone

    note-fresh : (note : Note) → IsAnswered h note → is_deleted u (noted_effect u.home note ++ past) ≡ true → u.counter ≤ (after_note h note).home.greatest
    note-fresh Note.Nothing is gone = fresh gone
    note-fresh (Note.Began q op) is gone = fresh gone
    note-fresh (Note.Did q phase op reply) is gone = fresh gone
    note-fresh (Note.Ended t) is gone = fresh gone
    note-fresh (Note.Decided q number ask answer) is gone =
        let e = decide-fresh q ask (ap (λ a. is_deleted u (effect_if q (settled_op u.home ask) (change_reply a) ++ past)) (sym is) ∙ gone) in
        let f = greatest-rises h.home h.locks q ask in
        omega (arith, e, f)

  -- after the decisions of another
  module _ (h : Held) (home : ℕ) (node : h.home.node ≡ home) (away : home ≢ u.home) where
    not-same : (v : ObjectName) → home ≡ v.home → same_uid u v ≡ false
    not-same v is = elim (cases_eq u.home v.home) [ inl e ↦ absurd (away (is ∙ sym e)) | inr e ↦ grind (arith, nat_tests, e) ]

    abbrev IsSame : List StoreEffect → Type 0
    IsSame es = (is_there opening u (es ++ past) ≡ is_there opening u past) × (is_deleted u (es ++ past) ≡ is_deleted u past)

    lock-away : (q : ProcName) (v : ObjectName) (m : _) (attr : Option Attr) (conflict : _) (grant : ℕ) → IsSame (effect_if q (settled_op home (Ask.Lock v m)) (change_reply (lock_answer attr conflict grant)))
    lock-away q v m None conflict grant = (refl, refl)
    lock-away q v m (Some attr) (Some (holder, held)) grant = (refl, refl)
    lock-away q v m (Some attr) None grant = (refl, refl)

    remove-away : (q : ProcName) (v : ObjectName) (there held : Bool) → home ≡ v.home → IsSame (effect_if q (settled_op home (Ask.Remove v)) (change_reply (remove_answer there held)))
    remove-away q v false held is = (refl, refl)
    remove-away q v true false is = (refl, refl)
    remove-away q v true true is = let e = ap (λ b. b || is_deleted u past) (not-same v is) in (ap (λ b. was_made opening u past && not b) e, e)

    or-false : (b : Bool) → (b || false) ≡ b
    or-false true = refl
    or-false false = refl

    make-away : (q : ProcName) (kind : _) (room : ℕ) (fits : Bool) (v : ObjectName) → home ≡ v.home → IsSame (effect_if q (settled_op home (Ask.Make kind room)) (change_reply (make_answer fits v)))
    make-away q kind room false v is = (refl, refl)
    make-away q kind room true v is =
        let o : Object = record { uid = v; kind = kind; room = room } in
        (ap (λ b. b && not (is_deleted u past)) (find-push (λ x. same_uid x.uid u) (made opening past) o ∙ ap (λ b. was_made opening u past || b) (same_uid-sym v u ∙ not-same v is) ∙ or-false (was_made opening u past)), refl)

    decide-away : (q : ProcName) (ask : Ask) → IsAtHome home ask → IsSame (effect_if q (settled_op home ask) (change_reply (decide h.home h.locks q ask).answer))
    decide-away q (Ask.PageIn v page) meant = (refl, refl)
    decide-away q (Ask.PageOut v page grant base bytes) meant = (refl, refl)
    decide-away q (Ask.AttrOut v n grant base) meant = (refl, refl)
    decide-away q (Ask.Lock v m) meant = lock-away q v m (attr_of h.home v) (conflict_of q v m h.locks.grants) (h.locks.last + 1)
    decide-away q (Ask.Unlock v) meant = (refl, refl)
    decide-away q (Ask.Remove v) meant = remove-away q v (is_some (attr_of h.home v)) (may_remove (grant_of q v h.locks.grants)) meant
    decide-away q (Ask.Make kind room) meant = make-away q kind room (nat_le (rooms h.home.objects + room) VOLUME_ROOM) (record { counter = h.home.greatest + 1; home = h.home.node }) (sym node)
    decide-away q (Ask.ListLocks after) meant = (refl, refl)

    note-away : (note : Note) → IsAnswered h note → IsMeantAt home note → IsSame (noted_effect home note)
    note-away Note.Nothing is meant = (refl, refl)
    note-away (Note.Began q op) is meant = (refl, refl)
    note-away (Note.Did q phase op reply) is meant = (refl, refl)
    note-away (Note.Ended t) is meant = (refl, refl)
    note-away (Note.Decided q number ask answer) is meant = subst (λ a. IsSame (effect_if q (settled_op home ask) (change_reply a))) (sym is) (decide-away q ask meant)

-- at the start
module _ (u : ObjectName) where
  abbrev test : Object → Bool
  test o = same_uid o.uid u

  own-first : (xs : List Object) → is_some (attr_at (map opened (at_home u.home xs)) u.counter) ≡ is_some (find test xs)
  own-first [] = refl
  own-first (o ∷ xs) = by (o.uid.home == u.home) (o.uid.counter == u.counter) refl refl (own-first xs)
    where
      by : (a b : Bool) → (o.uid.home == u.home) ≡ a → (o.uid.counter == u.counter) ≡ b → is_some (attr_at (map opened (at_home u.home xs)) u.counter) ≡ is_some (find test xs)
          → is_some (attr_at (map opened (at_home u.home (o ∷ xs))) u.counter) ≡ is_some (find test (o ∷ xs))
      by true true e f rest = rw (e, f) refl
      by true false e f rest = rw (e, f) rest
      by false true e f rest = rw (e, f) rest
      by false false e f rest = rw (e, f) rest

  directory-first : (n : ℕ) → is_some (find test (entry_directories n)) ≡ ((1 == u.counter) && (nat_le 1 u.home && nat_le u.home n))
  directory-first zero = grind (arith, nat_tests)
  directory-first (suc n) = find-push test (entry_directories n) (entry_directory (suc n)) ∙ ap (λ b. b || test (entry_directory (suc n))) (directory-first n) ∙ grind (arith, nat_tests)

  first-there : (s : Setup) → is_node s.opening u.home ≡ true → is_there s.opening u [] ≡ there_view u (first_held s u.home)
  first-there s node =
      and-true (was_made s.opening u [])
      ∙ find-append test (entry_directories s.opening.nodes) s.opening.objects
      ∙ ap (λ b. b || is_some (find test s.opening.objects)) (directory-first s.opening.nodes ∙ ap (λ b. (1 == u.counter) && b) node ∙ and-true (1 == u.counter))
      ∙ ap (λ b. (1 == u.counter) || b) (sym (own-first s.opening.objects))
      ∙ or-if (1 == u.counter) (attr_at (map opened (at_home u.home s.opening.objects)) u.counter)
      ∙ sym (attr-here u (first_held s u.home).home ∙ ap (λ b. here u b (is_some (attr_at (first_held s u.home).home.objects u.counter))) (let e : (u.home == u.home) ≡ true = grind (arith, nat_tests) in e))
    where
      and-true : (b : Bool) → (b && true) ≡ b
      and-true true = refl
      and-true false = refl

      or-if : (b : Bool) (o : Option Attr) → (b || is_some o) ≡ is_some (if b then Some (opened (entry_directory u.home)).attr else o)
      or-if true o = refl
      or-if false o = refl

-- the counters of a home at the start
first-low : (s : Setup) (n : ℕ) → IsSetup s → IsLow (first_held s n)
first-low s n setup k is = by_cases (nat_le k (first_held s n).home.greatest) (k ≤ (first_held s n).home.greatest) (λ h. grind (arith, nat_tests, h))
    (λ h. absurd (let kept = IsHome-first_home n s.opening setup.start (setup.begins.homes n) in
    let none = attr_at-high (first_held s n).home.greatest k (first_held s n).home.objects kept.rows (grind (arith, nat_tests, h)) in
    let e : false ≡ true = sym (ap (λ (o : Option Attr). is_some o) none) ∙ is in cc))

module _ (s : Setup) (setup : IsSetup s) (u : ObjectName) (node : is_node s.opening u.home ≡ true) where
  abbrev home_then : List Noted → Held
  home_then notes = replay (first_held s u.home) u.home notes

  record IsThen (notes : List Noted) : Type 0 where
    pub there : is_there s.opening u (decided_effects notes) ≡ there_view u (home_then notes)
    pub fresh : IsFresh s.opening u (decided_effects notes) (home_then notes)

  then-one : (m : Noted) (older : List Noted) (b : Bool) → (m.place.node == u.home) ≡ b → IsAnswered (replay (first_held s m.place.node) m.place.node older) m.note → IsMeantAt m.place.node m.note → IsThen older
      → (is_there s.opening u (noted_effect m.place.node m.note ++ decided_effects older) ≡ there_view u (after_if b (home_then older) m.note)) × IsFresh s.opening u (noted_effect m.place.node m.note ++ decided_effects older) (after_if b (home_then older) m.note)
  then-one m older true at is meant before =
      let same : m.place.node ≡ u.home = grind (arith, nat_tests, at) in
      let told : IsAnswered (home_then older) m.note = subst (λ a. IsAnswered (replay (first_held s a) a older) m.note) same is in
      let low : IsLow (home_then older) = kept-replay IsLow low-each (first_held s u.home) u.home older (first-low s u.home setup) in
      let past = decided_effects older in (
        ap (λ a. is_there s.opening u (noted_effect a m.note ++ past)) same ∙ note-there s.opening u past (home_then older) (node-then s u.home older) low before.there before.fresh m.note told,
        λ gone. note-fresh s.opening u past (home_then older) (node-then s u.home older) low before.there before.fresh m.note told (ap (λ a. is_deleted u (noted_effect a m.note ++ past)) (sym same) ∙ gone),
      )
  then-one m older false at is meant before =
      let other : m.place.node ≢ u.home = grind (arith, nat_tests, at) in
      let same = note-away s.opening u (decided_effects older) (replay (first_held s m.place.node) m.place.node older) m.place.node (node-then s m.place.node older) other m.note is meant in
      (same.0 ∙ before.there, λ gone. before.fresh (sym same.1 ∙ gone))

  all-then : (notes : List Noted) → AreAnswered s notes → EachOf (λ (m : Noted). IsMeantAt m.place.node m.note) notes → IsThen notes
  all-then [] are meant = record { there = first-there u s node; fresh = λ gone. absurd (cc) }
  all-then (m ∷ older) are meant =
      let one = then-one m older (m.place.node == u.home) refl are.0 meant.0 (all-then older are.1 meant.1) in
      record { there = one.0; fresh = one.1 }

  -- the objects of a home are those that are present by what was decided
  pub objects-there : (notes : List Noted) → AreAnswered s notes → EachOf (λ (m : Noted). IsMeantAt m.place.node m.note) notes → is_present s.opening (decided_effects notes) u ≡ there_view u (home_then notes)
  objects-there notes are meant = present-is s.opening u (decided_effects notes) ∙ (all-then notes are meant).there
