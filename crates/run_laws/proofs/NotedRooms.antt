-- The room that an object was made with is that of its home, as long as the object is there.
use Rattle.std.proofs.Common.{◌≡◌, ◌≢◌, ℕ, zero, suc, ◌+◌, ◌≤◌, Bool, true, false, List, [], ◌∷◌, ◌++◌, Option, Some, None, map, refl, sym, ap, subst, ◌∙◌, append_assoc, arith}
use Rattle.std.specs.Prelude.{◌==◌, ◌&&◌, ◌||◌, not, nat_le, if◌then◌else◌, is_some, find}
use Rattle.std.proofs.lemmas.Bool.Decides.{nat_tests}
use Rattle.std.proofs.lemmas.List.{append-nil}
use Rattle.uid_names.proofs.ListLemmas.{by_cases}
use Rattle.uid_names.specs.Names.{ProcName, ObjectName, same_uid}
use Rattle.uid_names.specs.Openings.{Start}
use Rattle.uid_names.specs.Beginnings.{at_home, entry_directory}
use Rattle.uid_names.specs.declared.opening.Object.{Object}
use Rattle.uid_names.specs.declared.limits.TheConstants.{ENTRY_ROOM, VOLUME_ROOM}
use Rattle.uid_names.specs.declared.mode.ObjKind.{ObjKind}
use Rattle.uid_names.proofs.Passed.{left-true}
use Rattle.dom_history.specs.declared.op.Op.{Op}
use Rattle.dom_history.specs.declared.op.Op.TheVariants as ops
use Rattle.dom_history.specs.declared.op.Reply.{Reply}
use Rattle.dom_history.specs.declared.op.Reply.TheVariants as replies
use Rattle.dom_history.specs.StoreEffects.{StoreEffect, store_effect}
use Rattle.dom_history.specs.Objects.{made, is_deleted, is_present, is_node, entry_directories, room_or_none}
use Rattle.dom_history.proofs.KeptObjects.{find-present}
use Rattle.object_store.specs.declared.attributes.Attr.{Attr}
use Rattle.object_store.specs.Kept.{IsHome}
use Rattle.object_store.specs.Objects.{attr_at, rooms, room_of, fresh}
use Rattle.object_store.specs.HomeStates.{HomeState, attr_of, after_make}
use Rattle.object_store.specs.Beginnings.{opened}
use Rattle.object_store.proofs.RowLemmas.{attr_at-high}
use Rattle.object_store.proofs.HomeLemmas.{attr_at-after_make}
use Rattle.object_store.proofs.Begun.{IsHome-first_home}
use Rattle.ring_messages.specs.Bodies.{Ask, Answer}
use Rattle.page_server.specs.Decisions.{decide, make_answer}
use Rattle.node_runs.specs.Setups.{Setup, IsSetup}
use Rattle.node_runs.specs.NodesKeep.{IsTimely}
use Rattle.node_runs.specs.Notes.{Note}
use Rattle.node_runs.specs.Runs.{World, Noted, Choice, world_after}
use Rattle.node_runs.specs.RunHistories.{settled_op, change_reply}
use Rattle.node_runs.specs.CallsKeep.{EachOf}
use Rattle.node_runs.specs.Replays.{Held, held_by, after_note, after_if, first_held, IsAnswered, AreAnswered}
use Rattle.node_runs.proofs.Replaying.{replays-are}
use Rattle.node_runs.proofs.SettingUp.{setup-procs}
use Rattle.node_runs.proofs.EachOf.{EachOf-behind}
use Rattle.run_laws.proofs.HearingRuns.{every-kept-run}
use Rattle.run_laws.specs.ToldAnswers.{IsLocalReply, IsAtDesk}
use Rattle.run_laws.proofs.ToldAnswers.{told-are}
use Rattle.run_laws.specs.DecidedEffects.{effect_if}
use Rattle.run_laws.specs.HistoryHomes.{held_then}
use Rattle.run_laws.specs.ToldRooms.{IsRoomOf}
use Rattle.run_laws.proofs.HistoryHomes.{answered-behind, homes-always}
use Rattle.run_laws.proofs.ToldRooms.{room-decided}
use Rattle.run_laws.specs.NotedEffects.{note_effects, noted_past}
use Rattle.run_laws.specs.NotedRooms.{AreRoomsAlways}
use Rattle.run_laws.proofs.NotedEffects.{effects-noted}

-- the object that a note makes
abbrev made_by : Ask → Answer → List Object
made_by (Ask.Make kind room) (Answer.Made v) = record { uid = v; kind = kind; room = room } ∷ []
made_by _ _ = []

abbrev made_list : Note → List Object
made_list (Note.Decided q number ask answer) = made_by ask answer
made_list note = []

module _ (opening : Start) (past : List StoreEffect) (p : ProcName) where
  -- an operation that makes none
  abbrev IsQuiet : Op → Type 0
  IsQuiet op = (r : Reply) → made opening (store_effect p op r ++ past) ≡ made opening past

  lock-quiet : (u : _) (m : _) → IsQuiet (ops.Lock u m)
  lock-quiet u m replies.Fine = refl
  lock-quiet u m r = refl

  unlock-quiet : (u : _) → IsQuiet (ops.Unlock u)
  unlock-quiet u replies.Fine = refl
  unlock-quiet u r = refl

  delete-quiet : (u : _) → IsQuiet (ops.Delete u)
  delete-quiet u replies.Fine = refl
  delete-quiet u r = refl

  store-quiet : (spot : _) (bytes : _) → IsQuiet (ops.Store spot bytes)
  store-quiet spot bytes replies.Fine = refl
  store-quiet spot bytes r = refl

  map-quiet : (u : _) → IsQuiet (ops.Map u)
  map-quiet u (replies.At address true) = refl
  map-quiet u (replies.At address false) = refl
  map-quiet u r = refl

  unmap-quiet : (u : _) → IsQuiet (ops.Unmap u)
  unmap-quiet u replies.Fine = refl
  unmap-quiet u r = refl

  -- what a desk answers
  desk-quiet : (op : Op) (r : Reply) → IsLocalReply op r → made opening (store_effect p op r ++ past) ≡ made opening past
  desk-quiet (ops.New home kind room) r is = ap (λ x. made opening (store_effect p (ops.New home kind room) x ++ past)) is
  desk-quiet (ops.Lock u m) r is = lock-quiet u m r
  desk-quiet (ops.Unlock u) r is = unlock-quiet u r
  desk-quiet (ops.Delete u) r is = delete-quiet u r
  desk-quiet (ops.Load spot count) r is = refl
  desk-quiet (ops.Store spot bytes) r is = store-quiet spot bytes r
  desk-quiet (ops.Length u) r is = refl
  desk-quiet (ops.Map u) r is = map-quiet u r
  desk-quiet (ops.Unmap u) r is = unmap-quiet u r
  desk-quiet (ops.List home after) r is = refl

  -- what a home decides
  abbrev xs : List Object
  xs = made opening past

  if-quiet : (op : Op) → IsQuiet op → (o : Option Reply) → made opening (effect_if p (Some op) o ++ past) ≡ xs ++ []
  if-quiet op is None = sym (append-nil xs)
  if-quiet op is (Some r) = is r ∙ sym (append-nil xs)

  decided-made : (home : ℕ) (ask : Ask) (answer : Answer) → made opening (effect_if p (settled_op home ask) (change_reply answer) ++ past) ≡ xs ++ made_by ask answer
  decided-made home (Ask.PageIn u k) answer = sym (append-nil xs)
  decided-made home (Ask.PageOut u k grant base bytes) answer = sym (append-nil xs)
  decided-made home (Ask.AttrOut u n grant base) answer = sym (append-nil xs)
  decided-made home (Ask.Lock u m) answer = if-quiet (ops.Lock u m) (lock-quiet u m) (change_reply answer)
  decided-made home (Ask.Unlock u) answer = if-quiet (ops.Unlock u) (unlock-quiet u) (change_reply answer)
  decided-made home (Ask.Remove u) answer = if-quiet (ops.Delete u) (delete-quiet u) (change_reply answer)
  decided-made home (Ask.Make kind room) (Answer.Made v) = refl
  decided-made home (Ask.Make kind room) answer = sym (append-nil xs)
  decided-made home (Ask.ListLocks after) answer = if-quiet (ops.List home after) (λ r. refl) (change_reply answer)

made-noted : (opening : Start) (past : List StoreEffect) (home : ℕ) (note : Note) → IsAtDesk note → made opening (note_effects home note ++ past) ≡ made opening past ++ made_list note
made-noted opening past home Note.Nothing desk = sym (append-nil (made opening past))
made-noted opening past home (Note.Began p op) desk = sym (append-nil (made opening past))
made-noted opening past home (Note.Did p phase op reply) desk = desk-quiet opening past p op reply desk ∙ sym (append-nil (made opening past))
made-noted opening past home (Note.Ended t) desk = sym (append-nil (made opening past))
made-noted opening past home (Note.Decided q number ask answer) desk = decided-made opening past q home ask answer

module _ (u : ObjectName) where
  abbrev test : Object → Bool
  test o = same_uid o.uid u

  -- what is found stays
  pub found-more : (xs ys : List Object) → is_some (find test xs) ≡ true → find test (xs ++ ys) ≡ find test xs
  found-more [] ys is = absurd (cc)
  found-more (x ∷ xs) ys is = by_cases (test x) (find test ((x ∷ xs) ++ ys) ≡ find test (x ∷ xs))
      (λ h. rw h refl)
      (λ h. rw h (found-more xs ys (sym (ap (λ b. is_some (if b then Some x else find test xs)) h) ∙ is)))

  found-other : (xs : List Object) (y : Object) → test y ≡ false → find test (xs ++ y ∷ []) ≡ find test xs
  found-other [] y other = ap (λ b. if b then Some y else None) other
  found-other (x ∷ xs) y other = by_cases (test x) (find test ((x ∷ xs) ++ y ∷ []) ≡ find test (x ∷ xs)) (λ h. rw h refl) (λ h. rw h (found-other xs y other))

  found-last : (xs : List Object) (y : Object) → is_some (find test xs) ≡ false → find test (xs ++ y ∷ []) ≡ (if test y then Some y else None)
  found-last [] y none = refl
  found-last (x ∷ xs) y none = by_cases (test x) (find test ((x ∷ xs) ++ y ∷ []) ≡ (if test y then Some y else None))
      (λ h. absurd (let e : true ≡ false = sym (ap (λ b. is_some (if b then Some x else find test xs)) h) ∙ none in cc))
      (λ h. ap (λ b. if b then Some x else find test (xs ++ y ∷ [])) h ∙ found-last xs y (sym (ap (λ b. is_some (if b then Some x else find test xs)) h) ∙ none))

  -- an object that was made has its room at its home, as long as it is there
  abbrev IsSafe : HomeState → Option Object → Type 0
  IsSafe home found = is_some found ≡ true → IsRoomOf home u (room_or_none found) 0

  -- a decision of its home
  module _ (h : Held) (kept : IsHome h.home) (node : h.home.node ≡ u.home) (q : ProcName) (xs : List Object) (safe : IsSafe h.home (find test xs)) where
    still-safe : (ask : Ask) → IsSafe (decide h.home h.locks q ask).home (find test (xs ++ []))
    still-safe ask = subst (λ ys. IsSafe (decide h.home h.locks q ask).home (find test ys)) (sym (append-nil xs)) (λ was. room-decided u h.home h.locks q ask (room_or_none (find test xs)) 0 kept (safe was))

    abbrev new_uid : ObjectName
    new_uid = record { counter = h.home.greatest + 1; home = h.home.node }

    abbrev new_object : ObjKind → ℕ → Object
    new_object kind room = record { uid = new_uid; kind = kind; room = room }

    new-room : (kind : ObjKind) (room : ℕ) → same_uid new_uid u ≡ true → IsRoomOf (after_make h.home kind room) u room 0
    new-room kind room same =
        let counter : u.counter ≡ h.home.greatest + 1 = grind (arith, nat_tests, same) in
        let at : (u.home == h.home.node) ≡ true = grind (arith, nat_tests, node) in
        let here : (u.counter == h.home.greatest + 1) ≡ true = grind (arith, nat_tests, counter) in
        record {
          given = omega (arith, counter);
          room = λ there. ap (λ b. room_of (if b then attr_at (after_make h.home kind room).objects u.counter else None)) at
              ∙ (ap room_of (attr_at-after_make h.home kind room u.counter kept) ∙ ap (λ b. room_of (if b then Some (fresh kind room) else attr_at h.home.objects u.counter)) here);
          within = omega arith;
        }

    make-safe : (kind : ObjKind) (room : ℕ) (fits : Bool) → ((pages : ℕ) → IsRoomOf h.home u pages 0 → IsRoomOf (if fits then after_make h.home kind room else h.home) u pages 0)
        → IsSafe (if fits then after_make h.home kind room else h.home) (find test (xs ++ made_by (Ask.Make kind room) (make_answer fits new_uid)))
    make-safe kind room false keeps = subst (λ ys. IsSafe h.home (find test ys)) (sym (append-nil xs)) safe
    make-safe kind room true keeps = by_cases (is_some (find test xs)) (IsSafe (after_make h.home kind room) (find test (xs ++ new_object kind room ∷ [])))
        (λ was. subst (IsSafe (after_make h.home kind room)) (sym (found-more xs (new_object kind room ∷ []) was)) (λ found. keeps (room_or_none (find test xs)) (safe was)))
        (λ none. subst (IsSafe (after_make h.home kind room)) (sym (found-last xs (new_object kind room) none)) (last (same_uid new_uid u) refl))
      where
        last : (b : Bool) → same_uid new_uid u ≡ b → IsSafe (after_make h.home kind room) (if b then Some (new_object kind room) else None)
        last true same found = new-room kind room same
        last false same found = absurd (cc)

    decide-safe : (ask : Ask) → IsSafe (decide h.home h.locks q ask).home (find test (xs ++ made_by ask (decide h.home h.locks q ask).answer))
    decide-safe (Ask.PageIn v k) = still-safe (Ask.PageIn v k)
    decide-safe (Ask.PageOut v k grant base bytes) = still-safe (Ask.PageOut v k grant base bytes)
    decide-safe (Ask.AttrOut v n grant base) = still-safe (Ask.AttrOut v n grant base)
    decide-safe (Ask.Lock v m) = still-safe (Ask.Lock v m)
    decide-safe (Ask.Unlock v) = still-safe (Ask.Unlock v)
    decide-safe (Ask.Remove v) = still-safe (Ask.Remove v)
    decide-safe (Ask.Make kind room) = make-safe kind room (nat_le (rooms h.home.objects + room) VOLUME_ROOM) (λ pages is. room-decided u h.home h.locks q (Ask.Make kind room) pages 0 kept is)
    decide-safe (Ask.ListLocks after) = still-safe (Ask.ListLocks after)

  note-safe : (h : Held) → IsHome h.home → h.home.node ≡ u.home → (xs : List Object) → IsSafe h.home (find test xs) → (note : Note) → IsAnswered h note → IsSafe (after_note h note).home (find test (xs ++ made_list note))
  note-safe h kept node xs safe Note.Nothing is = subst (λ ys. IsSafe h.home (find test ys)) (sym (append-nil xs)) safe
  note-safe h kept node xs safe (Note.Began q op) is = subst (λ ys. IsSafe h.home (find test ys)) (sym (append-nil xs)) safe
  note-safe h kept node xs safe (Note.Did q phase op reply) is = subst (λ ys. IsSafe h.home (find test ys)) (sym (append-nil xs)) safe
  note-safe h kept node xs safe (Note.Ended t) is = subst (λ ys. IsSafe h.home (find test ys)) (sym (append-nil xs)) safe
  note-safe h kept node xs safe (Note.Decided q number ask answer) is =
      subst (λ a. IsSafe (decide h.home h.locks q ask).home (find test (xs ++ made_by ask a))) (sym is) (decide-safe h kept node q xs safe ask)

  -- another home makes another object
  module _ (h : Held) (away : h.home.node ≢ u.home) (xs : List Object) where
    make-away : (kind : ObjKind) (room : ℕ) (fits : Bool) → find test (xs ++ made_by (Ask.Make kind room) (make_answer fits (record { counter = h.home.greatest + 1; home = h.home.node }))) ≡ find test xs
    make-away kind room false = ap (find test) (append-nil xs)
    make-away kind room true = found-other xs (record { uid = record { counter = h.home.greatest + 1; home = h.home.node }; kind = kind; room = room }) (grind (arith, nat_tests, away))

    decide-away : (q : ProcName) (ask : Ask) → find test (xs ++ made_by ask (decide h.home h.locks q ask).answer) ≡ find test xs
    decide-away q (Ask.PageIn v k) = ap (find test) (append-nil xs)
    decide-away q (Ask.PageOut v k grant base bytes) = ap (find test) (append-nil xs)
    decide-away q (Ask.AttrOut v n grant base) = ap (find test) (append-nil xs)
    decide-away q (Ask.Lock v m) = ap (find test) (append-nil xs)
    decide-away q (Ask.Unlock v) = ap (find test) (append-nil xs)
    decide-away q (Ask.Remove v) = ap (find test) (append-nil xs)
    decide-away q (Ask.Make kind room) = make-away kind room (nat_le (rooms h.home.objects + room) VOLUME_ROOM)
    decide-away q (Ask.ListLocks after) = ap (find test) (append-nil xs)

    note-away : (note : Note) → IsAnswered h note → find test (xs ++ made_list note) ≡ find test xs
    note-away Note.Nothing is = ap (find test) (append-nil xs)
    note-away (Note.Began q op) is = ap (find test) (append-nil xs)
    note-away (Note.Did q phase op reply) is = ap (find test) (append-nil xs)
    note-away (Note.Ended t) is = ap (find test) (append-nil xs)
    note-away (Note.Decided q number ask answer) is = ap (λ a. find test (xs ++ made_by ask a)) is ∙ decide-away q ask

  -- at the start
  own-room : (xs : List Object) → room_of (attr_at (map opened (at_home u.home xs)) u.counter) ≡ room_or_none (find test xs)
  own-room [] = refl
  own-room (o ∷ xs) = by (o.uid.home == u.home) (o.uid.counter == u.counter) refl refl (own-room xs)
    where
      by : (a b : Bool) → (o.uid.home == u.home) ≡ a → (o.uid.counter == u.counter) ≡ b → room_of (attr_at (map opened (at_home u.home xs)) u.counter) ≡ room_or_none (find test xs)
          → room_of (attr_at (map opened (at_home u.home (o ∷ xs))) u.counter) ≡ room_or_none (find test (o ∷ xs))
      by true true e f rest = rw (e, f) refl
      by true false e f rest = rw (e, f) rest
      by false true e f rest = rw (e, f) rest
      by false false e f rest = rw (e, f) rest

  abbrev is_directory : ℕ → Bool
  is_directory n = (1 == u.counter) && (nat_le 1 u.home && nat_le u.home n)

  directory-room : (n : ℕ) (ys : List Object) → room_or_none (find test (entry_directories n ++ ys)) ≡ (if is_directory n then ENTRY_ROOM else room_or_none (find test ys))
  directory-room zero ys = let none : is_directory zero ≡ false = grind (arith, nat_tests) in sym (ap (λ b. if b then ENTRY_ROOM else room_or_none (find test ys)) none)
  directory-room (suc n) ys =
      ap (λ xs. room_or_none (find test xs)) (append_assoc (entry_directories n) (entry_directory (suc n) ∷ []) ys)
      ∙ directory-room n (entry_directory (suc n) ∷ ys)
      ∙ pick (is_directory n) (test (entry_directory (suc n)))
      ∙ ap (λ b. if b then ENTRY_ROOM else room_or_none (find test ys)) more
    where
      pick : (a b : Bool) → (if a then ENTRY_ROOM else room_or_none (if b then Some (entry_directory (suc n)) else find test ys)) ≡ (if a || b then ENTRY_ROOM else room_or_none (find test ys))
      pick true b = refl
      pick false true = refl
      pick false false = refl

      more : (is_directory n || test (entry_directory (suc n))) ≡ is_directory (suc n)
      more = grind (arith, nat_tests)

  first-room : (s : Setup) → is_node s.opening u.home ≡ true → room_of (attr_of (first_held s u.home).home u) ≡ room_or_none (find test (made s.opening []))
  first-room s node =
      ap (λ b. room_of (if b then attr_at (first_held s u.home).home.objects u.counter else None)) (let e : (u.home == u.home) ≡ true = grind (arith, nat_tests) in e)
      ∙ sym (directory-room s.opening.nodes s.opening.objects
      ∙ ap (λ b. if (1 == u.counter) && b then ENTRY_ROOM else room_or_none (find test s.opening.objects)) node
      ∙ ap (λ n. if (1 == u.counter) && true then ENTRY_ROOM else n) (sym (own-room s.opening.objects))
      ∙ pick (1 == u.counter) (attr_at (map opened (at_home u.home s.opening.objects)) u.counter))
    where
      pick : (b : Bool) (o : Option Attr) → (if b && true then ENTRY_ROOM else room_of o) ≡ room_of (if b then Some (opened (entry_directory u.home)).attr else o)
      pick true o = refl
      pick false o = refl

-- what homes were before each event
record IsKeptThen (s : Setup) (m : Noted) (older : List Noted) : Type 0 where
  pub node : is_node s.opening m.place.node ≡ true
  pub homes : (n : ℕ) → is_node s.opening n ≡ true → IsHome (held_then s n older).home × ((held_then s n older).home.node ≡ n)

abbrev AreKeptThen : Setup → List Noted → Type 0
AreKeptThen s [] = Unit {0}
AreKeptThen s (m ∷ older) = IsKeptThen s m older × AreKeptThen s older

kept-then : (s : Setup) → IsSetup s → (cs : List Choice) (w : World) → world_after s cs ≡ Some w → IsTimely w → AreKeptThen s w.trace
kept-then s setup = every-kept-run s setup (setup-procs s setup) (λ w. AreKeptThen s w.trace) tt (λ cs old c new e timely next before.
    subst (λ (w : World). AreKeptThen s w.trace) (sym next.is.world) (
      record {
        node = next.is.node;
        homes = λ n node.
            let kept = next.kept.nodes n node in
            let same : held_by (old.nodes n).side ≡ held_then s n old.trace = (replays-are s cs old e).homes n in (
              subst (λ (h : Held). IsHome h.home) same kept.side.home,
              ap (λ (h : Held). h.home.node) (sym same) ∙ kept.home,
            );
      },
      before,
    ))

kept-behind : (s : Setup) (xs ys : List Noted) → AreKeptThen s (xs ++ ys) → AreKeptThen s ys
kept-behind s [] ys are = are
kept-behind s (x ∷ xs) ys are = kept-behind s xs ys are.1

module _ (s : Setup) (u : ObjectName) (node : is_node s.opening u.home ≡ true) (first : IsSafe u (first_held s u.home).home (find (test u) (made s.opening []))) where
  abbrev found_then : List Noted → Option Object
  found_then notes = find (test u) (made s.opening (noted_past notes))

  then-one : (m : Noted) (older : List Noted) (b : Bool) → (m.place.node == u.home) ≡ b → IsAnswered (held_then s m.place.node older) m.note → IsAtDesk m.note → IsKeptThen s m older → IsSafe u (held_then s u.home older).home (found_then older)
      → IsSafe u (after_if b (held_then s u.home older) m.note).home (found_then (m ∷ older))
  then-one m older true at is desk kept safe =
      let same : m.place.node ≡ u.home = grind (arith, nat_tests, at) in
      let told : IsAnswered (held_then s u.home older) m.note = subst (λ a. IsAnswered (held_then s a older) m.note) same is in
      let home = kept.homes u.home node in
      subst (λ xs. IsSafe u (after_note (held_then s u.home older) m.note).home (find (test u) xs)) (sym (made-noted s.opening (noted_past older) m.place.node m.note desk))
      (note-safe u (held_then s u.home older) home.0 home.1 (made s.opening (noted_past older)) safe m.note told)
  then-one m older false at is desk kept safe =
      let other : m.place.node ≢ u.home = grind (arith, nat_tests, at) in
      let home = kept.homes m.place.node kept.node in
      subst (IsSafe u (held_then s u.home older).home)
      (sym (ap (find (test u)) (made-noted s.opening (noted_past older) m.place.node m.note desk)
      ∙ note-away u (held_then s m.place.node older) (λ same. other (sym home.1 ∙ same)) (made s.opening (noted_past older)) m.note is)) safe

  safe-then : (notes : List Noted) → AreAnswered s notes → EachOf (λ (j : Noted). IsAtDesk j.note) notes → AreKeptThen s notes → IsSafe u (held_then s u.home notes).home (found_then notes)
  safe-then [] are desks kept = first
  safe-then (m ∷ older) are desks kept = then-one m older (m.place.node == u.home) refl are.0 desks.0 kept.0 (safe-then older are.1 desks.1 kept.1)

module _ (s : Setup) (setup : IsSetup s) (cs : List Choice) (w : World) (e : world_after s cs ≡ Some w) (timely : IsTimely w) (u : ObjectName) (node : is_node s.opening u.home ≡ true) where
  -- what a home has was made
  pub was-made : (newer older : List Noted) → w.trace ≡ newer ++ older → is_some (find (test u) (made s.opening (noted_past older))) && not (is_deleted u (noted_past older)) ≡ is_some (attr_of (held_then s u.home older).home u)
  was-made newer older parts =
      sym (find-present (λ v. is_deleted v (noted_past older)) (made s.opening (noted_past older)) u)
      ∙ (ap (λ past. is_present s.opening past u) (sym (effects-noted s setup cs w e timely newer older parts)) ∙ (homes-always s setup cs w e timely newer older parts).present u node)

  abbrev home : HomeState
  home = (first_held s u.home).home

  first-safe : IsSafe u (first_held s u.home).home (find (test u) (made s.opening []))
  first-safe found = record {
    given = by_cases (nat_le u.counter home.greatest) (u.counter ≤ home.greatest) (λ h. grind (arith, nat_tests, h))
        (λ h. absurd (
        let none = attr_at-high home.greatest u.counter home.objects (IsHome-first_home u.home s.opening setup.start (setup.begins.homes u.home)).rows (grind (arith, nat_tests, h)) in
        let there : is_some (attr_of home u) ≡ true = sym (was-made w.trace [] (sym (append-nil w.trace))) ∙ ap (λ b. b && true) found in
        let at : (u.home == u.home) ≡ true = grind (arith, nat_tests) in
        let away : attr_of home u ≡ None = ap (λ b. if b then attr_at home.objects u.counter else None) at ∙ none in
        let false_true : false ≡ true = sym (ap is_some away) ∙ there in cc));
    room = λ there. first-room u s node;
    within = omega arith;
  }

  room-then : (newer older : List Noted) → w.trace ≡ newer ++ older → is_some (attr_of (held_then s u.home older).home u) ≡ true → room_or_none (find (test u) (made s.opening (noted_past older))) ≡ room_of (attr_of (held_then s u.home older).home u)
  room-then newer older parts there =
      let answers = answered-behind s newer older (subst (AreAnswered s) parts (replays-are s cs w e).answers) in
      let desks = EachOf-behind (λ (j : Noted). IsAtDesk j.note) newer older (subst (EachOf (λ (j : Noted). IsAtDesk j.note)) parts (told-are s setup cs w e timely).desks) in
      let kept = kept-behind s newer older (subst (AreKeptThen s) parts (kept-then s setup cs w e timely)) in
      let made_so = left-true (is_some (find (test u) (made s.opening (noted_past older)))) (not (is_deleted u (noted_past older))) (was-made newer older parts ∙ there) in
      sym ((safe-then s u node first-safe older answers desks kept made_so).room there)

-- in every run
pub rooms-always : (s : Setup) → IsSetup s → (cs : List Choice) (w : World) → world_after s cs ≡ Some w → IsTimely w → AreRoomsAlways s w
rooms-always s setup cs w e timely newer older parts u node there = room-then s setup cs w e timely u node newer older parts there
