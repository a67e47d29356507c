-- The rooms of a home's objects, and the greatest counter that it gave, are those of the history.
use Rattle.std.proofs.Common.{◌≡◌, ◌≢◌, ℕ, zero, suc, ◌+◌, ◌≤◌, Bool, true, false, List, [], ◌∷◌, ◌++◌, length, map, filter, Option, Some, None, inl, inr, refl, sym, ap, subst, ◌∙◌, arith}
use Rattle.std.specs.Prelude.{◌==◌, ◌&&◌, ◌||◌, not, nat_le, max, if◌then◌else◌, is_some, sum_by}
use Rattle.std.specs.List.{list_any}
use Rattle.std.proofs.lemmas.Bool.{cases_eq}
use Rattle.std.proofs.lemmas.Bool.Decides.{nat_tests}
use Rattle.std.proofs.lemmas.List.{map-append}
use Rattle.std.proofs.lemmas.List.Elements.{filter-append}
use Rattle.std.proofs.lemmas.List.Sums.{sum_by-cons, fold-append}
use Rattle.uid_names.specs.Names.{ProcName, ObjectName, same_uid}
use Rattle.uid_names.specs.Openings.{Start}
use Rattle.uid_names.specs.Beginnings.{at_home, entry_directory}
use Rattle.uid_names.specs.declared.opening.Object.{Object}
use Rattle.uid_names.specs.declared.mode.Mode.{Mode}
use Rattle.uid_names.specs.declared.mode.ObjKind.{ObjKind}
use Rattle.uid_names.specs.declared.limits.TheConstants.{VOLUME_ROOM}
use Rattle.uid_names.proofs.ListLemmas.{by_cases}
use Rattle.uid_names.proofs.Orders.{same_uid_is}
use Rattle.dom_history.specs.StoreEffects.{StoreEffect, TakesLock, FreesLock}
use Rattle.dom_history.specs.Objects.{is_node, made, is_deleted, present, room_taken, greatest_counter, entry_directories}
use Rattle.object_store.specs.declared.attributes.Attr.{Attr}
use Rattle.object_store.specs.declared.attributes.ObjectRow.{ObjectRow}
use Rattle.object_store.specs.Objects.{attr_at, rooms, with_change, stamped, resized}
use Rattle.object_store.specs.HomeStates.{HomeState, attr_of, after_make, after_remove, after_page, after_length, next_row}
use Rattle.object_store.specs.Beginnings.{opened}
use Rattle.page_store.specs.Volumes.{Volume, with_page}
use Rattle.lock_manager.specs.Grants.{grant_of, conflict_of}
use Rattle.lock_manager.specs.Tables.{Table}
use Rattle.ring_messages.specs.Bodies.{Ask, Answer}
use Rattle.page_server.specs.Decisions.{decide, lock_answer, remove_answer, make_answer, may_remove}
use Rattle.node_runs.specs.Setups.{Setup, IsSetup}
use Rattle.node_runs.specs.Notes.{Note}
use Rattle.node_runs.specs.Runs.{Noted}
use Rattle.node_runs.specs.CallsKeep.{EachOf}
use Rattle.node_runs.specs.Replays.{Held, after_note, after_if, first_held, IsAnswered, AreAnswered}
use Rattle.node_runs.specs.RunHistories.{settled_op, change_reply}
use Rattle.run_laws.specs.AskedHomes.{IsAtHome}
use Rattle.run_laws.specs.DecidedEffects.{home_effects, effect_if, noted_effect, decided_effects}
use Rattle.run_laws.specs.HistoryHomes.{held_then}
use Rattle.run_laws.proofs.HomeRows.{IsMeantAt, kept-replay}
use Rattle.run_laws.proofs.Presence.{deleted-home, made-home, node-each}
use Rattle.run_laws.proofs.ShownObjects.{shown, row_shown, without, changed-shown, without-shown, pushed-there, pushed-elsewhere, passed-elsewhere, taken-there, taken-elsewhere, highest, numbered-highest, named-below, some-named}

abbrev shown_there : Start → ℕ → List StoreEffect → List (ℕ × ℕ)
shown_there opening n past = map shown (at_home n (present opening past))

-- a home has the objects of the history, and has given the counters of those that were ever made; an object that was deleted had one
record IsHomeOf (opening : Start) (n : ℕ) (past : List StoreEffect) (home : HomeState) : Type 0 where
  pub objects : shown_there opening n past ≡ map row_shown home.objects
  pub greatest : greatest_counter opening past n ≡ home.greatest
  pub gone : (u : ObjectName) → u.home ≡ n → is_deleted u past ≡ true → u.counter ≤ home.greatest

-- what is said of a home, and of the effects before a decision of it
module _ (opening : Start) (n : ℕ) (past : List StoreEffect) where
  abbrev Rest : HomeState → Type 0
  Rest home = IsHomeOf opening n past home

  if-home : (b : Bool) (x y : HomeState) → Rest x → Rest y → Rest (if b then x else y)
  if-home true x y a b = a
  if-home false x y a b = b

  changed-home : (change : Attr → Attr) → ((a : Attr) → (change a).room ≡ a.room) → (k : ℕ) (home : HomeState) (pages : Volume) → Rest home → Rest (record home { objects = with_change change k home.objects; pages = pages })
  changed-home change keeps k home pages is = record { objects = is.objects ∙ sym (changed-shown change keeps k home.objects); greatest = is.greatest; gone = is.gone }

  -- a lock or an unlock leaves objects
  taken-home : (home : HomeState) (q : ProcName) (u : ObjectName) (m : Mode) → Rest home → IsHomeOf opening n (TakesLock q u m ∷ past) home
  taken-home home q u m is = record { objects = is.objects; greatest = is.greatest; gone = is.gone }

  freed-home : (home : HomeState) (q : ProcName) (u : ObjectName) → Rest home → IsHomeOf opening n (FreesLock q u ∷ past) home
  freed-home home q u is = record { objects = is.objects; greatest = is.greatest; gone = is.gone }

  -- a decision of this home
  module _ (home : HomeState) (node : home.node ≡ n) (is : Rest home) where
    abbrev After : ProcName → Ask → Answer → HomeState → Type 0
    After q ask answer after = IsHomeOf opening n (effect_if q (settled_op n ask) (change_reply answer) ++ past) after

    lock-home : (q : ProcName) (u : ObjectName) (m : Mode) (attr : Option Attr) (conflict : Option (ProcName × Mode)) (grant : ℕ) → After q (Ask.Lock u m) (lock_answer attr conflict grant) home
    lock-home q u m None conflict grant = is
    lock-home q u m (Some attr) (Some (holder, held)) grant = is
    lock-home q u m (Some attr) None grant = taken-home home q u m is

    make-home : (q : ProcName) (kind : ObjKind) (room : ℕ) (fits : Bool) → After q (Ask.Make kind room) (make_answer fits (record { counter = home.greatest + 1; home = home.node })) (if fits then after_make home kind room else home)
    make-home q kind room false = is
    make-home q kind room true =
        let u : ObjectName = record { counter = home.greatest + 1; home = home.node } in
        let o : Object = record { uid = u; kind = kind; room = room } in
        let here : (o.uid.home == n) ≡ true = grind (arith, nat_tests, node) in
        let new : not (is_deleted u past) ≡ true = by_cases (is_deleted u past) (not (is_deleted u past) ≡ true) (λ gone. absurd (let e = is.gone u node gone in omega (arith, e))) (λ h. rw h refl) in
        record {
          objects = pushed-there n (λ (x : Object). not (is_deleted x.uid past)) (made opening past) o new here ∙ ap (λ ps. ps ++ shown o ∷ []) is.objects ∙ sym (map-append row_shown home.objects (next_row home kind room ∷ []));
          greatest =
              ap (highest 0) (filter-append (λ (x : Object). x.uid.home == n) (made opening past) (o ∷ []) ∙ ap (λ b. at_home n (made opening past) ++ (if b then o ∷ [] else [])) here)
              ∙ fold-append (λ a (x : Object). max a x.uid.counter) 0 (at_home n (made opening past)) (o ∷ [])
              ∙ ap (λ a. max a (home.greatest + 1)) is.greatest
              ∙ omega arith;
          gone = λ v at lost. let e = is.gone v at lost in omega (arith, e);
        }

    remove-home : (q : ProcName) (u : ObjectName) (there held : Bool) → u.home ≡ n → is_some (attr_of home u) ≡ there → After q (Ask.Remove u) (remove_answer there held) (if there && held then after_remove home u.counter else home)
    remove-home q u false held at found = is
    remove-home q u true false at found = is
    remove-home q u true true at found =
        let row : is_some (attr_at home.objects u.counter) ≡ true = by (u.home == home.node) (attr_at home.objects u.counter) found in
        let low : u.counter ≤ greatest_counter opening past n = named-below n u.counter (λ (x : Object). not (is_deleted x.uid past)) 0 (made opening past) (subst (λ ps. list_any (λ (p : ℕ × ℕ). p.0 == u.counter) ps ≡ true) (sym is.objects) (some-named u.counter home.objects row)) in
        record {
          objects = taken-there n u (λ (x : Object). is_deleted x.uid past) at (made opening past) ∙ ap (without u.counter) is.objects ∙ sym (without-shown u.counter home.objects);
          greatest = is.greatest;
          gone = λ v at_v lost. by_cases (same_uid v u) (v.counter ≤ home.greatest)
              (λ same. let e : v.counter ≡ u.counter = ap (λ (x : ObjectName). x.counter) (same_uid_is v u same) in let g = is.greatest in omega (arith, e, g, low))
              (λ other. is.gone v at_v (rw other at lost));
        }
      where
        by : (b : Bool) (o : Option Attr) → is_some (if b then o else None) ≡ true → is_some o ≡ true
        by true o there = there
        by false o there = absurd (cc)

    decided-home : (locks : Table) (q : ProcName) (ask : Ask) → IsAtHome n ask → After q ask (decide home locks q ask).answer (decide home locks q ask).home
    decided-home locks q (Ask.PageIn u k) at = is
    decided-home locks q (Ask.PageOut u k grant base bytes) at = if-home _ (after_page home u.counter k bytes) home (changed-home stamped (λ a. refl) u.counter home (with_page home.pages u.counter k bytes) is) is
    decided-home locks q (Ask.AttrOut u length grant base) at = if-home _ (after_length home u.counter length) home (changed-home (resized length) (λ a. refl) u.counter home home.pages is) is
    decided-home locks q (Ask.Lock u m) at = lock-home q u m (attr_of home u) (conflict_of q u m locks.grants) (locks.last + 1)
    decided-home locks q (Ask.Unlock u) at = freed-home home q u is
    decided-home locks q (Ask.Remove u) at = remove-home q u (is_some (attr_of home u)) (may_remove (grant_of q u locks.grants)) (sym at) refl
    decided-home locks q (Ask.Make kind room) at = make-home q kind room (nat_le (rooms home.objects + room) VOLUME_ROOM)
    decided-home locks q (Ask.ListLocks after) at = is

  -- one of another home
  module _ (home : HomeState) (is : Rest home) (a : ℕ) (away : a ≢ n) where
    abbrev Beside : ProcName → Ask → Answer → Type 0
    Beside q ask answer = IsHomeOf opening n (effect_if q (settled_op a ask) (change_reply answer) ++ past) home

    lock-beside : (q : ProcName) (u : ObjectName) (m : Mode) (attr : Option Attr) (conflict : Option (ProcName × Mode)) (grant : ℕ) → Beside q (Ask.Lock u m) (lock_answer attr conflict grant)
    lock-beside q u m None conflict grant = is
    lock-beside q u m (Some attr) (Some (holder, held)) grant = is
    lock-beside q u m (Some attr) None grant = taken-home home q u m is

    elsewhere : (b : ℕ) → b ≡ a → (b == n) ≡ false
    elsewhere b same = elim (cases_eq b n) [ inl here ↦ absurd (away (sym same ∙ here)) | inr other ↦ grind (arith, nat_tests, other) ]

    make-beside : (q : ProcName) (kind : ObjKind) (room : ℕ) (fits : Bool) (u : ObjectName) → u.home ≡ a → Beside q (Ask.Make kind room) (make_answer fits u)
    make-beside q kind room false u at = is
    make-beside q kind room true u at =
        let o : Object = record { uid = u; kind = kind; room = room } in
        record {
          objects = ap (map shown) (passed-elsewhere n (λ (x : Object). not (is_deleted x.uid past)) (made opening past) o (elsewhere u.home at)) ∙ is.objects;
          greatest = ap (highest 0) (pushed-elsewhere n (made opening past) o (elsewhere u.home at)) ∙ is.greatest;
          gone = is.gone;
        }

    remove-beside : (q : ProcName) (u : ObjectName) (there held : Bool) → a ≡ u.home → Beside q (Ask.Remove u) (remove_answer there held)
    remove-beside q u false held at = is
    remove-beside q u true false at = is
    remove-beside q u true true at = record {
      objects = ap (map shown) (taken-elsewhere n u (λ (x : Object). is_deleted x.uid past) (λ here. away (at ∙ here)) (made opening past)) ∙ is.objects;
      greatest = is.greatest;
      gone = λ v at_v lost. by_cases (same_uid v u) (v.counter ≤ home.greatest)
          (λ same. absurd (away (at ∙ (sym (ap (λ (x : ObjectName). x.home) (same_uid_is v u same)) ∙ at_v))))
          (λ other. is.gone v at_v (rw other at lost));
    }

    decided-beside : (other : HomeState) → other.node ≡ a → (locks : Table) (q : ProcName) (ask : Ask) → IsAtHome a ask → Beside q ask (decide other locks q ask).answer
    decided-beside other node locks q (Ask.PageIn u k) at = is
    decided-beside other node locks q (Ask.PageOut u k grant base bytes) at = is
    decided-beside other node locks q (Ask.AttrOut u length grant base) at = is
    decided-beside other node locks q (Ask.Lock u m) at = lock-beside q u m (attr_of other u) (conflict_of q u m locks.grants) (locks.last + 1)
    decided-beside other node locks q (Ask.Unlock u) at = freed-home home q u is
    decided-beside other node locks q (Ask.Remove u) at = remove-beside q u (is_some (attr_of other u)) (may_remove (grant_of q u locks.grants)) at
    decided-beside other node locks q (Ask.Make kind room) at = make-beside q kind room (nat_le (rooms other.objects + room) VOLUME_ROOM) (record { counter = other.greatest + 1; home = other.node }) node
    decided-beside other node locks q (Ask.ListLocks after) at = is

pub node-then : (s : Setup) (n : ℕ) (notes : List Noted) → (held_then s n notes).home.node ≡ n
node-then s n notes = kept-replay (λ h. h.home.node ≡ n) (node-each n) (first_held s n) n notes refl

-- after a note
module _ (opening : Start) (n : ℕ) (past : List StoreEffect) where
  own-note : (h : Held) → h.home.node ≡ n → IsHomeOf opening n past h.home → (note : Note) → IsMeantAt n note → IsAnswered h note → IsHomeOf opening n (noted_effect n note ++ past) (after_note h note).home
  own-note h node is Note.Nothing at told = is
  own-note h node is (Note.Began q op) at told = is
  own-note h node is (Note.Did q phase op reply) at told = is
  own-note h node is (Note.Ended t) at told = is
  own-note h node is (Note.Decided q number ask answer) at told = subst (λ x. IsHomeOf opening n (effect_if q (settled_op n ask) (change_reply x) ++ past) (decide h.home h.locks q ask).home) (sym told) (decided-home opening n past h.home node is h.locks q ask at)

  other-note : (home : HomeState) → IsHomeOf opening n past home → (a : ℕ) → a ≢ n → (h : Held) → h.home.node ≡ a → (note : Note) → IsMeantAt a note → IsAnswered h note → IsHomeOf opening n (noted_effect a note ++ past) home
  other-note home is a away h node Note.Nothing at told = is
  other-note home is a away h node (Note.Began q op) at told = is
  other-note home is a away h node (Note.Did q phase op reply) at told = is
  other-note home is a away h node (Note.Ended t) at told = is
  other-note home is a away h node (Note.Decided q number ask answer) at told = subst (λ x. IsHomeOf opening n (effect_if q (settled_op a ask) (change_reply x) ++ past) home) (sym told) (decided-beside opening n past home is a away h.home node h.locks q ask at)

-- at the start
module _ (n : ℕ) where
  kept-all : (xs : List Object) → filter (λ (o : Object). not (is_deleted o.uid [])) xs ≡ xs
  kept-all [] = refl
  kept-all (x ∷ xs) = ap (λ ys. x ∷ ys) (kept-all xs)

  directories : (k : ℕ) → at_home n (entry_directories k) ≡ (if nat_le 1 n && nat_le n k then entry_directory n ∷ [] else [])
  directories zero = by_cases (nat_le 1 n && nat_le n zero) ([] ≡ (if nat_le 1 n && nat_le n zero then entry_directory n ∷ [] else [])) (λ h. absurd (let e : ⊥ = grind (arith, nat_tests, h) in e)) (λ h. rw h refl)
  directories (suc k) =
      filter-append (λ (o : Object). o.uid.home == n) (entry_directories k) (entry_directory (suc k) ∷ [])
      ∙ ap (λ xs. xs ++ at_home n (entry_directory (suc k) ∷ [])) (directories k)
      ∙ by (suc k == n) (nat_le 1 n && nat_le n k) (nat_le 1 n && nat_le n (suc k)) refl refl refl
    where
      by : (a b c : Bool) → (suc k == n) ≡ a → (nat_le 1 n && nat_le n k) ≡ b → (nat_le 1 n && nat_le n (suc k)) ≡ c
          → (if nat_le 1 n && nat_le n k then entry_directory n ∷ [] else []) ++ at_home n (entry_directory (suc k) ∷ []) ≡ (if nat_le 1 n && nat_le n (suc k) then entry_directory n ∷ [] else [])
      by true false true e f g = rw (e, f, g) (ap (λ m. entry_directory m ∷ []) (let h : suc k ≡ n = grind (arith, nat_tests, e) in h))
      by false true true e f g = rw (e, f, g) refl
      by false false false e f g = rw (e, f, g) refl
      by true true c e f g = absurd (let h : ⊥ = grind (arith, nat_tests, e, f) in h)
      by true false false e f g = absurd (let h : ⊥ = grind (arith, nat_tests, e, g) in h)
      by false true false e f g = absurd (let h : ⊥ = grind (arith, nat_tests, f, g) in h)
      by false false true e f g = absurd (let h : ⊥ = grind (arith, nat_tests, e, f, g) in h)

  opened-shown : (xs : List Object) → map shown xs ≡ map row_shown (map opened xs)
  opened-shown [] = refl
  opened-shown (x ∷ xs) = ap (λ ps. shown x ∷ ps) (opened-shown xs)

  first-is : (s : Setup) → IsSetup s → is_node s.opening n ≡ true → IsHomeOf s.opening n [] (first_held s n).home
  first-is s setup node =
      let own : List Object = at_home n s.opening.objects in
      let all : at_home n (made s.opening []) ≡ entry_directory n ∷ own = filter-append (λ (o : Object). o.uid.home == n) (entry_directories s.opening.nodes) s.opening.objects ∙ ap (λ xs. xs ++ own) (directories s.opening.nodes ∙ ap (λ b. if b then entry_directory n ∷ [] else []) node) in
      record {
        objects = ap (λ xs. map shown (at_home n xs)) (kept-all (made s.opening [])) ∙ ap (map shown) all ∙ opened-shown (entry_directory n ∷ own);
        greatest = ap (highest 0) all ∙ numbered-highest 1 own (setup.begins.homes n).counters ∙ omega arith;
        gone = λ u at lost. absurd (cc);
      }

filter-same : (a b : Object → Bool) → ((o : Object) → a o ≡ b o) → (xs : List Object) → filter a xs ≡ filter b xs
filter-same a b same [] = refl
filter-same a b same (x ∷ xs) = ap (λ t. if t then x ∷ filter a xs else filter a xs) (same x) ∙ ap (λ ys. if b x then x ∷ ys else ys) (filter-same a b same xs)

present-home : (opening : Start) (past : List StoreEffect) → present opening (home_effects past) ≡ present opening past
present-home opening past =
    ap (filter (λ (o : Object). not (is_deleted o.uid (home_effects past)))) (made-home opening past)
    ∙ filter-same (λ (o : Object). not (is_deleted o.uid (home_effects past))) (λ (o : Object). not (is_deleted o.uid past)) (λ o. ap not (deleted-home o.uid past)) (made opening past)

module _ (s : Setup) (setup : IsSetup s) (n : ℕ) (node : is_node s.opening n ≡ true) where
  one-then : (m : Noted) (older : List Noted) (b : Bool) → (m.place.node == n) ≡ b → IsAnswered (held_then s m.place.node older) m.note → IsMeantAt m.place.node m.note
      → IsHomeOf s.opening n (decided_effects older) (held_then s n older).home → IsHomeOf s.opening n (noted_effect m.place.node m.note ++ decided_effects older) (after_if b (held_then s n older) m.note).home
  one-then m older true at told meant before =
      let same : m.place.node ≡ n = grind (arith, nat_tests, at) in
      subst (λ a. IsHomeOf s.opening n (noted_effect a m.note ++ decided_effects older) (after_note (held_then s n older) m.note).home) (sym same)
      (own-note s.opening n (decided_effects older) (held_then s n older) (node-then s n older) before m.note (subst (λ a. IsMeantAt a m.note) same meant) (subst (λ a. IsAnswered (held_then s a older) m.note) same told))
  one-then m older false at told meant before =
      let other : m.place.node ≢ n = grind (arith, nat_tests, at) in
      other-note s.opening n (decided_effects older) (held_then s n older).home before m.place.node other (held_then s m.place.node older) (node-then s m.place.node older) m.note meant told

  home-then : (notes : List Noted) → AreAnswered s notes → EachOf (λ (m : Noted). IsMeantAt m.place.node m.note) notes → IsHomeOf s.opening n (decided_effects notes) (held_then s n notes).home
  home-then [] are meant = first-is n s setup node
  home-then (m ∷ older) are meant = one-then m older (m.place.node == n) refl are.0 meant.0 (home-then older are.1 meant.1)

  -- the room that is taken, and the greatest counter, by effects that homes decided so
  module _ (notes : List Noted) (are : AreAnswered s notes) (meant : EachOf (λ (m : Noted). IsMeantAt m.place.node m.note) notes) (past : List StoreEffect) (decided : home_effects past ≡ decided_effects notes) where
    abbrev home : HomeState
    home = (held_then s n notes).home

    shown-rooms : (xs : List Object) → sum_by (λ (o : Object). o.room) xs ≡ sum_by (λ (p : ℕ × ℕ). p.1) (map shown xs)
    shown-rooms [] = refl
    shown-rooms (x ∷ xs) = sum_by-cons (λ (o : Object). o.room) x xs ∙ ap (λ k. x.room + k) (shown-rooms xs) ∙ sym (sum_by-cons (λ (p : ℕ × ℕ). p.1) (shown x) (map shown xs))

    rows-rooms : (rows : List ObjectRow) → rooms rows ≡ sum_by (λ (p : ℕ × ℕ). p.1) (map row_shown rows)
    rows-rooms [] = refl
    rows-rooms (x ∷ xs) = sum_by-cons (λ (r : ObjectRow). r.attr.room) x xs ∙ ap (λ k. x.attr.room + k) (rows-rooms xs) ∙ sym (sum_by-cons (λ (p : ℕ × ℕ). p.1) (row_shown x) (map row_shown xs))

    pub taken-is : room_taken s.opening past n ≡ rooms home.objects
    taken-is =
        ap (λ xs. sum_by (λ (o : Object). o.room) (at_home n xs)) (sym (present-home s.opening past) ∙ ap (present s.opening) decided)
        ∙ shown-rooms (at_home n (present s.opening (decided_effects notes)))
        ∙ ap (sum_by (λ (p : ℕ × ℕ). p.1)) (home-then notes are meant).objects
        ∙ sym (rows-rooms home.objects)

    pub counter-is : greatest_counter s.opening past n ≡ home.greatest
    counter-is = ap (λ xs. highest 0 (at_home n xs)) (sym (made-home s.opening past) ∙ ap (made s.opening) decided) ∙ (home-then notes are meant).greatest
