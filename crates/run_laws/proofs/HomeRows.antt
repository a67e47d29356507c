-- The lock rows of a home are those that its decisions leave.
use Rattle.std.proofs.Common.{◌≡◌, ◌≢◌, ℕ, ◌+◌, Bool, true, false, List, [], ◌∷◌, ◌++◌, length, Option, Some, None, inl, inr, refl, sym, ap, subst, ◌∙◌, arith}
use Rattle.std.specs.Prelude.{◌==◌, ◌&&◌, not, nat_le, if◌then◌else◌, is_some, is_none, filter, All, AllPairs}
use Rattle.std.proofs.lemmas.Bool.{cases_eq}
use Rattle.std.proofs.lemmas.Bool.Decides.{nat_tests}
use Rattle.std.proofs.lemmas.List.Elements.{All-cons, All-head, All-tail}
use Rattle.uid_names.specs.Names.{ProcName, ObjectName, same_proc, same_uid}
use Rattle.uid_names.specs.Modes.{mode_removes, modes_clash}
use Rattle.uid_names.specs.Rows.{row_lt, same_row}
use Rattle.uid_names.specs.declared.lock_row.LockRow.{LockRow}
use Rattle.uid_names.specs.declared.limits.TheConstants.{VOLUME_ROOM}
use Rattle.uid_names.specs.declared.mode.Mode.{Mode}
use Rattle.uid_names.proofs.ListLemmas.{by_cases, All-found, All-more}
use Rattle.uid_names.proofs.Codes.{modes_clash-sym}
use Rattle.uid_names.proofs.InOrder.{AllPairs-head, AllPairs-tail}
use Rattle.uid_names.proofs.Orders.{same_row_is, same_uid-itself}
use Rattle.dom_history.specs.StoreEffects.{StoreEffect, Makes, TakesLock, FreesLock, Deletes, Writes, Maps, Unmaps}
use Rattle.dom_history.specs.Locks.{rows, rows_with, rows_without}
use Rattle.object_store.specs.declared.attributes.Attr.{Attr}
use Rattle.object_store.specs.Objects.{rooms}
use Rattle.object_store.specs.HomeStates.{attr_of}
use Rattle.lock_manager.specs.declared.grants.Grant.{Grant}
use Rattle.lock_manager.specs.Grants.{rows_of, is_on, grant_of, conflict_of, grants_with, grants_without}
use Rattle.lock_manager.specs.Tables.{IsTable, are_in_conflict}
use Rattle.lock_manager.proofs.Keeps.{IsTable-none}
use Rattle.ring_messages.specs.Bodies.{Ask, Answer}
use Rattle.page_server.specs.Decisions.{decide, lock_answer, remove_answer, make_answer, may_remove}
use Rattle.page_server.proofs.Sides.{decided-table}
use Rattle.node_runs.specs.Setups.{Setup}
use Rattle.node_runs.specs.Notes.{Note}
use Rattle.node_runs.specs.Runs.{Noted}
use Rattle.node_runs.specs.CallsKeep.{EachOf}
use Rattle.node_runs.specs.Replays.{Held, after_note, after_if, replay, first_held, IsAnswered, AreAnswered}
use Rattle.node_runs.specs.RunHistories.{settled_op, change_reply}
use Rattle.run_laws.specs.AskedHomes.{IsAtHome}
use Rattle.run_laws.proofs.Removals.{removes-clash}
use Rattle.run_laws.specs.DecidedEffects.{home_effects, effect_if, noted_effect, decided_effects}
use Rattle.run_laws.specs.HistoryHomes.{held_then}

-- a decision is on what its home was asked
abbrev pub IsMeantAt : ℕ → Note → Type 0
IsMeantAt home (Note.Decided q number ask answer) = IsAtHome home ask
IsMeantAt home note = Unit {0}

-- what holds of a home at the start, and after each decision, holds of each replay
module _ (P : Held → Type 0) (each : (h : Held) (note : Note) → P h → P (after_note h note)) where
  kept-if : (b : Bool) (h : Held) (note : Note) → P h → P (after_if b h note)
  kept-if true h note is = each h note is
  kept-if false h note is = is

  pub kept-replay : (first : Held) (n : ℕ) (notes : List Noted) → P first → P (replay first n notes)
  kept-replay first n [] is = is
  kept-replay first n (m ∷ older) is = kept-if (m.place.node == n) (replay first n older) m.note (kept-replay first n older is)

table-each : (h : Held) (note : Note) → IsTable h.locks → IsTable (after_note h note).locks
table-each h Note.Nothing is = is
table-each h (Note.Began q op) is = is
table-each h (Note.Did q phase op reply) is = is
table-each h (Note.Ended t) is = is
table-each h (Note.Decided q number ask answer) is = decided-table h.locks is h.home q ask

pub table-then : (s : Setup) (n : ℕ) (notes : List Noted) → IsTable (held_then s n notes).locks
table-then s n notes = kept-replay (λ (h : Held). IsTable h.locks) table-each (first_held s n) n notes IsTable-none

-- rows of grants
rows-without : (q : ProcName) (v : ObjectName) (grants : List Grant) → rows_of (grants_without q v grants) ≡ rows_without q v (rows_of grants)
rows-without q v [] = refl
rows-without q v (g ∷ grants) =
    by_cases (same_row q v g.row) (rows_of (grants_without q v (g ∷ grants)) ≡ rows_without q v (rows_of (g ∷ grants)))
    (λ h. rw h (rows-without q v grants))
    (λ h. rw h (ap (λ rs. g.row ∷ rs) (rows-without q v grants)))

rows-with : (new : Grant) (grants : List Grant) → rows_of (grants_with new grants) ≡ rows_with new.row (rows_of grants)
rows-with new [] = refl
rows-with new (g ∷ grants) =
    by_cases (row_lt g.row new.row) (rows_of (grants_with new (g ∷ grants)) ≡ rows_with new.row (rows_of (g ∷ grants)))
    (λ h. rw h (ap (λ rs. g.row ∷ rs) (rows-with new grants)))
    (λ h. rw h refl)

abbrev AreCompatible : List Grant → Type 0
AreCompatible = AllPairs (λ a b. are_in_conflict a b ≡ false)

-- where a process holds an object in a mode that removes, no other holds it
module _ (q : ProcName) (v : ObjectName) where
  abbrev IsOwn : Grant → Type 0
  IsOwn g = is_on v g ≡ same_row q v g.row

  only : (a b c : Bool) → c ≡ true → (a && (not b && c)) ≡ false → a ≡ (b && a)
  only true true true w is = refl
  only true false true w is = absurd (cc)
  only false true c w is = refl
  only false false c w is = refl
  only a b false w is = absurd (cc)

  -- the grant of the process stands first
  own-first : (g k : Grant) → same_row q v g.row ≡ true → mode_removes g.row.mode ≡ true → are_in_conflict g k ≡ false → IsOwn k
  own-first g k row removes free =
      let names = same_row_is q v g.row row in
      only (same_uid v k.row.uid) (same_proc q k.row.proc) (modes_clash g.row.proc g.row.mode k.row.proc k.row.mode) (removes-clash g.row.proc g.row.mode k.row.proc k.row.mode removes)
      (subst (λ u. (same_uid u k.row.uid && (not (same_proc q k.row.proc) && modes_clash g.row.proc g.row.mode k.row.proc k.row.mode)) ≡ false) (sym names.1)
      (subst (λ p. (same_uid g.row.uid k.row.uid && (not (same_proc p k.row.proc) && modes_clash g.row.proc g.row.mode k.row.proc k.row.mode)) ≡ false) (sym names.0) free))

  -- or later: then the first is not on the object
  own-later : (g h : Grant) → same_row q v g.row ≡ false → same_row q v h.row ≡ true → mode_removes h.row.mode ≡ true → are_in_conflict g h ≡ false → IsOwn g
  own-later g h other row removes free =
      let names = same_row_is q v h.row row in
      by (same_uid v g.row.uid) (same_proc q g.row.proc) refl refl
      (let e : same_uid g.row.uid h.row.uid ≡ same_uid v g.row.uid = subst (λ u. same_uid g.row.uid h.row.uid ≡ same_uid u g.row.uid) (sym names.1) (flip-uid g.row.uid h.row.uid) in
      let f : same_proc g.row.proc h.row.proc ≡ same_proc q g.row.proc = subst (λ p. same_proc g.row.proc h.row.proc ≡ same_proc p g.row.proc) (sym names.0) (flip-proc g.row.proc h.row.proc) in
      subst (λ a. (a && (not (same_proc q g.row.proc) && modes_clash g.row.proc g.row.mode h.row.proc h.row.mode)) ≡ false) e
      (subst (λ b. (same_uid g.row.uid h.row.uid && (not b && modes_clash g.row.proc g.row.mode h.row.proc h.row.mode)) ≡ false) f free))
    where
      flip-uid : (a b : ObjectName) → same_uid a b ≡ same_uid b a
      flip-uid a b = grind (arith, nat_tests)

      flip-proc : (a b : ProcName) → same_proc a b ≡ same_proc b a
      flip-proc a b = grind (arith, nat_tests)

      w : modes_clash g.row.proc g.row.mode h.row.proc h.row.mode ≡ true
      w = modes_clash-sym g.row.proc g.row.mode h.row.proc h.row.mode ∙ removes-clash h.row.proc h.row.mode g.row.proc g.row.mode removes

      by : (a b : Bool) → same_uid v g.row.uid ≡ a → same_proc q g.row.proc ≡ b → (same_uid v g.row.uid && (not (same_proc q g.row.proc) && modes_clash g.row.proc g.row.mode h.row.proc h.row.mode)) ≡ false → IsOwn g
      by a b is_a is_b clear = is_a ∙ (only a b (modes_clash g.row.proc g.row.mode h.row.proc h.row.mode) w
          (subst (λ x. (x && (not b && modes_clash g.row.proc g.row.mode h.row.proc h.row.mode)) ≡ false) is_a (subst (λ y. (same_uid v g.row.uid && (not y && modes_clash g.row.proc g.row.mode h.row.proc h.row.mode)) ≡ false) is_b clear))
          ∙ sym (ap (λ x. x && same_uid v g.row.uid) is_b ∙ ap (λ x. b && x) is_a))

  each-own : (grants : List Grant) (h : Grant) → AreCompatible grants → grant_of q v grants ≡ Some h → mode_removes h.row.mode ≡ true → All IsOwn grants
  each-own [] h pairs found removes = absurd (cc)
  each-own (g ∷ rest) h pairs found removes = by (same_row q v g.row) refl found (λ later. each-own rest h (AllPairs-tail (λ a b. are_in_conflict a b ≡ false) g rest pairs) later removes)
    where
      free : All (λ k. are_in_conflict g k ≡ false) rest
      free = AllPairs-head (λ a b. are_in_conflict a b ≡ false) g rest pairs

      by : (b : Bool) → same_row q v g.row ≡ b → (if b then Some g else grant_of q v rest) ≡ Some h → (grant_of q v rest ≡ Some h → All IsOwn rest) → All IsOwn (g ∷ rest)
      by true row is later =
          let same : g ≡ h = cc in
          let removing : mode_removes g.row.mode ≡ true = subst (λ x. mode_removes x.row.mode ≡ true) (sym same) removes in
          All-cons IsOwn g rest (subst (λ u. same_uid v u ≡ true) (same_row_is q v g.row row).1 (same_uid-itself v) ∙ sym row) (All-more (λ k. are_in_conflict g k ≡ false) IsOwn rest (λ k clear. own-first g k row removing clear) free)
      by false row is later =
          let holds = All-found (λ k. are_in_conflict g k ≡ false) (λ k. same_row q v k.row) rest h free is in
          All-cons IsOwn g rest (own-later g h row (passes rest is) removes holds) (later is)
        where
          passes : (ks : List Grant) → grant_of q v ks ≡ Some h → same_row q v h.row ≡ true
          passes [] found = absurd (cc)
          passes (k ∷ ks) found = at (same_row q v k.row) refl found (passes ks)
            where
              at : (b : Bool) → same_row q v k.row ≡ b → (if b then Some k else grant_of q v ks) ≡ Some h → (grant_of q v ks ≡ Some h → same_row q v h.row ≡ true) → same_row q v h.row ≡ true
              at true row is others = let same : k ≡ h = cc in subst (λ x. same_row q v x.row ≡ true) same row
              at false row is others = others is

  alone-filter : (grants : List Grant) → All IsOwn grants → filter (λ g. not (is_on v g)) grants ≡ grants_without q v grants
  alone-filter [] all = refl
  alone-filter (g ∷ grants) all =
      ap (λ b. if not b then g ∷ filter (λ k. not (is_on v k)) grants else filter (λ k. not (is_on v k)) grants) (All-head IsOwn g grants all)
      ∙ ap (λ ks. if not (same_row q v g.row) then g ∷ ks else ks) (alone-filter grants (All-tail IsOwn g grants all))

-- what is told by the effects of homes alone
pub rows-home : (n : ℕ) (past : List StoreEffect) → rows n (home_effects past) ≡ rows n past
rows-home n [] = refl
rows-home n (Makes o ∷ past) = rows-home n past
rows-home n (TakesLock p u m ∷ past) = ap (λ rs. if u.home == n then rows_with (record { uid = u; proc = p; mode = m }) (rows_without p u rs) else rs) (rows-home n past)
rows-home n (FreesLock p u ∷ past) = ap (λ rs. if u.home == n then rows_without p u rs else rs) (rows-home n past)
rows-home n (Deletes p u ∷ past) = ap (λ rs. if u.home == n then rows_without p u rs else rs) (rows-home n past)
rows-home n (Writes p spot bytes ∷ past) = rows-home n past
rows-home n (Maps p u address ∷ past) = rows-home n past
rows-home n (Unmaps p u ∷ past) = rows-home n past

itself : (a b : ℕ) → a ≡ b → (b == a) ≡ true
itself a b same = grind (arith, nat_tests, same)

-- a decision of the home
module _ (n : ℕ) (past : List StoreEffect) (h : Held) (table : IsTable h.locks) (before : rows n past ≡ rows_of h.locks.grants) where
  abbrev IsRight : ProcName → Ask → Answer → List Grant → Type 0
  IsRight q ask answer grants = rows n (effect_if q (settled_op n ask) (change_reply answer) ++ past) ≡ rows_of grants

  lock-right : (q : ProcName) (v : ObjectName) (m : Mode) → n ≡ v.home → (attr : Option Attr) (conflict : Option (ProcName × Mode))
      → IsRight q (Ask.Lock v m) (lock_answer attr conflict (h.locks.last + 1)) (if is_some attr && is_none conflict then record { grants = grants_with (record { row = record { uid = v; proc = q; mode = m }; number = h.locks.last + 1 }) (grants_without q v h.locks.grants); last = h.locks.last + 1 } else h.locks).grants
  lock-right q v m at None conflict = before
  lock-right q v m at (Some attr) (Some (holder, held)) = before
  lock-right q v m at (Some attr) None =
      let row : LockRow = record { uid = v; proc = q; mode = m } in
      ap (λ b. if b then rows_with row (rows_without q v (rows n past)) else rows n past) (itself n v.home at)
      ∙ ap (λ rs. rows_with row (rows_without q v rs)) before
      ∙ sym (rows-with (record { row = row; number = h.locks.last + 1 }) (grants_without q v h.locks.grants) ∙ ap (rows_with row) (rows-without q v h.locks.grants))

  free-right : (q : ProcName) (v : ObjectName) → n ≡ v.home → (if v.home == n then rows_without q v (rows n past) else rows n past) ≡ rows_of (grants_without q v h.locks.grants)
  free-right q v at =
      ap (λ b. if b then rows_without q v (rows n past) else rows n past) (itself n v.home at) ∙ ap (rows_without q v) before ∙ sym (rows-without q v h.locks.grants)

  alone : (q : ProcName) (v : ObjectName) (o : Option Grant) → grant_of q v h.locks.grants ≡ o → may_remove o ≡ true → filter (λ g. not (is_on v g)) h.locks.grants ≡ grants_without q v h.locks.grants
  alone q v None found may = absurd (cc)
  alone q v (Some g) found may = alone-filter q v h.locks.grants (each-own q v h.locks.grants g table.compatible found may)

  remove-right : (q : ProcName) (v : ObjectName) → n ≡ v.home → (there held : Bool) → may_remove (grant_of q v h.locks.grants) ≡ held
      → IsRight q (Ask.Remove v) (remove_answer there held) (if there && held then record { grants = filter (λ g. not (is_on v g)) h.locks.grants; last = h.locks.last } else h.locks).grants
  remove-right q v at false held may = before
  remove-right q v at true false may = before
  remove-right q v at true true may = free-right q v at ∙ ap rows_of (sym (alone q v (grant_of q v h.locks.grants) refl may))

  make-right : (q : ProcName) (kind : _) (room : ℕ) (fits : Bool) (v : ObjectName) → IsRight q (Ask.Make kind room) (make_answer fits v) h.locks.grants
  make-right q kind room false v = before
  make-right q kind room true v = before

  decide-right : (q : ProcName) (ask : Ask) → IsAtHome n ask → IsRight q ask (decide h.home h.locks q ask).answer (decide h.home h.locks q ask).locks.grants
  decide-right q (Ask.PageIn v page) at = before
  decide-right q (Ask.PageOut v page grant base bytes) at = before
  decide-right q (Ask.AttrOut v length grant base) at = before
  decide-right q (Ask.Lock v m) at = lock-right q v m at (attr_of h.home v) (conflict_of q v m h.locks.grants)
  decide-right q (Ask.Unlock v) at = free-right q v at
  decide-right q (Ask.Remove v) at = remove-right q v at (is_some (attr_of h.home v)) (may_remove (grant_of q v h.locks.grants)) refl
  decide-right q (Ask.Make kind room) at = make-right q kind room (nat_le (rooms h.home.objects + room) VOLUME_ROOM) _
  decide-right q (Ask.ListLocks after) at = before

  note-right : (note : Note) → IsMeantAt n note → IsAnswered h note → rows n (noted_effect n note ++ past) ≡ rows_of (after_note h note).locks.grants
  note-right Note.Nothing at is = before
  note-right (Note.Began q op) at is = before
  note-right (Note.Did q phase op reply) at is = before
  note-right (Note.Ended t) at is = before
  note-right (Note.Decided q number ask answer) at is = ap (λ a. rows n (effect_if q (settled_op n ask) (change_reply a) ++ past)) is ∙ decide-right q ask at

-- one of another home
module _ (n : ℕ) (past : List StoreEffect) (home : ℕ) (away : home ≢ n) where
  not-here : (v : ObjectName) → home ≡ v.home → (v.home == n) ≡ false
  not-here v at = elim (cases_eq v.home n) [ inl e ↦ absurd (away (at ∙ e)) | inr e ↦ grind (arith, nat_tests, e) ]

  lost : (v : ObjectName) (x y : List LockRow) → home ≡ v.home → (if v.home == n then x else y) ≡ y
  lost v x y at = ap (λ b. if b then x else y) (not-here v at)

  away-right : (q : ProcName) (ask : Ask) (answer : Answer) → IsAtHome home ask → rows n (effect_if q (settled_op home ask) (change_reply answer) ++ past) ≡ rows n past
  away-right q (Ask.PageIn v page) answer at = refl
  away-right q (Ask.PageOut v page grant base bytes) answer at = refl
  away-right q (Ask.AttrOut v length grant base) answer at = refl
  away-right q (Ask.ListLocks after) (Answer.Granted grant stamp kind room length) at = refl
  away-right q (Ask.ListLocks after) Answer.Done at = refl
  away-right q (Ask.ListLocks after) (Answer.Made w) at = refl
  away-right q (Ask.ListLocks after) answer at = refl
  away-right q (Ask.Lock v m) (Answer.Granted grant stamp kind room length) at = lost v _ (rows n past) at
  away-right q (Ask.Lock v m) Answer.Done at = lost v _ (rows n past) at
  away-right q (Ask.Lock v m) (Answer.Made w) at = refl
  away-right q (Ask.Lock v m) answer at = refl
  away-right q (Ask.Unlock v) (Answer.Granted grant stamp kind room length) at = lost v _ (rows n past) at
  away-right q (Ask.Unlock v) Answer.Done at = lost v _ (rows n past) at
  away-right q (Ask.Unlock v) (Answer.Made w) at = refl
  away-right q (Ask.Unlock v) answer at = refl
  away-right q (Ask.Remove v) (Answer.Granted grant stamp kind room length) at = lost v _ (rows n past) at
  away-right q (Ask.Remove v) Answer.Done at = lost v _ (rows n past) at
  away-right q (Ask.Remove v) (Answer.Made w) at = refl
  away-right q (Ask.Remove v) answer at = refl
  away-right q (Ask.Make kind room) (Answer.Granted grant stamp k r length) at = refl
  away-right q (Ask.Make kind room) Answer.Done at = refl
  away-right q (Ask.Make kind room) (Answer.Made w) at = refl
  away-right q (Ask.Make kind room) answer at = refl

  away-note : (note : Note) → IsMeantAt home note → rows n (noted_effect home note ++ past) ≡ rows n past
  away-note Note.Nothing at = refl
  away-note (Note.Began q op) at = refl
  away-note (Note.Did q phase op reply) at = refl
  away-note (Note.Ended t) at = refl
  away-note (Note.Decided q number ask answer) at = away-right q ask answer at

module _ (s : Setup) (n : ℕ) where
  row-then : (m : Noted) (older : List Noted) (b : Bool) → (m.place.node == n) ≡ b → IsAnswered (held_then s m.place.node older) m.note → IsMeantAt m.place.node m.note
      → rows n (decided_effects older) ≡ rows_of (held_then s n older).locks.grants → rows n (noted_effect m.place.node m.note ++ decided_effects older) ≡ rows_of (after_if b (held_then s n older) m.note).locks.grants
  row-then m older true here is meant before =
      let same : m.place.node ≡ n = grind (arith, nat_tests, here) in
      ap (λ a. rows n (noted_effect a m.note ++ decided_effects older)) same
      ∙ note-right n (decided_effects older) (held_then s n older) (table-then s n older) before m.note (subst (λ a. IsMeantAt a m.note) same meant) (subst (λ a. IsAnswered (held_then s a older) m.note) same is)
  row-then m older false here is meant before =
      away-note n (decided_effects older) m.place.node (let e : m.place.node ≢ n = grind (arith, nat_tests, here) in e) m.note meant ∙ before

  pub rows-then : (notes : List Noted) → AreAnswered s notes → EachOf (λ (m : Noted). IsMeantAt m.place.node m.note) notes → rows n (decided_effects notes) ≡ rows_of (held_then s n notes).locks.grants
  rows-then [] are meant = refl
  rows-then (m ∷ older) are meant = row-then m older (m.place.node == n) refl are.0 meant.0 (rows-then older are.1 meant.1)
