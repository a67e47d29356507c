-- In what one store answered, and in what it did, mappings of a process lie apart, and no object is longer than its room.
use Rattle.std.proofs.Common.{◌≡◌, ◌<◌, ◌≤◌, ◌+◌, ◌-◌, ◌*◌, max, ℕ, Bool, true, false, not, ◌&&◌, if◌then◌else◌, Option, Some, None, List, [], ◌∷◌, ◌++◌, length, refl, ap, ◌∙◌, sym, subst, arith}
use Rattle.std.specs.Prelude.{nat_le, nat_lt, find, filter, is_some}
use Rattle.std.specs.List.{list_all}
use Rattle.std.specs.Option.{option_map}
use Rattle.std.proofs.lemmas.Bool.{false≢true}
use Rattle.std.proofs.lemmas.Bool.Decides.{nat_tests}
use Rattle.uid_names.specs.Names.{ProcName, ObjectName, same_proc, same_uid}
use Rattle.uid_names.specs.Openings.{Start}
use Rattle.uid_names.specs.Segments.{segments, lies_in, is_apart}
use Rattle.uid_names.specs.declared.opening.Object.{Object}
use Rattle.uid_names.specs.declared.limits.TheConstants.{PAGE_BYTES, PROCESS_MAPPINGS}
use Rattle.uid_names.specs.declared.segment.TheConstants.{SEGMENT_SIZE}
use Rattle.uid_names.proofs.Orders.{same_uid_is, same_proc_is}
use Rattle.uid_names.proofs.Finds.{find-passes}
use Rattle.uid_names.proofs.Passed.{left-true, right-true}
use Rattle.dom_history.specs.declared.op.Op.{Op}
use Rattle.dom_history.specs.declared.op.Op.TheVariants.{New, Lock, Unlock, Delete, Store, Map, Unmap}
use Rattle.dom_history.specs.declared.op.Spot.{Spot}
use Rattle.dom_history.specs.declared.op.Reply.{Reply}
use Rattle.dom_history.specs.declared.op.Reply.TheVariants.{Made, Fine, At, NoLock, WrongMode, PastRoom}
use Rattle.dom_history.specs.declared.deed.Deed.{Deed}
use Rattle.dom_history.specs.StoreEffects.{StoreEffect, Maps, store_effect, store_effects, own}
use Rattle.dom_history.specs.Objects.{IsOfMade, made, room_of, room_or_none}
use Rattle.dom_history.specs.Locks.{state, is_held}
use Rattle.dom_history.specs.Mappings.{Mapping, mappings, stretch_of, Target, target, target_in, lowest_run}
use Rattle.dom_history.specs.Bytes.{length_of, end_after}
use Rattle.dom_history.specs.Legal.{MayAct}
use Rattle.dom_history.specs.Replies.{Before, reply_of, may_write, store_reply, map_anew_reply, mapping_of}
use Rattle.dom_history.specs.Runs.{AreAnswered}
use Rattle.dom_history.proofs.MadeObjects.{found-step}
use Rattle.dom_history.proofs.HeldObjects.{mapped-was_made}
use Rattle.mapped_streams.proofs.Sound.{IsReached, IsSound}
use Rattle.mapped_streams.proofs.Reaching.{mapped_held, anew_run, in_segments, run_free, apart}

module _ (opening : Start) where
  -- what stands before an operation of a process that was told this
  abbrev pub met : List StoreEffect → List Deed → Before
  met past told = record { opening = opening; past = past; told = told }

  -- an object was made
  abbrev pub IsThere : List StoreEffect → ObjectName → Type 0
  IsThere past u = is_some (find (λ o. same_uid o.uid u) (made opening past)) ≡ true

  -- a mapping has no address of another one, nor of some
  abbrev pub IsApart : List StoreEffect → Mapping → Mapping → Type 0
  IsApart past m n = (a : ℕ) → lies_in a (stretch_of opening past n) ≡ true → lies_in a (stretch_of opening past m) ≡ false

  abbrev pub IsClear : List StoreEffect → Mapping → List Mapping → Type 0
  IsClear past m [] = Unit {0}
  IsClear past m (n ∷ ns) = IsApart past m n × IsClear past m ns

  -- mappings are of objects that were made, and lie apart
  abbrev pub AreApart : List StoreEffect → List Mapping → Type 0
  AreApart past [] = Unit {0}
  AreApart past (m ∷ ms) = IsThere past m.uid × IsClear past m ms × AreApart past ms

  module _ (q : ProcName) (op : Op) (reply : Reply) (past : List StoreEffect) where
    abbrev later : List StoreEffect
    later = store_effect q op reply ++ past

    -- what was made stays, with its room
    there_by : (u : ObjectName) (found : Option Object) → find (λ o. same_uid o.uid u) (made opening past) ≡ found → IsThere past u → IsThere later u
    there_by u None e there = absurd (false≢true (subst (λ x. is_some x ≡ true) e there))
    there_by u (Some o) e there = ap is_some (found-step q op reply opening past (λ o. same_uid o.uid u) o e)

    pub there_later : (u : ObjectName) → IsThere past u → IsThere later u
    there_later u there = there_by u (find (λ o. same_uid o.uid u) (made opening past)) refl there

    room_by : (u : ObjectName) (found : Option Object) → find (λ o. same_uid o.uid u) (made opening past) ≡ found → IsThere past u → room_of opening later u ≡ room_of opening past u
    room_by u None e there = absurd (false≢true (subst (λ x. is_some x ≡ true) e there))
    room_by u (Some o) e there = ap room_or_none (found-step q op reply opening past (λ o. same_uid o.uid u) o e) ∙ sym (ap room_or_none e)

    grows_by : (u : ObjectName) (found : Option Object) → find (λ o. same_uid o.uid u) (made opening past) ≡ found → room_of opening past u ≤ room_of opening later u
    grows_by u None e = subst (λ x. room_or_none x ≤ room_of opening later u) (sym e) (omega arith)
    grows_by u (Some o) e = subst (λ n. room_of opening past u ≤ n) (sym (room_by u (Some o) e (ap is_some e))) (omega arith)

    pub room_grows : (u : ObjectName) → room_of opening past u ≤ room_of opening later u
    room_grows u = grows_by u (find (λ o. same_uid o.uid u) (made opening past)) refl

    stretch_later : (m : Mapping) → IsThere past m.uid → stretch_of opening later m ≡ stretch_of opening past m
    stretch_later m there = ap (λ room. record { low = m.address; high = m.address + segments room * SEGMENT_SIZE }) (room_by m.uid (find (λ o. same_uid o.uid m.uid) (made opening past)) refl there)

    clear_later : (m : Mapping) (ms : List Mapping) → IsThere past m.uid → AreApart past ms → IsClear past m ms → IsClear later m ms
    clear_later m [] there h clear = tt
    clear_later m (n ∷ ns) there h clear =
        (λ a e. subst (λ s. lies_in a s ≡ false) (sym (stretch_later m there)) (clear.0 a (subst (λ s. lies_in a s ≡ true) (stretch_later n h.0) e)), clear_later m ns there h.2 clear.1)

    apart_later : (ms : List Mapping) → AreApart past ms → AreApart later ms
    apart_later [] h = tt
    apart_later (m ∷ ms) h = (there_later m.uid h.0, clear_later m ms h.0 h.2 h.1, apart_later ms h.2)

  -- some mappings less
  clear_filter : (past : List StoreEffect) (t : Mapping → Bool) (m : Mapping) (ms : List Mapping) → IsClear past m ms → IsClear past m (filter t ms)
  clear_filter past t m [] clear = tt
  clear_filter past t m (n ∷ ns) clear = by_test (t n) refl (clear_filter past t m ns clear.1)
    where
      by_test : (b : Bool) → t n ≡ b → IsClear past m (filter t ns) → IsClear past m (filter t (n ∷ ns))
      by_test true e others = rw e (clear.0, others)
      by_test false e others = rw e others

  apart_filter : (past : List StoreEffect) (t : Mapping → Bool) (ms : List Mapping) → AreApart past ms → AreApart past (filter t ms)
  apart_filter past t [] h = tt
  apart_filter past t (m ∷ ms) h = by_test (t m) refl (apart_filter past t ms h.2)
    where
      by_test : (b : Bool) → t m ≡ b → AreApart past (filter t ms) → AreApart past (filter t (m ∷ ms))
      by_test true e others = rw e (h.0, clear_filter past t m ms h.1, others)
      by_test false e others = rw e others

  -- a new one lies apart from those that were there
  clear_new : (past : List StoreEffect) (u : ObjectName) (first : ℕ) (ms : List Mapping) → list_all (λ m. is_apart (segments (room_of opening past u)) first (stretch_of opening past m)) ms ≡ true → IsClear past (record { uid = u; address = first * SEGMENT_SIZE }) ms
  clear_new past u first [] free = tt
  clear_new past u first (n ∷ ns) free =
      let here = is_apart (segments (room_of opening past u)) first (stretch_of opening past n) in
      let others = list_all (λ m. is_apart (segments (room_of opening past u)) first (stretch_of opening past m)) ns in
      (λ a e. apart a (segments (room_of opening past u)) first (stretch_of opening past n) (left-true here others free) e, clear_new past u first ns (right-true here others free))

  new_by : (past : List StoreEffect) (told : List Deed) (q : ProcName) (u : ObjectName) (a : ℕ) (found : Option Mapping) → map_anew_reply (met past told) q u found ≡ At a true → IsClear past (record { uid = u; address = a }) (mappings q past)
  new_by past told q u a (Some m) e = absurd (grind (arith, e))
  new_by past told q u a None e = by_run (lowest_run opening past q (segments (room_of opening past u))) refl (anew_run (nat_le PROCESS_MAPPINGS (length (mappings q past))) (lowest_run opening past q (segments (room_of opening past u))) a true e)
    where
      by_run : (run : Option ℕ) → lowest_run opening past q (segments (room_of opening past u)) ≡ run → option_map (λ first. first * SEGMENT_SIZE) run ≡ Some a → IsClear past (record { uid = u; address = a }) (mappings q past)
      by_run None r at = absurd (grind (arith, at))
      by_run (Some first) r at =
          let start : first * SEGMENT_SIZE ≡ a = grind (arith, at) in
          subst (λ x. IsClear past (record { uid = u; address = x }) (mappings q past)) start (clear_new past u first (mappings q past) (run_free opening q past u first r))

  -- each answer leaves the mappings of each process apart
  mapped_apart : (past : List StoreEffect) (told : List Deed) (p q : ProcName) (u : ObjectName) (a : ℕ) (b : Bool) → same_proc p q ≡ b → IsThere past u → At a true ≡ reply_of (met past told) q (Map u) → AreApart past (mappings p past) → AreApart (Maps q u a ∷ past) (mappings p (Maps q u a ∷ past))
  mapped_apart past told p q u a false e there is h = rw e (apart_later q (Map u) (At a true) past (mappings p past) h)
  mapped_apart past told p q u a true e there is h =
      let anew = mapped_held (is_held (state u told)) (map_anew_reply (met past told) q u (mapping_of (met past told) q u)) a true (sym is) in
      let clear = subst (λ x. IsClear past (record { uid = u; address = a }) (mappings x past)) (sym (same_proc_is p q e)) (new_by past told q u a (mapping_of (met past told) q u) anew) in
      rw e (apart_later q (Map u) (At a true) past (record { uid = u; address = a } ∷ mappings p past) (there, clear, h))

  unmapped_apart : (past : List StoreEffect) (p q : ProcName) (u : ObjectName) (b : Bool) → same_proc p q ≡ b → AreApart past (mappings p past) → AreApart (store_effect q (Unmap u) Fine ++ past) (mappings p (store_effect q (Unmap u) Fine ++ past))
  unmapped_apart past p q u true e h = rw e (apart_filter (store_effect q (Unmap u) Fine ++ past) (λ m. not (same_uid u m.uid)) (mappings p past) (apart_later q (Unmap u) Fine past (mappings p past) h))
  unmapped_apart past p q u false e h = rw e (apart_later q (Unmap u) Fine past (mappings p past) h)

  step_apart : (past : List StoreEffect) (told : List Deed) (p q : ProcName) (op : Op) (reply : Reply) → IsOfMade (made opening past) op reply → reply ≡ reply_of (met past told) q op → AreApart past (mappings p past) → AreApart (store_effect q op reply ++ past) (mappings p (store_effect q op reply ++ past))
  step_apart past told p q (New home kind room) (Made u) there e h = apart_later q (New home kind room) (Made u) past (mappings p past) h
  step_apart past told p q (Lock u m) Fine there e h = apart_later q (Lock u m) Fine past (mappings p past) h
  step_apart past told p q (Unlock u) Fine there e h = apart_later q (Unlock u) Fine past (mappings p past) h
  step_apart past told p q (Delete u) Fine there e h = apart_later q (Delete u) Fine past (mappings p past) h
  step_apart past told p q (Store spot bytes) Fine there e h = apart_later q (Store spot bytes) Fine past (mappings p past) h
  step_apart past told p q (Map u) (At a true) there e h = mapped_apart past told p q u a (same_proc p q) refl there e h
  step_apart past told p q (Unmap u) Fine there e h = unmapped_apart past p q u (same_proc p q) refl h
  step_apart past told p q _ _ there e h = h

  -- and so does what a home does for a process that is not told of it
  act_apart : (past : List StoreEffect) (p q : ProcName) (op : Op) (reply : Reply) → MayAct opening past q op reply → AreApart past (mappings p past) → AreApart (store_effect q op reply ++ past) (mappings p (store_effect q op reply ++ past))
  act_apart past p q (New home kind room) (Made u) may h = apart_later q (New home kind room) (Made u) past (mappings p past) h
  act_apart past p q (Lock u m) Fine may h = apart_later q (Lock u m) Fine past (mappings p past) h
  act_apart past p q (Unlock u) Fine may h = apart_later q (Unlock u) Fine past (mappings p past) h
  act_apart past p q (Delete u) Fine may h = apart_later q (Delete u) Fine past (mappings p past) h
  act_apart past p q (Store spot bytes) reply may h = absurd may
  act_apart past p q (Map u) reply may h = absurd may
  act_apart past p q (Unmap u) reply may h = absurd may
  act_apart past p q _ _ may h = h

  -- a store that is answered Fine ends within the room of its object
  within_room : (held writes past_room : Bool) → Fine ≡ (if not held then NoLock else if not writes then WrongMode else if past_room then PastRoom else Fine) → past_room ≡ false
  within_room false writes past_room e = absurd (grind (arith, e))
  within_room true false past_room e = absurd (grind (arith, e))
  within_room true true true e = absurd (grind (arith, e))
  within_room true true false e = refl

  written_length : (past : List StoreEffect) (u v : ObjectName) (end : ℕ) (b : Bool) → same_uid v u ≡ b → end ≤ PAGE_BYTES * room_of opening past v → length_of opening past u ≤ PAGE_BYTES * room_of opening past u → (if b then max (length_of opening past u) end else length_of opening past u) ≤ PAGE_BYTES * room_of opening past u
  written_length past u v end false e fits h = h
  written_length past u v end true e fits h =
      let fits_u : end ≤ PAGE_BYTES * room_of opening past u = subst (λ w. end ≤ PAGE_BYTES * room_of opening past w) (same_uid_is v u e) fits in
      both (length_of opening past u) end (PAGE_BYTES * room_of opening past u) h fits_u
    where
      both : (m n limit : ℕ) → m ≤ limit → n ≤ limit → max m n ≤ limit
      both m n limit h k = grind (arith, h, k)

  written_within : (past : List StoreEffect) (told : List Deed) (q : ProcName) (spot : Spot) (bytes : List ℕ) (u : ObjectName) (t : Option Target) → target opening past q spot ≡ t → Fine ≡ store_reply (met past told) t bytes → length_of opening past u ≤ PAGE_BYTES * room_of opening past u → end_after t bytes u (length_of opening past u) ≤ PAGE_BYTES * room_of opening past u
  written_within past told q spot bytes u None e is h = absurd (grind (arith, is))
  written_within past told q spot bytes u (Some t) e is h =
      let test = within_room (is_held (state t.uid told)) (may_write (state t.uid told)) (nat_lt (PAGE_BYTES * room_of opening past t.uid) (t.offset + length bytes)) is in
      let fits : t.offset + length bytes ≤ PAGE_BYTES * room_of opening past t.uid = grind (arith, nat_tests, test) in
      written_length past u t.uid (t.offset + length bytes) (same_uid t.uid u) refl fits h

  grown : (q : ProcName) (op : Op) (reply : Reply) (past : List StoreEffect) (u : ObjectName) (n : ℕ) → n ≤ PAGE_BYTES * room_of opening past u → n ≤ PAGE_BYTES * room_of opening (store_effect q op reply ++ past) u
  grown q op reply past u n h =
      let more = room_grows q op reply past u in
      omega (arith, h, more)

  -- each answer leaves each object within its room
  step_within : (past : List StoreEffect) (told : List Deed) (q : ProcName) (op : Op) (reply : Reply) (u : ObjectName) → reply ≡ reply_of (met past told) q op → length_of opening past u ≤ PAGE_BYTES * room_of opening past u → length_of opening (store_effect q op reply ++ past) u ≤ PAGE_BYTES * room_of opening (store_effect q op reply ++ past) u
  step_within past told q (New home kind room) (Made v) u e h = grown q (New home kind room) (Made v) past u (length_of opening past u) h
  step_within past told q (Lock v m) Fine u e h = h
  step_within past told q (Unlock v) Fine u e h = h
  step_within past told q (Delete v) Fine u e h = h
  step_within past told q (Store spot bytes) Fine u e h = written_within past told q spot bytes u (target opening past q spot) refl e h
  step_within past told q (Map v) (At a true) u e h = h
  step_within past told q (Unmap v) Fine u e h = h
  step_within past told q _ _ u e h = h

  act_within : (past : List StoreEffect) (q : ProcName) (op : Op) (reply : Reply) (u : ObjectName) → MayAct opening past q op reply → length_of opening past u ≤ PAGE_BYTES * room_of opening past u → length_of opening (store_effect q op reply ++ past) u ≤ PAGE_BYTES * room_of opening (store_effect q op reply ++ past) u
  act_within past q (New home kind room) (Made v) u may h = grown q (New home kind room) (Made v) past u (length_of opening past u) h
  act_within past q (Lock v m) Fine u may h = h
  act_within past q (Unlock v) Fine u may h = h
  act_within past q (Delete v) Fine u may h = h
  act_within past q (Store spot bytes) reply u may h = absurd may
  act_within past q (Map v) reply u may h = absurd may
  act_within past q (Unmap v) reply u may h = absurd may
  act_within past q _ _ u may h = h

  -- a mapping is found at each of its addresses
  lies_within : (past : List StoreEffect) (m : Mapping) (o : ℕ) → o < PAGE_BYTES * room_of opening past m.uid → lies_in (m.address + o) (stretch_of opening past m) ≡ true
  lies_within past m o h =
      let end = in_segments (room_of opening past m.uid) o h in
      within m.address o (segments (room_of opening past m.uid) * SEGMENT_SIZE) end
    where
      within : (a o n : ℕ) → o < n → (nat_le a (a + o) && nat_lt (a + o) (a + n)) ≡ true
      within a o n h = grind (arith, nat_tests, h)

  apart_from : (past : List StoreEffect) (m n : Mapping) (t : Mapping → Bool) (ms : List Mapping) → IsClear past m ms → find t ms ≡ Some n → IsApart past m n
  apart_from past m n t [] clear e = absurd (grind (arith, e))
  apart_from past m n t (k ∷ ms) clear e = by_test (t k) refl (λ later. apart_from past m n t ms clear.1 later)
    where
      by_test : (b : Bool) → t k ≡ b → (find t ms ≡ Some n → IsApart past m n) → IsApart past m n
      by_test true et others =
          let here : Some k ≡ Some n = subst (λ b. (if b then Some k else find t ms) ≡ Some n) et e in
          let same : k ≡ n = grind (arith, here) in
          subst (λ x. IsApart past m x) same clear.0
      by_test false et others = others (subst (λ b. (if b then Some k else find t ms) ≡ Some n) et e)

  found_at : (past : List StoreEffect) (u : ObjectName) (m : Mapping) (a : ℕ) (ms : List Mapping) → AreApart past ms → find (λ n. same_uid u n.uid) ms ≡ Some m → lies_in a (stretch_of opening past m) ≡ true → find (λ n. lies_in a (stretch_of opening past n)) ms ≡ Some m
  found_at past u m a [] h e inside = absurd (grind (arith, e))
  found_at past u m a (k ∷ ms) h e inside = by_test (same_uid u k.uid) refl (λ later. found_at past u m a ms h.2 later inside)
    where
      by_test : (b : Bool) → same_uid u k.uid ≡ b → (find (λ n. same_uid u n.uid) ms ≡ Some m → find (λ n. lies_in a (stretch_of opening past n)) ms ≡ Some m) → find (λ n. lies_in a (stretch_of opening past n)) (k ∷ ms) ≡ Some m
      by_test true et others =
          let here : Some k ≡ Some m = subst (λ b. (if b then Some k else find (λ n. same_uid u n.uid) ms) ≡ Some m) et e in
          let same : k ≡ m = grind (arith, here) in
          let inside_k : lies_in a (stretch_of opening past k) ≡ true = subst (λ x. lies_in a (stretch_of opening past x) ≡ true) (sym same) inside in
          ap (λ b. if b then Some k else find (λ n. lies_in a (stretch_of opening past n)) ms) inside_k ∙ here
      by_test false et others =
          let later = subst (λ b. (if b then Some k else find (λ n. same_uid u n.uid) ms) ≡ Some m) et e in
          let outside = apart_from past k m (λ n. same_uid u n.uid) ms h.1 later a inside in
          ap (λ b. if b then Some k else find (λ n. lies_in a (stretch_of opening past n)) ms) outside ∙ others later

  all_reached : (past : List StoreEffect) (p : ProcName) (u : ObjectName) (m : Mapping) → AreApart past (mappings p past) → find (λ n. same_uid u n.uid) (mappings p past) ≡ Some m → IsReached opening past p u m.address (PAGE_BYTES * room_of opening past u)
  all_reached past p u m h e o below =
      let own : u ≡ m.uid = same_uid_is u m.uid (find-passes (λ n. same_uid u n.uid) (mappings p past) m e) in
      let inside = lies_within past m o (subst (λ v. o < PAGE_BYTES * room_of opening past v) own below) in
      let offset : m.address + o - m.address ≡ o = omega arith in
      ap (λ x. target_in (m.address + o) x) (found_at past u m (m.address + o) (mappings p past) h e inside)
      ∙ ap (λ i. Some (record { uid = m.uid; offset = i })) offset
      ∙ ap (λ v. Some (record { uid = v; offset = o })) (sym own)

  -- in such effects mappings lie apart and objects lie within their rooms
  pub record AreKept (past : List StoreEffect) : Type 0 where
    pub apart : (p : ProcName) → AreApart past (mappings p past)
    pub within : (u : ObjectName) → length_of opening past u ≤ PAGE_BYTES * room_of opening past u

  pub first_kept : AreKept []
  first_kept = record { apart = λ p. tt; within = λ u. omega arith }

  pub step_kept : (past : List StoreEffect) (told : List Deed) (q : ProcName) (op : Op) (reply : Reply) → IsOfMade (made opening past) op reply → reply ≡ reply_of (met past told) q op → AreKept past → AreKept (store_effect q op reply ++ past)
  step_kept past told q op reply there e h = record {
    apart = λ p. step_apart past told p q op reply there e (h.apart p);
    within = λ u. step_within past told q op reply u e (h.within u);
  }

  pub act_kept : (past : List StoreEffect) (q : ProcName) (op : Op) (reply : Reply) → MayAct opening past q op reply → AreKept past → AreKept (store_effect q op reply ++ past)
  act_kept past q op reply may h = record { apart = λ p. act_apart past p q op reply may (h.apart p); within = λ u. act_within past q op reply u may (h.within u) }

  -- they are sound for each process
  pub kept_sound : (past : List StoreEffect) (p : ProcName) → AreKept past → IsSound opening past p
  kept_sound past p h = record { reached = λ u m e. all_reached past p u m (h.apart p) e; lengths = h.within }

  -- and so is what one store answered
  answered_kept : (deeds : List Deed) → AreAnswered opening deeds → AreKept (store_effects deeds)
  answered_kept [] answered = first_kept
  answered_kept (d ∷ deeds) answered =
      step_kept (store_effects deeds) (own d.proc deeds) d.proc d.op d.reply (mapped-was_made opening deeds d.proc d.op d.reply answered.1 answered.0) answered.0 (answered_kept deeds answered.1)

  pub answered_sound : (deeds : List Deed) (p : ProcName) → AreAnswered opening deeds → IsSound opening (store_effects deeds) p
  answered_sound deeds p answered = kept_sound (store_effects deeds) p (answered_kept deeds answered)
