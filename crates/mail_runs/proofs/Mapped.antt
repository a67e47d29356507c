-- In a history of one store the mappings of a process lie apart, so an object that it mapped is reached by its addresses.
use Rattle.std.proofs.Common.{◌≡◌, ◌<◌, ◌≤◌, ◌+◌, ◌-◌, ◌*◌, ℕ, Bool, true, false, not, ◌&&◌, Option, Some, None, List, [], ◌∷◌, ◌++◌, length, refl, ap, ◌∙◌, sym, subst, arith, if◌then◌else◌}
use Rattle.std.specs.Prelude.{nat_le, nat_lt, find, filter, is_some}
use Rattle.std.specs.List.{list_all}
use Rattle.std.specs.Option.{option_map}
use Rattle.std.proofs.lemmas.Bool.{false≢true}
use Rattle.std.proofs.lemmas.Bool.Decides.{nat_tests}
use Rattle.uid_names.specs.Names.{ProcName, ObjectName, same_proc, same_uid}
use Rattle.uid_names.specs.Openings.{Start, IsStart}
use Rattle.uid_names.specs.Segments.{segments, lies_in, is_apart}
use Rattle.uid_names.specs.declared.opening.Object.{Object}
use Rattle.uid_names.specs.declared.limits.TheConstants.{PROCESS_MAPPINGS}
use Rattle.uid_names.specs.declared.segment.TheConstants.{SEGMENT_SIZE}
use Rattle.uid_names.proofs.Orders.{same_proc-itself, same_uid-itself, same_uid_is, same_proc_is}
use Rattle.uid_names.proofs.Finds.{find-passes}
use Rattle.uid_names.proofs.Passed.{left-true, right-true}
use Rattle.dom_history.specs.declared.op.Entry.{Entry}
use Rattle.dom_history.specs.declared.op.Op.{Op}
use Rattle.dom_history.specs.declared.op.Op.TheVariants.{New, Lock, Unlock, Delete, Store, Map, Unmap}
use Rattle.dom_history.specs.declared.op.Spot.TheVariants.{Addr}
use Rattle.dom_history.specs.declared.op.Reply.{Reply}
use Rattle.dom_history.specs.declared.op.Reply.TheVariants.{Made, Fine, At, NoLock, TooManyMaps}
use Rattle.dom_history.specs.StoreEffects.{StoreEffect, Maps, store_effect, store_effects}
use Rattle.dom_history.specs.Histories.{Item, Answered, Acted, Act, before_op, deeds, told}
use Rattle.dom_history.specs.Legal.{AreLegal, IsAllowed, MayAct}
use Rattle.dom_history.specs.Objects.{made, room_of, room_or_none}
use Rattle.dom_history.specs.Locks.{state, is_held}
use Rattle.dom_history.specs.Mappings.{Mapping, mappings, stretch_of, target, target_in, lowest_run}
use Rattle.dom_history.specs.Replies.{map_anew_reply, mapping_of, run_or_none}
use Rattle.dom_history.proofs.MadeObjects.{found-step}
use Rattle.mapped_streams.proofs.Reaching.{mapped_held, anew_run, run_free, apart}
use Rattle.mail_runs.proofs.Faults.{allowed_told}
use Rattle.mail_runs.proofs.Rooms.{held_made, room_some, AreRanged}

module _ (opening : Start) where
  -- an object was made
  abbrev pub IsThere : List StoreEffect → ObjectName → Type 0
  IsThere past u = is_some (find (λ o. same_uid o.uid u) (made opening past)) ≡ true

  -- a mapping has no address of another one, nor of some
  abbrev pub IsApart : List StoreEffect → Mapping → Mapping → Type 0
  IsApart past m n = (a : ℕ) → lies_in a (stretch_of opening past n) ≡ true → lies_in a (stretch_of opening past m) ≡ false

  abbrev pub IsClear : List StoreEffect → Mapping → List Mapping → Type 0
  IsClear past m [] = Unit {0}
  IsClear past m (n ∷ ns) = IsApart past m n × IsClear past m ns

  -- mappings are of objects that were made, and lie apart
  abbrev pub AreApart : List StoreEffect → List Mapping → Type 0
  AreApart past [] = Unit {0}
  AreApart past (m ∷ ms) = IsThere past m.uid × IsClear past m ms × AreApart past ms

  module _ (q : ProcName) (op : Op) (reply : Reply) (past : List StoreEffect) where
    abbrev later : List StoreEffect
    later = store_effect q op reply ++ past

    -- what was made stays, with its room
    there_by : (u : ObjectName) (found : Option Object) → find (λ o. same_uid o.uid u) (made opening past) ≡ found → IsThere past u → IsThere later u
    there_by u None e there = absurd (false≢true (subst (λ x. is_some x ≡ true) e there))
    there_by u (Some o) e there = ap is_some (found-step q op reply opening past (λ o. same_uid o.uid u) o e)

    there_later : (u : ObjectName) → IsThere past u → IsThere later u
    there_later u there = there_by u (find (λ o. same_uid o.uid u) (made opening past)) refl there

    room_by : (u : ObjectName) (found : Option Object) → find (λ o. same_uid o.uid u) (made opening past) ≡ found → IsThere past u → room_of opening later u ≡ room_of opening past u
    room_by u None e there = absurd (false≢true (subst (λ x. is_some x ≡ true) e there))
    room_by u (Some o) e there = ap room_or_none (found-step q op reply opening past (λ o. same_uid o.uid u) o e) ∙ sym (ap room_or_none e)

    grows_by : (u : ObjectName) (found : Option Object) → find (λ o. same_uid o.uid u) (made opening past) ≡ found → room_of opening past u ≤ room_of opening later u
    grows_by u None e = subst (λ x. room_or_none x ≤ room_of opening later u) (sym e) (omega arith)
    grows_by u (Some o) e = subst (λ n. room_of opening past u ≤ n) (sym (room_by u (Some o) e (ap is_some e))) (omega arith)

    room_grows : (u : ObjectName) → room_of opening past u ≤ room_of opening later u
    room_grows u = grows_by u (find (λ o. same_uid o.uid u) (made opening past)) refl

    stretch_later : (m : Mapping) → IsThere past m.uid → stretch_of opening later m ≡ stretch_of opening past m
    stretch_later m there = ap (λ room. record { low = m.address; high = m.address + segments room * SEGMENT_SIZE }) (room_by m.uid (find (λ o. same_uid o.uid m.uid) (made opening past)) refl there)

    clear_later : (m : Mapping) (ms : List Mapping) → IsThere past m.uid → AreApart past ms → IsClear past m ms → IsClear later m ms
    clear_later m [] there h clear = tt
    clear_later m (n ∷ ns) there h clear =
        (λ a e. subst (λ s. lies_in a s ≡ false) (sym (stretch_later m there)) (clear.0 a (subst (λ s. lies_in a s ≡ true) (stretch_later n h.0) e)), clear_later m ns there h.2 clear.1)

    apart_later : (ms : List Mapping) → AreApart past ms → AreApart later ms
    apart_later [] h = tt
    apart_later (m ∷ ms) h = (there_later m.uid h.0, clear_later m ms h.0 h.2 h.1, apart_later ms h.2)

  -- some mappings less
  clear_filter : (past : List StoreEffect) (t : Mapping → Bool) (m : Mapping) (ms : List Mapping) → IsClear past m ms → IsClear past m (filter t ms)
  clear_filter past t m [] clear = tt
  clear_filter past t m (n ∷ ns) clear = by_test (t n) refl (clear_filter past t m ns clear.1)
    where
      by_test : (b : Bool) → t n ≡ b → IsClear past m (filter t ns) → IsClear past m (filter t (n ∷ ns))
      by_test true e others = rw e (clear.0, others)
      by_test false e others = rw e others

  apart_filter : (past : List StoreEffect) (t : Mapping → Bool) (ms : List Mapping) → AreApart past ms → AreApart past (filter t ms)
  apart_filter past t [] h = tt
  apart_filter past t (m ∷ ms) h = by_test (t m) refl (apart_filter past t ms h.2)
    where
      by_test : (b : Bool) → t m ≡ b → AreApart past (filter t ms) → AreApart past (filter t (m ∷ ms))
      by_test true e others = rw e (h.0, clear_filter past t m ms h.1, others)
      by_test false e others = rw e others

  -- a new one lies apart from those that were there
  clear_new : (past : List StoreEffect) (u : ObjectName) (first : ℕ) (ms : List Mapping) → list_all (λ m. is_apart (segments (room_of opening past u)) first (stretch_of opening past m)) ms ≡ true → IsClear past (record { uid = u; address = first * SEGMENT_SIZE }) ms
  clear_new past u first [] free = tt
  clear_new past u first (n ∷ ns) free =
      let here = is_apart (segments (room_of opening past u)) first (stretch_of opening past n) in
      let others = list_all (λ m. is_apart (segments (room_of opening past u)) first (stretch_of opening past m)) ns in
      (λ a e. apart a (segments (room_of opening past u)) first (stretch_of opening past n) (left-true here others free) e, clear_new past u first ns (right-true here others free))

  -- a new mapping in a history of one store
  new_by : (past : List Item) (q : ProcName) (u : ObjectName) (a : ℕ) (found : Option Mapping) → map_anew_reply (before_op opening past q) q u found ≡ At a true → IsClear (store_effects (deeds past)) (record { uid = u; address = a }) (mappings q (store_effects (deeds past)))
  new_by past q u a (Some m) e = absurd (grind (arith, e))
  new_by past q u a None e = by_run (lowest_run opening eff q (segments (room_of opening eff u))) refl (anew_run (nat_le PROCESS_MAPPINGS (length (mappings q eff))) (lowest_run opening eff q (segments (room_of opening eff u))) a true e)
    where
      eff : List StoreEffect
      eff = store_effects (deeds past)

      by_run : (run : Option ℕ) → lowest_run opening eff q (segments (room_of opening eff u)) ≡ run → option_map (λ first. first * SEGMENT_SIZE) run ≡ Some a → IsClear eff (record { uid = u; address = a }) (mappings q eff)
      by_run None r at = absurd (grind (arith, at))
      by_run (Some first) r at =
          let start : first * SEGMENT_SIZE ≡ a = grind (arith, at) in
          subst (λ x. IsClear eff (record { uid = u; address = x }) (mappings q eff)) start (clear_new eff u first (mappings q eff) (run_free opening q eff u first r))

  -- one that is mapped is held
  map_held : (held : Bool) (reply : Reply) (a : ℕ) (fresh : Bool) → (if not held then NoLock else reply) ≡ At a fresh → held ≡ true
  map_held false reply a fresh e = absurd (grind (arith, e))
  map_held true reply a fresh e = refl

  -- each item leaves the mappings of each process apart
  mapped_apart : (past : List Item) (p q : ProcName) (u : ObjectName) (a : ℕ) (b : Bool) → same_proc p q ≡ b → AreLegal opening [] past → IsAllowed (before_op opening past q) q (Map u) (At a true)
      → AreApart (store_effects (deeds past)) (mappings p (store_effects (deeds past))) → AreApart (Maps q u a ∷ store_effects (deeds past)) (mappings p (Maps q u a ∷ store_effects (deeds past)))
  mapped_apart past p q u a false e legal allowed h = rw e (apart_later q (Map u) (At a true) (store_effects (deeds past)) (mappings p (store_effects (deeds past))) h)
  mapped_apart past p q u a true e legal allowed h =
      let eff = store_effects (deeds past) in
      let b = before_op opening past q in
      let reply = sym (allowed_told b q (Map u) (At a true) refl allowed) in
      let held = map_held (is_held (state u b.told)) (map_anew_reply b q u (mapping_of b q u)) a true reply in
      let there = held_made opening q u past legal held in
      let anew = mapped_held (is_held (state u b.told)) (map_anew_reply b q u (mapping_of b q u)) a true reply in
      let clear = subst (λ x. IsClear eff (record { uid = u; address = a }) (mappings x eff)) (sym (same_proc_is p q e)) (new_by past q u a (mapping_of b q u) anew) in
      rw e (apart_later q (Map u) (At a true) eff (record { uid = u; address = a } ∷ mappings p eff) (there, clear, h))

  unmapped_apart : (eff : List StoreEffect) (p q : ProcName) (u : ObjectName) (b : Bool) → same_proc p q ≡ b → AreApart eff (mappings p eff) → AreApart (store_effect q (Unmap u) Fine ++ eff) (mappings p (store_effect q (Unmap u) Fine ++ eff))
  unmapped_apart eff p q u true e h = rw e (apart_filter (store_effect q (Unmap u) Fine ++ eff) (λ m. not (same_uid u m.uid)) (mappings p eff) (apart_later q (Unmap u) Fine eff (mappings p eff) h))
  unmapped_apart eff p q u false e h = rw e (apart_later q (Unmap u) Fine eff (mappings p eff) h)

  step_apart : (past : List Item) (p q : ProcName) (op : Op) (reply : Reply) → AreLegal opening [] past → ((u : ObjectName) (a : ℕ) → op ≡ Map u → reply ≡ At a true → IsAllowed (before_op opening past q) q (Map u) (At a true))
      → AreApart (store_effects (deeds past)) (mappings p (store_effects (deeds past))) → AreApart (store_effect q op reply ++ store_effects (deeds past)) (mappings p (store_effect q op reply ++ store_effects (deeds past)))
  step_apart past p q (New home kind room) (Made u) legal allowed h = apart_later q (New home kind room) (Made u) (store_effects (deeds past)) (mappings p (store_effects (deeds past))) h
  step_apart past p q (Lock u m) Fine legal allowed h = apart_later q (Lock u m) Fine (store_effects (deeds past)) (mappings p (store_effects (deeds past))) h
  step_apart past p q (Unlock u) Fine legal allowed h = apart_later q (Unlock u) Fine (store_effects (deeds past)) (mappings p (store_effects (deeds past))) h
  step_apart past p q (Delete u) Fine legal allowed h = apart_later q (Delete u) Fine (store_effects (deeds past)) (mappings p (store_effects (deeds past))) h
  step_apart past p q (Store spot bytes) Fine legal allowed h = apart_later q (Store spot bytes) Fine (store_effects (deeds past)) (mappings p (store_effects (deeds past))) h
  step_apart past p q (Map u) (At a true) legal allowed h = mapped_apart past p q u a (same_proc p q) refl legal (allowed u a refl refl) h
  step_apart past p q (Unmap u) Fine legal allowed h = unmapped_apart (store_effects (deeds past)) p q u (same_proc p q) refl h
  step_apart past p q _ _ legal allowed h = h

  -- no act maps
  no_map : (past : List Item) (a : Act) (u : ObjectName) (q : ProcName) → MayAct opening (store_effects (deeds past)) q a.deed.op a.deed.reply → a.deed.op ≡ Map u → ⊥
  no_map past a u q may is = subst (λ op. MayAct opening (store_effects (deeds past)) q op a.deed.reply) is may

  pub all_apart : (past : List Item) (p : ProcName) → AreLegal opening [] past → AreApart (store_effects (deeds past)) (mappings p (store_effects (deeds past)))
  all_apart [] p legal = tt
  all_apart (Answered e ∷ past) p legal =
      step_apart past p e.proc e.op e.reply legal.1
      (λ u a asked told. subst (λ r. IsAllowed (before_op opening past e.proc) e.proc (Map u) r) told (subst (λ op. IsAllowed (before_op opening past e.proc) e.proc op e.reply) asked legal.0)) (all_apart past p legal.1)
  all_apart (Acted a ∷ past) p legal =
      step_apart past p a.deed.proc a.deed.op a.deed.reply legal.1 (λ u address asked told. absurd (no_map past a u a.deed.proc legal.0.may_act asked)) (all_apart past p legal.1)

  apart_from : (past : List StoreEffect) (m n : Mapping) (t : Mapping → Bool) (ms : List Mapping) → IsClear past m ms → find t ms ≡ Some n → IsApart past m n
  apart_from past m n t [] clear e = absurd (grind (arith, e))
  apart_from past m n t (k ∷ ms) clear e = by_test (t k) refl (λ later. apart_from past m n t ms clear.1 later)
    where
      by_test : (b : Bool) → t k ≡ b → (find t ms ≡ Some n → IsApart past m n) → IsApart past m n
      by_test true et others =
          let here : Some k ≡ Some n = subst (λ b. (if b then Some k else find t ms) ≡ Some n) et e in
          let same : k ≡ n = grind (arith, here) in
          subst (λ x. IsApart past m x) same clear.0
      by_test false et others = others (subst (λ b. (if b then Some k else find t ms) ≡ Some n) et e)

  found_at : (past : List StoreEffect) (u : ObjectName) (m : Mapping) (a : ℕ) (ms : List Mapping) → AreApart past ms → find (λ n. same_uid u n.uid) ms ≡ Some m → lies_in a (stretch_of opening past m) ≡ true → find (λ n. lies_in a (stretch_of opening past n)) ms ≡ Some m
  found_at past u m a [] h e inside = absurd (grind (arith, e))
  found_at past u m a (k ∷ ms) h e inside = by_test (same_uid u k.uid) refl (λ later. found_at past u m a ms h.2 later inside)
    where
      by_test : (b : Bool) → same_uid u k.uid ≡ b → (find (λ n. same_uid u n.uid) ms ≡ Some m → find (λ n. lies_in a (stretch_of opening past n)) ms ≡ Some m) → find (λ n. lies_in a (stretch_of opening past n)) (k ∷ ms) ≡ Some m
      by_test true et others =
          let here : Some k ≡ Some m = subst (λ b. (if b then Some k else find (λ n. same_uid u n.uid) ms) ≡ Some m) et e in
          let same : k ≡ m = grind (arith, here) in
          let inside_k : lies_in a (stretch_of opening past k) ≡ true = subst (λ x. lies_in a (stretch_of opening past x) ≡ true) (sym same) inside in
          ap (λ b. if b then Some k else find (λ n. lies_in a (stretch_of opening past n)) ms) inside_k ∙ here
      by_test false et others =
          let later = subst (λ b. (if b then Some k else find (λ n. same_uid u n.uid) ms) ≡ Some m) et e in
          let outside = apart_from past k m (λ n. same_uid u n.uid) ms h.1 later a inside in
          ap (λ b. if b then Some k else find (λ n. lies_in a (stretch_of opening past n)) ms) outside ∙ others later

  -- a mapping has the addresses of a mailbox
  in_segment : (room o : ℕ) → 1 ≤ room → o < 8192 → o < segments room * SEGMENT_SIZE
  in_segment room o some h = omega (arith, some, h)

  lies_within : (past : List StoreEffect) (m : Mapping) (o : ℕ) → 1 ≤ room_of opening past m.uid → o < 8192 → lies_in (m.address + o) (stretch_of opening past m) ≡ true
  lies_within past m o some h = within m.address o (segments (room_of opening past m.uid) * SEGMENT_SIZE) (in_segment (room_of opening past m.uid) o some h)
    where
      within : (a o n : ℕ) → o < n → (nat_le a (a + o) && nat_lt (a + o) (a + n)) ≡ true
      within a o n h = grind (arith, nat_tests, h)

  -- the bytes of an object, as far as a mailbox has some, are reached by these addresses
  abbrev pub Reach : List StoreEffect → ProcName → ObjectName → ℕ → Type 0
  Reach eff p u a = (o : ℕ) → o < 8192 → target opening eff p (Addr (a + o)) ≡ Some (record { uid = u; offset = o })

  found_there : (past : List StoreEffect) (u : ObjectName) (m : Mapping) (ms : List Mapping) → AreApart past ms → find (λ n. same_uid u n.uid) ms ≡ Some m → IsThere past m.uid
  found_there past u m [] h e = absurd (grind (arith, e))
  found_there past u m (k ∷ ms) h e = by_test (same_uid u k.uid) refl (λ later. found_there past u m ms h.2 later)
    where
      by_test : (b : Bool) → same_uid u k.uid ≡ b → (find (λ n. same_uid u n.uid) ms ≡ Some m → IsThere past m.uid) → IsThere past m.uid
      by_test true et others =
          let here : Some k ≡ Some m = subst (λ b. (if b then Some k else find (λ n. same_uid u n.uid) ms) ≡ Some m) et e in
          let same : k ≡ m = grind (arith, here) in
          subst (λ (x : Mapping). IsThere past x.uid) same h.0
      by_test false et others = others (subst (λ b. (if b then Some k else find (λ n. same_uid u n.uid) ms) ≡ Some m) et e)

  pub all_reached : (past : List StoreEffect) (p : ProcName) (u : ObjectName) (m : Mapping) → AreApart past (mappings p past) → ((v : ObjectName) → IsThere past v → 1 ≤ room_of opening past v) → find (λ n. same_uid u n.uid) (mappings p past) ≡ Some m → Reach past p u m.address
  all_reached past p u m h rooms e o below =
      let mine : u ≡ m.uid = same_uid_is u m.uid (find-passes (λ n. same_uid u n.uid) (mappings p past) m e) in
      let some = rooms m.uid (found_there past u m (mappings p past) h e) in
      let inside = lies_within past m o some below in
      let offset : m.address + o - m.address ≡ o = omega arith in
      ap (λ x. target_in (m.address + o) x) (found_at past u m (m.address + o) (mappings p past) h e inside)
      ∙ ap (λ i. Some (record { uid = m.uid; offset = i })) offset
      ∙ ap (λ v. Some (record { uid = v; offset = o })) (sym mine)

  -- what changes no mapping of a process leaves its targets
  found_alike : (q : ProcName) (op : Op) (reply : Reply) (past : List StoreEffect) (a : ℕ) (ms : List Mapping) → AreApart past ms
      → find (λ m. lies_in a (stretch_of opening (store_effect q op reply ++ past) m)) ms ≡ find (λ m. lies_in a (stretch_of opening past m)) ms
  found_alike q op reply past a [] h = refl
  found_alike q op reply past a (m ∷ ms) h =
      ap (λ (b : Bool). if b then Some m else find (λ n. lies_in a (stretch_of opening (later q op reply past) n)) ms) (ap (λ s. lies_in a s) (stretch_later q op reply past m h.0))
      ∙ ap (λ (x : Option Mapping). if lies_in a (stretch_of opening past m) then Some m else x) (found_alike q op reply past a ms h.2)

  pub target_stays : (q : ProcName) (op : Op) (reply : Reply) (past : List StoreEffect) (p : ProcName) (a : ℕ) → AreApart past (mappings p past) → mappings p (store_effect q op reply ++ past) ≡ mappings p past
      → target opening (store_effect q op reply ++ past) p (Addr a) ≡ target opening past p (Addr a)
  target_stays q op reply past p a h same =
      ap (λ ms. target_in a (find (λ m. lies_in a (stretch_of opening (store_effect q op reply ++ past) m)) ms)) same
      ∙ ap (target_in a) (found_alike q op reply past a (mappings p past) h)

-- an operation that maps, or undoes a mapping
abbrev pub is_mapping : Op → Bool
is_mapping (Map u) = true
is_mapping (Unmap u) = true
is_mapping op = false

-- the mappings of a process stay where it maps nothing
pub mappings_kept : (p q : ProcName) (op : Op) (reply : Reply) (past : List StoreEffect) → is_mapping op ≡ false → mappings p (store_effect q op reply ++ past) ≡ mappings p past
mappings_kept p q (New home kind room) (Made u) past none = refl
mappings_kept p q (Lock u m) Fine past none = refl
mappings_kept p q (Unlock u) Fine past none = refl
mappings_kept p q (Delete u) Fine past none = refl
mappings_kept p q (Store spot bytes) Fine past none = refl
mappings_kept p q (Map u) reply past none = absurd (false≢true (sym none))
mappings_kept p q (Unmap u) reply past none = absurd (false≢true (sym none))
mappings_kept p q _ _ past none = refl

-- where a mapping was told, the object is found there among those of its process
module _ (opening : Start) (past : List Item) (p : ProcName) (u : ObjectName) where
  abbrev eff_now : List StoreEffect
  eff_now = store_effects (deeds past)

  anew_fresh : (many : Bool) (run : Option ℕ) (a : ℕ) (fresh : Bool) → (if many then TooManyMaps else run_or_none run) ≡ At a fresh → true ≡ fresh
  anew_fresh true run a fresh e = absurd (grind (arith, e))
  anew_fresh false None a fresh e = absurd (grind (arith, e))
  anew_fresh false (Some first) a fresh e = grind (arith, e)

  abbrev IsFoundAt : ℕ → Bool → Mapping → Type 0
  IsFoundAt a fresh m = (find (λ n. same_uid u n.uid) (mappings p (store_effect p (Map u) (At a fresh) ++ eff_now)) ≡ Some m) × (m.address ≡ a)

  mapping_told : (a : ℕ) (fresh : Bool) (found : Option Mapping) → mapping_of (before_op opening past p) p u ≡ found → map_anew_reply (before_op opening past p) p u found ≡ At a fresh → (m : Mapping) × IsFoundAt a fresh m
  mapping_told a fresh (Some m) here e =
      let same : m.address ≡ a = grind (arith, e) in
      let old : false ≡ fresh = grind (arith, e) in
      subst (λ f. (n : Mapping) × IsFoundAt a f n) old (m, (here, same))
  mapping_told a fresh None here e =
      let new = anew_fresh (nat_le PROCESS_MAPPINGS (length (mappings p eff_now))) (lowest_run opening eff_now p (segments (room_of opening eff_now u))) a fresh e in
      subst (λ f. (n : Mapping) × IsFoundAt a f n) new (record { uid = u; address = a }, (rw (same_proc-itself p, same_uid-itself u) refl, refl))

-- so an object that was mapped is reached there
pub map_reached : (opening : Start) → IsStart opening → (past : List Item) (e : Entry) (u : ObjectName) (a : ℕ) (fresh : Bool) → AreLegal opening [] (Answered e ∷ past) → AreRanged (Answered e ∷ past)
    → e.op ≡ Map u → e.reply ≡ At a fresh → Reach opening (store_effects (deeds (Answered e ∷ past))) e.proc u a
map_reached opening start past e u a fresh legal ranged asked told =
    let b = before_op opening past e.proc in
    let allowed = subst (λ r. IsAllowed b e.proc (Map u) r) told (subst (λ op. IsAllowed b e.proc op e.reply) asked legal.0) in
    let reply = sym (allowed_told b e.proc (Map u) (At a fresh) refl allowed) in
    let anew = mapped_held (is_held (state u b.told)) (map_anew_reply b e.proc u (mapping_of b e.proc u)) a fresh reply in
    let m = mapping_told opening past e.proc u a fresh (mapping_of b e.proc u) refl anew in
    let items : List Item = Answered e ∷ past in
    let found : find (λ n. same_uid u n.uid) (mappings e.proc (store_effects (deeds items))) ≡ Some m.0 =
    ap (λ (effects : List StoreEffect). find (λ n. same_uid u n.uid) (mappings e.proc (effects ++ store_effects (deeds past))))
    (ap (λ r. store_effect e.proc e.op r) told ∙ ap (λ op. store_effect e.proc op (At a fresh)) asked) ∙ m.1.0 in
    subst (Reach opening (store_effects (deeds items)) e.proc u) m.1.1
    (all_reached opening (store_effects (deeds items)) e.proc u m.0 (all_apart opening items e.proc legal) (room_some opening start items ranged) found)
