-- An object that a stream has opened is reached by its addresses.
use Rattle.std.proofs.Common.{◌≡◌, ◌<◌, ◌+◌, ◌-◌, ◌*◌, ℕ, Bool, true, false, not, ◌&&◌, if◌then◌else◌, Option, Some, None, List, [], ◌∷◌, ◌++◌, map, refl, ap, ◌∙◌, sym, subst, arith}
use Rattle.std.specs.Prelude.{nat_le, nat_lt, find, length}
use Rattle.std.specs.List.{list_all}
use Rattle.std.specs.Option.{option_map}
use Rattle.std.proofs.lemmas.Bool.{false≢true}
use Rattle.std.proofs.lemmas.Bool.Decides.{nat_tests}
use Rattle.std.proofs.lemmas.List.Folds.{list_all-map}
use Rattle.uid_names.proofs.Finds.{find-passes}
use Rattle.uid_names.specs.Names.{ProcName, ObjectName, same_proc}
use Rattle.uid_names.specs.Openings.{Start}
use Rattle.uid_names.specs.Segments.{Stretch, segments, lies_in, is_apart, is_free_run, starts_from}
use Rattle.uid_names.specs.declared.limits.TheConstants.{PAGE_BYTES, PROCESS_MAPPINGS}
use Rattle.uid_names.specs.declared.segment.TheConstants.{SEGMENT_SIZE, SEGMENTS}
use Rattle.uid_names.specs.declared.mode.Mode.{Mode}
use Rattle.uid_names.proofs.Orders.{same_proc-itself}
use Rattle.uid_names.proofs.Passed.{right-true}
use Rattle.dom_history.specs.declared.op.Op.TheVariants.{Lock, Unlock, Length, Map}
use Rattle.dom_history.specs.declared.op.Spot.TheVariants.{Addr}
use Rattle.dom_history.specs.declared.op.Reply.{Reply}
use Rattle.dom_history.specs.declared.op.Reply.TheVariants.{At, NoLock, TooManyMaps}
use Rattle.dom_history.specs.declared.deed.Deed.{Deed}
use Rattle.dom_history.specs.StoreEffects.{StoreEffect, TakesLock, Maps, store_effect, store_effects, own}
use Rattle.dom_history.specs.Objects.{room_of}
use Rattle.dom_history.specs.Locks.{state, is_held}
use Rattle.dom_history.specs.Mappings.{Mapping, mappings, stretch_of, Target, target, target_in, lowest_run}
use Rattle.dom_history.specs.Bytes.{length_of, bytes_from}
use Rattle.dom_history.specs.Replies.{before_of, map_anew_reply, run_or_none, mapping_of}
use Rattle.naming_tree.specs.Sessions.{fine, size, place}
use Rattle.mapped_streams.specs.declared.mapped.Opened.{Opened}
use Rattle.mapped_streams.specs.Dialogues.{Dialogue}
use Rattle.mapped_streams.specs.Streams.{mapping, measuring, opening as begin}
use Rattle.mapped_streams.specs.OneStore.{answer, answered, come, behind, IsDone}
use Rattle.mapped_streams.proofs.Sound.{IsReached, IsSound}
use Rattle.mapped_streams.proofs.Contents.{bytes_stay}
use Rattle.mapped_streams.proofs.Serving.{goes, is_fine, is_place, measured}

-- a mapping, where it is a new one
abbrev pub mapped_if : Bool → ProcName → ObjectName → ℕ → List StoreEffect → List StoreEffect
mapped_if true p u a past = Maps p u a ∷ past
mapped_if false p u a past = past

-- what the reply to a mapping does
map_effect : (p : ProcName) (u : ObjectName) (a : ℕ) (fresh : Bool) (past : List StoreEffect) → store_effect p (Map u) (At a fresh) ++ past ≡ mapped_if fresh p u a past
map_effect p u a true past = refl
map_effect p u a false past = refl

-- the room of an object lies in its segments
pub in_segments : (room o : ℕ) → o < PAGE_BYTES * room → o < segments room * SEGMENT_SIZE
in_segments room o h = omega (arith, h)

-- one that is held is mapped as the mappings say
pub mapped_held : (held : Bool) (reply : Reply) (a : ℕ) (fresh : Bool) → (if not held then NoLock else reply) ≡ At a fresh → reply ≡ At a fresh
mapped_held false reply a fresh e = absurd (grind (arith, e))
mapped_held true reply a fresh e = e

-- what all of a list pass, the one that is found passes
all_found : {X : Type 0} (test q : X → Bool) (xs : List X) (x : X) → list_all q xs ≡ true → find test xs ≡ Some x → q x ≡ true
all_found test q [] x all e = absurd (grind (arith, e))
all_found test q (y ∷ xs) x all e = by_test (test y) (q y) refl refl (λ others later. all_found test q xs x others later)
  where
    by_test : (t r : Bool) → test y ≡ t → q y ≡ r → (list_all q xs ≡ true → find test xs ≡ Some x → q x ≡ true) → q x ≡ true
    by_test t false et er further = absurd (false≢true (subst (λ b. (b && list_all q xs) ≡ true) er all))
    by_test true true et er further =
        let here : Some y ≡ Some x = subst (λ b. (if b then Some y else find test xs) ≡ Some x) et e in
        let same : y ≡ x = grind (arith, here) in
        subst (λ z. q z ≡ true) same er
    by_test false true et er further = further (subst (λ b. (b && list_all q xs) ≡ true) er all) (subst (λ b. (if b then Some y else find test xs) ≡ Some x) et e)

-- a run that is new begins where its mapping does
pub anew_run : (many : Bool) (run : Option ℕ) (a : ℕ) (fresh : Bool) → (if many then TooManyMaps else run_or_none run) ≡ At a fresh → option_map (λ first. first * SEGMENT_SIZE) run ≡ Some a
anew_run true run a fresh e = absurd (grind (arith, e))
anew_run false None a fresh e = absurd (grind (arith, e))
anew_run false (Some first) a fresh e = grind (arith, e)

pub anew_fresh : (many : Bool) (run : Option ℕ) (a : ℕ) (fresh : Bool) → (if many then TooManyMaps else run_or_none run) ≡ At a fresh → true ≡ fresh
anew_fresh true run a fresh e = absurd (grind (arith, e))
anew_fresh false None a fresh e = absurd (grind (arith, e))
anew_fresh false (Some first) a fresh e = grind (arith, e)

-- what another mapping has is none of a new one's
pub apart : (a count first : ℕ) (s : Stretch) → is_apart count first s ≡ true → lies_in a s ≡ true → lies_in a (record { low = first * SEGMENT_SIZE; high = first * SEGMENT_SIZE + count * SEGMENT_SIZE }) ≡ false
apart a count first s h e = grind (arith, nat_tests, h, e)

module _ (opening : Start) (p : ProcName) where
  -- a new mapping is the first that is looked at
  new_reached : (past : List StoreEffect) (u : ObjectName) (a : ℕ) → IsReached opening (Maps p u a ∷ past) p u a (PAGE_BYTES * room_of opening past u)
  new_reached past u a o h =
      let own : same_proc p p ≡ true = same_proc-itself p in
      let end : o < segments (room_of opening past u) * SEGMENT_SIZE = in_segments (room_of opening past u) o h in
      let in_it : (nat_le a (a + o) && nat_lt (a + o) (a + segments (room_of opening past u) * SEGMENT_SIZE)) ≡ true = grind (arith, nat_tests, end) in
      let offset : a + o - a ≡ o = omega arith in
      rw (own, in_it, offset) refl

  anew_reached : (deeds : List Deed) (u : ObjectName) (found : Option Mapping) (a : ℕ) (fresh : Bool) → mapping_of (before_of opening deeds p) p u ≡ found → IsSound opening (store_effects deeds) p → map_anew_reply (before_of opening deeds p) p u found ≡ At a fresh → IsReached opening (mapped_if fresh p u a (store_effects deeds)) p u a (PAGE_BYTES * room_of opening (store_effects deeds) u)
  anew_reached deeds u (Some m) a fresh e sound told =
      let past = store_effects deeds in
      let here : m.address ≡ a = grind (arith, told) in
      let old : false ≡ fresh = grind (arith, told) in
      subst (λ f. IsReached opening (mapped_if f p u a past) p u a (PAGE_BYTES * room_of opening past u)) old
      (subst (λ x. IsReached opening past p u x (PAGE_BYTES * room_of opening past u)) here (sound.reached u m e))
  anew_reached deeds u None a fresh e sound told =
      let past = store_effects deeds in
      let new = anew_fresh (nat_le PROCESS_MAPPINGS (length (mappings p past))) (lowest_run opening past p (segments (room_of opening past u))) a fresh told in
      subst (λ f. IsReached opening (mapped_if f p u a past) p u a (PAGE_BYTES * room_of opening past u)) new (new_reached past u a)

  -- a run that is free lies apart from each mapping
  pub run_free : (past : List StoreEffect) (u : ObjectName) (first : ℕ) → lowest_run opening past p (segments (room_of opening past u)) ≡ Some first → list_all (λ m. is_apart (segments (room_of opening past u)) first (stretch_of opening past m)) (mappings p past) ≡ true
  run_free past u first e =
      let count = segments (room_of opening past u) in
      let taken = map (stretch_of opening past) (mappings p past) in
      sym (list_all-map (is_apart count first) (stretch_of opening past) (mappings p past))
      ∙ right-true (nat_le (first + count) SEGMENTS) (list_all (is_apart count first) taken) (find-passes (λ k. is_free_run count k taken) (starts_from 0) first e)

  other_reached : (past : List StoreEffect) (u v : ObjectName) (a address n : ℕ) (run : Option ℕ) → lowest_run opening past p (segments (room_of opening past u)) ≡ run → option_map (λ first. first * SEGMENT_SIZE) run ≡ Some a → IsReached opening past p v address n → IsReached opening (Maps p u a ∷ past) p v address n
  other_reached past u v a address n None e at reached o h = absurd (grind (arith, at))
  other_reached past u v a address n (Some first) e at reached o h =
      by_found (find (λ m. lies_in (address + o) (stretch_of opening past m)) (mappings p past)) refl
    where
      count : ℕ
      count = segments (room_of opening past u)

      start : first * SEGMENT_SIZE ≡ a
      start = grind (arith, at)

      free : list_all (λ m. is_apart count first (stretch_of opening past m)) (mappings p past) ≡ true
      free = run_free past u first e

      by_found : (found : Option Mapping) → find (λ m. lies_in (address + o) (stretch_of opening past m)) (mappings p past) ≡ found → target opening (Maps p u a ∷ past) p (Addr (address + o)) ≡ Some (record { uid = v; offset = o })
      by_found None f = absurd (none_found (subst (λ x. target_in (address + o) x ≡ Some (record { uid = v; offset = o })) f (reached o h)))
        where
          none_found : ◌≡◌ {A = Option Target} None (Some (record { uid = v; offset = o })) → ⊥
          none_found e = grind (arith, e)
      by_found (Some m) f =
          let own : same_proc p p ≡ true = same_proc-itself p in
          let in_old = find-passes (λ m. lies_in (address + o) (stretch_of opening past m)) (mappings p past) m f in
          let far = all_found (λ m. lies_in (address + o) (stretch_of opening past m)) (λ m. is_apart count first (stretch_of opening past m)) (mappings p past) m free f in
          let out : lies_in (address + o) (record { low = a; high = a + count * SEGMENT_SIZE }) ≡ false = subst (λ x. lies_in (address + o) (record { low = x; high = x + count * SEGMENT_SIZE }) ≡ false) start (apart (address + o) count first (stretch_of opening past m) far in_old) in
          rw (own, out) (reached o h)

  kept_by : (deeds : List Deed) (u v : ObjectName) (found : Option Mapping) (a address n : ℕ) (fresh : Bool) → map_anew_reply (before_of opening deeds p) p u found ≡ At a fresh → IsReached opening (store_effects deeds) p v address n → IsReached opening (mapped_if fresh p u a (store_effects deeds)) p v address n
  kept_by deeds u v (Some m) a address n fresh told reached =
      let old : false ≡ fresh = grind (arith, told) in
      subst (λ f. IsReached opening (mapped_if f p u a (store_effects deeds)) p v address n) old reached
  kept_by deeds u v None a address n fresh told reached =
      let past = store_effects deeds in
      let run = lowest_run opening past p (segments (room_of opening past u)) in
      let new = anew_fresh (nat_le PROCESS_MAPPINGS (length (mappings p past))) run a fresh told in
      let at = anew_run (nat_le PROCESS_MAPPINGS (length (mappings p past))) run a fresh told in
      subst (λ f. IsReached opening (mapped_if f p u a past) p v address n) new (other_reached past u v a address n run refl at reached)

  -- a lock leaves what is mapped
  locked_sound : (past : List StoreEffect) (u : ObjectName) (mode : Mode) → IsSound opening past p → IsSound opening (TakesLock p u mode ∷ past) p
  locked_sound past u mode sound = record { reached = sound.reached; lengths = sound.lengths }

  -- an object that was opened: where it is, and what stands behind its opening
  pub record Opens (u : ObjectName) (mode : Mode) (further : Opened → Dialogue) (deeds : List Deed) : Type 0 where
    pub o : Opened
    pub later : List Deed
    pub comes : come opening p (begin u mode further) deeds ≡ come opening p (further o) later
    pub leads : behind opening p (begin u mode further) deeds ≡ behind opening p (further o) later
    pub effects : store_effects later ≡ mapped_if o.fresh p u o.at.address (TakesLock p u mode ∷ store_effects deeds)
    pub long : o.at.length ≡ length_of opening (store_effects deeds) u
    pub reached : IsReached opening (store_effects later) p u o.at.address (PAGE_BYTES * room_of opening (store_effects deeds) u)
    pub kept : (v : ObjectName) (address n : ℕ) → IsReached opening (store_effects deeds) p v address n → IsReached opening (store_effects later) p v address n

  pub opens : (u : ObjectName) (mode : Mode) (further : Opened → Dialogue) (deeds : List Deed) → IsSound opening (store_effects deeds) p → IsDone (come opening p (begin u mode further) deeds) → Opens u mode further deeds
  opens u mode further deeds sound done =
      let past = store_effects deeds in
      let g1 = goes opening p fine [] (Lock u mode) (λ _. measuring u further) deeds done in
      let d1 = answered opening p deeds (Lock u mode) in
      let locked : store_effects d1 ≡ TakesLock p u mode ∷ past = ap (λ r. store_effect p (Lock u mode) r ++ past) (is_fine (answer opening p deeds (Lock u mode)) g1.at g1.told) in
      let done1 = subst IsDone g1.comes done in
      let g2 = goes opening p size (Unlock u ∷ []) (Length u) (λ n. mapping u n further) d1 done1 in
      let d2 = answered opening p d1 (Length u) in
      let long : g2.at ≡ length_of opening (store_effects d1) u = measured (is_held (state u (own p d1))) (length_of opening (store_effects d1) u) g2.at g2.told in
      let done2 = subst IsDone g2.comes done1 in
      let g3 = goes opening p place (Unlock u ∷ []) (Map u) (λ at. further (record { at = record { address = at.0; length = g2.at }; fresh = at.1 })) d2 done2 in
      let d3 = answered opening p d2 (Map u) in
      let reply : answer opening p d2 (Map u) ≡ At g3.at.0 g3.at.1 = is_place (answer opening p d2 (Map u)) g3.at g3.told in
      let mapped : store_effects d3 ≡ mapped_if g3.at.1 p u g3.at.0 (store_effects d2) = ap (λ r. store_effect p (Map u) r ++ store_effects d2) reply ∙ map_effect p u g3.at.0 g3.at.1 (store_effects d2) in
      let sound2 = subst (λ x. IsSound opening x p) (sym locked) (locked_sound past u mode sound) in
      let anew = mapped_held (is_held (state u (own p d2))) (map_anew_reply (before_of opening d2 p) p u (mapping_of (before_of opening d2 p) p u)) g3.at.0 g3.at.1 reply in
      let reached = anew_reached d2 u (mapping_of (before_of opening d2 p) p u) g3.at.0 g3.at.1 refl sound2 anew in
      let room : room_of opening (store_effects d2) u ≡ room_of opening past u = ap (λ x. room_of opening x u) locked in
      record {
        o = record { at = record { address = g3.at.0; length = g2.at }; fresh = g3.at.1 };
        later = d3;
        comes = g1.comes ∙ g2.comes ∙ g3.comes;
        leads = g1.leads ∙ g2.leads ∙ g3.leads;
        effects = mapped ∙ ap (λ x. mapped_if g3.at.1 p u g3.at.0 x) locked;
        long = long ∙ ap (λ x. length_of opening x u) locked;
        reached = subst (λ n. IsReached opening (store_effects d3) p u g3.at.0 (PAGE_BYTES * n)) room (subst (λ x. IsReached opening x p u g3.at.0 (PAGE_BYTES * room_of opening (store_effects d2) u)) (sym mapped) reached);
        kept = λ v address n before. subst (λ x. IsReached opening x p v address n) (sym mapped) (kept_by d2 u v (mapping_of (before_of opening d2 p) p u) g3.at.0 address n g3.at.1 anew (subst (λ x. IsReached opening x p v address n) (sym locked) before));
      }

  -- an opening leaves lengths and bytes
  pub opened_length : (past : List StoreEffect) (u v : ObjectName) (mode : Mode) (a : ℕ) (fresh : Bool) → length_of opening (mapped_if fresh p u a (TakesLock p u mode ∷ past)) v ≡ length_of opening past v
  opened_length past u v mode a true = refl
  opened_length past u v mode a false = refl

  pub opened_bytes : (past : List StoreEffect) (u v : ObjectName) (mode : Mode) (a : ℕ) (fresh : Bool) (o n : ℕ) → bytes_from opening (mapped_if fresh p u a (TakesLock p u mode ∷ past)) v o n ≡ bytes_from opening past v o n
  opened_bytes past u v mode a true o n = bytes_stay opening past (mapped_if true p u a (TakesLock p u mode ∷ past)) v o n (λ i h. refl)
  opened_bytes past u v mode a false o n = bytes_stay opening past (mapped_if false p u a (TakesLock p u mode ∷ past)) v o n (λ i h. refl)
