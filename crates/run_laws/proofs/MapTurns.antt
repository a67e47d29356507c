-- What a desk answers to a map and an unmap, where the mappings that it has are those of the store, the newest last.
use Rattle.std.proofs.Common.{◌≡◌, ℕ, ◌+◌, Bool, true, false, List, [], ◌∷◌, ◌++◌, length, map, Option, Some, None, inl, refl, sym, ap, subst, ◌∙◌, arith, length-append}
use Rattle.std.specs.Prelude.{◌&&◌, not, nat_le, if◌then◌else◌, is_some, find, All, AllPairs}
use Rattle.std.specs.List.{list_all}
use Rattle.std.specs.Option.{option_map, option_or}
use Rattle.std.proofs.lemmas.Bool.Decides.{nat_tests}
use Rattle.std.proofs.lemmas.List.Elements.{All-head, All-tail}
use Rattle.std.proofs.lemmas.List.Folds.{find-append, list_all-append}
use Rattle.uid_names.specs.Names.{ProcName, ObjectName, same_uid}
use Rattle.uid_names.specs.Openings.{Start}
use Rattle.uid_names.specs.Segments.{segments, is_apart, is_free_run, starts_from, lowest_run as lowest_free_run}
use Rattle.uid_names.specs.declared.limits.TheConstants.{PROCESS_MAPPINGS}
use Rattle.uid_names.specs.declared.segment.TheConstants.{SEGMENTS}
use Rattle.uid_names.proofs.ListLemmas.{by_cases}
use Rattle.uid_names.proofs.InOrder.{AllPairs-head, AllPairs-tail}
use Rattle.dom_history.specs.declared.op.Op.TheVariants as ops
use Rattle.dom_history.specs.declared.op.Reply.{Reply}
use Rattle.dom_history.specs.declared.op.Reply.TheVariants as replies
use Rattle.dom_history.specs.StoreEffects.{StoreEffect}
use Rattle.dom_history.specs.Locks.{state, is_held}
use Rattle.dom_history.specs.Objects.{room_of}
use Rattle.dom_history.specs.Mappings as store
use Rattle.dom_history.specs.Replies.{Before, map_reply, map_anew_reply, mapping_of, run_or_none}
use Rattle.address_map.specs.declared.mapping.Mapping.{Mapping}
use Rattle.address_map.specs.Mappings as desk
use Rattle.address_map.specs.Mappings.{address_of, is_of}
use Rattle.address_map.specs.Runs.{lowest_run}
use Rattle.address_map.specs.Maps.{IsLayout, is_full, map_answer}
use Rattle.fault_handler.specs.Lengths as known
use Rattle.fault_handler.specs.Lengths.{known_of}
use Rattle.fault_handler.specs.Desks.{DeskState, maps_of, state_of}
use Rattle.fault_handler.specs.Accesses.{map_by, unmap_by, map_reply as desk_reply}
use Rattle.fault_handler.specs.Outcomes.{Moved}
use Rattle.fault_handler.specs.Conditions.{IsIdle}
use Rattle.node_runs.specs.Rooms.{MayMove}
use Rattle.run_laws.proofs.DeskTurns.{IsLike, IsSo}

-- a mapping of a desk, as the store has it
abbrev pub noted : Mapping → store.Mapping
noted m = record { uid = m.uid; address = address_of m }

-- a list from its end
abbrev pub turned : {X Y : Type 0} → (X → Y) → List X → List Y
turned f [] = []
turned f (x ∷ xs) = turned f xs ++ f x ∷ []

pub record AreLike (opening : Start) (past : List StoreEffect) (name : ProcName) (maps : List Mapping) : Type 0 where
  pub same : store.mappings name past ≡ turned noted maps
  pub stretches : map (store.stretch_of opening past) (store.mappings name past) ≡ turned desk.stretch_of maps

length-turned : {X Y : Type 0} (f : X → Y) (xs : List X) → length (turned f xs) ≡ length xs
length-turned f [] = refl
length-turned f (x ∷ xs) = let e = length-turned f xs in length-append (turned f xs) (f x ∷ []) ∙ omega (arith, e)

-- where one alone passes, it is found from either end
module _ (u : ObjectName) where
  abbrev is_it : store.Mapping → Bool
  is_it m = same_uid u m.uid

  none-turned : (m : Mapping) (ms : List Mapping) → same_uid u m.uid ≡ true → All (λ (n : Mapping). is_of n.uid m ≡ false) ms → desk.mapping_of u ms ≡ None
  none-turned m [] is each = refl
  none-turned m (n ∷ ms) is each =
      let other : is_of n.uid m ≡ false = All-head (λ (x : Mapping). is_of x.uid m ≡ false) n ms each in
      let away : same_uid u n.uid ≡ false = grind (arith, nat_tests, other, is) in
      ap (λ b. if b then Some n else desk.mapping_of u ms) away ∙ none-turned m ms is (All-tail (λ (x : Mapping). is_of x.uid m ≡ false) n ms each)

  find-turned : (ms : List Mapping) → AllPairs (λ (m n : Mapping). is_of n.uid m ≡ false) ms → find is_it (turned noted ms) ≡ option_map noted (desk.mapping_of u ms)
  find-turned [] once = refl
  find-turned (m ∷ ms) once =
      let rest = find-turned ms (AllPairs-tail (λ (x y : Mapping). is_of y.uid x ≡ false) m ms once) in
      find-append is_it (turned noted ms) (noted m ∷ [])
      ∙ (ap (λ o. option_or o (find is_it (noted m ∷ []))) rest
      ∙ by_cases (same_uid u m.uid) (option_or (option_map noted (desk.mapping_of u ms)) (find is_it (noted m ∷ [])) ≡ option_map noted (desk.mapping_of u (m ∷ ms)))
      (λ h. let none = none-turned m ms h (AllPairs-head (λ (x y : Mapping). is_of y.uid x ≡ false) m ms once) in rw (none, h) refl)
      (λ h. rw h (or-none (option_map noted (desk.mapping_of u ms)))))
    where
      or-none : (o : Option store.Mapping) → option_or o None ≡ o
      or-none None = refl
      or-none (Some x) = refl

-- a run is free of mappings in either order
all-turned : {X Y : Type 0} (f : X → Y) (test : Y → Bool) (xs : List X) → list_all test (turned f xs) ≡ list_all test (map f xs)
all-turned f test [] = refl
all-turned f test (x ∷ xs) =
    list_all-append test (turned f xs) (f x ∷ [])
    ∙ (ap (λ b. b && list_all test (f x ∷ [])) (all-turned f test xs) ∙ swapped (list_all test (map f xs)) (test (f x)))
  where
    swapped : (a b : Bool) → (a && (b && true)) ≡ (b && a)
    swapped true true = refl
    swapped true false = refl
    swapped false true = refl
    swapped false false = refl

found-same : (a b : ℕ → Bool) → ((k : ℕ) → a k ≡ b k) → (ks : List ℕ) → find a ks ≡ find b ks
found-same a b same [] = refl
found-same a b same (k ∷ ks) = ap (λ t. if t then Some k else find a ks) (same k) ∙ ap (λ o. if b k then Some k else o) (found-same a b same ks)

run-turned : (count : ℕ) (ms : List Mapping) → lowest_free_run count (turned desk.stretch_of ms) ≡ lowest_run count ms
run-turned count ms =
    found-same (λ first. is_free_run count first (turned desk.stretch_of ms)) (λ first. is_free_run count first (map desk.stretch_of ms))
    (λ first. ap (λ b. nat_le (first + count) SEGMENTS && b) (all-turned desk.stretch_of (is_apart count first) ms)) (starts_from 0)

-- a mapping that is found, or one anew
abbrev by_found : Option store.Mapping → Bool → Option ℕ → Reply
by_found (Some m) full run = replies.At m.address false
by_found None full run = if full then replies.TooManyMaps else run_or_none run

-- the answer of the address space is the store's reply
replied : (found : Option Mapping) (full : Bool) (run : Option ℕ) → desk_reply (map_answer found full run)
    ≡ by_found (option_map noted found) full run
replied (Some m) full run = refl
replied None true run = refl
replied None false None = refl
replied None false (Some first) = refl

module _ (b : Before) (name : ProcName) (d : DeskState) (p : ℕ) (like : IsLike b name d p) (maps : AreLike b.opening b.past name (maps_of d p)) (layout : IsLayout (maps_of d p)) (idle : IsIdle d p) where
  mapping-is : (u : ObjectName) → mapping_of b name u ≡ option_map noted (desk.mapping_of u (maps_of d p))
  mapping-is u = ap (find (λ (m : store.Mapping). same_uid u m.uid)) maps.same ∙ find-turned u (maps_of d p) layout.once

  run-is : (count : ℕ) → store.lowest_run b.opening b.past name count ≡ lowest_run count (maps_of d p)
  run-is count = ap (lowest_free_run count) maps.stretches ∙ run-turned count (maps_of d p)

  full-is : nat_le PROCESS_MAPPINGS (length (store.mappings name b.past)) ≡ is_full (maps_of d p)
  full-is = ap (λ (ms : List store.Mapping). nat_le PROCESS_MAPPINGS (length ms)) maps.same ∙ ap (λ n. nat_le PROCESS_MAPPINGS n) (length-turned noted (maps_of d p))

  anew-is : (u : ObjectName) (o : Option store.Mapping) → map_anew_reply b name u o
      ≡ by_found o (nat_le PROCESS_MAPPINGS (length (store.mappings name b.past))) (store.lowest_run b.opening b.past name (segments (room_of b.opening b.past u)))
  anew-is u (Some m) = refl
  anew-is u None = refl

  map-held : (u : ObjectName) → is_held (state_of d p u) ≡ true
      → desk_reply (map_answer (desk.mapping_of u (maps_of d p)) (is_full (maps_of d p)) (lowest_run (segments (known.room_of (known_of u d.known))) (maps_of d p))) ≡ map_reply b name u
  map-held u held =
      let told : is_held (state u b.told) ≡ true = ap is_held (like.states u) ∙ held in
      let room : room_of b.opening b.past u ≡ known.room_of (known_of u d.known) = like.rooms u (idle.keeping u held) in
      let run : store.lowest_run b.opening b.past name (segments (room_of b.opening b.past u)) ≡ lowest_run (segments (known.room_of (known_of u d.known))) (maps_of d p) =
      ap (λ n. store.lowest_run b.opening b.past name (segments n)) room ∙ run-is (segments (known.room_of (known_of u d.known))) in
      let anew : map_anew_reply b name u (mapping_of b name u) ≡ by_found (option_map noted (desk.mapping_of u (maps_of d p))) (is_full (maps_of d p)) (lowest_run (segments (known.room_of (known_of u d.known))) (maps_of d p)) =
      anew-is u (mapping_of b name u)
      ∙ (ap (λ o. by_found o (nat_le PROCESS_MAPPINGS (length (store.mappings name b.past))) (store.lowest_run b.opening b.past name (segments (room_of b.opening b.past u)))) (mapping-is u)
      ∙ (ap (λ full. by_found (option_map noted (desk.mapping_of u (maps_of d p))) full (store.lowest_run b.opening b.past name (segments (room_of b.opening b.past u)))) full-is
      ∙ ap (by_found (option_map noted (desk.mapping_of u (maps_of d p))) (is_full (maps_of d p))) run)) in
      replied (desk.mapping_of u (maps_of d p)) (is_full (maps_of d p)) (lowest_run (segments (known.room_of (known_of u d.known))) (maps_of d p))
      ∙ (sym anew ∙ ap (λ h. if not h then replies.NoLock else map_anew_reply b name u (mapping_of b name u)) (sym told))

  pub map-so : (u : ObjectName) (to : Moved) → MayMove p (map_by d p u (is_held (state_of d p u))) to → IsSo b name (ops.Map u) to.turn
  map-so u to way = by (is_held (state_of d p u)) refl way
    where
      by : (held : Bool) → is_held (state_of d p u) ≡ held → MayMove p (map_by d p u held) to → IsSo b name (ops.Map u) to.turn
      by false e way = subst (λ (m : Moved). IsSo b name (ops.Map u) m.turn) (sym way) (inl (ap (λ h. if not h then replies.NoLock else map_anew_reply b name u (mapping_of b name u)) (sym (ap is_held (like.states u) ∙ e))))
      by true e way = subst (λ (m : Moved). IsSo b name (ops.Map u) m.turn) (sym way) (inl (map-held u e))

  pub unmap-so : (u : ObjectName) (to : Moved) → MayMove p (unmap_by d p u (is_some (desk.mapping_of u (maps_of d p)))) to → IsSo b name (ops.Unmap u) to.turn
  unmap-so u to way = by (is_some (desk.mapping_of u (maps_of d p))) refl way
    where
      some-noted : (o : Option Mapping) → is_some (option_map noted o) ≡ is_some o
      some-noted None = refl
      some-noted (Some m) = refl

      found : (x : Bool) → is_some (desk.mapping_of u (maps_of d p)) ≡ x → is_some (mapping_of b name u) ≡ x
      found x e = ap (λ o. is_some o) (mapping-is u) ∙ (some-noted (desk.mapping_of u (maps_of d p)) ∙ e)

      by : (there : Bool) → is_some (desk.mapping_of u (maps_of d p)) ≡ there → MayMove p (unmap_by d p u there) to → IsSo b name (ops.Unmap u) to.turn
      by false e way = subst (λ (m : Moved). IsSo b name (ops.Unmap u) m.turn) (sym way) (inl (ap (λ h. if not h then replies.NotMapped else replies.Fine) (sym (found false e))))
      by true e way = subst (λ (m : Moved). IsSo b name (ops.Unmap u) m.turn) (sym way) (inl (ap (λ h. if not h then replies.NotMapped else replies.Fine) (sym (found true e))))
