-- The events of all nodes, one node after the other, are the enabled ones of the world.
use Rattle.std.proofs.Common.{◌≡◌, ℕ, zero, suc, ◌+◌, ◌-◌, ◌<◌, ◌≤◌, Bool, true, false, cond, Option, Some, List, [], ◌∷◌, ◌++◌, map, take, length, refl, sym, ap, subst, ◌∙◌, length-append, arith}
use Rattle.std.specs.Prelude.{filter, flat_map, slice_get, sum}
use Rattle.std.proofs.lemmas.List.{length-map, append-nil}
use Rattle.std.proofs.lemmas.List.Elements.{filter-append}
use Rattle.std.proofs.lemmas.List.Sums.{sum_by-cons}
use Rattle.std.proofs.lemmas.Bool.Decides.{nat_tests}
use Rattle.std.proofs.lemmas.Option.{slice_get-map}
use Rattle.std.specs.Option.{option_map}
use Rattle.dom_history.specs.declared.op.Reply.{Reply}
use Rattle.dom_history.specs.declared.op.Want.{Want}
use Rattle.dom_history.specs.Objects.{is_node}
use Rattle.uid_names.specs.Openings.{Start}
use Rattle.uid_names.proofs.ListLemmas.{front}
use Rattle.node_runs.specs.Setups.{Setup}
use Rattle.node_runs.specs.Doings.{node_numbers}
use Rattle.node_runs.specs.Runs as runs
use Rattle.world_runs.specs.Links.{link_of}
use Rattle.world_runs.specs.Waiting.{waiting}
use Rattle.world_runs.specs.Turns.{Act, enabled_at, enabled_events}
use Rattle.world_runs.proofs.Linking.{turns-link}
use Rattle.world_core.specs.declared.coming.Coming.{Coming}
use Rattle.world_core.specs.declared.station.Station.{Station}
use Rattle.world_core.specs.declared.world.World.{World}
use Rattle.world_core.specs.Stands.{act_of, Stands}
use Rattle.world_core.specs.Places.{enabled_counts, IsPlace}
use Rattle.world_core.proofs.Listing.{listed-enabled, count_up, count-parts}

-- the events of nodes, from the one at this place on
acts : {P G : Type 0} → ℕ → List (Station P G) → List Act
acts i [] = []
acts i (y ∷ ys) = map (act_of (i + 1)) y.enabled.items ++ acts (i + 1) ys

acts-many : {P G : Type 0} (i : ℕ) (ys : List (Station P G)) → sum (enabled_counts ys) ≡ length (acts i ys)
unfolding acts
acts-many i [] = refl
acts-many i (y ∷ ys) =
    let more = acts-many (i + 1) ys in
    let own = length-map y.enabled.items (act_of (i + 1)) in
    let both = length-append (map (act_of (i + 1)) y.enabled.items) (acts (i + 1) ys) in
    let sums = sum_by-cons (λ (k : ℕ). k) (length y.enabled.items) (enabled_counts ys) in
    sums ∙ ap (λ k. length y.enabled.items + k) more ∙ ap (λ k. k + length (acts (i + 1) ys)) (sym own) ∙ sym both

beyond : {A : Type 0} (xs ys : List A) (k : ℕ) → slice_get (xs ++ ys) (length xs + k) ≡ slice_get ys k
beyond [] ys k = ap (slice_get ys) (nothing-more k)
  where
    nothing-more : (k : ℕ) → 0 + k ≡ k
    nothing-more k = omega arith
beyond (x ∷ xs) ys k = ap (slice_get (x ∷ (xs ++ ys))) (shifted (length xs) k) ∙ beyond xs ys k
  where
    shifted : (n k : ℕ) → suc n + k ≡ suc (n + k)
    shifted n k = omega arith

-- the event at a place
act-at : {P G : Type 0} (k : ℕ) (ys : List (Station P G)) (i own : ℕ) (y : Station P G) (c : Coming) → slice_get ys i ≡ Some y → slice_get y.enabled.items own ≡ Some c
    → slice_get (acts k ys) (sum (take i (enabled_counts ys)) + own) ≡ Some (act_of (k + i + 1) c)
unfolding acts
act-at k [] i own y c there here = absurd (cc)
act-at k (z ∷ ys) zero own y c there here =
    let same : z ≡ y = cc in
    let mapped : slice_get (map (act_of (k + 1)) z.enabled.items) own ≡ Some (act_of (k + 1) c) =
    slice_get-map (act_of (k + 1)) z.enabled.items own ∙ ap (option_map (act_of (k + 1))) (subst (λ (x : Station _ _). slice_get x.enabled.items own ≡ Some c) (sym same) here) in
    let first : 0 + own ≡ own = omega arith in
    let node : k + 1 ≡ k + 0 + 1 = omega arith in
    subst (λ j. slice_get (acts k (z ∷ ys)) j ≡ Some (act_of (k + 0 + 1) c)) (sym first)
    (subst (λ n. slice_get (acts k (z ∷ ys)) own ≡ Some (act_of n c)) node (front (map (act_of (k + 1)) z.enabled.items) (acts (k + 1) ys) own (act_of (k + 1) c) mapped))
act-at k (z ∷ ys) (suc i) own y c there here =
    let rest = act-at (k + 1) ys i own y c there here in
    let before = sum (take i (enabled_counts ys)) in
    let same : length z.enabled.items + before + own ≡ length (map (act_of (k + 1)) z.enabled.items) + (before + own) = let own-length = length-map z.enabled.items (act_of (k + 1)) in omega (arith, own-length) in
    let node : k + 1 + i + 1 ≡ k + suc i + 1 = omega arith in
    let sums = sum_by-cons (λ (k : ℕ). k) (length z.enabled.items) (take i (enabled_counts ys)) in
    ap (λ n. slice_get (acts k (z ∷ ys)) (n + own)) sums
    ∙ ap (slice_get (acts k (z ∷ ys))) same
    ∙ beyond (map (act_of (k + 1)) z.enabled.items) (acts (k + 1) ys) (before + own)
    ∙ rest
    ∙ ap (λ n. Some (act_of n c)) node

-- the nodes of an opening
module _ (o : Start) where
  pub is-one : (k : ℕ) → 1 ≤ k → k ≤ o.nodes → is_node o k ≡ true
  is-one k low high = grind (arith, nat_tests, low, high)

  is-none : (k : ℕ) → o.nodes < k → is_node o k ≡ false
  is-none k above = grind (arith, nat_tests, above)

  kept : (k m : ℕ) → 1 ≤ k → k + m ≤ o.nodes + 1 → filter (is_node o) (count_up k m) ≡ count_up k m
  kept k zero low high = refl
  kept k (suc m) low high =
      let within : k ≤ o.nodes = omega (arith, high) in
      ap (λ (b : Bool). cond b (k ∷ filter (is_node o) (count_up (k + 1) m)) (filter (is_node o) (count_up (k + 1) m))) (is-one k low within)
      ∙ ap (λ (ks : List ℕ). k ∷ ks) (kept (k + 1) m (omega (arith, low)) (omega (arith, high)))

  none-kept : (k m : ℕ) → o.nodes < k → filter (is_node o) (count_up k m) ≡ []
  none-kept k zero above = refl
  none-kept k (suc m) above =
      ap (λ (b : Bool). cond b (k ∷ filter (is_node o) (count_up (k + 1) m)) (filter (is_node o) (count_up (k + 1) m))) (is-none k above)
      ∙ none-kept (k + 1) m (omega (arith, above))

  nodes-are : o.nodes ≤ 8 → filter (is_node o) node_numbers ≡ count_up 1 o.nodes
  nodes-are few =
      let N = o.nodes in
      let eight : 8 ≡ N + (8 - N) = omega (arith, few) in
      let above : N < 1 + N = omega arith in
      let low : 1 ≤ 1 = omega arith in
      let high : 1 + N ≤ N + 1 = omega arith in
      ap (λ n. filter (is_node o) (count_up 1 n)) eight
      ∙ ap (filter (is_node o)) (count-parts 1 N (8 - N))
      ∙ filter-append (is_node o) (count_up 1 N) (count_up (1 + N) (8 - N))
      ∙ ap (λ (ks : List ℕ). filter (is_node o) (count_up 1 N) ++ ks) (none-kept (1 + N) (8 - N) above)
      ∙ append-nil (filter (is_node o) (count_up 1 N))
      ∙ kept 1 N low high

module _ {P G : Type 0} (wants : P → Want) (becomes : P → Option Reply → P) (made : ℕ → ℕ → Option P) (s : Setup) (x : World P G) (w : runs.World) (few : s.opening.nodes ≤ 8) (stands : Stands wants becomes made s x w) where
  pub queue-is : (n from : ℕ) → (link_of x.plan from n w.done).queue ≡ waiting x.plan from n w.done
  queue-is n from = ((turns-link s stands.setup x.plan stands.choices w stands.turns stands.timely).links from n).queue

  own-are : (j : ℕ) (y : Station P G) → slice_get x.stations.items j ≡ Some y → map (act_of (j + 1)) y.enabled.items ≡ enabled_at s x.plan w (j + 1)
  own-are j y there = listed-enabled wants becomes made s x.plan w (j + 1) y few (queue-is (j + 1)) (stands.station j y there)

  acts-are : (i : ℕ) (ys : List (Station P G)) → ((j : ℕ) (y : Station P G) → slice_get ys j ≡ Some y → map (act_of (i + j + 1)) y.enabled.items ≡ enabled_at s x.plan w (i + j + 1))
      → acts i ys ≡ flat_map (enabled_at s x.plan w) (count_up (i + 1) (length ys))
  unfolding acts
  acts-are i [] each = refl
  acts-are i (y ∷ ys) each =
      let here : i + 0 + 1 ≡ i + 1 = omega arith in
      ap (λ (as-acts : List Act). as-acts ++ acts (i + 1) ys) (subst (λ k. map (act_of k) y.enabled.items ≡ enabled_at s x.plan w k) here (each 0 y refl))
      ∙ ap (λ (more : List Act). enabled_at s x.plan w (i + 1) ++ more)
      (acts-are (i + 1) ys (λ j z there. let next : i + suc j + 1 ≡ i + 1 + j + 1 = omega arith in subst (λ k. map (act_of k) z.enabled.items ≡ enabled_at s x.plan w k) next (each (suc j) z there)))

  events-are : acts 0 x.stations.items ≡ enabled_events s x.plan w
  events-are =
      acts-are 0 x.stations.items (λ j y there. let from-one : j + 1 ≡ 0 + j + 1 = omega arith in subst (λ k. map (act_of k) y.enabled.items ≡ enabled_at s x.plan w k) from-one (own-are j y there))
      ∙ ap (λ n. flat_map (enabled_at s x.plan w) (count_up 1 n)) stands.count
      ∙ ap (flat_map (enabled_at s x.plan w)) (sym (nodes-are s.opening few))

  pub all-places : sum (enabled_counts x.stations.items) ≡ length (enabled_events s x.plan w)
  all-places = acts-many 0 x.stations.items ∙ ap (λ (as-acts : List Act). length as-acts) events-are

  pub one-place : (place i own : ℕ) (y : Station P G) (c : Coming) → IsPlace (enabled_counts x.stations.items) place i own → slice_get x.stations.items i ≡ Some y → slice_get y.enabled.items own ≡ Some c
      → slice_get (enabled_events s x.plan w) place ≡ Some (act_of (i + 1) c)
  one-place place i own y c is there here =
      let from-one : 0 + i + 1 ≡ i + 1 = omega arith in
      ap (λ (as-acts : List Act). slice_get as-acts place) (sym events-are)
      ∙ ap (slice_get (acts 0 x.stations.items)) (sym is.place_is)
      ∙ act-at 0 x.stations.items i own y c there here
      ∙ ap (λ n. Some (act_of n c)) from-one
