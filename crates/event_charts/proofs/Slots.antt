-- The events by the slots of the frames that they take, and those that take one frame.
use Rattle.std.proofs.Common.{◌≡◌, ◌∙◌, ◌<◌, ◌≤◌, ◌+◌, ℕ, suc, Bool, true, false, Bor, Option, Some, List, [], ◌∷◌, ◌++◌, length, take, get_or, refl, sym, ap, subst, arith}
use Rattle.std.specs.Prelude.{◌==◌, ◌&&◌, All, IfSome, slice_get}
use Rattle.std.proofs.lemmas.Bool.{eq-eqb}
use Rattle.std.proofs.lemmas.List.{length-map, length-take-le, map_more}
use Rattle.std.proofs.lemmas.List.Elements.{All-cons, All-nil}
use Rattle.uid_names.proofs.Passed.{equal, left-true, right-true}
use Rattle.dom_history.specs.declared.event.Sent.{Sent}
use Rattle.dom_history.specs.declared.event.What.{What}
use Rattle.dom_history.specs.declared.event.What.TheVariants.{Take}
use Rattle.lane_charts.specs.Places.{AreKeyed, is_key, place_if, places_of, with_place}
use Rattle.lane_charts.proofs.Keyed.{keyed-list, keyed-put}
use Rattle.event_views.specs.declared.run.EventView.{EventView}
use Rattle.event_charts.specs.ChartsOfRuns.{takers, takes, takes_from}
use Rattle.event_charts.specs.LentViews.{lent_views}
use Rattle.event_charts.specs.Slots.{AreBySlots, passes, picked, slot_in, slot_of, slot_of_taken, slots_for}

-- ---- one event after another

pub slots-more : (slots i : ℕ) (lists new : List (List ℕ)) (shown : List (Bor EventView)) (x : Bor EventView) (o : Option ℕ)
    → AreKeyed (slot_of_taken slots) slots lists (lent_views (take i shown)) → i < length shown → x ≡ get_or shown i x → o ≡ slot_of_taken slots x.now
    → IfSome o (λ s. s < slots) → new ≡ with_place o i lists → AreKeyed (slot_of_taken slots) slots new (lent_views (take (i + 1) shown))
slots-more slots i lists new shown x o old low is os bound put =
    let seen : Bor EventView → EventView = λ (v : Bor EventView). v.now in
    let key : EventView → Option ℕ = slot_of_taken slots in
    let xs : List EventView = lent_views (take i shown) in
    let count : length xs ≡ i = length-map (take i shown) seen ∙ length-take-le i shown (omega (arith, low)) in
    let more : lent_views (take (i + 1) shown) ≡ xs ++ x.now ∷ [] = map_more seen shown i x low ∙ ap (λ (v : Bor EventView). xs ++ v.now ∷ []) (sym is) in
    let same : new ≡ with_place (key x.now) (length xs) lists = put ∙ (ap (λ t. with_place t i lists) os ∙ ap (λ n. with_place (key x.now) n lists) (sym count)) in
    subst (λ (ls : List (List ℕ)). AreKeyed key slots ls (lent_views (take (i + 1) shown))) (sym same)
    (subst (AreKeyed key slots (with_place (key x.now) (length xs) lists)) (sym more)
    (keyed-put key slots lists xs x.now (subst (λ t. IfSome t (λ s. s < slots)) os bound) old))

-- ---- those that take a frame are among those of its slot

no_take : (b : Bool) (P : Type 0) → (b && false) ≡ true → P
no_take b P h = absurd (let no = right-true b false h in cc)

same_slot : (slots from node : ℕ) (sent : Sent) (what : What) → ((node == sent.to) && takes_from from sent.index what) ≡ true
    → is_key (slot_of slots from sent.to sent.index) (slot_in slots node what) ≡ true
same_slot slots from node sent (Take other number) h =
    let to = equal node sent.to (left-true (node == sent.to) ((other == from) && (number == sent.index)) h) in
    let link = right-true (node == sent.to) ((other == from) && (number == sent.index)) h in
    let node_is = equal other from (left-true (other == from) (number == sent.index) link) in
    let index = equal number sent.index (right-true (other == from) (number == sent.index) link) in
    eq-eqb (slot_of slots other node number) (slot_of slots from sent.to sent.index)
    (ap (λ n. slot_of slots n node number) node_is ∙ (ap (λ n. slot_of slots from n number) to ∙ ap (λ n. slot_of slots from sent.to n) index))
same_slot slots from node sent _ h = no_take (node == sent.to) _ h

pub slot-of-taker : (slots from : ℕ) (sent : Sent) (v : EventView) → takes from sent v ≡ true → is_key (slot_of slots from sent.to sent.index) (slot_of_taken slots v) ≡ true
slot-of-taker slots from sent v h = same_slot slots from v.event.place.node sent v.event.what h

module _ (from : ℕ) (sent : Sent) (test : EventView → Bool) (passed : (v : EventView) → takes from sent v ≡ true → test v ≡ true) (whole : List EventView) where
  -- an event that is not listed takes it not
  not_listed : (b : Bool) (n : ℕ) (v : EventView) (ps : List ℕ) → takes from sent v ≡ b → test v ≡ false → ps ≡ place_if b n ps
  not_listed true n v ps is fails = absurd (let passes = passed v is in cc)
  not_listed false n v ps is fails = refl

  picked_if : (b : Bool) (n : ℕ) (v : EventView) (ps : List ℕ) (rest : List ℕ) → test v ≡ b → slice_get whole n ≡ Some v → picked (takes from sent) whole ps ≡ rest
      → picked (takes from sent) whole (place_if b n ps) ≡ place_if (takes from sent v) n rest
  picked_if true n v ps rest is there more =
      ap (λ o. place_if (passes (takes from sent) o) n (picked (takes from sent) whole ps)) there
      ∙ ap (place_if (takes from sent v) n) more
  picked_if false n v ps rest is there more = more ∙ not_listed (takes from sent v) n v rest refl is

  picked_places : (n : ℕ) (views : List EventView) → ((i j : ℕ) → i ≡ n + j → slice_get whole i ≡ slice_get views j)
      → picked (takes from sent) whole (places_of test n views) ≡ takers n from sent views
  picked_places n [] agree = refl
  picked_places n (v ∷ views) agree =
      picked_if (test v) n v (places_of test (n + 1) views) (takers (n + 1) from sent views) refl (agree n 0 (omega arith))
      (picked_places (n + 1) views (λ i j is. agree i (suc j) (omega (arith, is))))

  pub picked-all : (ps : List ℕ) → ps ≡ places_of test 0 whole → picked (takes from sent) whole ps ≡ takers 0 from sent whole
  picked-all ps is =
      ap (λ (qs : List ℕ). picked (takes from sent) whole qs) is
      ∙ picked_places 0 whole (λ i j same. ap (slice_get whole) (let here : i ≡ j = omega (arith, same) in here))

-- what is listed for the slot of a frame, which is one of the slots
pub listed : (lists : List (List ℕ)) (views : List EventView) (slot : ℕ) (ps : List ℕ) → AreBySlots lists views → slot < slots_for (length views) → slice_get lists slot ≡ Some ps
    → ps ≡ places_of (λ v. is_key slot (slot_of_taken (slots_for (length views)) v)) 0 views
listed lists views slot ps are low there = keyed-list (slot_of_taken (slots_for (length views))) (slots_for (length views)) lists views slot ps are low there

-- those that take a frame are events that are shown
within_if : (b : Bool) (n most : ℕ) (ps : List ℕ) → n < most → All (λ p. p < most) ps → All (λ p. p < most) (place_if b n ps)
within_if true n most ps low all = All-cons (λ p. p < most) n ps low all
within_if false n most ps low all = all

pub takers-within : (n most from : ℕ) (sent : Sent) (views : List EventView) → n + length views ≤ most → All (λ p. p < most) (takers n from sent views)
takers-within n most from sent [] low = All-nil (λ p. p < most)
takers-within n most from sent (v ∷ views) low =
    within_if (takes from sent v) n most (takers (n + 1) from sent views) (omega (arith, low)) (takers-within (n + 1) most from sent views (omega (arith, low)))
