-- A run is planned where each of its events has its place.
use Rattle.std.proofs.Common.{◌≡◌, ◌≢◌, ℕ, Bool, true, false, List, [], ◌∷◌, ◌++◌, length, Some, refl, sym, ap, subst, ◌∙◌, arith}
use Rattle.std.specs.Prelude.{◌==◌, ◌&&◌, not, AllPairs, IsTrue}
use Rattle.std.specs.List.{AllByRecursion, list_any}
use Rattle.std.proofs.lemmas.Bool.{and_from, not-true}
use Rattle.std.proofs.lemmas.Bool.Decides.{nat_tests}
use Rattle.std.proofs.lemmas.List.{append-nil}
use Rattle.std.proofs.lemmas.List.Elements.{All-from_recursion, recursion_from_All}
use Rattle.std.proofs.lemmas.List.Kept.{AllPairs-cons}
use Rattle.uid_names.proofs.InOrder.{AllPairs-head, AllPairs-tail, AllPairs-nil}
use Rattle.uid_names.proofs.ListLemmas.{by_cases}
use Rattle.uid_names.proofs.Passed.{left-true, right-true, equal}
use Rattle.dom_history.specs.declared.event.What.{What}
use Rattle.dom_history.specs.declared.event.What.TheVariants.{Begin, Go, Take, Notice, Ready, Mark}
use Rattle.dom_history.specs.declared.plan.FateRow.{FateRow}
use Rattle.dom_history.specs.Events.{Happening}
use Rattle.dom_history.specs.Plans.{fate_of, IsPlan}
use Rattle.node_runs.specs.Setups.{Setup}
use Rattle.node_runs.specs.Runs.{World, world_of, IsRun}
use Rattle.node_runs.specs.Deliveries.{copy_if, deliveries, is_gone, is_prefix, noticed_by, noticed_in, sent_on, taken_on, takes_on, IsPlanned}
use Rattle.world_runs.specs.Sendings.{frames_on}
use Rattle.world_runs.specs.Gone.{FrameName, same_frame, was_told}
use Rattle.world_runs.proofs.Telling.{frame-is, same-frame}
use Rattle.run_journals.specs.Places.{Counts, sent_in, delivered_on, is_next, is_news, has_place, AllKeepPlan}
use Rattle.run_journals.proofs.Prefixes.{prefix-push, prefix-before}

-- nobody was told of a frame that differs from all that were told
told-none : (f : FrameName) (fs : List FrameName) → AllByRecursion (λ g. f ≢ g) fs → list_any (same_frame f) fs ≡ false
told-none f [] apart = refl
told-none f (g ∷ fs) apart = by_cases (same_frame f g) (list_any (same_frame f) (g ∷ fs) ≡ false)
    (λ same. absurd (apart.0 (frame-is f g same)))
    (λ other. rw other (told-none f fs apart.1))

none-told : (f : FrameName) (fs : List FrameName) → list_any (same_frame f) fs ≡ false → AllByRecursion (λ g. f ≢ g) fs
none-told f [] none = tt
none-told f (g ∷ fs) none = by_cases (same_frame f g) (AllByRecursion (λ h. f ≢ h) (g ∷ fs))
    (λ same. absurd (let there : list_any (same_frame f) (g ∷ fs) ≡ true = rw same refl in let both : true ≡ false = sym there ∙ none in cc))
    (λ other. (
      λ is. let both : true ≡ false = sym (same-frame f) ∙ ap (same_frame f) is ∙ other in absurd (cc),
      none-told f fs (sym (rw other refl) ∙ none),
    ))

module _ (plan : List FateRow) (sent : Counts) where
  abbrev IsFirst : ℕ → ℕ → List Happening → Type 0
  IsFirst from to es = is_prefix (takes_on from to es) (delivered_on plan sent from to) ≡ true

  abbrev IsGoneHere : FrameName → Type 0
  IsGoneHere f = IsTrue (is_gone (fate_of plan f.0 f.1 f.2))

  -- an event that takes nothing there
  with-none : (from to : ℕ) (older : List Happening) → IsFirst from to older → is_prefix (takes_on from to older ++ []) (delivered_on plan sent from to) ≡ true
  with-none from to older before = ap (λ (xs : List ℕ). is_prefix xs (delivered_on plan sent from to)) (append-nil (takes_on from to older)) ∙ before

  take-here : (from to sender node index : ℕ) (older : List Happening) (b : Bool) → ((sender == from) && (node == to)) ≡ b → IsFirst from to older → is_next plan sent older sender node index ≡ true
      → is_prefix (takes_on from to older ++ copy_if b index) (delivered_on plan sent from to) ≡ true
  take-here from to sender node index older false is before next = with-none from to older before
  take-here from to sender node index older true is before next =
      let a : sender ≡ from = equal sender from (left-true (sender == from) (node == to) is) in
      let b : node ≡ to = equal node to (right-true (sender == from) (node == to) is) in
      let here : is_next plan sent older from to index ≡ true =
      subst (λ y. is_next plan sent older from y index ≡ true) b (subst (λ x. is_next plan sent older x node index ≡ true) a next) in
      prefix-push (takes_on from to older) index (delivered_on plan sent from to)
      ∙ and_from (is_prefix (takes_on from to older) (delivered_on plan sent from to)) (is_next plan sent older from to index) before here

  event-first : (from to node : ℕ) (what : What) (older : List Happening) → IsFirst from to older → has_place plan sent older node what ≡ true
      → is_prefix (takes_on from to older ++ taken_on from to node what) (delivered_on plan sent from to) ≡ true
  event-first from to node (Begin p) older before kept = with-none from to older before
  event-first from to node (Go p) older before kept = with-none from to older before
  event-first from to node (Take sender index) older before kept = take-here from to sender node index older ((sender == from) && (node == to)) refl before kept
  event-first from to node (Notice p a b index) older before kept = with-none from to older before
  event-first from to node (Ready phase) older before kept = with-none from to older before
  event-first from to node (Mark a phase) older before kept = with-none from to older before

  -- where each event has its place, frames are taken in the order of delivery
  pub all-first : (from to : ℕ) (es : List Happening) → AllKeepPlan plan sent es → IsFirst from to es
  all-first from to [] kept = refl
  all-first from to (e ∷ older) kept = event-first from to e.place.node e.what older (all-first from to older kept.1) kept.0

  event-gone : (node : ℕ) (what : What) (older : List Happening) → AllByRecursion IsGoneHere (noticed_in older) → has_place plan sent older node what ≡ true → AllByRecursion IsGoneHere (noticed_by what ++ noticed_in older)
  event-gone node (Begin p) older gone kept = gone
  event-gone node (Go p) older gone kept = gone
  event-gone node (Take sender index) older gone kept = gone
  event-gone node (Notice p a b index) older gone kept = (left-true (is_gone (fate_of plan a b index)) (not (was_told older (a, b, index))) kept, gone)
  event-gone node (Ready phase) older gone kept = gone
  event-gone node (Mark a phase) older gone kept = gone

  pub all-gone : (es : List Happening) → AllKeepPlan plan sent es → AllByRecursion IsGoneHere (noticed_in es)
  all-gone [] kept = tt
  all-gone (e ∷ older) kept = event-gone e.place.node e.what older (all-gone older kept.1) kept.0

  event-once : (node : ℕ) (what : What) (older : List Happening) → AllPairs (λ (f g : FrameName). f ≢ g) (noticed_in older) → has_place plan sent older node what ≡ true
      → AllPairs (λ (f g : FrameName). f ≢ g) (noticed_by what ++ noticed_in older)
  event-once node (Begin p) older once kept = once
  event-once node (Go p) older once kept = once
  event-once node (Take sender index) older once kept = once
  event-once node (Notice p a b index) older once kept =
      let f : FrameName = (a, b, index) in
      let none : was_told older f ≡ false = not-true (was_told older f) (right-true (is_gone (fate_of plan a b index)) (not (was_told older f)) kept) in
      AllPairs-cons (λ (g h : FrameName). g ≢ h) f (noticed_in older) (All-from_recursion (λ (g : FrameName). f ≢ g) (noticed_in older) (none-told f (noticed_in older) none)) once
  event-once node (Ready phase) older once kept = once
  event-once node (Mark a phase) older once kept = once

  pub all-once : (es : List Happening) → AllKeepPlan plan sent es → AllPairs (λ (f g : FrameName). f ≢ g) (noticed_in es)
  all-once [] kept = AllPairs-nil (λ (f g : FrameName). f ≢ g)
  all-once (e ∷ older) kept = event-once e.place.node e.what older (all-once older kept.1) kept.0

  -- the other way round, one event
  first-before : (from to node : ℕ) (what : What) (older : List Happening) → is_prefix (takes_on from to older ++ taken_on from to node what) (delivered_on plan sent from to) ≡ true → IsFirst from to older
  first-before from to node what older is = prefix-before (takes_on from to older) (taken_on from to node what) (delivered_on plan sent from to) is

  pub take-kept : (node sender index : ℕ) (older : List Happening) → is_prefix (takes_on sender node older ++ copy_if ((sender == sender) && (node == node)) index) (delivered_on plan sent sender node) ≡ true
      → is_next plan sent older sender node index ≡ true
  take-kept node sender index older is =
      let self : ((sender == sender) && (node == node)) ≡ true = grind (arith, nat_tests) in
      let pushed : is_prefix (takes_on sender node older ++ index ∷ []) (delivered_on plan sent sender node) ≡ true =
      subst (λ b. is_prefix (takes_on sender node older ++ copy_if b index) (delivered_on plan sent sender node) ≡ true) self is in
      right-true (is_prefix (takes_on sender node older) (delivered_on plan sent sender node)) (is_next plan sent older sender node index)
      (sym (prefix-push (takes_on sender node older) index (delivered_on plan sent sender node)) ∙ pushed)

  news : (a b index : ℕ) (older : List Happening) → AllByRecursion IsGoneHere ((a, b, index) ∷ noticed_in older) → AllPairs (λ (f g : FrameName). f ≢ g) ((a, b, index) ∷ noticed_in older) → is_news plan older a b index ≡ true
  news a b index older gone once =
      let f : FrameName = (a, b, index) in
      let none : was_told older f ≡ false =
      told-none f (noticed_in older) (recursion_from_All (λ (g : FrameName). f ≢ g) (noticed_in older) (AllPairs-head (λ (g h : FrameName). g ≢ h) f (noticed_in older) once)) in
      and_from (is_gone (fate_of plan a b index)) (not (was_told older f)) gone.0 (ap not none)

  event-kept : (node : ℕ) (what : What) (older : List Happening) → ((from to : ℕ) → is_prefix (takes_on from to older ++ taken_on from to node what) (delivered_on plan sent from to) ≡ true)
      → AllByRecursion IsGoneHere (noticed_by what ++ noticed_in older) → AllPairs (λ (f g : FrameName). f ≢ g) (noticed_by what ++ noticed_in older) → has_place plan sent older node what ≡ true
  event-kept node (Begin p) older first gone once = refl
  event-kept node (Go p) older first gone once = refl
  event-kept node (Take sender index) older first gone once = take-kept node sender index older (first sender node)
  event-kept node (Notice p a b index) older first gone once = news a b index older gone once
  event-kept node (Ready phase) older first gone once = refl
  event-kept node (Mark a phase) older first gone once = refl

  gone-before : (what : What) (fs : List FrameName) → AllByRecursion IsGoneHere (noticed_by what ++ fs) → AllByRecursion IsGoneHere fs
  gone-before (Begin p) fs gone = gone
  gone-before (Go p) fs gone = gone
  gone-before (Take sender index) fs gone = gone
  gone-before (Notice p a b index) fs gone = gone.1
  gone-before (Ready phase) fs gone = gone
  gone-before (Mark a phase) fs gone = gone

  once-before : (what : What) (fs : List FrameName) → AllPairs (λ (f g : FrameName). f ≢ g) (noticed_by what ++ fs) → AllPairs (λ (f g : FrameName). f ≢ g) fs
  once-before (Begin p) fs once = once
  once-before (Go p) fs once = once
  once-before (Take sender index) fs once = once
  once-before (Notice p a b index) fs once = AllPairs-tail (λ (f g : FrameName). f ≢ g) (a, b, index) fs once
  once-before (Ready phase) fs once = once
  once-before (Mark a phase) fs once = once

  pub all-kept : (es : List Happening) → ((from to : ℕ) → IsFirst from to es) → AllByRecursion IsGoneHere (noticed_in es) → AllPairs (λ (f g : FrameName). f ≢ g) (noticed_in es) → AllKeepPlan plan sent es
  all-kept [] first gone once = tt
  all-kept (e ∷ older) first gone once = (
    event-kept e.place.node e.what older first gone once,
    all-kept older (λ from to. first-before from to e.place.node e.what older (first from to)) (gone-before e.what (noticed_in older) gone) (once-before e.what (noticed_in older) once),
  )

-- on each link as many frames were sent as the events say
module _ (s : Setup) (plan : List FateRow) (es : List Happening) (w : World) (leads : world_of s es ≡ Some w) (counts : (from to : ℕ) → length (w.frames from to) ≡ frames_on from to es) where
  same-count : (from to : ℕ) → sent_on (world_of s es) from to ≡ sent_in es from to
  same-count from to = ap (λ o. sent_on o from to) leads ∙ counts from to

  same-list : (from to : ℕ) → deliveries (λ i. fate_of plan from to i) (sent_on (world_of s es) from to) ≡ delivered_on plan (sent_in es) from to
  same-list from to = ap (deliveries (λ i. fate_of plan from to i)) (same-count from to)

  pub planned-kept : IsPlanned s plan es → AllKeepPlan plan (sent_in es) es
  planned-kept planned =
      all-kept plan (sent_in es) es
      (λ from to. subst (λ (ys : List ℕ). is_prefix (takes_on from to es) ys ≡ true) (same-list from to) (planned.delivered from to))
      (recursion_from_All (λ (f : FrameName). IsTrue (is_gone (fate_of plan f.0 f.1 f.2))) (noticed_in es) planned.gone)
      planned.once

  pub kept-planned : IsPlan plan → IsRun s es → AllKeepPlan plan (sent_in es) es → IsPlanned s plan es
  kept-planned is_plan run kept = record {
    run = run;
    plan_kept = is_plan;
    delivered = λ from to. subst (λ (ys : List ℕ). is_prefix (takes_on from to es) ys ≡ true) (sym (same-list from to)) (all-first plan (sent_in es) from to es kept);
    gone = All-from_recursion (λ (f : FrameName). IsTrue (is_gone (fate_of plan f.0 f.1 f.2))) (noticed_in es) (all-gone plan (sent_in es) es kept);
    once = all-once plan (sent_in es) es kept;
  }
