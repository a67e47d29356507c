-- There is a merge of runs of nodes alone.
use Rattle.std.proofs.Common.{◌≡◌, ◌≢◌, ℕ, zero, suc, ◌<◌, ◌≤◌, Bool, true, false, cond, List, [], ◌∷◌, inl, inr, refl, sym, ap, subst, ◌∙◌, arith}
use Rattle.std.specs.Prelude.{◌==◌}
use Rattle.std.specs.List.{AllByRecursion}
use Rattle.std.proofs.lemmas.Bool.{cases_eq, cases_lt}
use Rattle.std.proofs.lemmas.Bool.Decides.{nat_tests}
use Rattle.uid_names.proofs.ListLemmas.{by_cases}
use Rattle.uid_names.specs.declared.ids.Place.{Place}
use Rattle.dom_history.specs.Events.{Happening}
use Rattle.dom_history.specs.Histories.{place_lt}
use Rattle.dom_history.specs.Objects.{is_node}
use Rattle.dom_history.proofs.Places.{place_lt-trans}
use Rattle.node_runs.specs.Setups.{Setup}
use Rattle.node_runs.specs.Runs.{World, is_above, AreRising}
use Rattle.world_runs.specs.ByPlace.{behind_if, put_in_place, events_of}
use Rattle.world_runs.proofs.Inserting.{place-turn, above-both}
use Rattle.world_runs.proofs.Sorting.{own-first, other-first}
use Rattle.local_runs.specs.LocalRuns.{Own, events_in, AreLocalRuns, IsMergeOf}
use Rattle.local_runs.proofs.LocalLogs.{own-node, own-rising}

-- each event of this node comes before that place
abbrev pub AreBelow : ℕ → Place → List Happening → Type 0
AreBelow n p es = AllByRecursion (λ e. e.place.node ≡ n → place_lt e.place p ≡ true) es

-- an event of a node goes among events by rising place, of which those of its node come before it
module _ (e : Happening) where
  rising-in : (es : List Happening) → AreRising es → AreBelow e.place.node e.place es → AreRising (put_in_place e es)
  rising-in [] rising below = (refl, tt)
  rising-in (x ∷ older) rising below = by_cases (place_lt x.place e.place) (AreRising (put_in_place e (x ∷ older)))
      (λ h. subst (λ (b : Bool). AreRising (behind_if b e x older (put_in_place e older))) (sym h) (h, rising))
      (λ h.
      let apart : x.place.node ≢ e.place.node = λ same. absurd (let before = below.0 same in cc) in
      let later : place_lt e.place x.place ≡ true = place-turn x.place e.place h apart in
      subst (λ (b : Bool). AreRising (behind_if b e x older (put_in_place e older))) (sym h)
      (above-both x.place e older rising.0 later, rising-in older rising.1 below.1))

  own-in : (es : List Happening) → AreBelow e.place.node e.place es → events_of e.place.node (put_in_place e es) ≡ e ∷ events_of e.place.node es
  own-in [] below = own-first e.place.node e [] refl
  own-in (x ∷ older) below = by_cases (place_lt x.place e.place) (events_of e.place.node (put_in_place e (x ∷ older)) ≡ e ∷ events_of e.place.node (x ∷ older))
      (λ h. ap (λ (b : Bool). events_of e.place.node (behind_if b e x older (put_in_place e older))) h ∙ own-first e.place.node e (x ∷ older) refl)
      (λ h.
      let apart : x.place.node ≢ e.place.node = λ same. absurd (let before = below.0 same in cc) in
      ap (λ (b : Bool). events_of e.place.node (behind_if b e x older (put_in_place e older))) h
      ∙ (other-first e.place.node x (put_in_place e older) apart
      ∙ (own-in older below.1 ∙ ap (λ (xs : List Happening). e ∷ xs) (sym (other-first e.place.node x older apart)))))

  others-in : (m : ℕ) → e.place.node ≢ m → (es : List Happening) → events_of m (put_in_place e es) ≡ events_of m es
  others-in m differs [] = other-first m e [] differs
  others-in m differs (x ∷ older) = by_cases (place_lt x.place e.place) (events_of m (put_in_place e (x ∷ older)) ≡ events_of m (x ∷ older))
      (λ h. ap (λ (b : Bool). events_of m (behind_if b e x older (put_in_place e older))) h ∙ other-first m e (x ∷ older) differs)
      (λ h.
      ap (λ (b : Bool). events_of m (behind_if b e x older (put_in_place e older))) h
      ∙ ap (λ (xs : List Happening). cond (x.place.node == m) (x ∷ xs) xs) (others-in m differs older))

  below-in : (p : Place) (k : ℕ) (es : List Happening) → (e.place.node ≡ k → place_lt e.place p ≡ true) → AreBelow k p es → AreBelow k p (put_in_place e es)
  below-in p k [] first below = (first, tt)
  below-in p k (x ∷ older) first below = by_cases (place_lt x.place e.place) (AreBelow k p (put_in_place e (x ∷ older)))
      (λ h. subst (λ (b : Bool). AreBelow k p (behind_if b e x older (put_in_place e older))) (sym h) (first, below))
      (λ h. subst (λ (b : Bool). AreBelow k p (behind_if b e x older (put_in_place e older))) (sym h) (below.0, below-in p k older first below.1))

-- the events of a node, the last one first, among others
abbrev pub put_all : List Happening → List Happening → List Happening
put_all [] es = es
put_all (e ∷ older) es = put_in_place e (put_all older es)

-- none of them is of this node
abbrev pub AreOthers : ℕ → List Happening → Type 0
AreOthers n es = AllByRecursion (λ e. e.place.node ≢ n) es

others-below : (n : ℕ) (p : Place) (es : List Happening) → AreOthers n es → AreBelow n p es
others-below n p [] all = tt
others-below n p (e ∷ es) all = ((λ same. absurd (all.0 same)), others-below n p es all.1)

others-put : (e : Happening) (m : ℕ) (es : List Happening) → e.place.node ≢ m → AreOthers m es → AreOthers m (put_in_place e es)
others-put e m [] differs all = (differs, tt)
others-put e m (x ∷ older) differs all = by_cases (place_lt x.place e.place) (AreOthers m (put_in_place e (x ∷ older)))
    (λ h. subst (λ (b : Bool). AreOthers m (behind_if b e x older (put_in_place e older))) (sym h) (differs, all))
    (λ h. subst (λ (b : Bool). AreOthers m (behind_if b e x older (put_in_place e older))) (sym h) (all.0, others-put e m older differs all.1))

module _ (n : ℕ) (others : List Happening) (rising : AreRising others) (apart : AreOthers n others) where
  -- those of the node that are older come before
  older-below : (p : Place) (es : List Happening) → is_above p es ≡ true → AreRising es → AllByRecursion (λ (e : Happening). e.place.node ≡ n) es → AreBelow n p (put_all es others)
  older-below p [] above rises own = others-below n p others apart
  older-below p (e ∷ es) above rises own =
      below-in e p n (put_all es others) (λ same. above) (older-below p es (before p e es above rises.0) rises.1 own.1)
    where
      before : (q : Place) (x : Happening) (xs : List Happening) → is_above q (x ∷ xs) ≡ true → is_above x.place xs ≡ true → is_above q xs ≡ true
      before q x [] h i = refl
      before q x (y ∷ ys) h i = place_lt-trans y.place x.place q i h

  own-below : (e : Happening) (es : List Happening) → AreRising (e ∷ es) → AllByRecursion (λ (x : Happening). x.place.node ≡ n) (e ∷ es) → AreBelow e.place.node e.place (put_all es others)
  own-below e es rises own = subst (λ k. AreBelow k e.place (put_all es others)) (sym own.0) (older-below e.place es rises.0 rises.1 own.1)

  pub all-rising : (es : List Happening) → AreRising es → AllByRecursion (λ (e : Happening). e.place.node ≡ n) es → AreRising (put_all es others)
  all-rising [] rises own = rising
  all-rising (e ∷ es) rises own = rising-in e (put_all es others) (all-rising es rises.1 own.1) (own-below e es rises own)

  none-own : (es : List Happening) → AreOthers n es → events_of n es ≡ []
  none-own [] all = refl
  none-own (e ∷ es) all = other-first n e es all.0 ∙ none-own es all.1

  pub all-own : (es : List Happening) → AreRising es → AllByRecursion (λ (e : Happening). e.place.node ≡ n) es → events_of n (put_all es others) ≡ es
  all-own [] rises own = none-own others apart
  all-own (e ∷ es) rises own =
      ap (λ k. events_of k (put_in_place e (put_all es others))) (sym own.0)
      ∙ (own-in e (put_all es others) (own-below e es rises own)
      ∙ (ap (λ k. e ∷ events_of k (put_all es others)) own.0 ∙ ap (λ (xs : List Happening). e ∷ xs) (all-own es rises.1 own.1)))

  pub all-others : (m : ℕ) → n ≢ m → (es : List Happening) → AllByRecursion (λ (e : Happening). e.place.node ≡ n) es → events_of m (put_all es others) ≡ events_of m others
  all-others m differs [] own = refl
  all-others m differs (e ∷ es) own = others-in e m (λ same. differs (sym own.0 ∙ same)) (put_all es others) ∙ all-others m differs es own.1

  pub all-apart : (m : ℕ) → n ≢ m → (es : List Happening) → AllByRecursion (λ (e : Happening). e.place.node ≡ n) es → AreOthers m others → AreOthers m (put_all es others)
  all-apart m differs [] own all = all
  all-apart m differs (e ∷ es) own all = others-put e m (put_all es others) (λ same. differs (sym own.0 ∙ same)) (all-apart m differs es own.1 all)

module _ (s : Setup) (owns : ℕ → List Own) (ws : ℕ → World) (are : AreLocalRuns s owns ws) where
  -- the events of the nodes up to this one, by place
  abbrev up_to : ℕ → List Happening
  up_to zero = []
  up_to (suc k) = put_all (events_in (owns (suc k))) (up_to k)

  record IsUpTo (k : ℕ) : Type 0 where
    rises : AreRising (up_to k)
    own : (n : ℕ) → 1 ≤ n → n ≤ k → events_of n (up_to k) ≡ events_in (owns n)
    apart : (n : ℕ) → k < n → AreOthers n (up_to k)
    zero_too : AreOthers 0 (up_to k)

  is-up-to : (k : ℕ) → IsUpTo k
  is-up-to zero = record { rises = tt; own = λ n low high. absurd (omega (arith, low, high)); apart = λ n above. tt; zero_too = tt }
  is-up-to (suc k) =
      let before = is-up-to k in
      let es = events_in (owns (suc k)) in
      let rises = own-rising s (suc k) (owns (suc k)) (ws (suc k)) (are.run (suc k)) in
      let own = own-node (suc k) (owns (suc k)) (are.run (suc k)).node in
      let away = before.apart (suc k) (omega arith) in
      record {
        rises = all-rising (suc k) (up_to k) before.rises away es rises own;
        own = λ n low high. elim (cases_eq (suc k) n) [
          | inl same ↦ subst (λ m. events_of m (up_to (suc k)) ≡ events_in (owns m)) same (all-own (suc k) (up_to k) before.rises away es rises own)
          | inr differs ↦ all-others (suc k) (up_to k) before.rises away n differs es own ∙ before.own n low (below_or k n high differs)
        ];
        apart = λ n above. all-apart (suc k) (up_to k) before.rises away n (λ same. absurd (omega (arith, above, same))) es own (before.apart n (omega (arith, above)));
        zero_too = all-apart (suc k) (up_to k) before.rises away 0 (λ same. absurd (omega (arith, same))) es own before.zero_too;
      }
    where
      below_or : (j n : ℕ) → n ≤ suc j → suc j ≢ n → n ≤ j
      below_or j n high differs = elim (cases_lt j n) [ inl above ↦ absurd (differs (omega (arith, above, high))) | inr low ↦ low ]

  not-node : (n : ℕ) → (1 ≤ n → n ≤ s.opening.nodes → ⊥) → is_node s.opening n ≡ false
  not-node n none = by_cases (is_node s.opening n) (is_node s.opening n ≡ false)
      (λ h. absurd (none (grind (arith, nat_tests, h)) (grind (arith, nat_tests, h))))
      (λ h. h)

  no-events : (n : ℕ) → AreOthers n (up_to s.opening.nodes) → is_node s.opening n ≡ false → events_of n (up_to s.opening.nodes) ≡ events_in (owns n)
  no-events n apart away = none (up_to s.opening.nodes) apart ∙ sym (ap events_in (are.nodes n away))
    where
      none : (es : List Happening) → AreOthers n es → events_of n es ≡ []
      none [] all = refl
      none (e ∷ es) all = other-first n e es all.0 ∙ none es all.1

  pub a-merge : (es : List Happening) × IsMergeOf owns es
  a-merge =
      let all = is-up-to s.opening.nodes in (
        up_to s.opening.nodes,
        record {
          rising = all.rises;
          own = λ n. elim (cases_lt 0 n) [
            | inl low ↦ elim (cases_lt s.opening.nodes n) [
              | inl above ↦ no-events n (all.apart n above) (not-node n (λ l h. absurd (omega (arith, above, h))))
              | inr high ↦ all.own n (omega (arith, low)) high
            ]
            | inr none ↦ no-events n (subst (λ m. AreOthers m (up_to s.opening.nodes)) (omega (arith, none)) all.zero_too) (not-node n (λ l h. absurd (omega (arith, none, l))))
          ];
        },
      )
