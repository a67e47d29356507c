-- A list of events by rising place is told by the events of each node.
use Rattle.std.proofs.Common.{◌≡◌, ◌≢◌, ℕ, Bool, true, cond, List, [], ◌∷◌, inl, inr, refl, sym, ap, subst, ◌∙◌, arith}
use Rattle.std.specs.Prelude.{◌==◌}
use Rattle.std.proofs.lemmas.Bool.{cases_eq, eq-eqb, ne_eqb}
use Rattle.std.proofs.lemmas.Bool.Decides.{nat_tests}
use Rattle.uid_names.specs.declared.ids.Place.{Place}
use Rattle.dom_history.specs.Events.{Happening}
use Rattle.dom_history.specs.Histories.{place_lt}
use Rattle.dom_history.proofs.Places.{place_lt-trans}
use Rattle.node_runs.specs.Runs.{is_above, AreRising}
use Rattle.world_runs.specs.ByPlace.{events_of}
use Rattle.world_runs.proofs.Among.{Among, among-filter, cons-tails}

place-not : (a b : Place) → place_lt a b ≡ true → place_lt b a ≡ true → ⊥
place-not a b h i = grind (arith, nat_tests, h, i)

-- what stands behind the first is below it
below : (p : Place) (es : List Happening) → is_above p es ≡ true → AreRising es → (e : Happening) → Among e es → place_lt e.place p ≡ true
below p [] above rising e is = absurd is
below p (x ∷ older) above rising e (inl same) = ap (λ (y : Happening). place_lt y.place p) same ∙ above
below p (x ∷ older) above rising e (inr is) = place_lt-trans e.place x.place p (below x.place older rising.0 rising.1 e is) above

pub own-first : (n : ℕ) (e : Happening) (es : List Happening) → e.place.node ≡ n → events_of n (e ∷ es) ≡ e ∷ events_of n es
own-first n e es same = ap (λ (b : Bool). cond b (e ∷ events_of n es) (events_of n es)) (eq-eqb e.place.node n same)

pub other-first : (n : ℕ) (e : Happening) (es : List Happening) → e.place.node ≢ n → events_of n (e ∷ es) ≡ events_of n es
other-first n e es differs = ap (λ (b : Bool). cond b (e ∷ events_of n es) (events_of n es)) (ne_eqb e.place.node n differs)

abbrev SameEvents : List Happening → List Happening → Type 0
SameEvents es fs = (n : ℕ) → events_of n es ≡ events_of n fs

-- the first of one list is among the other
first-among : (e : Happening) (es fs : List Happening) → SameEvents (e ∷ es) fs → Among e fs
first-among e es fs same =
    (among-filter (λ (x : Happening). x.place.node == e.place.node) e fs
    (subst (λ (xs : List Happening). Among e xs) (sym (own-first e.place.node e es refl) ∙ same e.place.node) (inl refl))).0

module _ (e f : Happening) (es fs : List Happening) (rising : AreRising (e ∷ es)) (also : AreRising (f ∷ fs)) (same : SameEvents (e ∷ es) (f ∷ fs)) where
  firsts : e ≡ f
  firsts = elim (first-among e es (f ∷ fs) same) [
    | inl equals ↦ equals
    | inr behind ↦ elim (first-among f fs (e ∷ es) (λ n. sym (same n))) [
      | inl equals ↦ sym equals
      | inr later ↦ absurd (place-not e.place f.place (below f.place fs also.0 also.1 e behind) (below e.place es rising.0 rising.1 f later))
    ]
  ]

  rests : SameEvents es fs
  rests n = elim (cases_eq e.place.node n) [
    | inl here ↦
        cons-tails e f (events_of n es) (events_of n fs)
        (sym (own-first n e es here) ∙ (same n ∙ own-first n f fs (ap (λ (x : Happening). x.place.node) (sym firsts) ∙ here)))
    | inr away ↦
        sym (other-first n e es away) ∙ (same n ∙ other-first n f fs (λ here. away (ap (λ (x : Happening). x.place.node) firsts ∙ here)))
  ]

no-first : (e : Happening) (es : List Happening) → SameEvents (e ∷ es) [] → ⊥
no-first e es same = first-among e es [] same

pub sorted-one : (es fs : List Happening) → AreRising es → AreRising fs → ((n : ℕ) → events_of n es ≡ events_of n fs) → es ≡ fs
sorted-one [] [] rising also same = refl
sorted-one [] (f ∷ fs) rising also same = absurd (no-first f fs (λ n. sym (same n)))
sorted-one (e ∷ es) [] rising also same = absurd (no-first e es same)
sorted-one (e ∷ es) (f ∷ fs) rising also same =
    ap (λ (x : Happening). x ∷ es) (firsts e f es fs rising also same) ∙ ap (λ (xs : List Happening). f ∷ xs) (sorted-one es fs rising.1 also.1 (rests e f es fs rising also same))
