-- Texts are cut where their parts meet.
use Rattle.std.proofs.Common.{◌≡◌, ◌≢◌, ◌≤◌, ◌<◌, ◌+◌, ℕ, List, [], ◌∷◌, ◌++◌, length, get_or, take, drop, Option, Some, None, MatchOption, refl, ap, sym, subst, ◌∙◌, arith, length-drop, take-append-drop}
use Rattle.std.proofs.lemmas.Bool.{eq-eqb, ne_eqb}
use Rattle.std.proofs.lemmas.List.{drop_more, get_or-drop}
use Rattle.std.proofs.lemmas.List.Elements.{All-from_get_or, All-head, All-tail}
use Rattle.std.proofs.lemmas.Option.{same_Some}
use Rattle.dom_text.specs.Cuts.{Lacks, IsCutAt, IsCutLast, cut_at, cut_at_last}

pub cut_at-found : (c : ℕ) (front back : List ℕ) → Lacks c front → cut_at c (front ++ c ∷ back) ≡ Some (front, back)
unfolding cut_at
cut_at-found c [] back h = rw (eq-eqb c c refl) refl
cut_at-found c (b ∷ front) back h =
    rw (ne_eqb b c (All-head (λ b. b ≢ c) b front h), cut_at-found c front back (All-tail (λ b. b ≢ c) b front h)) refl

cut_at-none : (c : ℕ) (text : List ℕ) → Lacks c text → cut_at c text ≡ None
unfolding cut_at
cut_at-none c [] h = refl
cut_at-none c (b ∷ text) h =
    rw (ne_eqb b c (All-head (λ b. b ≢ c) b text h), cut_at-none c text (All-tail (λ b. b ≢ c) b text h)) refl

-- what a cut found, seen by view
pub cut-value : {T : Type 0} (c : ℕ) (text : List ℕ) (r : Option T) (view : T → List ℕ × List ℕ)
    → MatchOption r (Lacks c text) (λ x. IsCutAt c text (view x).0 (view x).1) → MatchOption r (cut_at c text ≡ None) (λ x. cut_at c text ≡ Some (view x))
cut-value c text None view h = cut_at-none c text h
cut-value c text (Some x) view h = ap (cut_at c) h.whole ∙ cut_at-found c (view x).0 (view x).1 h.first

-- two cuts of one text
pub same_cut : (c : ℕ) (a b x y : List ℕ) → Lacks c a → Lacks c x → a ++ c ∷ b ≡ x ++ c ∷ y → (a ≡ x) × (b ≡ y)
same_cut c a b x y ha hx e =
    let p : List ℕ × List ℕ = (a, b) in
    let q : List ℕ × List ℕ = (x, y) in
    let parts : p ≡ q = same_Some p q (sym (cut_at-found c a b ha) ∙ ap (cut_at c) e ∙ cut_at-found c x y hx) in
    (ap (λ (r : List ℕ × List ℕ). r.0) parts, ap (λ (r : List ℕ × List ℕ). r.1) parts)

-- the last cut
pub last-at : (c : ℕ) (text : List ℕ) (i : ℕ) → i < length text → get_or text i 0 ≡ c → ((k : ℕ) → i + 1 ≤ k → k < length text → get_or text k 0 ≢ c) → IsCutLast c text (take i text) (drop (i + 1) text)
last-at c text i inside here behind = record {
  whole = sym (take-append-drop i text) ∙ ap (λ (l : List ℕ). take i text ++ l) (drop_more text i 0 inside ∙ ap (λ (b : ℕ). b ∷ drop (i + 1) text) here);
  last = All-from_get_or (λ b. b ≢ c) (drop (i + 1) text) 0 (λ k below. subst (λ (b : ℕ). b ≢ c) (sym (get_or-drop (i + 1) text k 0)) (behind (i + 1 + k) (omega arith) (omega (arith, length-drop (i + 1) text))));
}

last-none : (c : ℕ) (text : List ℕ) → Lacks c text → cut_at_last c text ≡ None
unfolding cut_at_last
last-none c [] h = refl
last-none c (b ∷ text) h =
    rw (last-none c text (All-tail (λ b. b ≢ c) b text h), ne_eqb b c (All-head (λ b. b ≢ c) b text h)) refl

pub last-found : (c : ℕ) (front back : List ℕ) → Lacks c back → cut_at_last c (front ++ c ∷ back) ≡ Some (front, back)
unfolding cut_at_last
last-found c [] back h = rw (last-none c back h, eq-eqb c c refl) refl
last-found c (b ∷ front) back h = rw (last-found c front back h) refl

pub last-value : {T : Type 0} (c : ℕ) (text : List ℕ) (r : Option T) (view : T → List ℕ × List ℕ)
    → MatchOption r (Lacks c text) (λ x. IsCutLast c text (view x).0 (view x).1) → MatchOption r (cut_at_last c text ≡ None) (λ x. cut_at_last c text ≡ Some (view x))
last-value c text None view h = last-none c text h
last-value c text (Some x) view h = ap (cut_at_last c) h.whole ∙ last-found c (view x).0 (view x).1 h.last
