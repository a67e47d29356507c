-- Lines are cut in front of their `;`.
use Rattle.std.proofs.Common.{◌≡◌, ◌≢◌, ℕ, List, [], ◌∷◌, ◌++◌, refl, ap}
use Rattle.std.proofs.lemmas.Bool.{eq-eqb, ne_eqb}
use Rattle.std.proofs.lemmas.List.Elements.{All-head, All-tail}
use Rattle.dom_text.specs.Cuts.{Lacks}
use Rattle.journal_text.specs.Walk.Heads.{IsHeadOf, BeginsWithSemicolon, head_of, pieces_of}

empty_head : (back : List ℕ) → BeginsWithSemicolon back → head_of back ≡ []
unfolding head_of
empty_head [] h = refl
empty_head (b ∷ back) h = rw (eq-eqb b 59 h) refl

pub head-found : (front back : List ℕ) → Lacks 59 front → BeginsWithSemicolon back → head_of (front ++ back) ≡ front
unfolding head_of
head-found [] back h begins = empty_head back begins
head-found (b ∷ front) back h begins =
    rw (ne_eqb b 59 (All-head (λ b. b ≢ 59) b front h)) (ap (λ (t : List ℕ). b ∷ t) (head-found front back (All-tail (λ b. b ≢ 59) b front h) begins))

pub pieces-behind : (front back : List ℕ) → Lacks 59 front → pieces_of (front ++ back) ≡ pieces_of back
unfolding pieces_of
pieces-behind [] back h = refl
pieces-behind (b ∷ front) back h =
    rw (ne_eqb b 59 (All-head (λ b. b ≢ 59) b front h)) (pieces-behind front back (All-tail (λ b. b ≢ 59) b front h))

-- the pieces from a `;` on
pub pieces-from : (text front back : List ℕ) → IsHeadOf text front back → pieces_of (59 ∷ text) ≡ front ∷ pieces_of back
unfolding pieces_of
pieces-from text front back h =
    rw h.whole (rw (head-found front back h.first h.begins, pieces-behind front back h.first) refl)
