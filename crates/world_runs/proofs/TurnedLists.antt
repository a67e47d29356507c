-- The events of a node, in a list that is turned round.
use Rattle.std.proofs.Common.{◌≡◌, ℕ, Bool, true, false, cond, List, [], ◌∷◌, ◌++◌, refl, sym, ap, ◌∙◌}
use Rattle.std.specs.Prelude.{◌==◌, reverse}
use Rattle.std.proofs.lemmas.List.{reverse-append}
use Rattle.std.proofs.lemmas.List.Elements.{filter-append}
use Rattle.dom_history.specs.Events.{Happening}
use Rattle.world_runs.specs.ByPlace.{events_of}

short : (b : Bool) (e : Happening) → reverse (cond b (e ∷ []) []) ≡ cond b (e ∷ []) []
short true e = refl
short false e = refl

-- they are its events, turned round
pub own-reverse : (n : ℕ) (es : List Happening) → events_of n (reverse es) ≡ reverse (events_of n es)
own-reverse n [] = refl
own-reverse n (e ∷ es) =
    let one : List Happening = events_of n (e ∷ []) in
    let apart : events_of n (e ∷ es) ≡ one ++ events_of n es = filter-append (λ (x : Happening). x.place.node == n) (e ∷ []) es in
    let back : reverse (events_of n (e ∷ es)) ≡ reverse (events_of n es) ++ one =
    ap reverse apart ∙ (reverse-append one (events_of n es) ∙ ap (λ (xs : List Happening). reverse (events_of n es) ++ xs) (short (e.place.node == n) e)) in
    ap (events_of n) (reverse-append (e ∷ []) es)
    ∙ (filter-append (λ (x : Happening). x.place.node == n) (reverse es) (e ∷ [])
    ∙ (ap (λ (xs : List Happening). xs ++ one) (own-reverse n es) ∙ sym back))
