-- What comes out of one of the rings.
use Rattle.std.proofs.Common.{◌≡◌, ℕ, ◌<◌, Bool, List, [], ◌∷◌, ◌++◌, length, get_or, set, Option, Some, None, IfSome, refl, sym, ap, subst, ◌∙◌, append-nil, arith}
use Rattle.std.specs.Prelude.{◌==◌, IfNone}
use Rattle.std.specs.List.{AllZip}
use Rattle.std.proofs.lemmas.Bool.{eq-eqb, ne_eqb}
use Rattle.wire_links.specs.declared.carried.Carried.{Carried}
use Rattle.wire_links.specs.declared.wire.WireIn.{WireIn}
use Rattle.wire_links.specs.Wires.{taken, SameIn}
use Rattle.node_posts.specs.Reading.{come_if, AreTaken}
use Rattle.node_posts.proofs.Zips.{all-set, zip-rest, zip-set}
use Rattle.node_posts.proofs.Going.{same-in}

-- the oldest entry of one of them was taken
pub took-one : (xs : List WireIn) (at : ℕ) (y d : WireIn) (x : Carried) → at < length xs → taken y ≡ taken (get_or xs at d) ++ x ∷ [] → AreTaken (λ k. come_if (k == at) x) xs (set xs at y)
took-one xs at y d x within took =
    zip-set (λ k i j. taken j ≡ taken i ++ come_if (k == at) x) 0 at at xs y d (omega arith) within
    (λ k i differs. sym (ap (λ (b : Bool). taken i ++ come_if b x) (ne_eqb k at differs) ∙ append-nil (taken i)))
    (took ∙ sym (ap (λ (b : Bool). taken (get_or xs at d) ++ come_if b x) (eq-eqb at at refl)))

-- none was there
pub took-none : (xs : List WireIn) (at : ℕ) (y d : WireIn) → at < length xs → taken y ≡ taken (get_or xs at d) → AreTaken (λ k. []) xs (set xs at y)
took-none xs at y d within took =
    zip-set (λ k i j. taken j ≡ taken i ++ []) 0 at at xs y d (omega arith) within (λ k i differs. sym (append-nil (taken i))) (took ∙ sym (append-nil (taken (get_or xs at d))))

-- it was looked whether one is there
pub took-some : (xs : List WireIn) (at : ℕ) (y old : WireIn) (r : Option Carried) → at < length xs → old ≡ get_or xs at old → IfSome r (λ x. taken y ≡ taken old ++ x ∷ [])
    → IfSome r (λ x. AreTaken (λ k. come_if (k == at) x) xs (set xs at y))
took-some xs at y old None within was took = tt
took-some xs at y old (Some x) within was took = took-one xs at y old x within (took ∙ ap (λ (i : WireIn). taken i ++ x ∷ []) was)

pub took-nothing : (xs : List WireIn) (at : ℕ) (y old : WireIn) (r : Option Carried) → at < length xs → old ≡ get_or xs at old → IfNone r (taken y ≡ taken old) → IfNone r (AreTaken (λ k. []) xs (set xs at y))
took-nothing xs at y old None within was took = took-none xs at y old within (took ∙ ap taken was)
took-nothing xs at y old (Some x) within was took = tt

pub took-same : (xs : List WireIn) (at : ℕ) (y old : WireIn) → at < length xs → old ≡ get_or xs at old → SameIn old y → AllZip SameIn xs (set xs at y)
took-same xs at y old within was same = all-set SameIn same-in xs at y old within (subst (λ (i : WireIn). SameIn i y) was same)

-- none was looked at
pub looked-none : (xs : List WireIn) → AreTaken (λ k. []) xs xs
looked-none xs = zip-rest (λ k i j. taken j ≡ taken i ++ []) 0 xs (λ k i past. sym (append-nil (taken i)))
