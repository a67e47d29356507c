-- A journal has no fewer bytes than lines.
use Rattle.std.proofs.Common.{◌≡◌, ℕ, ◌+◌, ◌≤◌, List, [], ◌∷◌, ◌++◌, length, refl, arith}
use Rattle.std.specs.Prelude.{codes}
use Rattle.std.proofs.lemmas.List.{length-append}
use Rattle.dom_history.specs.Events.{Happening}
use Rattle.journal_text.specs.Lines.{place_text, what_text, effects_text, line, journal}

-- each line has a byte
line-some : (names : List (List ℕ)) (e : Happening) → 1 ≤ length (line names e)
line-some names e =
    let a = length-append (place_text names e.place) (what_text names e.what ++ (effects_text names e.effects ++ codes "\n")) in
    let b = length-append (what_text names e.what) (effects_text names e.effects ++ codes "\n") in
    let c = length-append (effects_text names e.effects) (codes "\n") in
    let d : length (codes "\n") ≡ 1 = refl in
    omega (arith, a, b, c, d)

pub lines-few : (names : List (List ℕ)) (es : List Happening) → length es ≤ length (journal names es)
lines-few names [] = omega arith
lines-few names (e ∷ es) =
    let both : length (journal names (e ∷ es)) ≡ length (line names e) + length (journal names es) = length-append (line names e) (journal names es) in
    let some = line-some names e in
    let rest = lines-few names es in
    omega (arith, both, some, rest)
