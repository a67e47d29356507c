-- Text that is written in pieces.
use Rattle.std.proofs.Common.{◌≡◌, ℕ, ◌+◌, Option, Some, None, Result, Ok, Err, List, [], ◌++◌, length, take, refl, sym, ap, ◌∙◌, append_assoc, append-nil, length-append, arith}
use Rattle.std.specs.Prelude.{OnErr}
use Rattle.std.specs.Io.KnownBytes.{append_known}
use Rattle.std.proofs.Math.Seq.{take-append-add}
use Rattle.std.proofs.lemmas.List.{take-append-le}
use Rattle.dom_io.specs.Known.{AppendsPrefix}

pub none-written : (known : Option (List ℕ)) → known ≡ append_known known []
none-written None = refl
none-written (Some held) = ap Some (sym (append-nil held))

pub written-more : (known : Option (List ℕ)) (first second : List ℕ) → append_known (append_known known first) second ≡ append_known known (first ++ second)
written-more None first second = refl
written-more (Some held) first second = ap Some (append_assoc held first second)

-- of a piece that stands behind what was written, and before the rest
pub prefix-of : (old mid now : Option (List ℕ)) (written piece rest all : List ℕ) → mid ≡ append_known old written → written ++ (piece ++ rest) ≡ all
    → AppendsPrefix mid now piece → AppendsPrefix old now all
prefix-of old mid now written piece rest all there is cut =
    let count = cut.0 in
    let within = cut.1 in
    let first : take (length written + count) (written ++ (piece ++ rest)) ≡ written ++ take count piece =
    take-append-add written (piece ++ rest) count ∙ ap (λ (xs : List ℕ). written ++ xs) (take-append-le count piece rest within) in (
      length written + count,
      (let long : length all ≡ length written + (length piece + length rest) =
          ap (λ (xs : List ℕ). length xs) (sym is) ∙ length-append written (piece ++ rest) ∙ ap (λ n. length written + n) (length-append piece rest) in
          omega (arith, long, within)),
      cut.2 ∙ ap (λ (known : Option (List ℕ)). append_known known (take count piece)) there ∙ written-more old written (take count piece)
          ∙ ap (append_known old) (sym first ∙ ap (take (length written + count)) is),
    )

-- a line moves from what is left to the piece, of whose old part some was written
pub one-line : (written more piece line rest : List ℕ) → (written ++ more) ++ ((piece ++ line) ++ rest) ≡ written ++ ((more ++ piece) ++ (line ++ rest))
one-line written more piece line rest =
    append_assoc written more ((piece ++ line) ++ rest)
    ∙ ap (λ (xs : List ℕ). written ++ xs) (ap (λ (xs : List ℕ). more ++ xs) (append_assoc piece line rest) ∙ sym (append_assoc more piece (line ++ rest)))

pub on-err : {A B : Type 0} (r : Result A B) (X : Type 0) → X → OnErr r X
on-err (Ok a) X x = tt
on-err (Err b) X x = x

pub on-err-by : {A B X Y : Type 0} (r : Result A B) → (X → Y) → OnErr r X → OnErr r Y
on-err-by (Ok a) f is = tt
on-err-by (Err b) f is = f is
