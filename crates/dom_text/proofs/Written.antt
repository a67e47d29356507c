-- What was written so far, with one byte more.
use Rattle.std.proofs.Common.{◌≡◌, ℕ, ◌+◌, ◌<◌, List, [], ◌∷◌, ◌++◌, take, length, slice_index_or, ap, ◌∙◌, sym, refl, append_assoc, append-nil, add-one}
use Rattle.std.proofs.Math.Seq.{take-suc}
use Rattle.dom_text.specs.Texts.{escaped, all_escaped}

pub all_escaped-append : (xs ys : List ℕ) → all_escaped (xs ++ ys) ≡ all_escaped xs ++ all_escaped ys
all_escaped-append [] ys = refl
all_escaped-append (x ∷ xs) ys = ap (λ r. escaped x ++ r) (all_escaped-append xs ys) ∙ sym (append_assoc (escaped x) (all_escaped xs) (all_escaped ys))

-- one byte more
pub all_escaped-more : (bs : List ℕ) (i d : ℕ) → i < length bs → all_escaped (take (i + 1) bs) ≡ all_escaped (take i bs) ++ escaped (slice_index_or bs i d)
all_escaped-more bs i d h =
    ap all_escaped (ap (λ n. take n bs) (add-one i) ∙ take-suc bs i d h)
    ∙ (all_escaped-append (take i bs) (slice_index_or bs i d ∷ []) ∙ ap (λ r. all_escaped (take i bs) ++ r) (append-nil (escaped (slice_index_or bs i d))))
