-- How names and rows come to lie in their bytes.
use Rattle.std.proofs.Common.{◌≡◌, ◌≤◌, ℕ, ◌-◌, ◌+◌, List, ◌∷◌, [], ◌++◌, length, take, drop, true, ap, ◌∙◌, subst, replicate, append_assoc, arith}
use Rattle.std.proofs.lemmas.List.{length-append}
use Rattle.std.proofs.Math.Seq.{take-append_seam, drop-append_seam, take-append-add, drop-append-add}
use Rattle.dir_records.specs.Components.{is_component, IsPadded}

-- a name and the zeros behind it are a name that is filled up
pub filled_up : (name zeros : List ℕ) → is_component name ≡ true → length name ≤ 32 → zeros ≡ replicate (32 - length name) 0 → length zeros ≡ 32 - length name → IsPadded (name ++ zeros) (length name)
filled_up name zeros form few are_zeros size = record {
  size = length-append name zeros ∙ omega (arith, few, size);
  name = rw (take-append_seam name zeros) form;
  few = few;
  zeros = drop-append_seam name zeros ∙ are_zeros;
}

-- a row is written field by field
pub row_written : (c n : ℕ) (f u : List ℕ) → length f ≡ 32 → c ∷ n ∷ (take 34 (f ++ replicate 30 0) ++ (u ++ drop 8 (drop 34 (f ++ replicate 30 0)))) ≡ c ∷ n ∷ (f ++ (0 ∷ 0 ∷ (u ++ replicate 20 0)))
row_written c n f u size =
    let front : take 34 (f ++ replicate 30 0) ≡ f ++ (0 ∷ 0 ∷ []) = subst (λ m. take (m + 2) (f ++ replicate 30 0) ≡ f ++ (0 ∷ 0 ∷ [])) size (take-append-add f (replicate 30 0) 2) in
    let back : drop 34 (f ++ replicate 30 0) ≡ replicate 28 0 = subst (λ m. drop (m + 2) (f ++ replicate 30 0) ≡ replicate 28 0) size (drop-append-add f (replicate 30 0) 2) in
    rw (front, back) (ap (λ (l : List ℕ). c ∷ n ∷ l) (append_assoc f (0 ∷ 0 ∷ []) (u ++ replicate 20 0)))
