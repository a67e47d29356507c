-- Two lists compared place by place.
use Rattle.std.proofs.Common.{◌≡◌, ◌≢◌, ℕ, zero, suc, ◌+◌, ◌<◌, Bool, true, false, ◌&&◌, List, [], ◌∷◌, length, drop, get_or, refl, arith, sym, ap, ◌∙◌, add-one}
use Rattle.std.specs.Cmp.Lexicographic.{pointwise, as_long}
use Rattle.uid_names.proofs.ListLemmas.{by_cases}

-- from a place on: what stands there, and the rest
pub pointwise-drop : {K : Type 0} (E : K → K → Bool) (xs ys : List K) (i : ℕ) (d e : K) → i < length xs → i < length ys → pointwise E (drop i xs) (drop i ys) ≡ (E (get_or xs i d) (get_or ys i e) && pointwise E (drop (suc i) xs) (drop (suc i) ys))
pointwise-drop E [] ys i d e low high = absurd (omega (arith, low))
pointwise-drop E (x ∷ xs) [] i d e low high = absurd (omega (arith, high))
pointwise-drop E (x ∷ xs) (y ∷ ys) zero d e low high = refl
pointwise-drop E (x ∷ xs) (y ∷ ys) (suc i) d e low high = pointwise-drop E xs ys i d e (omega (arith, low)) (omega (arith, high))

-- lists of two lengths differ
pub pointwise-lengths : {K : Type 0} (E : K → K → Bool) (xs ys : List K) → length xs ≢ length ys → pointwise E xs ys ≡ false
pointwise-lengths E xs ys differ = by_cases (pointwise E xs ys) (pointwise E xs ys ≡ false) (λ same. absurd (differ (as_long E xs ys same))) (λ is. is)

-- what differs at a place differs
pub pointwise-differs : {K : Type 0} (E : K → K → Bool) (xs ys : List K) (i : ℕ) (d e : K) → i < length xs → length xs ≡ length ys → pointwise E (drop i xs) (drop i ys) ≡ pointwise E xs ys → E (get_or xs i d) (get_or ys i e) ≡ false → pointwise E xs ys ≡ false
pointwise-differs E xs ys i d e low long so_far is = sym so_far ∙ (pointwise-drop E xs ys i d e low (omega arith) ∙ ap (λ b. b && pointwise E (drop (suc i) xs) (drop (suc i) ys)) is)

-- what does not leaves the rest
pub pointwise-more : {K : Type 0} (E : K → K → Bool) (xs ys : List K) (i : ℕ) (d e : K) → i < length xs → length xs ≡ length ys → pointwise E (drop i xs) (drop i ys) ≡ pointwise E xs ys → E (get_or xs i d) (get_or ys i e) ≡ true → pointwise E (drop (i + 1) xs) (drop (i + 1) ys) ≡ pointwise E xs ys
pointwise-more E xs ys i d e low long so_far is = rw (add-one) (sym (pointwise-drop E xs ys i d e low (omega arith) ∙ ap (λ b. b && pointwise E (drop (suc i) xs) (drop (suc i) ys)) is) ∙ so_far)

drop-past : {K : Type 0} (xs : List K) (i : ℕ) → length xs ≡ i → drop i xs ≡ []
drop-past [] i is = rw (← is) refl
drop-past (x ∷ xs) zero is = absurd (omega (arith, is))
drop-past (x ∷ xs) (suc i) is = drop-past xs i (omega (arith, is))

-- where nothing is left, all is the same
pub pointwise-end : {K : Type 0} (E : K → K → Bool) (xs ys : List K) (i : ℕ) → length xs ≡ i → length ys ≡ i → pointwise E (drop i xs) (drop i ys) ≡ pointwise E xs ys → pointwise E xs ys ≡ true
pointwise-end E xs ys i long wide so_far = sym so_far ∙ rw (drop-past xs i long, drop-past ys i wide) refl
