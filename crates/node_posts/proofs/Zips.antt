-- Two lists, place by place.
use Rattle.std.proofs.Common.{◌≡◌, ◌≢◌, ℕ, zero, suc, ◌+◌, ◌<◌, ◌≤◌, List, [], ◌∷◌, length, get_or, set, Some, refl, sym, ap, subst, arith}
use Rattle.std.specs.Prelude.{slice_get}
use Rattle.std.specs.List.{AllZip}
use Rattle.node_posts.specs.Ends.{AllZipFrom}

module _ {A : Type 0} (R : A → A → Type 0) where
  pub all-same : ((x : A) → R x x) → (xs : List A) → AllZip R xs xs
  all-same each [] = tt
  all-same each (x ∷ xs) = (each x, all-same each xs)

  pub all-then : ((x y z : A) → R x y → R y z → R x z) → (xs ys zs : List A) → AllZip R xs ys → AllZip R ys zs → AllZip R xs zs
  all-then step [] [] [] a b = tt
  all-then step [] [] (z ∷ zs) a b = absurd b
  all-then step [] (y ∷ ys) zs a b = absurd a
  all-then step (x ∷ xs) [] zs a b = absurd a
  all-then step (x ∷ xs) (y ∷ ys) [] a b = absurd b
  all-then step (x ∷ xs) (y ∷ ys) (z ∷ zs) a b = (step x y z a.0 b.0, all-then step xs ys zs a.1 b.1)

  -- one of the items changed
  pub all-set : ((x : A) → R x x) → (xs : List A) (i : ℕ) (y d : A) → i < length xs → R (get_or xs i d) y → AllZip R xs (set xs i y)
  all-set each [] i y d within here = absurd (omega (arith, within))
  all-set each (x ∷ xs) zero y d within here = (here, all-same each xs)
  all-set each (x ∷ xs) (suc i) y d within here = (each x, all-set each xs i y d (omega (arith, within)) here)

  -- one more changed
  pub all-set-more : ((x y z : A) → R x y → R y z → R x z) → (xs ys : List A) (i : ℕ) (y d : A) → AllZip R xs ys → i < length ys → R (get_or ys i d) y → AllZip R xs (set ys i y)
  all-set-more step [] [] i y d are within here = absurd (omega (arith, within))
  all-set-more step [] (z ∷ ys) i y d are within here = absurd are
  all-set-more step (x ∷ xs) [] i y d are within here = absurd are
  all-set-more step (x ∷ xs) (z ∷ ys) zero y d are within here = (step x z y are.0 here, are.1)
  all-set-more step (x ∷ xs) (z ∷ ys) (suc i) y d are within here = (are.0, all-set-more step xs ys i y d are.1 (omega (arith, within)) here)

  pub all-at : (xs ys : List A) (i : ℕ) (x y : A) → AllZip R xs ys → slice_get xs i ≡ Some x → slice_get ys i ≡ Some y → R x y
  all-at [] ys i x y are there here = absurd (cc)
  all-at (a ∷ xs) [] i x y are there here = absurd are
  all-at (a ∷ xs) (b ∷ ys) zero x y are there here =
      let e : a ≡ x = cc in let f : b ≡ y = cc in subst (λ v. R v y) e (subst (λ v. R a v) f are.0)
  all-at (a ∷ xs) (b ∷ ys) (suc i) x y are there here = all-at xs ys i x y are.1 there here

-- an item of the second list, and that of the first at its place
pub record IsPaired {A : Type 0} (R : A → A → Type 0) (i : ℕ) (xs : List A) (y : A) : Type 0 where
  pub was : A
  pub there : slice_get xs i ≡ Some was
  pub is : R was y

pub all-from : {A : Type 0} (R : A → A → Type 0) (xs ys : List A) (i : ℕ) (y : A) → AllZip R xs ys → slice_get ys i ≡ Some y → IsPaired R i xs y
all-from R [] [] i y are there = absurd (cc)
all-from R [] (b ∷ ys) i y are there = absurd are
all-from R (a ∷ xs) [] i y are there = absurd are
all-from R (a ∷ xs) (b ∷ ys) zero y are there = let e : b ≡ y = cc in record { was = a; there = refl; is = subst (R a) e are.0 }
all-from R (a ∷ xs) (b ∷ ys) (suc i) y are there = let found = all-from R xs ys i y are.1 there in record { was = found.was; there = found.there; is = found.is }

pub all-length : {A : Type 0} (R : A → A → Type 0) (xs ys : List A) → AllZip R xs ys → length ys ≡ length xs
all-length R [] [] are = refl
all-length R [] (y ∷ ys) are = absurd are
all-length R (x ∷ xs) [] are = absurd are
all-length R (x ∷ xs) (y ∷ ys) are = ap suc (all-length R xs ys are.1)

pub all-more : {A : Type 0} (R S : A → A → Type 0) → ((x y : A) → R x y → S x y) → (xs ys : List A) → AllZip R xs ys → AllZip S xs ys
all-more R S gives [] [] are = tt
all-more R S gives [] (y ∷ ys) are = absurd are
all-more R S gives (x ∷ xs) [] are = absurd are
all-more R S gives (x ∷ xs) (y ∷ ys) are = (gives x y are.0, all-more R S gives xs ys are.1)

module _ {A : Type 0} (R : ℕ → A → A → Type 0) where
  pub zip-length : (k : ℕ) (xs ys : List A) → AllZipFrom R k xs ys → length ys ≡ length xs
  zip-length k [] [] are = refl
  zip-length k [] (y ∷ ys) are = absurd are
  zip-length k (x ∷ xs) [] are = absurd are
  zip-length k (x ∷ xs) (y ∷ ys) are = ap suc (zip-length (k + 1) xs ys are.1)

  -- from this place on nothing changed
  pub zip-rest : (k : ℕ) (xs : List A) → ((j : ℕ) (x : A) → k ≤ j → R j x x) → AllZipFrom R k xs xs
  zip-rest k [] each = tt
  zip-rest k (x ∷ xs) each = (each k x (omega arith), zip-rest (k + 1) xs (λ j y past. each j y (omega (arith, past))))

  pub zip-set : (k i at : ℕ) (xs : List A) (y d : A) → k + i ≡ at → i < length xs → ((j : ℕ) (x : A) → j ≢ at → R j x x) → R at (get_or xs i d) y → AllZipFrom R k xs (set xs i y)
  zip-set k i at [] y d same within others here = absurd (omega (arith, within))
  zip-set k zero at (x ∷ xs) y d same within others here =
      let e : at ≡ k = omega (arith, same) in
      (subst (λ j. R j x y) e here, zip-rest (k + 1) xs (λ j z past. others j z (λ f. absurd (omega (arith, past, f, e)))))
  zip-set k (suc i) at (x ∷ xs) y d same within others here =
      (others k x (λ f. absurd (omega (arith, same, f))), zip-set (k + 1) i at xs y d (omega (arith, same)) (omega (arith, within)) others here)

  -- the item there, and what it was
  pub record IsZipped (i j : ℕ) (xs : List A) (y : A) : Type 0 where
    pub was : A
    pub there : slice_get xs i ≡ Some was
    pub is : R j was y

  pub zip-at : (k i j : ℕ) (xs ys : List A) (y : A) → k + i ≡ j → AllZipFrom R k xs ys → slice_get ys i ≡ Some y → IsZipped i j xs y
  zip-at k i j [] [] y same are there = absurd (cc)
  zip-at k i j [] (b ∷ ys) y same are there = absurd are
  zip-at k i j (a ∷ xs) [] y same are there = absurd are
  zip-at k zero j (a ∷ xs) (b ∷ ys) y same are there =
      let e : b ≡ y = cc in
      let f : k ≡ j = omega (arith, same) in
      record { was = a; there = refl; is = subst (λ h. R h a y) f (subst (λ v. R k a v) e are.0) }
  zip-at k (suc i) j (a ∷ xs) (b ∷ ys) y same are there =
      let found = zip-at (k + 1) i j xs ys y (omega (arith, same)) are.1 there in
      record { was = found.was; there = found.there; is = found.is }

-- behind a place
zip-past : {A : Type 0} (R S : ℕ → A → A → Type 0) (at j : ℕ) (us vs : List A) → at < j → ((k : ℕ) (x z : A) → k ≢ at → R k x z → S k x z) → AllZipFrom R j us vs → AllZipFrom S j us vs
zip-past R S at j [] [] past others are = tt
zip-past R S at j [] (v ∷ vs) past others are = absurd are
zip-past R S at j (u ∷ us) [] past others are = absurd are
zip-past R S at j (u ∷ us) (v ∷ vs) past others are =
    (others j u v (λ f. absurd (omega (arith, f, past))) are.0, zip-past R S at (j + 1) us vs (omega (arith, past)) others are.1)

-- one more of them changed
pub zip-more : {A : Type 0} (R S : ℕ → A → A → Type 0) (k i at : ℕ) (xs ys : List A) (y d : A) → k + i ≡ at → AllZipFrom R k xs ys → i < length ys
    → ((j : ℕ) (x z : A) → j ≢ at → R j x z → S j x z) → ((x : A) → R at x (get_or ys i d) → S at x y) → AllZipFrom S k xs (set ys i y)
zip-more R S k i at [] [] y d same are within others here = absurd (omega (arith, within))
zip-more R S k i at [] (z ∷ ys) y d same are within others here = absurd are
zip-more R S k i at (x ∷ xs) [] y d same are within others here = absurd are
zip-more R S k zero at (x ∷ xs) (z ∷ ys) y d same are within others here =
    let e : at ≡ k = omega (arith, same) in
    (subst (λ j. S j x y) e (here x (subst (λ j. R j x z) (sym e) are.0)), zip-past R S at (k + 1) xs ys (omega (arith, e)) others are.1)
zip-more R S k (suc i) at (x ∷ xs) (z ∷ ys) y d same are within others here =
    (others k x z (λ f. absurd (omega (arith, same, f))) are.0, zip-more R S (k + 1) i at xs ys y d (omega (arith, same)) are.1 (omega (arith, within)) others here)

pub zip-all : {A : Type 0} (R S : ℕ → A → A → Type 0) → (k : ℕ) (xs ys : List A) → ((j : ℕ) (x y : A) → j < k + length xs → R j x y → S j x y) → AllZipFrom R k xs ys → AllZipFrom S k xs ys
zip-all R S k [] [] gives are = tt
zip-all R S k [] (y ∷ ys) gives are = absurd are
zip-all R S k (x ∷ xs) [] gives are = absurd are
zip-all R S k (x ∷ xs) (y ∷ ys) gives are =
    (gives k x y (omega arith) are.0, zip-all R S (k + 1) xs ys (λ j u v below is. gives j u v (omega (arith, below)) is) are.1)
