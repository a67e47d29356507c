-- What is among the items of a list.
use Rattle.std.proofs.Common.{◌≡◌, ℕ, zero, suc, Bool, true, false, cond, List, [], ◌∷◌, ◌++◌, map, Some, inl, inr, refl, sym, ap, ◌∙◌}
use Rattle.std.specs.Prelude.{◌⊎◌, filter, flat_map, slice_get}
use Rattle.std.proofs.lemmas.Option.{same_Some}

abbrev pub Among : {A : Type 0} → A → List A → Type 0
Among x [] = ⊥
Among x (y ∷ ys) = (x ≡ y) ⊎ Among x ys

pub among-get : {A : Type 0} (xs : List A) (k : ℕ) (x : A) → slice_get xs k ≡ Some x → Among x xs
among-get [] k x e = absurd (cc)
among-get (y ∷ ys) zero x e = inl (sym (same_Some y x e))
among-get (y ∷ ys) (suc k) x e = inr (among-get ys k x e)

pub among-append : {A : Type 0} (x : A) (xs ys : List A) → Among x (xs ++ ys) → Among x xs ⊎ Among x ys
among-append x [] ys is = inr is
among-append x (z ∷ xs) ys (inl e) = inl (inl e)
among-append x (z ∷ xs) ys (inr is) = elim (among-append x xs ys is) [ inl here ↦ inl (inr here) | inr there ↦ inr there ]

pub among-map : {A B : Type 0} (f : A → B) (y : B) (xs : List A) → Among y (map f xs) → (x : A) × Among x xs × (y ≡ f x)
among-map f y [] is = absurd is
among-map f y (x ∷ xs) (inl e) = (x, inl refl, e)
among-map f y (x ∷ xs) (inr is) = let found = among-map f y xs is in (found.0, inr found.1, found.2)

pub among-flat : {A B : Type 0} (f : A → List B) (y : B) (xs : List A) → Among y (flat_map f xs) → (x : A) × Among x xs × Among y (f x)
among-flat f y [] is = absurd is
among-flat f y (x ∷ xs) is = elim (among-append y (f x) (flat_map f xs) is) [
  | inl here ↦ (x, inl refl, here)
  | inr there ↦ (let found = among-flat f y xs there in (found.0, inr found.1, found.2))
]

among-cond : {A : Type 0} (b : Bool) (x y : A) (xs : List A) → Among x (cond b (y ∷ xs) xs) → ((b ≡ true) × (x ≡ y)) ⊎ Among x xs
among-cond true x y xs (inl e) = inl (refl, e)
among-cond true x y xs (inr is) = inr is
among-cond false x y xs is = inr is

pub among-filter : {A : Type 0} (p : A → Bool) (x : A) (xs : List A) → Among x (filter p xs) → Among x xs × (p x ≡ true)
among-filter p x [] is = absurd is
among-filter p x (y ∷ ys) is = elim (among-cond (p y) x y (filter p ys) is) [
  | inl here ↦ (inl here.1, ap p here.1 ∙ here.0)
  | inr there ↦ (let found = among-filter p x ys there in (inr found.0, found.1))
]

pub among-left : {A : Type 0} (x : A) (xs ys : List A) → Among x xs → Among x (xs ++ ys)
among-left x [] ys is = absurd is
among-left x (y ∷ xs) ys (inl e) = inl e
among-left x (y ∷ xs) ys (inr is) = inr (among-left x xs ys is)

pub among-right : {A : Type 0} (x : A) (xs ys : List A) → Among x ys → Among x (xs ++ ys)
among-right x [] ys is = is
among-right x (y ∷ xs) ys is = inr (among-right x xs ys is)

-- lists that are equal
pub cons-heads : {A : Type 0} (x y : A) (xs ys : List A) → x ∷ xs ≡ y ∷ ys → x ≡ y
cons-heads x y xs ys same = cc

pub cons-tails : {A : Type 0} (x y : A) (xs ys : List A) → x ∷ xs ≡ y ∷ ys → xs ≡ ys
cons-tails x y xs ys same = cc
