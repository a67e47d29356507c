-- What is in a list.
use Rattle.std.proofs.Common.{◌≡◌, ℕ, ◌+◌, Bool, true, false, cond, List, [], ◌∷◌, ◌++◌, length, map, Some, inl, inr, refl, sym, ap, subst, ◌∙◌}
use Rattle.std.specs.Prelude.{◌==◌}
use Rattle.std.specs.List.{AllByRecursion}
use Rattle.std.proofs.lemmas.List.{map-append, length-map}
use Rattle.node_runs.specs.Runs.{numbered}
use Rattle.ring_links.specs.declared.entry.Entry.{Entry}
use Rattle.ring_links.specs.Carried as carrying
use Rattle.wire_links.specs.declared.carried.Parcel.{Parcel}
use Rattle.wire_links.specs.declared.carried.Carried.{Carried}
use Rattle.wire_links.specs.declared.carried.Carried.TheVariants as carried
use Rattle.wire_links.specs.Carrying.{kept, names_of}
use Rattle.wire_links.proofs.Keeping.{kept-append}
use Rattle.local_runs.specs.Posts.{IsIn}

module _ {A : Type 0} where
  pub in-append : (x : A) (xs ys : List A) → IsIn x xs → IsIn x (xs ++ ys)
  in-append x [] ys is = absurd is
  in-append x (y ∷ xs) ys (inl e) = inl e
  in-append x (y ∷ xs) ys (inr is) = inr (in-append x xs ys is)

  pub in-last : (x : A) (xs : List A) → IsIn x (xs ++ x ∷ [])
  in-last x [] = inl refl
  in-last x (y ∷ xs) = inr (in-last x xs)

  pub all-in : (P : A → Type 0) (xs : List A) (x : A) → AllByRecursion P xs → IsIn x xs → P x
  all-in P [] x all is = absurd is
  all-in P (y ∷ xs) x all (inl e) = subst P e all.0
  all-in P (y ∷ xs) x all (inr is) = all-in P xs x all.1 is

pub in-kept : (e : Entry Parcel) (xs : List Carried) → IsIn (carried.Put e) xs → IsIn e (kept xs)
in-kept e [] is = absurd is
in-kept e (carried.Put f ∷ xs) (inl same) = inl (cc)
in-kept e (carried.Put f ∷ xs) (inr is) = inr (in-kept e xs is)
in-kept e (carried.Gone proc number index tick ∷ xs) (inl same) = absurd (cc)
in-kept e (carried.Gone proc number index tick ∷ xs) (inr is) = in-kept e xs is

pub names-append : (xs ys : List Carried) → names_of (xs ++ ys) ≡ names_of xs ++ names_of ys
names-append xs ys =
    ap (map (λ (e : Entry Parcel). carrying.plain_name e.waiting)) (kept-append xs ys)
    ∙ map-append (λ (e : Entry Parcel). carrying.plain_name e.waiting) (kept xs) (kept ys)

-- the item of this number, of images
pub numbered-map : {A B : Type 0} (f : A → B) (k : ℕ) (xs : List A) (y : B) → numbered k (map f xs) ≡ Some y → (x : A) × (numbered k xs ≡ Some x) × (f x ≡ y)
numbered-map {A = A} {B = B} f k [] y found = absurd (cc)
numbered-map {A = A} {B = B} f k (x ∷ xs) y found = either (k == length xs + 1) refl (numbered-map f k xs y)
  where
    here : numbered k (map f (x ∷ xs)) ≡ cond (k == length xs + 1) (Some (f x)) (numbered k (map f xs))
    here = ap (λ n. cond (k == n + 1) (Some (f x)) (numbered k (map f xs))) (length-map xs f)

    either : (b : Bool) → (k == length xs + 1) ≡ b → (numbered k (map f xs) ≡ Some y → (z : A) × (numbered k xs ≡ Some z) × (f z ≡ y))
        → (z : A) × (numbered k (x ∷ xs) ≡ Some z) × (f z ≡ y)
    either true h before =
        let e : Some (f x) ≡ Some y = ap (λ (c : Bool). cond c (Some (f x)) (numbered k (map f xs))) (sym h) ∙ sym here ∙ found in
        (x, ap (λ (c : Bool). cond c (Some x) (numbered k xs)) h, cc)
    either false h before =
        let e : numbered k (map f xs) ≡ Some y = ap (λ (c : Bool). cond c (Some (f x)) (numbered k (map f xs))) (sym h) ∙ sym here ∙ found in
        let was = before e in
        (was.0, ap (λ (c : Bool). cond c (Some x) (numbered k xs)) h ∙ was.1, was.2)
