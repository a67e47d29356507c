-- Posts in their order, with threads or kept.
use Rattle.std.proofs.Common.{◌≡◌, ℕ, zero, suc, List, [], ◌∷◌, ◌++◌, length, drop, Option, Some, None, refl, sym, ap, subst, ◌∙◌, append_assoc, append-nil, arith}
use Rattle.std.specs.Prelude.{slice_get, IfOk, Result, Ok, Err}
use Rattle.std.specs.List.{AllZip}
use Rattle.node_threads.specs.Slots.{AreSlots}

pub zip-push : {A B : Type 0} (R : A → B → Type 0) (xs : List A) (ys : List B) (x : A) (y : B) → AllZip R xs ys → R x y → AllZip R (xs ++ x ∷ []) (ys ++ y ∷ [])
zip-push R [] [] x y are is = (is, tt)
zip-push R [] (b ∷ ys) x y are is = absurd are
zip-push R (a ∷ xs) [] x y are is = absurd are
zip-push R (a ∷ xs) (b ∷ ys) x y are is = (are.0, zip-push R xs ys x y are.1 is)

-- a list that is its own rest is empty
pub own-rest : {A : Type 0} (xs : List A) → xs ≡ drop 1 xs → xs ≡ []
own-rest [] same = refl
own-rest (x ∷ xs) same = absurd (let e : suc (length xs) ≡ length xs = ap length same in omega (arith, e))

module _ {H X : Type 0} (K : H → X → Type 0) (R : X → X → Type 0) where
  -- one more with a thread
  pub slots-started : (slots : List (Option H)) (kept posts : List X) (h : H) (x : X) → AreSlots K R slots kept posts → K h x → AreSlots K R (slots ++ Some h ∷ []) kept (posts ++ x ∷ [])
  slots-started [] [] [] h x are is = (is, tt)
  slots-started [] [] (p ∷ posts) h x are is = absurd are
  slots-started [] (y ∷ kept) posts h x are is = absurd are
  slots-started (slot ∷ slots) kept [] h x are is = absurd are
  slots-started (Some g ∷ slots) kept (p ∷ posts) h x are is = (are.0, slots-started slots kept posts h x are.1 is)
  slots-started (None ∷ slots) [] (p ∷ posts) h x are is = absurd are
  slots-started (None ∷ slots) (y ∷ kept) (p ∷ posts) h x are is = (are.0, slots-started slots kept posts h x are.1 is)

  -- one more that is kept
  pub slots-kept : (slots : List (Option H)) (kept posts : List X) (y x : X) → AreSlots K R slots kept posts → R x y → AreSlots K R (slots ++ None ∷ []) (kept ++ y ∷ []) (posts ++ x ∷ [])
  slots-kept [] [] [] y x are is = (is, tt)
  slots-kept [] [] (p ∷ posts) y x are is = absurd are
  slots-kept [] (z ∷ kept) posts y x are is = absurd are
  slots-kept (slot ∷ slots) kept [] y x are is = absurd are
  slots-kept (Some g ∷ slots) kept (p ∷ posts) y x are is = (are.0, slots-kept slots kept posts y x are.1 is)
  slots-kept (None ∷ slots) [] (p ∷ posts) y x are is = absurd are
  slots-kept (None ∷ slots) (z ∷ kept) (p ∷ posts) y x are is = (are.0, slots-kept slots kept posts y x are.1 is)

  -- those that are kept went on
  pub slots-served : ((x y z : X) → R x y → R y z → R x z) → (slots : List (Option H)) (kept here posts : List X) → AreSlots K R slots kept posts → AllZip R kept here → AreSlots K R slots here posts
  slots-served then [] [] [] [] are goes = tt
  slots-served then [] [] [] (p ∷ posts) are goes = absurd are
  slots-served then [] [] (z ∷ here) posts are goes = absurd goes
  slots-served then [] (y ∷ kept) here posts are goes = absurd are
  slots-served then (slot ∷ slots) kept here [] are goes = absurd are
  slots-served then (Some g ∷ slots) kept here (p ∷ posts) are goes = (are.0, slots-served then slots kept here posts are.1 goes)
  slots-served then (None ∷ slots) [] here (p ∷ posts) are goes = absurd are
  slots-served then (None ∷ slots) (y ∷ kept) [] (p ∷ posts) are goes = absurd goes
  slots-served then (None ∷ slots) (y ∷ kept) (z ∷ here) (p ∷ posts) are goes = (then p y z are.0 goes.0, slots-served then slots kept here posts are.1 goes.1)

  -- these were joined so far
  pub record IsJoined (slots : List (Option H)) (here served posts : List X) : Type 0 where
    pub done : List X
    pub left : List X
    pub all : posts ≡ done ++ left
    pub zip : AllZip R done served
    pub rest : AreSlots K R slots here left

  pub joined-first : (slots : List (Option H)) (here posts : List X) → AreSlots K R slots here posts → IsJoined slots here [] posts
  joined-first slots here posts are = record { done = []; left = posts; all = refl; zip = tt; rest = are }

  pub joined-child : (slots : List (Option H)) (here served posts : List X) (h : H) (y : X) → IsJoined (Some h ∷ slots) here served posts → ((x : X) → K h x → R x y) → IsJoined slots here (served ++ y ∷ []) posts
  joined-child slots here served posts h y is keeps = by-left is.left is.all is.rest
    where
      by-left : (left : List X) → posts ≡ is.done ++ left → AreSlots K R (Some h ∷ slots) here left → IsJoined slots here (served ++ y ∷ []) posts
      by-left [] all rest = absurd rest
      by-left (x ∷ left) all rest = record {
        done = is.done ++ x ∷ [];
        left = left;
        all = all ∙ sym (append_assoc is.done (x ∷ []) left);
        zip = zip-push R is.done served x y is.zip (keeps x rest.0);
        rest = rest.1;
      }

  pub joined-here : (slots : List (Option H)) (here served posts : List X) (y : X) → IsJoined (None ∷ slots) (y ∷ here) served posts → IsJoined slots here (served ++ y ∷ []) posts
  joined-here slots here served posts y is = by-left is.left is.all is.rest
    where
      by-left : (left : List X) → posts ≡ is.done ++ left → AreSlots K R (None ∷ slots) (y ∷ here) left → IsJoined slots here (served ++ y ∷ []) posts
      by-left [] all rest = absurd rest
      by-left (x ∷ left) all rest = record {
        done = is.done ++ x ∷ [];
        left = left;
        all = all ∙ sym (append_assoc is.done (x ∷ []) left);
        zip = zip-push R is.done served x y is.zip rest.0;
        rest = rest.1;
      }

  pub joined-none : (slots : List (Option H)) (served posts : List X) → IsJoined (None ∷ slots) [] served posts → ⊥
  joined-none slots served posts is = by-left is.left is.rest
    where
      by-left : (left : List X) → AreSlots K R (None ∷ slots) [] left → ⊥
      by-left [] rest = rest
      by-left (x ∷ left) rest = rest

  pub joined-all : (here served posts : List X) → IsJoined [] here served posts → AllZip R posts served
  joined-all here served posts is = by-left is.left here is.all is.rest
    where
      by-left : (left here : List X) → posts ≡ is.done ++ left → AreSlots K R [] here left → AllZip R posts served
      by-left [] [] all rest = subst (λ (xs : List X). AllZip R xs served) (sym (all ∙ append-nil is.done)) is.zip
      by-left (x ∷ left) [] all rest = absurd rest
      by-left left (y ∷ here) all rest = absurd rest

  -- what holds of the posts, and of what goes on from them, holds of those that are kept
  pub kept-all : (T : X → Type 0) → ((x y : X) → T x → R x y → T y) → (slots : List (Option H)) (kept posts : List X) → AreSlots K R slots kept posts → ((k : ℕ) (x : X) → slice_get posts k ≡ Some x → T x)
      → (k : ℕ) (y : X) → slice_get kept k ≡ Some y → T y
  kept-all T goes [] [] [] are each k y e = absurd (cc)
  kept-all T goes [] [] (p ∷ posts) are each k y e = absurd are
  kept-all T goes [] (z ∷ kept) posts are each k y e = absurd are
  kept-all T goes (slot ∷ slots) kept [] are each k y e = absurd are
  kept-all T goes (Some g ∷ slots) kept (p ∷ posts) are each k y e = kept-all T goes slots kept posts are.1 (λ i x f. each (suc i) x f) k y e
  kept-all T goes (None ∷ slots) [] (p ∷ posts) are each k y e = absurd are
  kept-all T goes (None ∷ slots) (z ∷ kept) (p ∷ posts) are each zero y e = let same : z ≡ y = cc in subst T same (goes p z (each 0 p refl) are.0)
  kept-all T goes (None ∷ slots) (z ∷ kept) (p ∷ posts) are each (suc k) y e = kept-all T goes slots kept posts are.1 (λ i x f. each (suc i) x f) k y e

  -- where the joining succeeded, all went on
  pub ok-joined : {V E : Type 0} (slots : List (Option H)) (here posts : List X) (items : V → List X) (r : Result V E) → AreSlots K R slots here posts
      → IfOk r (λ v. (xs : List X) → AreSlots K R slots here xs → AllZip R xs (items v)) → IfOk r (λ v. AllZip R posts (items v))
  ok-joined slots here posts items (Ok v) are joined = joined posts are
  ok-joined slots here posts items (Err e) are joined = tt
