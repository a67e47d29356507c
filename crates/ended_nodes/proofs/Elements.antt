-- Elements of lists, by their places.
use Rattle.std.proofs.Common.{◌≡◌, ℕ, zero, suc, Option, Some, None, List, [], ◌∷◌, ◌++◌, map, length, get_or, append-nil, refl, sym, ap, subst, ◌∙◌, arith}
use Rattle.std.specs.Iterator.{Yields}
use Rattle.std.specs.Vec.Iter.{into_iter_items, into_iter_len, into_iter_steps}
use Rattle.std.specs.declared.vec.IntoIter.{IntoIter}
use Rattle.std.specs.Prelude.{slice_get, All, IfSome}
use Rattle.std.proofs.lemmas.List.{append_assoc}
use Rattle.std.proofs.lemmas.Option.{slice_get_within, get_or_from_slice_get, slice_get-get_or}

pub map_at : {A B : Type 0} (f : A → B) (xs : List A) (k : ℕ) (y : B) → slice_get (map f xs) k ≡ Some y → (x : A) × (slice_get xs k ≡ Some x) × (y ≡ f x)
map_at f [] k y e = absurd (cc)
map_at f (x ∷ xs) zero y e = (x, refl, cc)
map_at f (x ∷ xs) (suc k) y e = map_at f xs k y e

pub all_at : {A : Type 0} (T : A → Type 0) (xs : List A) → ((k : ℕ) (x : A) → slice_get xs k ≡ Some x → T x) → All T xs
all_at T xs each k d within = each k (get_or xs k d) (slice_get-get_or xs k d within)

pub at_all : {A : Type 0} (T : A → Type 0) (xs : List A) (k : ℕ) (x : A) → All T xs → slice_get xs k ≡ Some x → T x
at_all T xs k x all e = subst T (get_or_from_slice_get xs k x x e) (all k x (slice_get_within xs k x e))

pub some_if : {A : Type 0} (T : A → Type 0) (o : Option A) → ((x : A) → o ≡ Some x → T x) → IfSome o T
some_if T None each = tt
some_if T (Some x) each = each x refl

pub no_items : {A : Type 0} (xs : List A) → length xs ≡ 0 → xs ≡ []
no_items [] none = refl
no_items (x ∷ xs) none = absurd (omega (arith, none))

taken_front : {X A : Type 0} (s : IntoIter X A) (xs : List X) (t : IntoIter X A) → Yields into_iter_steps s xs t → into_iter_items s ≡ xs ++ into_iter_items t
taken_front s [] t y = ap into_iter_items y
taken_front s (x ∷ xs) t y = y.1.0 ∙ ap (λ ys. x ∷ ys) (taken_front y.0 xs t y.2)

-- an iterator at its end has given all
pub all_taken : {X A : Type 0} (s : IntoIter X A) (xs : List X) (t : IntoIter X A) (all : List X) → Yields into_iter_steps s xs t → into_iter_items s ≡ all → into_iter_len t ≡ 0 → xs ≡ all
all_taken s xs t all y from none =
    sym (append-nil xs) ∙ (ap (λ ys. xs ++ ys) (sym (no_items (into_iter_items t) (sym t.rest.ok.0 ∙ none))) ∙ (sym (taken_front s xs t y) ∙ from))

pub behind : {A : Type 0} (xs : List A) (y : A) (ys : List A) → slice_get (xs ++ y ∷ ys) (length xs) ≡ Some y
behind [] y ys = refl
behind (x ∷ xs) y ys = behind xs y ys

-- what an iterator gave last is one of all
pub taken-one : {X A : Type 0} (s : IntoIter X A) (xs : List X) (x : X) (t : IntoIter X A) (all : List X) → Yields into_iter_steps s (xs ++ x ∷ []) t → into_iter_items s ≡ all → slice_get all (length xs) ≡ Some x
taken-one {X} s xs x t all y from =
    ap (λ (ys : List X). slice_get ys (length xs)) (sym from ∙ taken_front s (xs ++ x ∷ []) t y ∙ append_assoc xs (x ∷ []) (into_iter_items t))
    ∙ behind xs x (into_iter_items t)
