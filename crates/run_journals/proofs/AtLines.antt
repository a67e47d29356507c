-- The first line of a list at which something fails that holds of each initial part where it holds of the whole.
use Rattle.std.proofs.Common.{◌≡◌, ℕ, ◌<◌, List, [], ◌∷◌, ◌++◌, length, inl, inr, sym, ap, subst, ◌∙◌, arith}
use Rattle.std.specs.Prelude.{reverse}
use Rattle.std.proofs.lemmas.Bool.{cases_lt}
use Rattle.std.proofs.lemmas.List.{append_assoc, reverse-append}
use Rattle.dom_history.specs.Events.{Happening}
use Rattle.page_cache.proofs.PageLemmas.{reverse-cons}
use Rattle.world_runs.proofs.Among.{cons-heads, cons-tails}
use Rattle.run_journals.specs.Causes.{IsAtLine}

module _ {A : Type 0} where
  -- two places of one list: at the one before, the other's front goes on with it
  pub split-later : (xs ys : List A) (x y : A) (us vs : List A) → xs ++ x ∷ us ≡ ys ++ y ∷ vs → length xs < length ys → (m : List A) × (ys ≡ xs ++ x ∷ m)
  split-later [] [] x y us vs same low = absurd (omega (arith, low))
  split-later [] (b ∷ ys) x y us vs same low = (ys, ap (λ (z : A). z ∷ ys) (sym (cons-heads x b us (ys ++ y ∷ vs) same)))
  split-later (a ∷ xs) [] x y us vs same low = absurd (omega (arith, low))
  split-later (a ∷ xs) (b ∷ ys) x y us vs same low =
      let heads = cons-heads a b (xs ++ x ∷ us) (ys ++ y ∷ vs) same in
      let rest = split-later xs ys x y us vs (cons-tails a b (xs ++ x ∷ us) (ys ++ y ∷ vs) same) (omega (arith, low)) in
      (rest.0, ap (λ (z : A). z ∷ ys) (sym heads) ∙ ap (λ (zs : List A). a ∷ zs) rest.1)

  pub reverse-at : (xs : List A) (x : A) (ys : List A) → reverse (xs ++ x ∷ ys) ≡ reverse ys ++ x ∷ reverse xs
  reverse-at xs x ys =
      reverse-append xs (x ∷ ys)
      ∙ ap (λ (zs : List A). zs ++ reverse xs) (reverse-cons x ys)
      ∙ append_assoc (reverse ys) (x ∷ []) (reverse xs)

module _ (P : List Happening → Type 0) (initial : (newer older : List Happening) → P (newer ++ older) → P older) (events : List Happening) where
  -- where it holds of all it holds with the event of each line
  pub whole : (n : ℕ) (at : IsAtLine events n) → P (reverse events) → P (at.event ∷ reverse at.before)
  whole n at all = initial (reverse at.behind) (at.event ∷ reverse at.before) (subst P (ap reverse at.are ∙ reverse-at at.before at.event at.behind) all)

  -- it holds of no later front than one with which it fails
  later-fails : (m n : ℕ) (at : IsAtLine events m) (other : IsAtLine events n) → (P (at.event ∷ reverse at.before) → ⊥) → P (reverse other.before) → length at.before < length other.before → ⊥
  later-fails m n at other bad good low =
      let split = split-later at.before other.before at.event other.event at.behind other.behind (sym at.are ∙ other.are) low in
      bad (initial (reverse split.0) (at.event ∷ reverse at.before) (subst P (ap reverse split.1 ∙ reverse-at at.before at.event split.0) good))

  -- so it fails first at one line
  pub one-line : (m n : ℕ) (at : IsAtLine events m) (other : IsAtLine events n) → P (reverse at.before) → (P (at.event ∷ reverse at.before) → ⊥)
      → P (reverse other.before) → (P (other.event ∷ reverse other.before) → ⊥) → m ≡ n
  one-line m n at other good bad goods bads =
      let first = at.line_is in
      let second = other.line_is in
      elim (cases_lt (length at.before) (length other.before)) [
        | inl low ↦ absurd (later-fails m n at other bad goods low)
        | inr high ↦ elim (cases_lt (length other.before) (length at.before)) [
          | inl low ↦ absurd (later-fails n m other at bads good low)
          | inr other_high ↦ omega (arith, first, second, high, other_high)
        ]
      ]
