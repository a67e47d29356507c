-- A table of texts: those that begin as a word does are looked through one after another.
use Rattle.std.proofs.Common.{◌≡◌, ◌≢◌, ℕ, ◌+◌, ◌<◌, ◌≤◌, true, false, List, ◌∷◌, cond, Bool, [], drop, length, get_or, Option, Some, None, MatchOption, refl, ap, sym, ◌∙◌}
use Rattle.std.specs.Prelude.{bytes_eq, slice_get}
use Rattle.std.proofs.Math.ListN.{drop_of_length-le}
use Rattle.std.proofs.lemmas.Bool.{eq-eqb, false≢true}
use Rattle.std.proofs.lemmas.Option.{same_Some}
use Rattle.std.proofs.lemmas.List.{drop_more, get_or_default}
use Rattle.std.proofs.lemmas.Slice.Eq.{bytes_eq-Decides}
use Rattle.uid_names.specs.Texts.{begins_with, begun_so, written_so}
use Rattle.uid_names.proofs.ListLemmas.{by_cases}
use Rattle.uid_names.proofs.Finds.{found_at, find-passes}

-- what a search of a table answers says of each whether it is written so
pub told_by : {X : Type 0} (text : X → List ℕ) (xs : List X) → ((x : X) → written_so text xs (text x) ≡ Some x)
    → (r : Option X) (word : List ℕ) → r ≡ written_so text xs word → MatchOption r ((x : X) → word ≢ text x) (λ x. word ≡ text x)
told_by text xs again None word is = λ x e. absurd (let found : None ≡ Some x = is ∙ ap (written_so text xs) e ∙ again x in cc)
told_by text xs again (Some x) word is = sym ((bytes_eq-Decides (text x) word).0 (find-passes (λ y. bytes_eq (text y) word) xs x (sym is)))

-- a table that is looked through one after another
module _ {X : Type 0} (text : X → List ℕ) (xs : List X) (word : List ℕ) (i : ℕ) (left : written_so text (drop i xs) word ≡ written_so text xs word) where
  -- the first that is written so is found
  pub written_here : (d : X) → i < length xs → bytes_eq (text (get_or xs i d)) word ≡ true → Some (get_or xs i d) ≡ written_so text xs word
  written_here d within same = sym (found_at (λ y. bytes_eq (text y) word) xs i (get_or xs i d) left within (get_or_default xs i d (get_or xs i d) within) same)

  -- one that is not is passed
  pub written_on : (d : X) → i < length xs → bytes_eq (text (get_or xs i d)) word ≡ false → written_so text (drop (i + 1) xs) word ≡ written_so text xs word
  written_on d within other =
      let passed : written_so text (get_or xs i d ∷ drop (i + 1) xs) word ≡ written_so text (drop (i + 1) xs) word = rw other refl in
      sym (ap (λ (ys : List X). written_so text ys word) (drop_more xs i d within) ∙ passed) ∙ left

  -- behind all there is none
  pub written_out : length xs ≤ i → None ≡ written_so text xs word
  written_out past = sym (ap (λ (ys : List X). written_so text ys word) (drop_of_length-le xs past)) ∙ left

-- a word with a first byte begins with it, and one without is nothing
begins : (word : List ℕ) (first : ℕ) → slice_get word 0 ≡ Some first → begins_with first word ≡ true
begins [] first is = absurd cc
begins (c ∷ word) first is = eq-eqb c first (same_Some c first is)

pub no_first : (word : List ℕ) → None ≡ slice_get word 0 → word ≡ []
no_first [] is = refl
no_first (c ∷ word) is = absurd cc

module _ {X : Type 0} (text : X → List ℕ) (word : List ℕ) (first : ℕ) (is : slice_get word 0 ≡ Some first) where
  -- a text that begins otherwise is not written so
  other-text : (t : List ℕ) → begins_with first t ≡ false → bytes_eq t word ≡ false
  other-text t other =
      by_cases (bytes_eq t word) (bytes_eq t word ≡ false)
      (λ same. absurd (false≢true (sym other ∙ (ap (begins_with first) ((bytes_eq-Decides t word).0 same) ∙ begins word first is)))) (λ apart. apart)

  begun-step : (x : X) (xs some : List X) (b : Bool) → begins_with first (text x) ≡ b → written_so text some word ≡ written_so text xs word → written_so text (cond b (x ∷ some) some) word ≡ written_so text (x ∷ xs) word
  begun-step x xs some true same later = ap (cond (bytes_eq (text x) word) (Some x)) later
  begun-step x xs some false other later = later ∙ sym (ap (λ (b : Bool). cond b (Some x) (written_so text xs word)) (other-text (text x) other))

  -- a word is written as the first of those that begin as it does
  pub written-begun : (xs : List X) → written_so text (begun_so text xs first) word ≡ written_so text xs word
  written-begun [] = refl
  written-begun (x ∷ xs) = begun-step x xs (begun_so text xs first) (begins_with first (text x)) refl (written-begun xs)

  -- what was found among them is the table's
  pub found-begun : (xs some : List X) (r : Option X) → r ≡ written_so text some word → some ≡ begun_so text xs first → r ≡ written_so text xs word
  found-begun xs some r found are = found ∙ (ap (λ (ys : List X). written_so text ys word) are ∙ written-begun xs)
