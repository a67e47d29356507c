-- Names that the tests use.
use Rattle.std.proofs.Common.{◌≡◌, ◌≢◌, ℕ, true, List, [], ◌∷◌, get_or, ap, refl, arith}
use Rattle.std.specs.Prelude.{IsTrue}
use Rattle.std.proofs.lemmas.List.Elements.{All-cons, All-nil}
use Rattle.std.proofs.lemmas.List.Kept.{AllPairs-cons}
use Rattle.uid_names.specs.NameTexts.{IsNameText, is_name_byte}
use Rattle.uid_names.proofs.InOrder.{AllPairs-nil}
use Rattle.dom_history.specs.NodeTexts.{AreNodeNames}

-- a letter is a name
letter : (b : ℕ) → is_name_byte b ≡ true → IsNameText (b ∷ [])
letter b h = record { some = omega arith; few = omega arith; bytes = All-cons (λ (c : ℕ). IsTrue (is_name_byte c)) b [] h (All-nil (λ (c : ℕ). IsTrue (is_name_byte c))) }

Apart : List ℕ → List ℕ → Type 0
Apart x y = x ≢ y

-- two letters that differ are two names
letters : (b c : ℕ) → is_name_byte b ≡ true → is_name_byte c ≡ true → b ≢ c → AreNodeNames ((b ∷ []) ∷ (c ∷ []) ∷ [])
unfolding Apart
letters b c is_b is_c differ =
    let x : List ℕ = b ∷ [] in
    let y : List ℕ = c ∷ [] in
    let apart : Apart x y = λ e. differ (ap (λ (xs : List ℕ). get_or xs 0 0) e) in
    record {
      some = omega arith;
      few = omega arith;
      texts = All-cons IsNameText x (y ∷ []) (letter b is_b) (All-cons IsNameText y [] (letter c is_c) (All-nil IsNameText));
      once = AllPairs-cons Apart x (y ∷ []) (All-cons (Apart x) y [] apart (All-nil (Apart x))) (AllPairs-cons Apart y [] (All-nil (Apart y)) (AllPairs-nil Apart));
    }

-- `a` and `b`
pub two_names : AreNodeNames ((97 ∷ []) ∷ (98 ∷ []) ∷ [])
two_names =
    let a : ℕ = 97 in
    let b : ℕ = 98 in
    let differ : a ≢ b = omega arith in
    letters a b refl refl differ
