-- The name that the test uses.
use Rattle.std.proofs.Common.{◌≢◌, ℕ, List, [], ◌∷◌, refl, arith}
use Rattle.std.specs.Prelude.{IsTrue}
use Rattle.std.proofs.lemmas.List.Elements.{All-cons, All-nil}
use Rattle.std.proofs.lemmas.List.Kept.{AllPairs-cons}
use Rattle.uid_names.specs.NameTexts.{IsNameText, is_name_byte}
use Rattle.uid_names.proofs.InOrder.{AllPairs-nil}
use Rattle.dom_history.specs.NodeTexts.{AreNodeNames}

Apart : List ℕ → List ℕ → Type 0
Apart x y = x ≢ y

-- `a`
pub one_name : AreNodeNames ((97 ∷ []) ∷ [])
unfolding Apart
one_name =
    let a : List ℕ = 97 ∷ [] in
    let text : IsNameText a = record { some = omega arith; few = omega arith; bytes = All-cons (λ (c : ℕ). IsTrue (is_name_byte c)) 97 [] refl (All-nil (λ (c : ℕ). IsTrue (is_name_byte c))) } in
    record {
      some = omega arith;
      few = omega arith;
      texts = All-cons IsNameText a [] text (All-nil IsNameText);
      once = AllPairs-cons Apart a [] (All-nil (Apart a)) (AllPairs-nil Apart);
    }
