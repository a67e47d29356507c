-- What stands before an item is the rest of the list.
use Rattle.std.proofs.Common.{◌≡◌, true, false, List, [], ◌∷◌, ◌++◌, refl, arith}
use Rattle.std.specs.Prelude.{IsTrue, All}
use Rattle.std.proofs.lemmas.Bool.Decides.{nat_tests}
use Rattle.std.proofs.lemmas.List.Elements.{All-head, All-tail}
use Rattle.uid_names.specs.declared.ids.Place.{Place}
use Rattle.dom_history.specs.Histories.{Item, place_of, place_lt, IsRising, before}
use Rattle.dom_history.proofs.Places.{place_lt-irrefl}

-- no two places are before each other
place_lt-asym : (x y : Place) → IsTrue (place_lt x y) → place_lt y x ≡ false
place_lt-asym x y h = grind (arith, nat_tests)

-- where all stands before a place, that is what stands before it
before-below : (x : Place) (older : List Item) → All (λ j. IsTrue (place_lt (place_of j) x)) older → before x older ≡ older
before-below x [] h = refl
before-below x (j ∷ older) h =
    let first : place_lt (place_of j) x ≡ true = All-head (λ k. IsTrue (place_lt (place_of k) x)) j older h in
    rw first refl

-- each item stands above those behind it
above : (newer older : List Item) (i j : Item) → All (λ k. IsTrue (place_lt (place_of k) (place_of j))) (newer ++ i ∷ older) → IsTrue (place_lt (place_of i) (place_of j))
above [] older i j h = All-head (λ k. IsTrue (place_lt (place_of k) (place_of j))) i older h
above (k ∷ newer) older i j h = above newer older i j (All-tail (λ m. IsTrue (place_lt (place_of m) (place_of j))) k (newer ++ i ∷ older) h)

-- what stands before an item is what the list has behind it
pub before-here : (newer older : List Item) (i : Item) → IsRising (newer ++ i ∷ older) → before (place_of i) (newer ++ i ∷ older) ≡ older
before-here [] older i h = rw (place_lt-irrefl (place_of i)) (before-below (place_of i) older h.0)
before-here (j ∷ newer) older i h = rw (place_lt-asym (place_of i) (place_of j) (above newer older i j h.0)) (before-here newer older i h.1)
