-- A mark goes to one end after the other.
use Rattle.std.proofs.Common.{◌≡◌, ◌≢◌, ℕ, ◌+◌, ◌<◌, ◌≤◌, Bool, true, false, List, [], ◌∷◌, length, get_or, set, refl, sym, ap, subst, ◌∙◌, arith}
use Rattle.std.specs.Prelude.{nat_lt}
use Rattle.std.proofs.lemmas.Bool.Decides.{nat_tests}
use Rattle.wire_links.specs.declared.wire.WireOut.{WireOut}
use Rattle.wire_links.specs.Carrying.{Wired, Posting, mark_sent}
use Rattle.wire_links.specs.Wires.{wire_of, pushed, SameOut}
use Rattle.node_posts.specs.Ends.{AllZipFrom}
use Rattle.node_posts.specs.Sending.{IsOutAfter, AreOutsAfter, IsUnpushed, AreUnpushed}
use Rattle.node_posts.proofs.Zips.{all-set-more, zip-rest, zip-more, zip-all, zip-length}
use Rattle.node_posts.proofs.Going.{unpushed-then}

-- what came to an end, once so many had their turn
abbrev pub marked_if : Bool → ℕ → ℕ → List Posting
marked_if true phase tick = Posting.Mark phase tick ∷ []
marked_if false phase tick = []

abbrev pub IsMarking : ℕ → ℕ → List WireOut → ℕ → List WireOut → Type 0
IsMarking phase tick olds i news = AreOutsAfter (λ at. marked_if (nat_lt at i) phase tick) olds news

module _ (phase tick : ℕ) where
  pub none-marked : (olds : List WireOut) → IsMarking phase tick olds 0 olds
  none-marked olds = zip-rest (λ at. IsOutAfter (marked_if (nat_lt at 0) phase tick)) 0 olds (λ j x past. by-none j x (nat_lt j 0) (grind (arith, nat_tests)))
    where
      by-none : (j : ℕ) (x : WireOut) (b : Bool) → b ≡ false → IsOutAfter (marked_if b phase tick) x x
      by-none j x true e = absurd (cc)
      by-none j x false e = refl

  -- one more
  pub mark-more : (i : ℕ) (olds news : List WireOut) (y d : WireOut) → IsMarking phase tick olds i news → i < length news → wire_of y ≡ mark_sent phase tick (wire_of (get_or news i d))
      → IsMarking phase tick olds (i + 1) (set news i y)
  mark-more i olds news y d are within sent =
      zip-more (λ at. IsOutAfter (marked_if (nat_lt at i) phase tick)) (λ at. IsOutAfter (marked_if (nat_lt at (i + 1)) phase tick)) 0 i i olds news y d (omega arith) are within
      (λ j x z differs is. subst (λ (b : Bool). IsOutAfter (marked_if b phase tick) x z) (same-test j differs) is)
      (λ x is. at-place x (nat_lt i i) (nat_lt i (i + 1)) (grind (arith, nat_tests)) (grind (arith, nat_tests)) is)
    where
      same-test : (j : ℕ) → j ≢ i → nat_lt j i ≡ nat_lt j (i + 1)
      same-test j differs = grind (arith, nat_tests, differs)

      at-place : (x : WireOut) (b c : Bool) → b ≡ false → c ≡ true → IsOutAfter (marked_if b phase tick) x (get_or news i d) → IsOutAfter (marked_if c phase tick) x y
      at-place x true c e f is = absurd (cc)
      at-place x false false e f is = absurd (cc)
      at-place x false true e f is = sent ∙ ap (mark_sent phase tick) is

  pub all-marked : (i : ℕ) (olds news : List WireOut) → length news ≤ i → IsMarking phase tick olds i news → AreOutsAfter (λ at. Posting.Mark phase tick ∷ []) olds news
  all-marked i olds news past are =
      zip-all (λ at. IsOutAfter (marked_if (nat_lt at i) phase tick)) (λ at. IsOutAfter (Posting.Mark phase tick ∷ [])) 0 olds news
      (λ j x y below is. by-test j x y (nat_lt j i)
      (let many = zip-length (λ at. IsOutAfter (marked_if (nat_lt at i) phase tick)) 0 olds news are in let low : j < i = omega (arith, below, many, past) in grind (arith, nat_tests, low)) is) are
    where
      by-test : (j : ℕ) (x y : WireOut) (b : Bool) → b ≡ true → IsOutAfter (marked_if b phase tick) x y → IsOutAfter (Posting.Mark phase tick ∷ []) x y
      by-test j x y true e is = is
      by-test j x y false e is = absurd (cc)

-- nothing was pushed from one more
pub unpushed-more : (olds news : List WireOut) (i : ℕ) (y d : WireOut) → AreUnpushed olds news → i < length news → d ≡ get_or news i d → SameOut d y → pushed y ≡ pushed d → AreUnpushed olds (set news i y)
unpushed-more olds news i y d are within is same still =
    all-set-more IsUnpushed unpushed-then olds news i y d are within (subst (λ (o : WireOut). IsUnpushed o y) is (record { same = same; in_ring = still }))
