-- The answers to a node that go, link by link.
use Rattle.std.proofs.Common.{◌≡◌, ℕ, ◌+◌, ◌-◌, ◌*◌, ◌<◌, ◌≤◌, Bool, true, false, Option, Some, List, length, refl, ap, sym, subst, ◌∙◌, arith}
use Rattle.std.specs.Prelude.{◌==◌, ◌&&◌, IfSome, nat_lt, slice_set}
use Rattle.std.proofs.Math.Bool.{and-true}
use Rattle.std.proofs.lemmas.Bool.Decides.{nat_tests}
use Rattle.std.proofs.lemmas.Option.{same_Some}
use Rattle.uid_names.proofs.ListLemmas.{by_cases}
use Rattle.uid_names.proofs.Passed.{equal, left-true, right-true}
use Rattle.fault_handler.specs.Desks.{IsNode}
use Rattle.node_core.specs.Nodes.{Noted}
use Rattle.journal_check.proofs.LinkPlaces.{at-set, at-other}
use Rattle.journal_check.specs.Links.{link_place, at_link}
use Rattle.journal_check.specs.Kept.{Kept}
use Rattle.journal_check.specs.Changes.{ChangeLinks, IsHeard, heard_if}

-- a link from one of the first nodes to this one
abbrev pub is_among_first : ℕ → ℕ → ℕ → ℕ → Bool
is_among_first at i from to = (to == at) && nat_lt (from - 1) i

-- the links from so many nodes have dropped what is heard there, and the others are as they were
abbrev pub AreHeard : {P : Type 0} → ℕ → ℕ → Noted P → ℕ → List Kept → List Kept → Type 0
AreHeard nodes at x i initial frames =
    (from to : ℕ) → IsNode nodes from → IsNode nodes to → (k : Kept) → at_link nodes from to initial ≡ Some k → at_link nodes from to frames ≡ Some (heard_if (is_among_first at i from to) x k)

front-false : (a b : Bool) → (a && b) ≡ false → b ≡ true → a ≡ false
front-false true true both second = absurd (cc)
front-false true false both second = absurd (cc)
front-false false b both second = refl

-- below one more, where it is not that one
same-low : (from i : ℕ) → 1 ≤ from → (from == i + 1) ≡ false → nat_lt (from - 1) i ≡ nat_lt (from - 1) (i + 1)
same-low from i low other = grind (arith, nat_tests, low, other)

-- one node more
still-among : (at i from to : ℕ) → 1 ≤ from → ((from == i + 1) && (to == at)) ≡ false → is_among_first at i from to ≡ is_among_first at (i + 1) from to
still-among at i from to low apart = by (to == at) refl
  where
    by : (t : Bool) → (to == at) ≡ t → (t && nat_lt (from - 1) i) ≡ (t && nat_lt (from - 1) (i + 1))
    by false own = refl
    by true own = same-low from i low (front-false (from == i + 1) (to == at) apart own)

not-yet : (at i from to : ℕ) → from ≡ i + 1 → is_among_first at i from to ≡ false
not-yet at i from to first = by (to == at)
  where
    late : nat_lt (from - 1) i ≡ false
    late = grind (arith, nat_tests, first)

    by : (t : Bool) → (t && nat_lt (from - 1) i) ≡ false
    by false = refl
    by true = late

then-there : (at i from to : ℕ) → from ≡ i + 1 → (to == at) ≡ true → is_among_first at (i + 1) from to ≡ true
then-there at i from to first own =
    let low : nat_lt (from - 1) (i + 1) ≡ true = grind (arith, nat_tests, first) in
    ap (λ t. t && nat_lt (from - 1) (i + 1)) own ∙ low

module _ {P : Type 0} (nodes at : ℕ) (x : Noted P) where
  pub heard-none : (initial : List Kept) → AreHeard nodes at x 0 initial initial
  heard-none initial = λ from to ia ib k was. was ∙ ap (λ t. Some (heard_if t x k)) (sym (never from to))
    where
      never : (from to : ℕ) → is_among_first at 0 from to ≡ false
      never from to = by (to == at)
        where
          late : nat_lt (from - 1) 0 ≡ false
          late = grind (arith, nat_tests)

          by : (t : Bool) → (t && nat_lt (from - 1) 0) ≡ false
          by false = refl
          by true = late

  pub heard-more : (i : ℕ) (initial frames : List Kept) (was y : Kept) → IsNode nodes at → i < nodes → length frames ≡ nodes * nodes → AreHeard nodes at x i initial frames → at_link nodes (i + 1) at frames ≡ Some was
      → y ≡ heard_if true x was → AreHeard nodes at x (i + 1) initial (slice_set frames (link_place nodes (i + 1) at) y)
  heard-more i initial frames was y receiver low count before there is = λ from to ia ib k first_was.
      by_cases ((from == i + 1) && (to == at)) (at_link nodes from to (slice_set frames (link_place nodes (i + 1) at) y) ≡ Some (heard_if (is_among_first at (i + 1) from to) x k))
      (λ same.
      let own = right-true (from == i + 1) (to == at) same in
      let first : from ≡ i + 1 = equal from (i + 1) (left-true (from == i + 1) (to == at) same) in
      let second : to ≡ at = equal to at own in
      let here = λ (fs : List Kept). ap (λ p. at_link nodes p to fs) first ∙ ap (λ q. at_link nodes (i + 1) q fs) second in
      let old : was ≡ k = same_Some was k (sym there ∙ (sym (here frames) ∙ (before from to ia ib k first_was ∙ ap (λ t. Some (heard_if t x k)) (not-yet at i from to first)))) in
      here (slice_set frames (link_place nodes (i + 1) at) y)
      ∙ (at-set nodes (i + 1) at frames y count sender receiver
      ∙ ap (λ (z : Kept). Some z) (is ∙ (ap (heard_if true x) old ∙ ap (λ t. heard_if t x k) (sym (then-there at i from to first own))))))
      (λ apart.
      at-other nodes (i + 1) at frames y count sender receiver from to ia ib apart
      ∙ (before from to ia ib k first_was ∙ ap (λ t. Some (heard_if t x k)) (still-among at i from to ia.0 apart)))
    where
      sender : IsNode nodes (i + 1)
      sender = (omega arith, omega (arith, low))

  pub heard-all : (i : ℕ) (initial frames : List Kept) → length frames ≡ length initial → nodes ≤ i → AreHeard nodes at x i initial frames → ChangeLinks nodes (IsHeard x at) initial frames
  heard-all i initial frames count far so = record {
    count = count;
    each = λ from to ia ib k was.
        subst (λ (o : Option Kept). IfSome o (IsHeard x at from to k)) (sym (so from to ia ib k was)) (ap (λ t. heard_if t x k) (all from to ia.0 ia.1));
  }
    where
      all : (from to : ℕ) → 1 ≤ from → from ≤ nodes → is_among_first at i from to ≡ (to == at)
      all from to low high = let there : nat_lt (from - 1) i ≡ true = grind (arith, nat_tests, low, high, far) in ap (λ t. (to == at) && t) there ∙ and-true (to == at)
