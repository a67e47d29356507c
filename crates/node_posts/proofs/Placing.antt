-- Where the ends of links stand.
use Rattle.std.proofs.Common.{◌≡◌, ◌≢◌, ℕ, ◌+◌, ◌<◌, ◌≤◌, Bool, true, false, refl, sym, ap, ◌∙◌, arith}
use Rattle.std.specs.Prelude.{◌-◌, nat_lt}
use Rattle.std.proofs.lemmas.Bool.Decides.{nat_tests}
use Rattle.uid_names.proofs.ListLemmas.{by_cases}
use Rattle.fault_handler.specs.Desks.{IsNode}
use Rattle.node_posts.specs.Ends.{other_if, other_at, place_if, place_of}

module _ (n : ℕ) where
  pub other-low : (at : ℕ) → at + 1 < n → other_at n at ≡ at + 1
  other-low at low = let e : nat_lt (at + 1) n ≡ true = grind (arith, nat_tests, low) in ap (λ (b : Bool). other_if b at) e

  pub other-high : (at : ℕ) → n ≤ at + 1 → other_at n at ≡ at + 2
  other-high at high = let e : nat_lt (at + 1) n ≡ false = grind (arith, nat_tests, high) in ap (λ (b : Bool). other_if b at) e

  pub place-low : (to : ℕ) → to < n → place_of n to ≡ to - 1
  place-low to low = let e : nat_lt to n ≡ true = grind (arith, nat_tests, low) in ap (λ (b : Bool). place_if b to) e

  pub place-high : (to : ℕ) → n ≤ to → place_of n to ≡ to - 2
  place-high to high = let e : nat_lt to n ≡ false = grind (arith, nat_tests, high) in ap (λ (b : Bool). place_if b to) e

  by-low : (C : Type 0) (a b : ℕ) → (a < b → C) → (b ≤ a → C) → C
  by-low C a b low high = by_cases (nat_lt a b) C (λ h. low (grind (arith, nat_tests, h))) (λ h. high (grind (arith, nat_tests, h)))

  -- the end at the place of a node is of the link to that node
  pub other-place : (to : ℕ) → 1 ≤ n → 1 ≤ to → to ≢ n → other_at n (place_of n to) ≡ to
  other-place to least some differs = by-low (other_at n (place_of n to) ≡ to) to n
      (λ low. let e = place-low to low in
      let f = other-low (place_of n to) (omega (arith, e, low, some)) in omega (arith, e, f, some))
      (λ high. let above : n < to = omega (arith, high, differs) in let e = place-high to high in
      let f = other-high (place_of n to) (omega (arith, e, above, least)) in omega (arith, e, f, above, least))

  pub other-away : (at : ℕ) → other_at n at ≢ n
  other-away at same = by-low ⊥ (at + 1) n
      (λ low. let e = other-low at low in absurd (omega (arith, e, low, same)))
      (λ high. let e = other-high at high in absurd (omega (arith, e, high, same)))

  -- no two ends are of the same
  pub other-apart : (a b : ℕ) → other_at n a ≡ other_at n b → a ≡ b
  other-apart a b same = by-low (a ≡ b) (a + 1) n
      (λ low. let e = other-low a low in by-low (a ≡ b) (b + 1) n
      (λ also. let f = other-low b also in omega (arith, e, f, same))
      (λ high. let f = other-high b high in absurd (omega (arith, e, f, same, low, high))))
      (λ high. let e = other-high a high in by-low (a ≡ b) (b + 1) n
      (λ low. let f = other-low b low in absurd (omega (arith, e, f, same, low, high)))
      (λ also. let f = other-high b also in omega (arith, e, f, same)))

  pub place-within : (nodes many to : ℕ) → many + 1 ≡ nodes → IsNode nodes n → IsNode nodes to → to ≢ n → place_of n to < many
  place-within nodes many to count node other differs =
      let a = node.0 in let b = node.1 in let c = other.0 in let d = other.1 in
      by-low (place_of n to < many) to n
      (λ low. let e = place-low to low in omega (arith, count, a, b, c, d, low, e))
      (λ high. let e = place-high to high in omega (arith, count, a, b, c, d, high, differs, e))

  pub other-node : (nodes many at : ℕ) → many + 1 ≡ nodes → IsNode nodes n → at < many → IsNode nodes (other_at n at)
  other-node nodes many at count node within =
      let b = node.1 in
      by-low (IsNode nodes (other_at n at)) (at + 1) n
      (λ low. let e = other-low at low in (omega (arith, e), omega (arith, e, count, within)))
      (λ high. let e = other-high at high in (omega (arith, e), omega (arith, e, count, within)))
