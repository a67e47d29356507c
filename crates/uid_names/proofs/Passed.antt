-- What passed tests say: each of two, an equality, its other direction, an order.
use Rattle.std.proofs.Common.{◌≡◌, ◌≤◌, ℕ, Bool, true, false, refl, arith}
use Rattle.std.specs.Prelude.{◌==◌, ◌&&◌, nat_le}
use Rattle.std.proofs.lemmas.Bool.Decides.{nat_tests}

-- the first of two tests
pub left-true : (a b : Bool) → (a && b) ≡ true → a ≡ true
left-true true b h = refl
left-true false b h = absurd (cc)

-- the second
pub right-true : (a b : Bool) → (a && b) ≡ true → b ≡ true
right-true true b h = h
right-true false b h = absurd (cc)

-- numbers that a test takes for one are one
pub equal : (a b : ℕ) → (a == b) ≡ true → a ≡ b
equal a b h = grind (arith, nat_tests, h)

-- a number is itself
pub eqb-itself : (n : ℕ) → (n == n) ≡ true
eqb-itself n = grind (arith, nat_tests)

-- an equality test reads either way
pub eqb-sym : (a b : ℕ) → (a == b) ≡ (b == a)
eqb-sym a b = grind (arith, nat_tests)

-- a test of an order passes where the order holds
pub le-passes : (m n : ℕ) → m ≤ n → nat_le m n ≡ true
le-passes m n h = grind (arith, nat_tests, h)
