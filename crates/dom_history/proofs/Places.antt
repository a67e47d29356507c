-- Places are in one order.
use Rattle.std.proofs.Common.{◌≡◌, ◌≤◌, true, false, arith}
use Rattle.std.proofs.lemmas.Bool.Decides.{nat_tests}
use Rattle.uid_names.specs.declared.ids.Place.{Place}
use Rattle.dom_history.specs.Histories.{place_lt}

-- one before a second that is before a third is before the third
pub place_lt-trans : (x y z : Place) → place_lt x y ≡ true → place_lt y z ≡ true → place_lt x z ≡ true
place_lt-trans x y z e f = grind (arith, nat_tests, e, f)

-- no place is before itself, as a test
pub place_lt-irrefl : (x : Place) → place_lt x x ≡ false
place_lt-irrefl x = grind (arith, nat_tests)

-- and as a fact
pub place_lt-not_self : (x : Place) → place_lt x x ≡ true → ⊥
place_lt-not_self x e = grind (arith, nat_tests, e)

-- what is before another has no later tick
pub place_lt-tick : (x y : Place) → place_lt x y ≡ true → x.tick ≤ y.tick
place_lt-tick x y e = grind (arith, nat_tests, e)
