-- The order of last uses, and what keeps it.
use Rattle.std.proofs.Common.{◌≡◌, Bool, true, false, cond, List, [], ◌∷◌, refl, sym, ap, subst, ◌∙◌, arith}
use Rattle.std.specs.Prelude.{◌==◌, not, ◌&&◌, ◌||◌, filter}
use Rattle.std.proofs.lemmas.Bool.Decides.{nat_tests}
use Rattle.uid_names.specs.Names.{same_uid}
use Rattle.uid_names.proofs.ListLemmas.{by_cases}
use Rattle.uid_names.proofs.Orders.{same_uid_is}
use Rattle.uid_names.proofs.Passed.{left-true, right-true, equal}
use Rattle.recent_runs.specs.Uses.{PageName, same_page, is_used_before}
use Rattle.recent_runs.specs.CacheOrders.{AreUsedBefore, AreByUse}

pub same_page-self : (x : PageName) → same_page x x ≡ true
same_page-self x = grind (arith, nat_tests)

pub same_page-is : (x y : PageName) → same_page x y ≡ true → x ≡ y
same_page-is x y h = let u : x.0 ≡ y.0 = same_uid_is x.0 y.0 (left-true (same_uid x.0 y.0) (x.1 == y.1) h) in let k : x.1 ≡ y.1 = equal x.1 y.1 (right-true (same_uid x.0 y.0) (x.1 == y.1) h) in λ i. (u i, k i)

-- all but one page
abbrev pub apart : PageName → PageName → Bool
apart z y = not (same_page y z)

module _ (used : List PageName) where
  -- fewer pages stand as they did
  before-fewer : (test : PageName → Bool) (x : PageName) (ys : List PageName) → AreUsedBefore used x ys → AreUsedBefore used x (filter test ys)
  before-fewer test x [] are = tt
  before-fewer test x (y ∷ ys) are = by (test y) (before-fewer test x ys are.1)
    where
      by : (b : Bool) → AreUsedBefore used x (filter test ys) → AreUsedBefore used x (cond b (y ∷ filter test ys) (filter test ys))
      by true rest = (are.0, rest)
      by false rest = rest

  pub fewer : (test : PageName → Bool) (xs : List PageName) → AreByUse used xs → AreByUse used (filter test xs)
  fewer test [] are = tt
  fewer test (x ∷ xs) are = by (test x) (fewer test xs are.1)
    where
      by : (b : Bool) → AreByUse used (filter test xs) → AreByUse used (cond b (x ∷ filter test xs) (filter test xs))
      by true rest = (before-fewer test x xs are.0, rest)
      by false rest = rest

  module _ (z : PageName) where
    -- the page used last is younger than each other
    front : (ys : List PageName) → AreUsedBefore (z ∷ used) z ys
    front [] = tt
    front (y ∷ ys) = (ap (λ b. b || (not (same_page y z) && is_used_before used y z)) (same_page-self z), front ys)

    still : (x y : PageName) → same_page y z ≡ false → is_used_before used y x ≡ true → is_used_before (z ∷ used) y x ≡ true
    still x y differs is = by (same_page x z)
      where
        by : (b : Bool) → (b || (not (same_page y z) && is_used_before used y x)) ≡ true
        by true = refl
        by false = ap (λ b. not b && is_used_before used y x) differs ∙ is

    before-still : (x : PageName) (ys : List PageName) → AreUsedBefore used x ys → AreUsedBefore (z ∷ used) x (filter (apart z) ys)
    before-still x [] are = tt
    before-still x (y ∷ ys) are = by_cases (same_page y z) (AreUsedBefore (z ∷ used) x (filter (apart z) (y ∷ ys)))
        (λ h. subst (λ b. AreUsedBefore (z ∷ used) x (cond (not b) (y ∷ filter (apart z) ys) (filter (apart z) ys))) (sym h) (before-still x ys are.1))
        (λ h. subst (λ b. AreUsedBefore (z ∷ used) x (cond (not b) (y ∷ filter (apart z) ys) (filter (apart z) ys))) (sym h) (still x y h are.0, before-still x ys are.1))

    others-still : (xs : List PageName) → AreByUse used xs → AreByUse (z ∷ used) (filter (apart z) xs)
    others-still [] are = tt
    others-still (x ∷ xs) are = by (apart z x) (others-still xs are.1)
      where
        by : (b : Bool) → AreByUse (z ∷ used) (filter (apart z) xs) → AreByUse (z ∷ used) (cond b (x ∷ filter (apart z) xs) (filter (apart z) xs))
        by true rest = (before-still x xs are.0, rest)
        by false rest = rest

    -- so the page comes to the front by its use
    pub to-front : (xs : List PageName) → AreByUse used xs → AreByUse (z ∷ used) (z ∷ filter (apart z) xs)
    to-front xs are = (front (filter (apart z) xs), others-still xs are)

-- of two pages only one can be the older
pub one-before : (used : List PageName) (x y : PageName) → is_used_before used x y ≡ true → is_used_before used y x ≡ true → x ≡ y
one-before [] x y a b = absurd (cc)
one-before (z ∷ used) x y a b = by (same_page x z) (same_page y z) refl refl a b (one-before used x y)
  where
    by : (f g : Bool) → same_page x z ≡ f → same_page y z ≡ g → (g || (not f && is_used_before used x y)) ≡ true → (f || (not g && is_used_before used y x)) ≡ true
        → (is_used_before used x y ≡ true → is_used_before used y x ≡ true → x ≡ y) → x ≡ y
    by true true xz yz a b rest = same_page-is x z xz ∙ sym (same_page-is y z yz)
    by true false xz yz a b rest = absurd (cc)
    by false true xz yz a b rest = absurd (cc)
    by false false xz yz a b rest = rest a b
