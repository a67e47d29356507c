-- Where no event is enabled, none that may come to a node is.
use Rattle.std.proofs.Common.{◌≡◌, ℕ, zero, suc, ◌≤◌, Bool, true, false, cond, List, [], ◌∷◌, ◌++◌, map, inl, inr, refl, sym, ap, subst, ◌∙◌, arith}
use Rattle.std.specs.Prelude.{◌⊎◌, filter, flat_map}
use Rattle.std.proofs.lemmas.Bool.Decides.{nat_tests}
use Rattle.dom_history.specs.declared.event.What.{What}
use Rattle.dom_history.specs.declared.plan.FateRow.{FateRow}
use Rattle.dom_history.specs.Objects.{is_node}
use Rattle.node_runs.specs.Setups.{Setup}
use Rattle.node_runs.specs.Doings.{node_numbers}
use Rattle.node_runs.specs.Runs.{World}
use Rattle.world_runs.specs.Turns.{Act, coming_to, is_enabled, enabled_at, enabled_events}
use Rattle.world_runs.proofs.Among.{Among, among-left, among-right}

none-append : {A : Type 0} (xs ys : List A) → xs ++ ys ≡ [] → (xs ≡ []) × (ys ≡ [])
none-append [] ys e = (refl, e)
none-append (x ∷ xs) ys e = absurd (cc)

none-flat : {A B : Type 0} (f : A → List B) (x : A) (xs : List A) → Among x xs → flat_map f xs ≡ [] → f x ≡ []
none-flat f x [] is e = absurd is
none-flat f x (y ∷ ys) (inl same) e = ap f same ∙ (none-append (f y) (flat_map f ys) e).0
none-flat f x (y ∷ ys) (inr is) e = none-flat f x ys is (none-append (f y) (flat_map f ys) e).1

none-map : {A B : Type 0} (f : A → B) (xs : List A) → map f xs ≡ [] → xs ≡ []
none-map f [] e = refl
none-map f (x ∷ xs) e = absurd (cc)

none-cond : {A : Type 0} (b : Bool) (y : A) (xs : List A) → cond b (y ∷ xs) xs ≡ [] → (b ≡ false) × (xs ≡ [])
none-cond true y xs e = absurd (cc)
none-cond false y xs e = (refl, e)

none-filter : {A : Type 0} (p : A → Bool) (x : A) (xs : List A) → Among x xs → filter p xs ≡ [] → p x ≡ false
none-filter p x [] is e = absurd is
none-filter p x (y ∷ ys) (inl same) e = ap p same ∙ (none-cond (p y) y (filter p ys) e).0
none-filter p x (y ∷ ys) (inr is) e = none-filter p x ys is (none-cond (p y) y (filter p ys) e).1

cond-among : {A : Type 0} (b : Bool) (x y : A) (xs : List A) → (b ≡ true) × (x ≡ y) ⊎ Among x xs → Among x (cond b (y ∷ xs) xs)
cond-among true x y xs (inl is) = inl is.1
cond-among true x y xs (inr is) = inr is
cond-among false x y xs (inl is) = absurd (let e = is.0 in cc)
cond-among false x y xs (inr is) = is

pub filter-among : {A : Type 0} (p : A → Bool) (x : A) (xs : List A) → p x ≡ true → Among x xs → Among x (filter p xs)
filter-among p x [] passes is = is
filter-among p x (y ∷ ys) passes (inl same) = cond-among (p y) x y (filter p ys) (inl (ap p (sym same) ∙ passes, same))
filter-among p x (y ∷ ys) passes (inr is) = cond-among (p y) x y (filter p ys) (inr (filter-among p x ys passes is))

pub flat-among : {A B : Type 0} (f : A → List B) (x : A) (y : B) (xs : List A) → Among x xs → Among y (f x) → Among y (flat_map f xs)
flat-among f x y [] is here = absurd is
flat-among f x y (z ∷ zs) (inl same) here = among-left y (f z) (flat_map f zs) (subst (λ a. Among y (f a)) same here)
flat-among f x y (z ∷ zs) (inr is) here = among-right y (f z) (flat_map f zs) (flat-among f x y zs is here)

-- the numbers that a node can have
pub number-among : (a : ℕ) → 1 ≤ a → a ≤ 8 → Among a node_numbers
number-among zero low high = absurd (let h : 1 ≤ 0 = low in omega (arith, h))
number-among (suc zero) low high = inl refl
number-among (suc (suc zero)) low high = inr (inl refl)
number-among (suc (suc (suc zero))) low high = inr (inr (inl refl))
number-among (suc (suc (suc (suc zero)))) low high = inr (inr (inr (inl refl)))
number-among (suc (suc (suc (suc (suc zero))))) low high = inr (inr (inr (inr (inl refl))))
number-among (suc (suc (suc (suc (suc (suc zero)))))) low high = inr (inr (inr (inr (inr (inl refl)))))
number-among (suc (suc (suc (suc (suc (suc (suc zero))))))) low high = inr (inr (inr (inr (inr (inr (inl refl))))))
number-among (suc (suc (suc (suc (suc (suc (suc (suc zero)))))))) low high = inr (inr (inr (inr (inr (inr (inr (inl refl)))))))
number-among (suc (suc (suc (suc (suc (suc (suc (suc (suc a))))))))) low high = absurd (let h : suc (suc (suc (suc (suc (suc (suc (suc (suc a)))))))) ≤ 8 = high in omega (arith, h))

pub node-among : (s : Setup) → s.opening.nodes ≤ 8 → (n : ℕ) → is_node s.opening n ≡ true → Among n node_numbers
node-among s few n node =
    let low : 1 ≤ n = grind (arith, nat_tests, node) in
    let high : n ≤ s.opening.nodes = grind (arith, nat_tests, node) in
    number-among n low (omega (arith, high, few))

pub not-enabled : (s : Setup) → s.opening.nodes ≤ 8 → (plan : List FateRow) (w : World) → enabled_events s plan w ≡ [] → (n : ℕ) → is_node s.opening n ≡ true → (what : What) → Among what (coming_to plan w n) → is_enabled s w n what ≡ false
not-enabled s few plan w none n node what is =
    let at = none-flat (enabled_at s plan w) n (filter (is_node s.opening) node_numbers) (filter-among (is_node s.opening) n node_numbers node (node-among s few n node)) none in
    none-filter (is_enabled s w n) what (coming_to plan w n) is
    (none-map (λ (x : What). let a : Act = record { node = n; what = x } in a) (filter (is_enabled s w n) (coming_to plan w n)) at)
