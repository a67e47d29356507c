-- Each link has a place of its own.
use Rattle.std.proofs.Common.{◌≡◌, ℕ, zero, suc, ◌+◌, ◌-◌, ◌*◌, ◌/◌, ◌%◌, ◌<◌, true, false, Option, Some, None, List, [], ◌∷◌, length, refl, sym, ap, subst, ◌∙◌, arith}
use Rattle.std.specs.Prelude.{◌==◌, ◌&&◌, slice_get, slice_index_or, slice_set, All, IfSome}
use Rattle.std.proofs.Math.Nat.{suc-mul}
use Rattle.std.proofs.lemmas.Bool.Decides.{nat_tests}
use Rattle.std.proofs.lemmas.Option.{slice_get_read}
use Rattle.std.proofs.lemmas.Nat.{div-mul-add, mod-mul-add}
use Rattle.uid_names.proofs.ListLemmas.{set-there, set-else}
use Rattle.fault_handler.specs.Desks.{IsNode}
use Rattle.journal_check.specs.Links.{link_place, at_link}

-- what holds of all items holds of one
pub all-get : {A : Type 0} (P : A → Type 0) (xs : List A) (k : ℕ) → All P xs → IfSome (slice_get xs k) P
all-get P [] k all = tt
all-get P (x ∷ xs) zero all = all 0 x (omega arith)
all-get P (x ∷ xs) (suc k) all = all-get P xs k (λ i d low. all (suc i) d (omega (arith, low)))

-- the item at a place that was read
pub read-at : {A : Type 0} (xs : List A) (i k : ℕ) (x : A) → i < length xs → x ≡ slice_index_or xs i x → i ≡ k → slice_get xs k ≡ Some x
read-at xs i k x low is same = ap (slice_get xs) (sym same) ∙ slice_get_read xs (length xs) i x refl low is

pub some-more : {A : Type 0} (P Q : A → Type 0) (o : Option A) → ((x : A) → P x → Q x) → IfSome o P → IfSome o Q
some-more P Q None more holds = tt
some-more P Q (Some x) more holds = more x holds

-- a row of rows
row-within : (n i j : ℕ) → i < n → j < n → i * n + j < n * n
row-within n i j low small = by (n - suc i) n refl
  where
    more : (k m : ℕ) → suc i + k ≡ m → i * n + j < m * n
    more zero m is = let e = suc-mul i n in subst (λ r. i * n + j < r * n) is (let same : suc i + zero ≡ suc i = omega arith in subst (λ r. i * n + j < r * n) (sym same) (omega (arith, e, small)))
    more (suc k) m is =
        let before = more k (suc i + k) refl in
        let e = suc-mul (suc i + k) n in
        let same : suc i + suc k ≡ suc (suc i + k) = omega arith in
        subst (λ r. i * n + j < r * n) (sym same ∙ is) (omega (arith, e, before))

    by : (k m : ℕ) → n - suc i ≡ k → i * n + j < n * n
    by k m is = more k n (omega (arith, low, is))

pub link-within : (nodes from to : ℕ) → IsNode nodes from → IsNode nodes to → link_place nodes from to < nodes * nodes
link-within nodes from to a b =
    let a0 = a.0 in let a1 = a.1 in let b0 = b.0 in let b1 = b.1 in
    row-within nodes (from - 1) (to - 1) (omega (arith, a0, a1)) (omega (arith, b0, b1))

-- two links at one place are one
pub one-link : (nodes a b c d : ℕ) → IsNode nodes a → IsNode nodes b → IsNode nodes c → IsNode nodes d → link_place nodes a b ≡ link_place nodes c d → (a ≡ c) × (b ≡ d)
one-link nodes a b c d ia ib ic id same =
    let a0 = ia.0 in let b0 = ib.0 in let b1 = ib.1 in let c0 = ic.0 in let d0 = id.0 in let d1 = id.1 in
    let bl : b - 1 < nodes = omega (arith, b0, b1) in
    let dl : d - 1 < nodes = omega (arith, d0, d1) in
    let rows : a - 1 ≡ c - 1 = sym (div-mul-add (a - 1) nodes (b - 1) bl) ∙ ap (λ k. k / nodes) same ∙ div-mul-add (c - 1) nodes (d - 1) dl in
    let columns : b - 1 ≡ d - 1 = sym (mod-mul-add (a - 1) nodes (b - 1) bl) ∙ ap (λ k. k % nodes) same ∙ mod-mul-add (c - 1) nodes (d - 1) dl in
    (omega (arith, rows, a0, c0), omega (arith, columns, b0, d0))

-- the test of a link, turned
pub turned : (a b c d : ℕ) → ((a == b) && (c == d)) ≡ ((b == a) && (d == c))
turned a b c d = let one : (a == b) ≡ (b == a) = grind (arith, nat_tests) in let two : (c == d) ≡ (d == c) = grind (arith, nat_tests) in ap (λ x. x && (c == d)) one ∙ ap (λ y. (b == a) && y) two

module _ {A : Type 0} (nodes from to : ℕ) (xs : List A) (y : A) (count : length xs ≡ nodes * nodes) (sender : IsNode nodes from) (receiver : IsNode nodes to) where
  -- what a link has once it is set, and what the others have
  pub at-set : at_link nodes from to (slice_set xs (link_place nodes from to) y) ≡ Some y
  at-set = let within = link-within nodes from to sender receiver in set-there xs (link_place nodes from to) y (omega (arith, within, count))

  pub at-other : (a b : ℕ) → IsNode nodes a → IsNode nodes b → ((a == from) && (b == to)) ≡ false → at_link nodes a b (slice_set xs (link_place nodes from to) y) ≡ at_link nodes a b xs
  at-other a b ia ib other =
      set-else xs (link_place nodes from to) (link_place nodes a b) y (λ same.
      let both = one-link nodes a b from to ia ib sender receiver same in
      let first = both.0 in let second = both.1 in
      let here : ((a == from) && (b == to)) ≡ true = grind (arith, nat_tests, first, second) in
      let clash : true ≡ false = sym here ∙ other in absurd (cc))
