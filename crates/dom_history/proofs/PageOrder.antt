-- Pages rise where each is below the next.
use Rattle.std.proofs.Common.{◌≡◌, ◌<◌, ◌≤◌, ◌+◌, ◌-◌, ℕ, true, List, length, get_or, zero, suc, arith, inl, inr, ◌⊎◌, sym, ◌∙◌, false}
use Rattle.std.specs.Prelude.{◌&&◌, nat_lt}
use Rattle.std.proofs.lemmas.Bool.Decides.{nat_tests}
use Rattle.std.proofs.lemmas.List.{get_or_default}
use Rattle.uid_names.specs.Names.{ObjectName, uid_lt, same_uid}
use Rattle.dom_history.specs.Events.{page_lt, ArePagesRising}
use Rattle.uid_names.proofs.Orders.{first_or_second, by_first, by_second, uid_lt-trans, uid_lt-same, same-uid_lt, same_uid-trans}

-- pages are in one order, by their objects and numbers
trans_by : (a b c : ObjectName × ℕ) → (uid_lt a.0 b.0 ≡ true) ⊎ ((same_uid a.0 b.0 ≡ true) × (nat_lt a.1 b.1 ≡ true)) → (uid_lt b.0 c.0 ≡ true) ⊎ ((same_uid b.0 c.0 ≡ true) × (nat_lt b.1 c.1 ≡ true)) → page_lt a c ≡ true
trans_by a b c (inl e) (inl f) = by_first (uid_lt a.0 c.0) (same_uid a.0 c.0 && nat_lt a.1 c.1) (uid_lt-trans a.0 b.0 c.0 e f)
trans_by a b c (inl e) (inr f) = by_first (uid_lt a.0 c.0) (same_uid a.0 c.0 && nat_lt a.1 c.1) (uid_lt-same a.0 b.0 c.0 e f.0)
trans_by a b c (inr e) (inl f) = by_first (uid_lt a.0 c.0) (same_uid a.0 c.0 && nat_lt a.1 c.1) (same-uid_lt a.0 b.0 c.0 e.0 f)
trans_by a b c (inr e) (inr f) =
    let numbers : nat_lt a.1 c.1 ≡ true = grind (arith, nat_tests, e.1, f.1) in
    by_second (uid_lt a.0 c.0) (same_uid a.0 c.0) (nat_lt a.1 c.1) (same_uid-trans a.0 b.0 c.0 e.0 f.0) numbers

page_lt-trans : (a b c : ObjectName × ℕ) → page_lt a b ≡ true → page_lt b c ≡ true → page_lt a c ≡ true
page_lt-trans a b c e f =
    trans_by a b c
    (first_or_second (uid_lt a.0 b.0) (same_uid a.0 b.0) (nat_lt a.1 b.1) e)
    (first_or_second (uid_lt b.0 c.0) (same_uid b.0 c.0) (nat_lt b.1 c.1) f)

-- an element is below each later one
below-later : (pages : List (ObjectName × ℕ)) → ((k : ℕ) (d : ObjectName × ℕ) → k + 1 < length pages → page_lt (get_or pages k d) (get_or pages (k + 1) d) ≡ true)
    → (i n : ℕ) (d : ObjectName × ℕ) → i + n + 1 < length pages → page_lt (get_or pages i d) (get_or pages (i + n + 1) d) ≡ true
below-later pages next i zero d below = let e : i + 0 + 1 ≡ i + 1 = omega arith in rw e (next i d (omega arith))
below-later pages next i (suc n) d below =
    let e : i + suc n + 1 ≡ i + n + 1 + 1 = omega arith in
    rw e (page_lt-trans (get_or pages i d) (get_or pages (i + n + 1) d) (get_or pages (i + n + 1 + 1) d) (below-later pages next i n d (omega arith)) (next (i + n + 1) d (omega arith)))

-- pages rise where each is below the next
pub rising-from_adjacent : (pages : List (ObjectName × ℕ)) (n : ℕ) → length pages ≤ n → ((k : ℕ) (d : ObjectName × ℕ) → k + 1 < n → page_lt (get_or pages k d) (get_or pages (k + 1) d) ≡ true) → ArePagesRising pages
rising-from_adjacent pages n all h i j d under below =
    let e : j ≡ i + (j - i - 1) + 1 = omega arith in
    rw e (below-later pages (λ k q b. h k q (omega arith)) i (j - i - 1) d (omega arith))

-- pages do not rise where one is not below the next
pub not_rising : (pages : List (ObjectName × ℕ)) (i : ℕ) (a b : ObjectName × ℕ) → 1 ≤ i → i < length pages → a ≡ get_or pages (i - 1) a → b ≡ get_or pages i b → page_lt a b ≡ false → ArePagesRising pages → ⊥
not_rising pages i a b some below first second fails rise =
    let h : page_lt (get_or pages (i - 1) a) (get_or pages i a) ≡ true = rise (i - 1) i a (omega arith) below in
    let same : get_or pages i a ≡ b = get_or_default pages i a b below ∙ sym second in
    let passes : page_lt a b ≡ true = rw (← first, same) at h in
    absurd cc
