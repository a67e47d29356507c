-- Rows that rise from one to the next rise from each to all later ones.
use Rattle.std.proofs.Common.{◌≡◌, ℕ, zero, suc, ◌+◌, ◌-◌, ◌<◌, ◌≤◌, true, false, List, [], ◌∷◌, length, get_or, drop, refl, ◌∙◌, arith}
use Rattle.std.specs.Prelude.{◌&&◌, All, IsTrue}
use Rattle.std.proofs.lemmas.List.Elements.{All-cons, All-nil, All-head}
use Rattle.std.proofs.lemmas.List.Kept.{AllPairs-cons}
use Rattle.uid_names.specs.InOrder.{AreInOrder}
use Rattle.uid_names.proofs.InOrder.{AllPairs-head, AllPairs-tail, AllPairs-nil}
use Rattle.uid_names.proofs.Orders.{row_lt-trans}
use Rattle.std.proofs.lemmas.List.{length-drop}
use Rattle.std.proofs.lemmas.Bool.{and_parts}
use Rattle.uid_names.specs.declared.lock_row.LockRow.{LockRow}
use Rattle.uid_names.specs.Rows.{row_lt}
use Rattle.ring_messages.specs.ReaderRows.{is_rising, is_rising_from}

-- the first row of some, and the rows from the next one on
rising-drop : (rows : List LockRow) (j : ℕ) (a b : LockRow) → suc j < length rows → a ≡ get_or rows j a → b ≡ get_or rows (suc j) b → is_rising (drop j rows) ≡ (row_lt a b && is_rising (drop (suc j) rows))
rising-drop [] j a b lt at_j at_next = absurd (omega arith)
rising-drop (x ∷ []) j a b lt at_j at_next = absurd (omega arith)
rising-drop (x ∷ y ∷ rows) zero a b lt at_j at_next = rw (at_j, at_next) refl
rising-drop (x ∷ y ∷ rows) (suc j) a b lt at_j at_next = rising-drop (y ∷ rows) j a b (omega arith) at_j at_next

-- up to one more row nothing falls
pub rises_on : (rows : List LockRow) (i : ℕ) (a b : LockRow) → 1 ≤ i → i < length rows → a ≡ get_or rows (i - 1) a → b ≡ get_or rows i b → row_lt a b ≡ true → is_rising rows ≡ is_rising (drop (i - 1) rows) → is_rising rows ≡ is_rising (drop (i + 1 - 1) rows)
rises_on rows i a b low lt at_last at_i first so_far =
    let next : suc (i - 1) ≡ i = omega arith in
    let back : i + 1 - 1 ≡ i = omega arith in
    let at_next : b ≡ get_or rows (suc (i - 1)) b = rw next at_i in
    so_far ∙ rising-drop rows (i - 1) a b (omega arith) at_last at_next ∙ rw (next, back, first) refl

-- a row that falls
pub falls : (rows : List LockRow) (i : ℕ) (a b : LockRow) → 1 ≤ i → i < length rows → a ≡ get_or rows (i - 1) a → b ≡ get_or rows i b → row_lt a b ≡ false → is_rising rows ≡ is_rising (drop (i - 1) rows) → is_rising rows ≡ false
falls rows i a b low lt at_last at_i first so_far =
    let next : suc (i - 1) ≡ i = omega arith in
    let at_next : b ≡ get_or rows (suc (i - 1)) b = rw next at_i in
    so_far ∙ rising-drop rows (i - 1) a b (omega arith) at_last at_next ∙ rw first refl

-- one row, or none, rises
few-rise : (rows : List LockRow) → length rows ≤ 1 → is_rising rows ≡ true
few-rise [] few = refl
few-rise (a ∷ []) few = refl
few-rise (a ∷ b ∷ rows) few = absurd (omega arith)

pub rise_all : (rows : List LockRow) (i : ℕ) → 1 ≤ i → length rows ≤ i → is_rising rows ≡ is_rising (drop (i - 1) rows) → is_rising rows ≡ true
rise_all rows i low all so_far = so_far ∙ few-rise (drop (i - 1) rows) (omega (arith, length-drop (i - 1) rows))

-- rows that rise from one to the next rise to all later ones
rising_from-all : (first : LockRow) (rows : List LockRow) → is_rising_from first rows ≡ true → All (λ row. row_lt first row ≡ true) rows × AreInOrder row_lt rows
rising_from-all first [] e = (All-nil (λ row. row_lt first row ≡ true), AllPairs-nil (λ a b. IsTrue (row_lt a b)))
rising_from-all first (row ∷ rows) e =
    let both = and_parts (row_lt first row) (is_rising_from row rows) e in
    let later = rising_from-all row rows both.1 in (
      All-cons (λ r. row_lt first r ≡ true) row rows both.0 (λ k d below. row_lt-trans first row (get_or rows k d) both.0 (later.0 k d below)),
      AllPairs-cons (λ a b. IsTrue (row_lt a b)) row rows later.0 later.1,
    )

pub rising-in_order : (rows : List LockRow) → is_rising rows ≡ true → AreInOrder row_lt rows
rising-in_order [] e = AllPairs-nil (λ a b. IsTrue (row_lt a b))
rising-in_order (row ∷ rows) e =
    let later = rising_from-all row rows e in
    AllPairs-cons (λ a b. IsTrue (row_lt a b)) row rows later.0 later.1

in_order-rising_from : (first : LockRow) (rows : List LockRow) → AreInOrder row_lt (first ∷ rows) → is_rising_from first rows ≡ true
in_order-rising_from first [] rise = refl
in_order-rising_from first (row ∷ rows) rise =
    let lt : row_lt first row ≡ true = All-head (λ r. row_lt first r ≡ true) row rows (AllPairs-head (λ a b. IsTrue (row_lt a b)) first (row ∷ rows) rise) in
    rw lt (in_order-rising_from row rows (AllPairs-tail (λ a b. IsTrue (row_lt a b)) first (row ∷ rows) rise))

pub in_order-rising : (rows : List LockRow) → AreInOrder row_lt rows → is_rising rows ≡ true
in_order-rising [] rise = refl
in_order-rising (row ∷ rows) rise = in_order-rising_from row rows rise
