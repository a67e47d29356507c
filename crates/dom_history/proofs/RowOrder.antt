-- The rows of a home stand in order, and are of its objects.
use Rattle.std.proofs.Common.{◌≡◌, Bool, true, false, ℕ, List, [], ◌∷◌, refl, arith}
use Rattle.std.specs.Prelude.{All, IsTrue, not, ◌==◌, if◌then◌else◌}
use Rattle.std.proofs.lemmas.Bool.Decides.{nat_tests}
use Rattle.std.proofs.lemmas.List.Elements.{All-nil, All-filter}
use Rattle.std.proofs.lemmas.List.Kept.{AllPairs-filter}
use Rattle.uid_names.specs.Names.{ProcName, ObjectName}
use Rattle.uid_names.specs.InOrder.{AreInOrder}
use Rattle.uid_names.specs.Rows.{row_lt, same_row}
use Rattle.uid_names.specs.declared.lock_row.LockRow.{LockRow}
use Rattle.uid_names.specs.declared.mode.Mode.{Mode}
use Rattle.uid_names.proofs.InOrder.{AllPairs-nil, chosen, put_in_order-all, replaced-rising}
use Rattle.uid_names.proofs.Orders.{row_lt-trans, row_lt-total}
use Rattle.dom_history.specs.StoreEffects.{StoreEffect, TakesLock, FreesLock, Deletes}
use Rattle.dom_history.specs.Locks.{rows_without, rows_with, rows}

-- rows stay in order when one is taken out
pub without_rise : (p : ProcName) (u : ObjectName) (rs : List LockRow) → AreInOrder row_lt rs → AreInOrder row_lt (rows_without p u rs)
without_rise p u rs rise = AllPairs-filter (λ a b. IsTrue (row_lt a b)) (λ r. not (same_row p u r)) rs rise

-- and when one is put in its place
pub set_rise : (new : LockRow) (rs : List LockRow) → AreInOrder row_lt rs → AreInOrder row_lt (rows_with new (rows_without new.proc new.uid rs))
set_rise new = replaced-rising row_lt row_lt-trans (same_row new.proc new.uid) new (λ row apart above. row_lt-total new row above apart)

-- the rows of a home stand in order
pub rows-rise : (home : ℕ) (past : List StoreEffect) → AreInOrder row_lt (rows home past)
rows-rise home [] = AllPairs-nil (λ a b. IsTrue (row_lt a b))
rows-rise home (TakesLock p u m ∷ past) = chosen (AreInOrder row_lt) (u.home == home) (set_rise (record { uid = u; proc = p; mode = m }) (rows home past) (rows-rise home past)) (rows-rise home past)
rows-rise home (FreesLock p u ∷ past) = chosen (AreInOrder row_lt) (u.home == home) (without_rise p u (rows home past) (rows-rise home past)) (rows-rise home past)
rows-rise home (Deletes p u ∷ past) = chosen (AreInOrder row_lt) (u.home == home) (without_rise p u (rows home past) (rows-rise home past)) (rows-rise home past)
rows-rise home (_ ∷ past) = rows-rise home past

-- the rows are of objects of the home
locked_at_home : (home : ℕ) (p : ProcName) (u : ObjectName) (m : Mode) (rs : List LockRow) (b : Bool) → (u.home == home) ≡ b → All (λ r. r.uid.home ≡ home) rs → All (λ r. r.uid.home ≡ home) (if b then rows_with (record { uid = u; proc = p; mode = m }) (rows_without p u rs) else rs)
locked_at_home home p u m rs true e others = put_in_order-all row_lt (λ r. r.uid.home ≡ home) _ (rows_without p u rs) (grind (arith, nat_tests, e)) (All-filter (λ r. not (same_row p u r)) (λ r. r.uid.home ≡ home) rs others)
locked_at_home home p u m rs false e others = others

-- and are of its objects
pub rows-at_home : (home : ℕ) (past : List StoreEffect) → All (λ r. r.uid.home ≡ home) (rows home past)
rows-at_home home [] = All-nil (λ r. r.uid.home ≡ home)
rows-at_home home (TakesLock p u m ∷ past) = locked_at_home home p u m (rows home past) (u.home == home) refl (rows-at_home home past)
rows-at_home home (FreesLock p u ∷ past) = chosen (All (λ r. r.uid.home ≡ home)) (u.home == home) (All-filter (λ r. not (same_row p u r)) (λ r. r.uid.home ≡ home) (rows home past) (rows-at_home home past)) (rows-at_home home past)
rows-at_home home (Deletes p u ∷ past) = chosen (All (λ r. r.uid.home ≡ home)) (u.home == home) (All-filter (λ r. not (same_row p u r)) (λ r. r.uid.home ≡ home) (rows home past) (rows-at_home home past)) (rows-at_home home past)
rows-at_home home (_ ∷ past) = rows-at_home home past
