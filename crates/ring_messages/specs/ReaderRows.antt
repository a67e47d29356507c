-- The reader's rows of locks, one after the other.
-- It decides nothing: which bytes are a frame stands in Spelled, and what a frame's bytes are in Spelling.
use Rattle.std.specs.Prelude.{ℕ, zero, suc, Bool, true, ◌&&◌, List, [], ◌∷◌, ◌++◌, Option, Some}
use Rattle.uid_names.specs.Rows.{row_lt}
use Rattle.uid_names.specs.declared.lock_row.LockRow.{LockRow}
use Rattle.uid_names.specs.Modes.{mode_of_code}
use Rattle.uid_names.specs.Steps.{◌>>=◌}
use Rattle.ring_messages.specs.ReaderSteps.{◌then◌, meaning}
use Rattle.ring_messages.specs.ReaderFields.{byte_at, be64_at, uid_of, proc_of}

-- a row, from its four numbers
unfoldable pub row_of : ℕ → ℕ → ℕ → ℕ → Option LockRow
row_of n node number code = do
  u ← uid_of n
  p ← proc_of node number
  m ← mode_of_code code
  Some (record { uid = u; proc = p; mode = m })

abbrev pub row_at : List ℕ → Option (LockRow × List ℕ)
row_at bytes = (be64_at then byte_at then byte_at then byte_at) bytes >>= meaning (λ x. row_of x.0 x.1.0 x.1.1.0 x.1.1.1)

-- so many rows
unfoldable pub rows_at : ℕ → List ℕ → Option (List LockRow × List ℕ)
rows_at zero bytes = Some ([], bytes)
rows_at (suc n) bytes = do
  row ← row_at bytes
  others ← rows_at n row.1
  Some (row.0 ∷ others.0, others.1)

-- the rows with one more behind them, and the bytes behind it
abbrev pub pushed : List LockRow → Option (LockRow × List ℕ) → Option (List LockRow × List ℕ)
pushed rows read = do
  row ← read
  Some (rows ++ row.0 ∷ [], row.1)

-- each row stands before the next
abbrev pub is_rising_from : LockRow → List LockRow → Bool
is_rising_from first [] = true
is_rising_from first (row ∷ rows) = row_lt first row && is_rising_from row rows

abbrev pub is_rising : List LockRow → Bool
is_rising [] = true
is_rising (row ∷ rows) = is_rising_from row rows
