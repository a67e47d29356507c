-- The rows of a list are in their ranges.
use Rattle.std.proofs.Common.{◌≡◌, ℕ, ◌<◌, List, length, take, arith, min}
use Rattle.std.specs.Prelude.{AllPairs, IsTrue, Option}
use Rattle.std.proofs.lemmas.List.{length-take, length-map, get_or-map, get_or-take}
use Rattle.std.proofs.lemmas.List.Kept.{AllPairs-filter}
use Rattle.uid_names.specs.Names.{ProcName, ObjectName}
use Rattle.uid_names.specs.Rows.{row_lt, is_after, rows_after}
use Rattle.uid_names.specs.declared.lock_row.LockRow.{LockRow}
use Rattle.lock_manager.specs.declared.grants.Grant.{Grant}
use Rattle.uid_names.specs.declared.limits.TheConstants.{LISTED_ROWS}
use Rattle.lock_manager.specs.Grants.{AreGrantsRising, rows_of}
use Rattle.ring_messages.specs.Ranges.{AreListed}

-- each row stands before the later ones
abbrev Rising : List LockRow → Type 0
Rising = AllPairs (λ a b. IsTrue (row_lt a b))

abbrev row_in : Grant → LockRow
row_in g = g.row

Rising-rows_of : (grants : List Grant) → AreGrantsRising grants → Rising (rows_of grants)
Rising-rows_of grants rising i j d under below =
    let e : Grant = record { row = d; number = 0 } in
    let within : j < length grants = omega (arith, length-map grants row_in) in
    let before : i < length grants = omega arith in
    rw (get_or-map row_in grants i e d before, get_or-map row_in grants j e d within) (rising i j e under within)

Rising-rows_after : (after : Option (ObjectName × ProcName)) (rows : List LockRow) → Rising rows → Rising (rows_after after rows)
Rising-rows_after after rows rising = AllPairs-filter (λ a b. IsTrue (row_lt a b)) (is_after after) rows rising

Rising-take : (n : ℕ) (rows : List LockRow) → Rising rows → Rising (take n rows)
Rising-take n rows rising i j d under below =
    let counted : length (take n rows) ≡ min n (length rows) = length-take n rows in
    let short : j < n = omega arith in
    let within : j < length rows = omega arith in
    let before : i < n = omega arith in
    rw (get_or-take n rows i d before, get_or-take n rows j d short) (rising i j d under within)

-- the first rows behind one may be sent
pub listed : (after : Option (ObjectName × ProcName)) (grants : List Grant) → AreGrantsRising grants → AreListed (take LISTED_ROWS (rows_after after (rows_of grants)))
listed after grants rising =
    (omega (arith, length-take LISTED_ROWS (rows_after after (rows_of grants))), Rising-take LISTED_ROWS _ (Rising-rows_after after _ (Rising-rows_of grants rising)))
