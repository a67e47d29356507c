-- The last of the rows of a list of locks.
use Rattle.std.proofs.Common.{◌≡◌, ◌-◌, suc, cond, Some, None, List, [], ◌∷◌, length, refl, ap, ◌∙◌, sym, arith}
use Rattle.std.specs.List.{slice_get}
use Rattle.uid_names.specs.Names.{IsName}
use Rattle.uid_names.specs.declared.lock_row.LockRow.{LockRow}
use Rattle.dom_history.specs.Ranges.{IsProcName}
use Rattle.aegis_shell.specs.Asking.{last_row}
use Rattle.aegis_shell.specs.RangeTests.{is_row}
use Rattle.aegis_shell.proofs.RangeTests.{row_yes}

-- the place of the last one, behind the first
last_behind : (x y : LockRow) (rows : List LockRow) → slice_get (x ∷ y ∷ rows) (length (x ∷ y ∷ rows) - 1) ≡ slice_get (y ∷ rows) (length (y ∷ rows) - 1)
last_behind x y rows =
    let behind : length (x ∷ y ∷ rows) - 1 ≡ suc (length (y ∷ rows) - 1) = omega arith in
    ap (slice_get (x ∷ y ∷ rows)) behind

pub last_none : (rows : List LockRow) → None ≡ slice_get rows (length rows - 1) → None ≡ last_row rows
last_none [] e = refl
last_none (x ∷ []) e = cc
last_none (x ∷ y ∷ rows) e = last_none (y ∷ rows) (e ∙ last_behind x y rows)

pub last_some : (rows : List LockRow) (row : LockRow) → Some row ≡ slice_get rows (length rows - 1) → IsName row.uid → IsProcName row.proc → Some (row.uid, row.proc) ≡ last_row rows
last_some [] row e u p = cc
last_some (x ∷ []) row e u p =
    let same : row ≡ x = cc in
    sym (ap (λ b. cond b (Some (row.uid, row.proc)) None) (row_yes row u p)) ∙ ap (λ r. cond (is_row r) (Some (r.uid, r.proc)) None) same
last_some (x ∷ y ∷ rows) row e u p = last_some (y ∷ rows) row (e ∙ last_behind x y rows) u p
