-- The locks that the plain store keeps, for its private code alone (see Kept).
use Rattle.std.specs.Prelude.{ℕ, ◌≡◌, ◌==◌, ◌<◌, if◌then◌else◌, Option, Some, None, Bool, nat_lt, length, take, List, ◌++◌, filter, map, vec_len, vec_capacity}
use Rattle.uid_names.specs.Names.{ProcName, same_proc}
use Rattle.uid_names.specs.InOrder.{AreInOrder}
use Rattle.uid_names.specs.Rows.{row_lt}
use Rattle.uid_names.specs.declared.lock_row.LockRow.{LockRow}
use Rattle.uid_names.specs.declared.mode.Mode.{Mode}
use Rattle.uid_names.specs.declared.limits.TheConstants.{LISTED_ROWS}
use Rattle.plain_store.specs.declared.locks.Change.{Change}
use Rattle.plain_store.specs.declared.locks.Change.TheVariants.{Taken, Freed, Same}
use Rattle.plain_store.specs.declared.locks.LockTable.{LockTable}
use Rattle.dom_history.specs.declared.deed.Deed.{Deed}
use Rattle.dom_history.specs.declared.deed.LockLine.{LockLine}
use Rattle.dom_history.specs.declared.deed.LockState.{LockState}
use Rattle.dom_history.specs.declared.deed.LockState.TheVariants.{Free, Held}
use Rattle.dom_history.specs.StoreEffects.{StoreEffect, store_effect, store_effects, own}
use Rattle.dom_history.specs.Locks.{not_free, rows, rows_with, rows_without, lines_with, lines_without, lines_after}

-- a lock that is held, as its process knows it
abbrev pub line_of : LockRow → LockLine
line_of row = record { uid = row.uid; state = Held row.mode }

-- the locks of a process
abbrev pub lines_of : ProcName → List LockRow → List LockLine
lines_of p held = map line_of (filter (λ row. same_proc p row.proc) held)

-- the rows of a home
abbrev pub rows_of : ℕ → List LockRow → List LockRow
rows_of home rows = filter (λ row. row.uid.home == home) rows

-- the state on an object that is held in a mode, or not at all
abbrev pub held_state : Option Mode → LockState
held_state None = Free
held_state (Some m) = Held m

-- the locks in the order in which they were taken, and in the order of the rows of a home
pub record HoldLocks (kept : LockTable) (deeds : List Deed) : Type 0 where
  pub held : (p : ProcName) → lines_of p kept.held.items ≡ not_free (own p deeds)
  pub rising : AreInOrder row_lt kept.rows.items
  pub rows : (home : ℕ) → rows_of home kept.rows.items ≡ rows home (store_effects deeds)

-- the rows of a home after a change
abbrev pub rows_changed : Change → ℕ → List LockRow → List LockRow
rows_changed (Taken row) home rows = if row.uid.home == home then rows_with row (rows_without row.proc row.uid rows) else rows
rows_changed (Freed p u) home rows = if u.home == home then rows_without p u rows else rows
rows_changed Same home rows = rows

-- what the process of a change knows of its locks after it
abbrev pub lines_changed : Change → List LockLine → List LockLine
lines_changed (Taken row) lines = lines_with row.uid (Held row.mode) lines
lines_changed (Freed p u) lines = lines_without u lines
lines_changed Same lines = lines

-- the change is of a lock of p
abbrev pub IsOfProc : ProcName → Change → Type 0
IsOfProc p (Taken row) = p ≡ row.proc
IsOfProc p (Freed q u) = p ≡ q
IsOfProc p Same = Unit {0}

-- what a deed of p does to the rows of each home, and to what p knows
pub record Changes (change : Change) (d : Deed) : Type 0 where
  pub rows : (home : ℕ) (past : List StoreEffect) → rows home (store_effect d.proc d.op d.reply ++ past) ≡ rows_changed change home (rows home past)
  pub lines : (lines : List LockLine) → lines_after d.op d.reply lines ≡ lines_changed change lines
  pub proc : IsOfProc d.proc change

-- there is room for one lock more
pub record HaveRoom (kept : LockTable) : Type 0 where
  pub held : vec_len kept.held < vec_capacity kept.held
  pub rows : vec_len kept.rows < vec_capacity kept.rows

-- the first of some rows, as many as are listed, and whether further ones follow
abbrev pub AreListed : List LockRow → List LockRow × Bool → Type 0
AreListed rows list = (list.0 ≡ take LISTED_ROWS rows) × (list.1 ≡ nat_lt LISTED_ROWS (length rows))
