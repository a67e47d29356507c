-- Rows of locks: their order, which one stands against a request, and which of them a list tells.
use Rattle.std.specs.Prelude.{Bool, true, not, ◌||◌, ◌&&◌, Option, Some, None, List, filter}
use Rattle.uid_names.specs.Names.{ProcName, ObjectName, same_proc, same_uid, proc_lt, uid_lt}
use Rattle.uid_names.specs.Modes.{modes_clash}
use Rattle.uid_names.specs.declared.lock_row.LockRow.{LockRow}
use Rattle.uid_names.specs.declared.mode.Mode.{Mode}

-- the row stands before that of p on u: by object, then by process
abbrev pub is_before : LockRow → ObjectName → ProcName → Bool
is_before row u p = uid_lt row.uid u || (same_uid row.uid u && proc_lt row.proc p)

-- the order of rows
abbrev pub row_lt : LockRow → LockRow → Bool
row_lt a b = is_before a b.uid b.proc

-- the row is that of p on u
abbrev pub same_row : ProcName → ObjectName → LockRow → Bool
same_row p u row = same_proc p row.proc && same_uid u row.uid

-- the row is of another process than p, in conflict with m
abbrev pub conflicts : ProcName → Mode → LockRow → Bool
conflicts p m row = not (same_proc p row.proc) && modes_clash p m row.proc row.mode

-- the row is on u, of another process than p, in conflict with m
abbrev pub is_in_conflict : ProcName → ObjectName → Mode → LockRow → Bool
is_in_conflict p u m row = same_uid u row.uid && conflicts p m row

-- the row stands behind the one of an object and a process, or behind none
abbrev pub is_after : Option (ObjectName × ProcName) → LockRow → Bool
is_after None row = true
is_after (Some (u, p)) row = uid_lt u row.uid || (same_uid u row.uid && proc_lt p row.proc)

-- the rows behind one, or all of them
abbrev pub rows_after : Option (ObjectName × ProcName) → List LockRow → List LockRow
rows_after after rows = filter (is_after after) rows
