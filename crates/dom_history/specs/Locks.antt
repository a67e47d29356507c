-- What a process knows of its locks, and what others meet.
use Rattle.std.specs.Prelude.{ℕ, ◌≡◌, ◌==◌, Bool, true, false, not, ◌&&◌, ◌||◌, if◌then◌else◌, Option, Some, None, List, [], ◌∷◌, ◌++◌, filter}
use Rattle.uid_names.specs.Names.{ProcName, ObjectName, same_proc, same_uid}
use Rattle.uid_names.specs.Modes.{mode_removes, mode_shared}
use Rattle.uid_names.specs.InOrder.{put_in_order}
use Rattle.uid_names.specs.Rows.{row_lt, same_row}
use Rattle.uid_names.specs.declared.lock_row.LockRow.{LockRow}
use Rattle.uid_names.specs.declared.mode.Mode.{Mode}
use Rattle.uid_names.specs.declared.mode.Mode.TheVariants.{Write}
use Rattle.dom_history.specs.declared.op.Op.{Op}
use Rattle.dom_history.specs.declared.op.Op.TheVariants.{Lock, Unlock, Delete}
use Rattle.dom_history.specs.declared.op.Reply.{Reply}
use Rattle.dom_history.specs.declared.op.Reply.TheVariants.{Fine, Doubt}
use Rattle.dom_history.specs.declared.deed.Deed.{Deed}
use Rattle.dom_history.specs.declared.deed.LockLine.{LockLine}
use Rattle.dom_history.specs.declared.deed.LockState.{LockState}
use Rattle.dom_history.specs.declared.deed.LockState.TheVariants.{Free, Held, Taking, Releasing, Deleting}
use Rattle.dom_history.specs.StoreEffects.{StoreEffect, TakesLock, FreesLock, Deletes}

-- the mode that a lock in this state may still have at the home: what is being deleted was held in Write, which alone
-- removes. That of Free is never asked for: an unlock of a free object is refused
abbrev pub mode_at_home : LockState → Mode
mode_at_home Free = Write
mode_at_home (Held m) = m
mode_at_home (Taking m) = m
mode_at_home (Releasing m) = m
mode_at_home Deleting = Write

-- the state on u in a table of the objects that are not free
abbrev pub state_in : ObjectName → List LockLine → LockState
state_in u [] = Free
state_in u (line ∷ lines) = if same_uid u line.uid then line.state else state_in u lines

-- a table in which u is free
abbrev pub lines_without : ObjectName → List LockLine → List LockLine
lines_without u lines = filter (λ line. not (same_uid u line.uid)) lines

-- a table in which u is in this state
abbrev pub lines_with : ObjectName → LockState → List LockLine → List LockLine
lines_with u s lines = lines_without u lines ++ record { uid = u; state = s } ∷ []

-- what a reply to a Lock, an Unlock or a Delete tells a process of its locks
abbrev pub lines_after : Op → Reply → List LockLine → List LockLine
lines_after (Lock u m) Fine lines = lines_with u (Held m) lines
lines_after (Lock u m) Doubt lines = lines_with u (Taking m) lines
lines_after (Unlock u) Fine lines = lines_without u lines
lines_after (Unlock u) Doubt lines = lines_with u (Releasing (mode_at_home (state_in u lines))) lines
lines_after (Delete u) Fine lines = lines_without u lines
lines_after (Delete u) Doubt lines = lines_with u Deleting lines
lines_after _ _ lines = lines

-- the objects on which a process is not free, from what it was told, the newest first
abbrev pub not_free : List Deed → List LockLine
not_free [] = []
not_free (d ∷ told) = lines_after d.op d.reply (not_free told)

-- the state of a process on u
abbrev pub state : ObjectName → List Deed → LockState
state u told = state_in u (not_free told)

-- the state on u after a reply to an operation, from the state before it
abbrev pub state_after : ObjectName → Op → Reply → LockState → LockState
state_after u (Lock v m) Fine before = if same_uid u v then Held m else before
state_after u (Lock v m) Doubt before = if same_uid u v then Taking m else before
state_after u (Unlock v) Fine before = if same_uid u v then Free else before
state_after u (Unlock v) Doubt before = if same_uid u v then Releasing (mode_at_home before) else before
state_after u (Delete v) Fine before = if same_uid u v then Free else before
state_after u (Delete v) Doubt before = if same_uid u v then Deleting else before
state_after u _ _ before = before

-- the state by the last Lock, Unlock or Delete of u that was answered Ok or Doubt, the newest first
abbrev pub state_by_last : ObjectName → List Deed → LockState
state_by_last u [] = Free
state_by_last u (d ∷ told) = state_after u d.op d.reply (state_by_last u told)

abbrev pub is_free : LockState → Bool
is_free Free = true
is_free _ = false

abbrev pub is_held : LockState → Bool
is_held (Held m) = true
is_held _ = false

abbrev pub is_unsettled : LockState → Bool
is_unsettled s = not (is_free s || is_held s)

-- the mode that p holds on u, by its last Lock, Unlock or Delete of u that was answered Ok or acted
abbrev pub holds : ProcName → ObjectName → List StoreEffect → Option Mode
holds p u [] = None
holds p u (TakesLock q v m ∷ past) = if same_proc p q && same_uid u v then Some m else holds p u past
holds p u (FreesLock q v ∷ past) = if same_proc p q && same_uid u v then None else holds p u past
holds p u (Deletes q v ∷ past) = if same_proc p q && same_uid u v then None else holds p u past
holds p u (_ ∷ past) = holds p u past

-- no other process than p holds u in a mode that is shared
abbrev pub IsAlone : ProcName → ObjectName → List StoreEffect → Type 0
IsAlone p u past = (q : ProcName) (m : Mode) → same_proc p q ≡ false → holds q u past ≡ Some m → mode_shared m ≡ false

-- the rows without that of p on u
abbrev pub rows_without : ProcName → ObjectName → List LockRow → List LockRow
rows_without p u rows = filter (λ row. not (same_row p u row)) rows

-- rows in order, with one more
abbrev pub rows_with : LockRow → List LockRow → List LockRow
rows_with new rows = put_in_order row_lt new rows

-- the rows of a home: (u, p, m) where p holds m on an object u of that home, in order
abbrev pub rows : ℕ → List StoreEffect → List LockRow
rows home [] = []
rows home (TakesLock p u m ∷ past) = if u.home == home then rows_with (record { uid = u; proc = p; mode = m }) (rows_without p u (rows home past)) else rows home past
rows home (FreesLock p u ∷ past) = if u.home == home then rows_without p u (rows home past) else rows home past
rows home (Deletes p u ∷ past) = if u.home == home then rows_without p u (rows home past) else rows home past
rows home (_ ∷ past) = rows home past

-- the mode in a row that was found
abbrev pub mode_in : Option LockRow → Option Mode
mode_in None = None
mode_in (Some row) = Some row.mode

-- what is held so may be removed
abbrev pub is_to_remove : Option Mode → Bool
is_to_remove None = false
is_to_remove (Some m) = mode_removes m
