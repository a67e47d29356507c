-- What a process knows of its locks at its node: an entry for each object on which it is not Free.
use Rattle.std.specs.Prelude.{ℕ, Bool, true, false, not, ◌&&◌, if◌then◌else◌, Option, Some, None, List, [], ◌∷◌, ◌++◌, map, filter}
use Rattle.std.specs.List.{find, list_all}
use Rattle.uid_names.specs.Names.{ObjectName, same_uid}
use Rattle.dom_history.specs.declared.deed.LockState.{LockState}
use Rattle.dom_history.specs.declared.deed.LockState.TheVariants.{Free}
use Rattle.dom_history.specs.Locks.{is_free, is_held}
use Rattle.dom_history.specs.Replies.{may_write}
use Rattle.fault_handler.specs.declared.entries.LockEntry.{LockEntry}

-- whether the entry is of u
abbrev pub is_on : ObjectName → LockEntry → Bool
is_on u e = same_uid u e.uid

-- the entry of u
abbrev pub entry_of : ObjectName → List LockEntry → Option LockEntry
entry_of u entries = find (is_on u) entries

abbrev pub state_in : Option LockEntry → LockState
state_in None = Free
state_in (Some e) = e.state

abbrev pub grant_in : Option LockEntry → ℕ
grant_in None = 0
grant_in (Some e) = e.grant

-- the release or the removal was sent
abbrev pub is_released : Option LockEntry → Bool
is_released None = false
is_released (Some e) = e.released

-- the process keeps the object: it is Held, and neither its release nor its removal was sent
abbrev pub keeps : Option LockEntry → Bool
keeps o = is_held (state_in o) && not (is_released o)

-- it keeps it in a mode that writes
abbrev pub keeps_writing : Option LockEntry → Bool
keeps_writing o = may_write (state_in o) && not (is_released o)

-- whether a process keeps each object on which it is Held
abbrev pub keeps_all : List LockEntry → Bool
keeps_all entries = list_all (λ e. not (is_held e.state && e.released)) entries

abbrev pub entries_without : ObjectName → List LockEntry → List LockEntry
entries_without u entries = filter (λ e. not (is_on u e)) entries

-- the entries with a new one in the place of that of its object
abbrev pub entries_with : LockEntry → List LockEntry → List LockEntry
entries_with e entries = entries_without e.uid entries ++ e ∷ []

-- the entries after a state was set: an object that is Free has none
abbrev pub entries_after : ObjectName → LockState → ℕ → List LockEntry → List LockEntry
entries_after u s grant entries =
    if is_free s then entries_without u entries
    else entries_with (record { uid = u; state = s; grant = grant; released = false }) entries

abbrev pub noted_if : Bool → LockEntry → LockEntry
noted_if true e = record e { released = true }
noted_if false e = e

-- the entries after the release or the removal of u was sent
abbrev pub entries_noted : ObjectName → List LockEntry → List LockEntry
entries_noted u entries = map (λ e. noted_if (is_on u e) e) entries
