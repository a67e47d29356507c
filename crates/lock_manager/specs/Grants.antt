-- Grants of locks: who holds what, and what stands against a request.
use Rattle.std.specs.Prelude.{ℕ, ◌==◌, Bool, not, ◌&&◌, Option, Some, None, List, find, filter, map}
use Rattle.std.specs.List.{prefix_len}
use Rattle.uid_names.specs.Names.{ProcName, ObjectName, same_uid}
use Rattle.uid_names.specs.Modes.{mode_writes}
use Rattle.uid_names.specs.InOrder.{AreInOrder, put_in_order}
use Rattle.uid_names.specs.Rows.{is_before, row_lt, same_row, is_in_conflict}
use Rattle.uid_names.specs.declared.lock_row.LockRow.{LockRow}
use Rattle.uid_names.specs.declared.mode.Mode.{Mode}
use Rattle.lock_manager.specs.declared.grants.Grant.{Grant}

-- the order of grants is that of their rows
abbrev pub grant_lt : Grant → Grant → Bool
grant_lt a b = row_lt a.row b.row

-- each grant stands before the later ones
abbrev pub AreGrantsRising : List Grant → Type 0
AreGrantsRising = AreInOrder grant_lt

-- the rows of grants
abbrev pub rows_of : List Grant → List LockRow
rows_of grants = map (λ g. g.row) grants

-- the grant is on u
abbrev pub is_on : ObjectName → Grant → Bool
is_on u g = same_uid u g.row.uid

-- the grant of p on u
abbrev pub grant_of : ProcName → ObjectName → List Grant → Option Grant
grant_of p u grants = find (λ g. same_row p u g.row) grants

-- the mode and the number of a grant that was found
abbrev pub held_in : Option Grant → Option (Mode × ℕ)
held_in None = None
held_in (Some g) = Some (g.row.mode, g.number)

-- how many grants stand before that of p on u
abbrev pub place_of : ProcName → ObjectName → List Grant → ℕ
place_of p u grants = prefix_len (λ g. is_before g.row u p) grants

-- the process and the mode of a grant that was found
abbrev pub holder_in : Option Grant → Option (ProcName × Mode)
holder_in None = None
holder_in (Some g) = Some (g.row.proc, g.row.mode)

-- the first other process than p that holds u in conflict with m, and its mode
abbrev pub conflict_of : ProcName → ObjectName → Mode → List Grant → Option (ProcName × Mode)
conflict_of p u m grants = holder_in (find (λ g. is_in_conflict p u m g.row) grants)

-- a process of the node holds the grant, of this number, in a mode that writes
abbrev pub writes_under : ℕ → ℕ → Grant → Bool
writes_under number node g = g.number == number && (g.row.proc.node == node && mode_writes g.row.mode)

-- and it is on u
abbrev pub is_writing : ℕ → ObjectName → ℕ → Grant → Bool
is_writing number u node g = is_on u g && writes_under number node g

-- grants without that of p on u
abbrev pub grants_without : ProcName → ObjectName → List Grant → List Grant
grants_without p u grants = filter (λ g. not (same_row p u g.row)) grants

-- grants in order, with one more
abbrev pub grants_with : Grant → List Grant → List Grant
grants_with new grants = put_in_order grant_lt new grants
