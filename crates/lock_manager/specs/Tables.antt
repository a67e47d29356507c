-- The lock table of a home.
use Rattle.std.specs.Prelude.{ℕ, ◌≡◌, ◌≢◌, ◌+◌, ◌≤◌, Bool, false, not, if◌then◌else◌, Option, None, List, filter, All, AllPairs}
use Rattle.uid_names.specs.Names.{ProcName, ObjectName}
use Rattle.uid_names.specs.Modes.{modes_clash}
use Rattle.uid_names.specs.Rows.{is_in_conflict}
use Rattle.uid_names.specs.declared.lock_row.LockRow.{LockRow}
use Rattle.lock_manager.specs.declared.grants.Grant.{Grant}
use Rattle.lock_manager.specs.Grants.{AreGrantsRising, is_on, grant_of, grants_with, grants_without}

-- the grants in order, and the last number that was given, 0 at first
pub record Table : Type 0 where
  pub grants : List Grant
  pub last : ℕ

-- what p holds on u
abbrev pub held : ProcName → ObjectName → Table → Option Grant
held p u table = grant_of p u table.grants

-- what p holds on u, or nothing where that is ended
abbrev pub held_unless : Bool → ProcName → ObjectName → Table → Option Grant
held_unless ended p u table = if ended then None else held p u table

-- p and q hold these grants in modes that go together
abbrev pub GoTogether : ProcName → Grant → ProcName → Grant → Type 0
GoTogether p a q b = modes_clash p a.row.mode q b.row.mode ≡ false

-- the locks of two grants conflict: they are on one object, of two processes
abbrev pub are_in_conflict : Grant → Grant → Bool
are_in_conflict a b = is_in_conflict a.row.proc a.row.uid a.row.mode b.row

-- what each table keeps: no process holds an object twice, no number stands twice, and no two locks conflict
pub record IsTable (table : Table) : Type 0 where
  pub rising : AreGrantsRising table.grants
  pub given : All (λ g. g.number ≤ table.last) table.grants
  pub apart : AllPairs (λ a b. a.number ≢ b.number) table.grants
  pub compatible : AllPairs (λ a b. are_in_conflict a b ≡ false) table.grants

-- a lock under the next number
abbrev pub next_grant : LockRow → Table → Grant
next_grant row table = record { row = row; number = table.last + 1 }

-- a lock is granted under the next number, in place of what its process held on its object
abbrev pub with_grant : LockRow → Table → Table
with_grant row table =
    record {
      grants = grants_with (next_grant row table) (grants_without row.proc row.uid table.grants);
      last = table.last + 1;
    }

-- p holds nothing on u
abbrev pub without_grant : ProcName → ObjectName → Table → Table
without_grant p u table = record { grants = grants_without p u table.grants; last = table.last }

-- nothing is held on u
abbrev pub without_grants_on : ObjectName → Table → Table
without_grants_on u table = record { grants = filter (λ g. not (is_on u g)) table.grants; last = table.last }
