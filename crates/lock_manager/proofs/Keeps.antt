-- Each change of a lock table keeps what tables keep.
use Rattle.std.proofs.Common.{◌≡◌, ◌≢◌, ◌+◌, ◌≤◌, ◌∙◌, Bool, false, List, [], refl, arith}
use Rattle.std.specs.Prelude.{IsTrue, not, filter, find, All, Option, Some, None}
use Rattle.std.proofs.lemmas.List.Elements.{All-nil, All-weaker, All-filter}
use Rattle.std.proofs.lemmas.List.Kept.{AllPairs-filter}
use Rattle.uid_names.specs.Names.{ProcName, ObjectName}
use Rattle.uid_names.specs.Rows.{same_row, is_in_conflict}
use Rattle.uid_names.specs.declared.mode.Mode.{Mode}
use Rattle.uid_names.specs.declared.lock_row.LockRow.{LockRow}
use Rattle.uid_names.proofs.InOrder.{AllPairs-nil, put_in_order-all, put_in_order-pairs, replaced-rising}
use Rattle.uid_names.proofs.Finds.{find-all_fail}
use Rattle.uid_names.proofs.Orders.{row_lt-trans, row_lt-total}
use Rattle.lock_manager.specs.declared.grants.Grant.{Grant}
use Rattle.lock_manager.specs.Grants.{AreGrantsRising, grant_lt, is_on, holder_in, conflict_of, grants_with, grants_without}
use Rattle.lock_manager.specs.Tables.{Table, IsTable, are_in_conflict, with_grant, without_grant, without_grants_on}
use Rattle.lock_manager.proofs.Conflicts.{are_in_conflict-sym}

-- the order of grants
abbrev Before : Grant → Grant → Type 0
Before a b = IsTrue (grant_lt a b)

-- two numbers
abbrev Apart : Grant → Grant → Type 0
Apart a b = a.number ≢ b.number

-- two locks
abbrev Compatible : Grant → Grant → Type 0
Compatible a b = are_in_conflict a b ≡ false

-- what does not conflict with one, nor does it with that
turned : (a b : Grant) → Compatible a b → Compatible b a
turned a b free = are_in_conflict-sym b a ∙ free

-- what a request does not conflict with
free-of : (p : ProcName) (u : ObjectName) (m : Mode) (grants : List Grant) → conflict_of p u m grants ≡ None → All (λ g. is_in_conflict p u m g.row ≡ false) grants
free-of p u m grants none = find-all_fail (λ g. is_in_conflict p u m g.row) grants (nothing (find (λ g. is_in_conflict p u m g.row) grants) none)
  where
    nothing : (found : Option Grant) → holder_in found ≡ None → found ≡ None
    nothing None none = refl
    nothing (Some g) none = absurd cc

-- a grant goes to its place, where that of its process on its object was taken out
replaced : (new : Grant) (grants : List Grant) → AreGrantsRising grants → AreGrantsRising (grants_with new (grants_without new.row.proc new.row.uid grants))
replaced new = replaced-rising grant_lt (λ a b c. row_lt-trans a.row b.row c.row) (λ g. same_row new.row.proc new.row.uid g.row) new (λ g apart above. row_lt-total new.row g.row above apart)

-- some of the grants of a table are a table's
pub IsTable-filter : (keeps : Grant → Bool) (table : Table) → IsTable table → IsTable (record { grants = filter keeps table.grants; last = table.last })
IsTable-filter keeps table kept = record {
  rising = AllPairs-filter Before keeps table.grants kept.rising;
  given = All-filter keeps (λ g. g.number ≤ table.last) table.grants kept.given;
  apart = AllPairs-filter Apart keeps table.grants kept.apart;
  compatible = AllPairs-filter Compatible keeps table.grants kept.compatible;
}

-- a table without any
pub IsTable-none : IsTable (record { grants = []; last = 0 })
IsTable-none = record { rising = AllPairs-nil Before; given = All-nil (λ g. g.number ≤ 0); apart = AllPairs-nil Apart; compatible = AllPairs-nil Compatible }

-- a table with a grant under the next number
pub IsTable-with_grant : (row : LockRow) (table : Table) → IsTable table → conflict_of row.proc row.uid row.mode table.grants ≡ None → IsTable (with_grant row table)
IsTable-with_grant row table kept none =
    let others = IsTable-filter (λ g. not (same_row row.proc row.uid g.row)) table kept in
    let rest = grants_without row.proc row.uid table.grants in
    let free = All-filter (λ g. not (same_row row.proc row.uid g.row)) (λ g. is_in_conflict row.proc row.uid row.mode g.row ≡ false) table.grants (free-of row.proc row.uid row.mode table.grants none) in
    let new : Grant = record { row = row; number = table.last + 1 } in
    record {
      rising = replaced new table.grants kept.rising;
      given = put_in_order-all grant_lt (λ g. g.number ≤ table.last + 1) new rest (omega arith) (All-weaker (λ g. g.number ≤ table.last) (λ g. g.number ≤ table.last + 1) (λ g le. omega (arith, le)) rest others.given);
      apart = put_in_order-pairs grant_lt Apart new rest others.apart
          (All-weaker (λ g. g.number ≤ table.last) (Apart new) (λ g le same. omega (arith, le, same)) rest others.given)
          (All-weaker (λ g. g.number ≤ table.last) (λ g. Apart g new) (λ g le same. omega (arith, le, same)) rest others.given);
      compatible = put_in_order-pairs grant_lt Compatible new rest others.compatible free (All-weaker (Compatible new) (λ g. Compatible g new) (turned new) rest free);
    }

-- a table with what is left when a process gives an object up
pub IsTable-without_grant : (p : ProcName) (u : ObjectName) (table : Table) → IsTable table → IsTable (without_grant p u table)
IsTable-without_grant p u = IsTable-filter (λ g. not (same_row p u g.row))

-- a table with what is left when an object goes
pub IsTable-without_grants_on : (u : ObjectName) (table : Table) → IsTable table → IsTable (without_grants_on u table)
IsTable-without_grants_on u = IsTable-filter (λ g. not (is_on u g))
