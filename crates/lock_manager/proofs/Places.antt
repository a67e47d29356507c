-- Where a grant stands among grants in order, and what a change there leaves.
use Rattle.std.proofs.Common.{◌≡◌, ℕ, ◌<◌, Bool, true, false, List, length, set, get_or}
use Rattle.std.specs.Prelude.{insert, remove, Some, is_some, Result}
use Rattle.std.specs.List.Sorted.{IsBinarySearchResult, IsSearchInRange}
use Rattle.std.specs.Ordering.{ordering_then}
use Rattle.uid_names.specs.Names.{ProcName, ObjectName}
use Rattle.uid_names.specs.Rows.{is_before, same_row}
use Rattle.uid_names.specs.contracts.ids.UidOrd.TheImpl as uid_order
use Rattle.uid_names.specs.contracts.ids.ProcIdOrd.TheImpl as proc_order
use Rattle.uid_names.proofs.InOrder.{IsSearch, searched, find-found, remove-place, without-none, set-place, insert-place}
use Rattle.uid_names.proofs.Orders.{Agrees-row, row_lt-trans, is_before-trans, is_before-apart, later_apart}
use Rattle.lock_manager.specs.declared.grants.Grant.{Grant}
use Rattle.lock_manager.specs.Grants.{AreGrantsRising, grant_lt, grant_of, place_of, grants_without, grants_with}

module _ (p : ProcName) (u : ObjectName) where
  -- the grant stands before that of p on u
  abbrev before : Grant → Bool
  before g = is_before g.row u p

  -- the grant is that of p on u
  abbrev is_it : Grant → Bool
  is_it g = same_row p u g.row

  -- a grant before that of p on u is not that one
  apart : (g : Grant) → before g ≡ true → is_it g ≡ false
  apart g = is_before-apart g.row u p

  -- nor is one behind a grant that does not stand before it
  later : (a b : Grant) → grant_lt a b ≡ true → before a ≡ false → is_it b ≡ false
  later a b = later_apart a.row b.row u p

  -- what a binary search by the object and the process answers
  pub found-search : (grants : List Grant) (r : Result ℕ ℕ) → AreGrantsRising grants → IsSearchInRange r (length grants)
      → IsBinarySearchResult (λ g. ordering_then (uid_order.ghosts.cmp g.row.uid u) (proc_order.ghosts.cmp g.row.proc p)) grants r → IsSearch before is_it grants r
  found-search grants r rising bound found =
      searched grant_lt before is_it (λ g. ordering_then (uid_order.ghosts.cmp g.row.uid u) (proc_order.ghosts.cmp g.row.proc p)) (λ g. Agrees-row p u g.row) (λ a b. is_before-trans a.row b.row u p) later grants rising r bound found

  -- the grant at its place is that of p on u, where there is one
  pub grant_of-found : (grants : List Grant) → AreGrantsRising grants → (at : ℕ) (g : Grant) → at ≡ place_of p u grants → at < length grants → g ≡ get_or grants at g → is_some (grant_of p u grants) ≡ true → grant_of p u grants ≡ Some g
  grant_of-found = find-found grant_lt before is_it apart later

  -- where there is no grant of p on u, none is left out
  pub grants_without-none : (grants : List Grant) → is_some (grant_of p u grants) ≡ false → grants_without p u grants ≡ grants
  grants_without-none = without-none is_it

  -- the grant of p on u goes out at its place
  pub remove-place_of : (grants : List Grant) → AreGrantsRising grants → is_some (grant_of p u grants) ≡ true → remove grants (place_of p u grants) ≡ grants_without p u grants
  remove-place_of = remove-place grant_lt before is_it apart later

-- grants are in one order
grant_lt-trans : (a b c : Grant) → grant_lt a b ≡ true → grant_lt b c ≡ true → grant_lt a c ≡ true
grant_lt-trans a b c = row_lt-trans a.row b.row c.row

-- a grant goes in behind all that stand before it
pub insert-place_of : (new : Grant) (grants : List Grant) → insert grants (place_of new.row.proc new.row.uid grants) new ≡ grants_with new grants
insert-place_of = insert-place grant_lt grant_lt-trans

-- a grant takes the place of that of its process on its object
pub set-place_of : (new : Grant) (grants : List Grant) → AreGrantsRising grants → is_some (grant_of new.row.proc new.row.uid grants) ≡ true → set grants (place_of new.row.proc new.row.uid grants) new ≡ grants_with new (grants_without new.row.proc new.row.uid grants)
set-place_of new = set-place grant_lt grant_lt-trans new (is_it new.row.proc new.row.uid) (apart new.row.proc new.row.uid) (later new.row.proc new.row.uid)
