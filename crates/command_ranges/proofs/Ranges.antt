-- The ranges of what is asked of objects that are open: loads and stores lie in their pages.
use Rattle.std.proofs.Common.{◌≡◌, ℕ, zero, suc, ◌+◌, ◌-◌, ◌*◌, ◌%◌, ◌≤◌, ◌<◌, min, Bool, true, false, List, [], ◌∷◌, ◌++◌, length, map, arith}
use Rattle.std.specs.List.{range_with_len}
use Rattle.uid_names.specs.Names.{ObjectName, IsName}
use Rattle.uid_names.specs.declared.limits.TheConstants.{PAGE_BYTES}
use Rattle.uid_names.specs.declared.segment.TheConstants.{SEGMENT_SIZE}
use Rattle.dom_history.specs.Ranges.{IsOp}
use Rattle.dom_history.specs.declared.op.Op.{Op}
use Rattle.dom_history.specs.declared.op.Op.TheVariants.{Load, Store}
use Rattle.dom_history.specs.declared.op.Spot.TheVariants.{Addr}
use Rattle.naming_tree.specs.Entering.{IsOpened, pages}
use Rattle.naming_tree.specs.Placing.{store_record}
use Rattle.naming_tree.specs.Sessions.{closers_if}
use Rattle.naming_tree.specs.declared.session.Opened.{Opened}
use Rattle.mapped_streams.proofs.ReadsServed.{in_end, next_page}
use Rattle.aegis_shell.proofs.Ranged.{AreOps}

-- operations one after others
pub ops-append : (list more : List Op) → AreOps list → AreOps more → AreOps (list ++ more)
ops-append [] more are also = also
ops-append (op ∷ list) more are also = (are.0, ops-append list more are.1 also)

-- what closes an object
pub closers-ops : (fresh : Bool) (u : ObjectName) → IsName u → AreOps (closers_if fresh u)
closers-ops true u is = (is, (is, tt))
closers-ops false u is = (is, tt)

-- some bytes of a page, at an address where mappings lie
pub page-loaded : (address n page : ℕ) → address % SEGMENT_SIZE ≡ 0 → page * PAGE_BYTES < n → IsOp (Load (Addr (address + page * PAGE_BYTES)) (min PAGE_BYTES (n - page * PAGE_BYTES)))
page-loaded address n page at begins = (tt, (omega (arith, begins), omega (arith, at)))

pub page-some : (n page : ℕ) → page * PAGE_BYTES < n → 1 ≤ min PAGE_BYTES (n - page * PAGE_BYTES)
page-some n page begins = omega (arith, begins)

pub page-stored : (address page : ℕ) (bytes : List ℕ) → address % SEGMENT_SIZE ≡ 0 → 1 ≤ length bytes → length bytes ≤ PAGE_BYTES → IsOp (Store (Addr (address + page * PAGE_BYTES)) bytes)
page-stored address page bytes at some few = (tt, (some, omega (arith, at, few)))

-- a record in its place
pub record-stored : (o : Opened) (place : ℕ) (list : List ℕ) → IsOpened o → length list ≡ 64 → IsOp (store_record o place list)
record-stored o place list opened long = let at = opened.at in (tt, (omega (arith, long), omega (arith, at, long)))

-- loads of the pages of so many bytes
pub loads-ops : (load : ℕ → Op) (n : ℕ) → ((page : ℕ) → page * PAGE_BYTES < n → IsOp (load page)) → (k page : ℕ) → k ≡ pages n - page → AreOps (map load (range_with_len page k))
loads-ops load n each zero page is = tt
loads-ops load n each (suc k) page is = (each page (in_end n page k is), loads-ops load n each k (page + 1) (next_page (pages n) page k is))
