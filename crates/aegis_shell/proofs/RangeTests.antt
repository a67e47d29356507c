-- The tests of ranges tell what is in them.
use Rattle.std.proofs.Common.{◌≡◌, ◌≤◌, ◌<◌, ◌+◌, ◌^◌, ℕ, true, Option, Some, None, List, length, refl, ap, cond, rules, arith}
use Rattle.std.specs.Prelude.{◌&&◌, IfSome, nat_le, nat_lt}
use Rattle.std.proofs.lemmas.Bool.{and_parts, and_from}
use Rattle.std.proofs.lemmas.Bool.Decides.{nat_tests}
use Rattle.uid_names.specs.Names.{ObjectName, ProcName, IsName}
use Rattle.uid_names.specs.declared.lock_row.LockRow.{LockRow}
use Rattle.uid_names.specs.declared.limits.TheConstants.{MAX_NODES, MAX_ROOM, NODE_PROCESSES, PAGE_BYTES}
use Rattle.uid_names.proofs.Passed.{le-passes}
use Rattle.dom_history.specs.declared.op.Spot.{Spot}
use Rattle.dom_history.specs.declared.op.Spot.TheVariants.{Of, Addr}
use Rattle.dom_history.specs.declared.op.Op.{Op}
use Rattle.dom_history.specs.declared.op.Op.TheVariants as ops
use Rattle.dom_history.specs.Ranges.{offset_in_page, IsNodeNumber, IsProcName, IsSpot, IsInPage, IsRowName, IsOp}
use Rattle.aegis_shell.specs.RangeTests.{is_node, is_proc, is_uid, is_row, is_spot, is_in_page, is_after, is_op}

pub uid_is : (u : ObjectName) → is_uid u ≡ true → IsName u
uid_is u h =
    let both = and_parts (nat_le 1 u.counter && nat_lt u.counter (2 ^ 44)) (nat_le 1 u.home && nat_le u.home 8) h in
    let counter = and_parts (nat_le 1 u.counter) (nat_lt u.counter (2 ^ 44)) both.0 in
    let home = and_parts (nat_le 1 u.home) (nat_le u.home 8) both.1 in
    record { counter_low = search (rules, counter.0); counter_high = search (rules, counter.1); home_low = search (rules, home.0); home_high = search (rules, home.1) }

lt_yes : (m n : ℕ) → m < n → nat_lt m n ≡ true
lt_yes m n h = grind (arith, nat_tests, h)

pub between_yes : (low n high : ℕ) → low ≤ n → n ≤ high → (nat_le low n && nat_le n high) ≡ true
between_yes low n high h k = and_from (nat_le low n) (nat_le n high) (le-passes low n h) (le-passes n high k)

pub uid_yes : (u : ObjectName) → IsName u → is_uid u ≡ true
uid_yes u h =
    and_from (nat_le 1 u.counter && nat_lt u.counter (2 ^ 44)) (nat_le 1 u.home && nat_le u.home 8)
    (and_from (nat_le 1 u.counter) (nat_lt u.counter (2 ^ 44)) (le-passes 1 u.counter h.counter_low) (lt_yes u.counter (2 ^ 44) h.counter_high))
    (between_yes 1 u.home 8 h.home_low h.home_high)

-- an object that is named is bound
pub named_binds : (var : List ℕ) (u : ObjectName) → IsName u → cond {A = Option (List ℕ × ObjectName)} (is_uid u) (Some (var, u)) None ≡ Some (var, u)
named_binds var u h = let bound : Option (List ℕ × ObjectName) = Some (var, u) in ap (λ b. cond {A = Option (List ℕ × ObjectName)} b bound None) (uid_yes u h)

node_is : (n : ℕ) → is_node n ≡ true → IsNodeNumber n
node_is n h = let both = and_parts (nat_le 1 n) (nat_le n MAX_NODES) h in (search (rules, both.0), search (rules, both.1))

node_yes : (n : ℕ) → IsNodeNumber n → is_node n ≡ true
node_yes n h = between_yes 1 n MAX_NODES h.0 h.1

proc_is : (p : ProcName) → is_proc p ≡ true → IsProcName p
proc_is p h =
    let both = and_parts (is_node p.node) (nat_le 1 p.number && nat_le p.number NODE_PROCESSES) h in
    let number = and_parts (nat_le 1 p.number) (nat_le p.number NODE_PROCESSES) both.1 in
    record { node = node_is p.node both.0; number = (search (rules, number.0), search (rules, number.1)) }

pub proc_yes : (p : ProcName) → IsProcName p → is_proc p ≡ true
proc_yes p h = and_from (is_node p.node) (nat_le 1 p.number && nat_le p.number NODE_PROCESSES) (node_yes p.node h.node) (between_yes 1 p.number NODE_PROCESSES h.number.0 h.number.1)

pub row_is : (row : LockRow) → is_row row ≡ true → IsName row.uid × IsProcName row.proc
row_is row h = let both = and_parts (is_uid row.uid) (is_proc row.proc) h in (uid_is row.uid both.0, proc_is row.proc both.1)

pub row_yes : (row : LockRow) → IsName row.uid → IsProcName row.proc → is_row row ≡ true
row_yes row u p = and_from (is_uid row.uid) (is_proc row.proc) (uid_yes row.uid u) (proc_yes row.proc p)

spot_is : (spot : Spot) → is_spot spot ≡ true → IsSpot spot
spot_is (Of u o) h = uid_is u h
spot_is (Addr a) h = tt

spot_yes : (spot : Spot) → IsSpot spot → is_spot spot ≡ true
spot_yes (Of u o) h = uid_yes u h
spot_yes (Addr a) h = refl

bytes_are : (spot : Spot) (n : ℕ) → (is_spot spot && is_in_page spot n) ≡ true → IsSpot spot × IsInPage spot n
bytes_are spot n h =
    let both = and_parts (is_spot spot) (is_in_page spot n) h in
    let page = and_parts (nat_le 1 n) (nat_le (offset_in_page spot + n) PAGE_BYTES) both.1 in
    (spot_is spot both.0, (search (rules, page.0), search (rules, page.1)))

bytes_yes : (spot : Spot) (n : ℕ) → IsSpot spot × IsInPage spot n → (is_spot spot && is_in_page spot n) ≡ true
bytes_yes spot n h =
    and_from (is_spot spot) (is_in_page spot n) (spot_yes spot h.0)
    (and_from (nat_le 1 n) (nat_le (offset_in_page spot + n) PAGE_BYTES) (le-passes 1 n h.1.0) (le-passes (offset_in_page spot + n) PAGE_BYTES h.1.1))

after_is : (after : Option (ObjectName × ProcName)) → is_after after ≡ true → IfSome after IsRowName
after_is None h = tt
after_is (Some row) h = let both = and_parts (is_uid row.0) (is_proc row.1) h in (uid_is row.0 both.0, proc_is row.1 both.1)

after_yes : (after : Option (ObjectName × ProcName)) → IfSome after IsRowName → is_after after ≡ true
after_yes None h = refl
after_yes (Some row) h = and_from (is_uid row.0) (is_proc row.1) (uid_yes row.0 h.0) (proc_yes row.1 h.1)

pub op_is : (op : Op) → is_op op ≡ true → IsOp op
op_is (ops.New home kind room) h =
    let both = and_parts (is_node home) (nat_le 1 room && nat_le room MAX_ROOM) h in
    let pages = and_parts (nat_le 1 room) (nat_le room MAX_ROOM) both.1 in
    (node_is home both.0, (search (rules, pages.0), search (rules, pages.1)))
op_is (ops.Lock u m) h = uid_is u h
op_is (ops.Unlock u) h = uid_is u h
op_is (ops.Delete u) h = uid_is u h
op_is (ops.Load spot n) h = bytes_are spot n h
op_is (ops.Store spot bytes) h = bytes_are spot (length bytes) h
op_is (ops.Length u) h = uid_is u h
op_is (ops.Map u) h = uid_is u h
op_is (ops.Unmap u) h = uid_is u h
op_is (ops.List home after) h = let both = and_parts (is_node home) (is_after after) h in (node_is home both.0, after_is after both.1)

pub op_yes : (op : Op) → IsOp op → is_op op ≡ true
op_yes (ops.New home kind room) h = and_from (is_node home) (nat_le 1 room && nat_le room MAX_ROOM) (node_yes home h.0) (between_yes 1 room MAX_ROOM h.1.0 h.1.1)
op_yes (ops.Lock u m) h = uid_yes u h
op_yes (ops.Unlock u) h = uid_yes u h
op_yes (ops.Delete u) h = uid_yes u h
op_yes (ops.Load spot n) h = bytes_yes spot n h
op_yes (ops.Store spot bytes) h = bytes_yes spot (length bytes) h
op_yes (ops.Length u) h = uid_yes u h
op_yes (ops.Map u) h = uid_yes u h
op_yes (ops.Unmap u) h = uid_yes u h
op_yes (ops.List home after) h = and_from (is_node home) (is_after after) (node_yes home h.0) (after_yes after h.1)
