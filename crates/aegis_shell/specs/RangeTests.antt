-- Tests of what is in its ranges: names, and operations.
use Rattle.std.specs.Prelude.{ℕ, ◌+◌, ◌^◌, nat_le, nat_lt, Bool, true, ◌&&◌, Option, Some, None, length}
use Rattle.uid_names.specs.Names.{ObjectName, ProcName}
use Rattle.uid_names.specs.declared.lock_row.LockRow.{LockRow}
use Rattle.uid_names.specs.declared.limits.TheConstants.{MAX_NODES, MAX_ROOM, NODE_PROCESSES, PAGE_BYTES}
use Rattle.dom_history.specs.Ranges.{offset_in_page}
use Rattle.dom_history.specs.declared.op.Spot.{Spot}
use Rattle.dom_history.specs.declared.op.Spot.TheVariants.{Of, Addr}
use Rattle.dom_history.specs.declared.op.Op.{Op}
use Rattle.dom_history.specs.declared.op.Op.TheVariants as ops

-- names of nodes, of processes and of objects
abbrev pub is_node : ℕ → Bool
is_node node = nat_le 1 node && nat_le node MAX_NODES

abbrev pub is_proc : ProcName → Bool
is_proc p = is_node p.node && (nat_le 1 p.number && nat_le p.number NODE_PROCESSES)

abbrev pub is_uid : ObjectName → Bool
is_uid u = (nat_le 1 u.counter && nat_lt u.counter (2 ^ 44)) && (nat_le 1 u.home && nat_le u.home 8)

-- a row of locks names an object and a process, as each that is told does
abbrev pub is_row : LockRow → Bool
is_row row = is_uid row.uid && is_proc row.proc

-- an operation is in its ranges
abbrev pub is_spot : Spot → Bool
is_spot (Of u o) = is_uid u
is_spot (Addr a) = true

abbrev pub is_in_page : Spot → ℕ → Bool
is_in_page spot n = nat_le 1 n && nat_le (offset_in_page spot + n) PAGE_BYTES

abbrev pub is_after : Option (ObjectName × ProcName) → Bool
is_after None = true
is_after (Some row) = is_uid row.0 && is_proc row.1

abbrev pub is_op : Op → Bool
is_op (ops.New home kind room) = is_node home && (nat_le 1 room && nat_le room MAX_ROOM)
is_op (ops.Lock u m) = is_uid u
is_op (ops.Unlock u) = is_uid u
is_op (ops.Delete u) = is_uid u
is_op (ops.Load spot n) = is_spot spot && is_in_page spot n
is_op (ops.Store spot bytes) = is_spot spot && is_in_page spot (length bytes)
is_op (ops.Length u) = is_uid u
is_op (ops.Map u) = is_uid u
is_op (ops.Unmap u) = is_uid u
is_op (ops.List home after) = is_node home && is_after after
