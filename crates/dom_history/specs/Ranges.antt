-- The ranges that every operation keeps.
use Rattle.std.specs.Prelude.{ℕ, ◌+◌, ◌%◌, ◌≤◌, length, Option, List, All, IfSome}
use Rattle.uid_names.specs.Names.{ProcName, ObjectName, IsName}
use Rattle.uid_names.specs.Rooms.{IsRoom}
use Rattle.uid_names.specs.declared.limits.TheConstants.{PAGE_BYTES, MAX_NODES, NODE_PROCESSES}
use Rattle.dom_history.specs.declared.op.Spot.{Spot}
use Rattle.dom_history.specs.declared.op.Spot.TheVariants.{Of, Addr}
use Rattle.dom_history.specs.declared.op.Op.{Op}
use Rattle.dom_history.specs.declared.op.Op.TheVariants.{New, Lock, Unlock, Delete, Load, Store, Length, Map, Unmap, List as ListOp}
use Rattle.dom_history.specs.declared.op.Reply.{Reply}
use Rattle.dom_history.specs.declared.op.Reply.TheVariants.{Made}
use Rattle.dom_history.specs.declared.op.Want.{Want}
use Rattle.dom_history.specs.declared.op.Want.TheVariants.{Do, Phase, Done}

-- the number of a node
abbrev pub IsNodeNumber : ℕ → Type 0
IsNodeNumber n = (1 ≤ n) × (n ≤ MAX_NODES)

-- the number of a process at its node
abbrev pub IsProcNumber : ℕ → Type 0
IsProcNumber n = (1 ≤ n) × (n ≤ NODE_PROCESSES)

-- the ranges of a process's name
pub record IsProcName (p : ProcName) : Type 0 where
  pub node : IsNodeNumber p.node
  pub number : IsProcNumber p.number

-- where a spot begins in its page
abbrev pub offset_in_page : Spot → ℕ
offset_in_page (Of u o) = o % PAGE_BYTES
offset_in_page (Addr a) = a % PAGE_BYTES

-- n bytes, at least one, from there on lie in one page
abbrev pub IsInPage : Spot → ℕ → Type 0
IsInPage spot n = (1 ≤ n) × (offset_in_page spot + n ≤ PAGE_BYTES)

-- a spot names an object, or is an address
abbrev pub IsSpot : Spot → Type 0
IsSpot (Of u o) = IsName u
IsSpot (Addr a) = Unit {0}

-- a row behind which a list begins is that of an object and a process
abbrev pub IsRowName : ObjectName × ProcName → Type 0
IsRowName row = IsName row.0 × IsProcName row.1

-- an operation in its ranges: what it names are objects, nodes and processes, and its bytes lie in one page
abbrev pub IsOp : Op → Type 0
IsOp (New home kind room) = IsNodeNumber home × IsRoom room
IsOp (Lock u m) = IsName u
IsOp (Unlock u) = IsName u
IsOp (Delete u) = IsName u
IsOp (Load spot n) = IsSpot spot × IsInPage spot n
IsOp (Store spot bytes) = IsSpot spot × IsInPage spot (length bytes)
IsOp (Length u) = IsName u
IsOp (Map u) = IsName u
IsOp (Unmap u) = IsName u
IsOp (ListOp home after) = IsNodeNumber home × IfSome after IsRowName

-- a want whose operation is in its ranges
abbrev pub IsWant : Want → Type 0
IsWant (Do op) = IsOp op
IsWant Phase = Unit {0}
IsWant Done = Unit {0}

-- a reply that makes an object names one
abbrev pub IsNamedReply : Reply → Type 0
IsNamedReply (Made u) = IsName u
IsNamedReply _ = Unit {0}

-- so does each of those that a process was told
abbrev pub AreNamedReplies : List (Option Reply) → Type 0
AreNamedReplies told = All (λ t. IfSome t IsNamedReply) told
