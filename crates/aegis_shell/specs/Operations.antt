-- The operations that a command makes.
use Rattle.std.specs.Prelude.{ℕ, ◌+◌, ◌-◌, nat_le, Bool, true, false, Option, Some, None, List, [], ◌∷◌, length, take, drop, unwrap_or}
use Rattle.uid_names.specs.Names.{ObjectName}
use Rattle.uid_names.specs.declared.mode.ObjKind.TheVariants.{File}
use Rattle.uid_names.specs.declared.limits.TheConstants.{PAGE_BYTES}
use Rattle.dom_history.specs.declared.op.Spot.{Spot}
use Rattle.dom_history.specs.declared.op.Spot.TheVariants.{Of, Addr}
use Rattle.dom_history.specs.declared.op.Op.{Op}
use Rattle.dom_history.specs.declared.op.Op.TheVariants as ops
use Rattle.dom_history.specs.Ranges.{offset_in_page}
use Rattle.script_reader.specs.declared.command.Command.{Command}
use Rattle.script_reader.specs.declared.command.Command.TheVariants.{New, Lock, Unlock, Delete, Load, Store, Length, Map, Unmap, Loadat, Storeat}

-- where a spot lies in its object or in the address space
abbrev pub place_of : Spot → ℕ
place_of (Of u offset) = offset
place_of (Addr address) = address

-- the bytes from a spot to the end of its page
abbrev pub page_rest : Spot → ℕ
page_rest spot = PAGE_BYTES - offset_in_page spot

-- the spot so many bytes behind another
abbrev pub behind : Spot → ℕ → Spot
behind (Of u offset) n = Of u (offset + n)
behind (Addr address) n = Addr (address + n)

-- a load of n bytes, cut where its page ends: no command's range passes two borders
abbrev pub loads_if : Bool → Spot → ℕ → List Op
loads_if true spot n = ops.Load spot n ∷ []
loads_if false spot n = ops.Load spot (page_rest spot) ∷ (ops.Load (behind spot (page_rest spot)) (n - page_rest spot) ∷ [])

abbrev pub loads : Spot → ℕ → List Op
loads spot n = loads_if (nat_le n (page_rest spot)) spot n

-- a store, cut in the same way
abbrev pub stores_if : Bool → Spot → List ℕ → List Op
stores_if true spot text = ops.Store spot text ∷ []
stores_if false spot text = ops.Store spot (take (page_rest spot) text) ∷ (ops.Store (behind spot (page_rest spot)) (drop (page_rest spot) text) ∷ [])

abbrev pub stores : Spot → List ℕ → List Op
stores spot text = stores_if (nat_le (length text) (page_rest spot)) spot text

-- operations on an object, if there is one
abbrev pub on_object : (ObjectName → List Op) → Option ObjectName → Option (List Op)
on_object make None = None
on_object make (Some u) = Some (make u)

-- the operations of a command of a process at a node, that works on this object; None where it lacks its object, or where
-- it is done by names or by lists of locks
abbrev pub ops_of : ℕ → Command → Option ObjectName → Option (List Op)
ops_of node (New var room home) uid = Some (ops.New (unwrap_or home node) File room ∷ [])
ops_of node (Lock var mode) uid = on_object (λ u. ops.Lock u mode ∷ []) uid
ops_of node (Unlock var) uid = on_object (λ u. ops.Unlock u ∷ []) uid
ops_of node (Delete var) uid = on_object (λ u. ops.Delete u ∷ []) uid
ops_of node (Load var offset count) uid = on_object (λ u. loads (Of u offset) count) uid
ops_of node (Store var offset text) uid = on_object (λ u. stores (Of u offset) text) uid
ops_of node (Length var) uid = on_object (λ u. ops.Length u ∷ []) uid
ops_of node (Map var) uid = on_object (λ u. ops.Map u ∷ []) uid
ops_of node (Unmap var) uid = on_object (λ u. ops.Unmap u ∷ []) uid
ops_of node (Loadat address count) uid = Some (loads (Addr address) count)
ops_of node (Storeat address text) uid = Some (stores (Addr address) text)
ops_of node _ uid = None

-- the first of operations, if there is one
abbrev pub head_of : List Op → Option Op
head_of [] = None
head_of (op ∷ rest) = Some op

-- the first of a command's operations
abbrev pub first_of : Option (List Op) → Option Op
first_of None = None
first_of (Some list) = head_of list

-- those behind the first
abbrev pub rest_of : Option (List Op) → List Op
rest_of None = []
rest_of (Some []) = []
rest_of (Some (op ∷ rest)) = rest

-- the second, where a range passes a page border
abbrev pub second_of : Option (List Op) → Option Op
second_of list = head_of (rest_of list)
