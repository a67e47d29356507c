-- A command makes one operation or two.
use Rattle.std.proofs.Common.{ℕ, Bool, true, false, Option, Some, None, List, [], ◌∷◌}
use Rattle.uid_names.specs.Names.{ObjectName}
use Rattle.dom_history.specs.declared.op.Spot.{Spot}
use Rattle.dom_history.specs.declared.op.Spot.TheVariants.{Of, Addr}
use Rattle.dom_history.specs.declared.op.Op.{Op}
use Rattle.dom_history.specs.declared.op.Op.TheVariants as ops
use Rattle.script_reader.specs.declared.command.Command.{Command}
use Rattle.script_reader.specs.declared.command.Command.TheVariants.{New, Lock, Unlock, Delete, Load, Store, Length, Map, Unmap, Loadat, Storeat}
use Rattle.aegis_shell.specs.Operations.{loads, loads_if, stores, stores_if, on_object, ops_of}

-- a list of one element or of two
pub data IsShort : List Op → Type 0 where
  one : (op : Op) → IsShort (op ∷ [])
  two : (op next : Op) → IsShort (op ∷ (next ∷ []))

-- the operations of a command that has its object are such a list
abbrev pub AreShort : Option (List Op) → Type 0
AreShort None = Unit {0}
AreShort (Some list) = IsShort list

short_loads : (b : Bool) (spot : Spot) (n : ℕ) → IsShort (loads_if b spot n)
short_loads true spot n = one _
short_loads false spot n = two _ _

short_stores : (b : Bool) (spot : Spot) (text : List ℕ) → IsShort (stores_if b spot text)
short_stores true spot text = one _
short_stores false spot text = two _ _

short_on : (make : ObjectName → List Op) (uid : Option ObjectName) → ((u : ObjectName) → IsShort (make u)) → AreShort (on_object make uid)
short_on make None short = tt
short_on make (Some u) short = short u

pub ops_short : (node : ℕ) (c : Command) (uid : Option ObjectName) → AreShort (ops_of node c uid)
ops_short node (New var room home) uid = one _
ops_short node (Lock var mode) uid = short_on (λ u. ops.Lock u mode ∷ []) uid (λ u. one _)
ops_short node (Unlock var) uid = short_on (λ u. ops.Unlock u ∷ []) uid (λ u. one _)
ops_short node (Delete var) uid = short_on (λ u. ops.Delete u ∷ []) uid (λ u. one _)
ops_short node (Load var offset count) uid = short_on (λ u. loads (Of u offset) count) uid (λ u. short_loads _ _ _)
ops_short node (Store var offset text) uid = short_on (λ u. stores (Of u offset) text) uid (λ u. short_stores _ _ _)
ops_short node (Length var) uid = short_on (λ u. ops.Length u ∷ []) uid (λ u. one _)
ops_short node (Map var) uid = short_on (λ u. ops.Map u ∷ []) uid (λ u. one _)
ops_short node (Unmap var) uid = short_on (λ u. ops.Unmap u ∷ []) uid (λ u. one _)
ops_short node (Loadat address count) uid = short_loads _ (Addr address) count
ops_short node (Storeat address text) uid = short_stores _ (Addr address) text
ops_short node _ uid = tt
