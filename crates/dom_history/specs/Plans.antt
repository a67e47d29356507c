-- What becomes of the frames on the links between nodes.
use Rattle.std.specs.Prelude.{ℕ, ◌≡◌, ◌≢◌, false, Bool, nat_lt, ◌==◌, ◌&&◌, is_some, Option, Some, None, List, find, All, AllPairs}
use Rattle.uid_names.specs.InOrder.{AreInOrder}
use Rattle.dom_history.specs.declared.plan.Fate.{Fate}
use Rattle.dom_history.specs.declared.plan.Fate.TheVariants.{Pass}
use Rattle.dom_history.specs.declared.plan.FateRow.{FateRow}

-- the row is of the frame of this number on the link between these nodes
abbrev pub is_of_frame : ℕ → ℕ → ℕ → FateRow → Bool
is_of_frame from to index row = (row.from == from) && (row.to == to) && (row.index == index)

abbrev pub fate_in : Option FateRow → Option Fate
fate_in None = None
fate_in (Some row) = Some row.fate

-- the fate that was set for a frame
abbrev pub set_fate : List FateRow → ℕ → ℕ → ℕ → Option Fate
set_fate plan from to index = fate_in (find (is_of_frame from to index) plan)

abbrev pub fate_or_pass : Option Fate → Fate
fate_or_pass None = Pass
fate_or_pass (Some fate) = fate

-- the fate of a frame: Pass where none was set
abbrev pub fate_of : List FateRow → ℕ → ℕ → ℕ → Fate
fate_of plan from to index = fate_or_pass (set_fate plan from to index)

abbrev pub is_set : List FateRow → ℕ → ℕ → ℕ → Bool
is_set plan from to index = is_some (set_fate plan from to index)

-- what each plan keeps: no link leads from a node to itself, and no frame has two rows
pub record IsPlan (plan : List FateRow) : Type 0 where
  pub apart : All (λ row. row.from ≢ row.to) plan
  pub once : AllPairs (λ a b. is_of_frame b.from b.to b.index a ≡ false) plan

-- the row is of a frame on the link between these nodes
abbrev pub is_of_link : ℕ → ℕ → FateRow → Bool
is_of_link from to row = (row.from == from) && (row.to == to)

-- the first row is of the smaller number
abbrev pub has_lower : FateRow → FateRow → Bool
has_lower a b = nat_lt a.index b.index

-- these rows are the plan's on the link between these nodes, by rising number: each frame of the link has the fate in
-- them that it has in the plan, and none where it has none there
pub record AreOfLink (plan : List FateRow) (from to : ℕ) (rows : List FateRow) : Type 0 where
  pub link : All (λ row. (row.from ≡ from) × (row.to ≡ to)) rows
  pub rising : AreInOrder has_lower rows
  pub fates : (index : ℕ) → set_fate rows from to index ≡ set_fate plan from to index
