-- The fates of the frames on one link, by the rows that it has in a plan.
use Rattle.std.specs.Prelude.{ℕ, Bool, false, nat_lt, ◌==◌, if◌then◌else◌, Option, Some, None, List}
use Rattle.std.specs.List.{prefix_len}
use Rattle.dom_history.specs.declared.plan.Fate.{Fate}
use Rattle.dom_history.specs.declared.plan.Fate.TheVariants.{Pass}
use Rattle.dom_history.specs.declared.plan.FateRow.{FateRow}
use Rattle.dom_history.specs.Plans.{fate_of}

-- the nodes that a link leads from and to, and its rows, by rising number
pub record LinkRows : Type 0 where
  pub from : ℕ
  pub to : ℕ
  pub rows : List FateRow

-- the fate of the frame of this number on the link
abbrev pub fate_on : LinkRows → ℕ → Fate
fate_on link index = fate_of link.rows link.from link.to index

-- the row is of a smaller number
abbrev pub is_below : ℕ → FateRow → Bool
is_below index row = nat_lt row.index index

-- there is a row, of a smaller number
abbrev pub is_smaller : ℕ → Option FateRow → Bool
is_smaller index None = false
is_smaller index (Some row) = is_below index row

-- how many rows at the front are of smaller numbers
abbrev pub count_below : ℕ → List FateRow → ℕ
count_below index rows = prefix_len (is_below index) rows

-- what a row, if it is there, says of the frame of this number: where it is of another, the frame passes
abbrev pub fate_there : ℕ → Option FateRow → Fate
fate_there index None = Pass
fate_there index (Some row) = if row.index == index then row.fate else Pass
