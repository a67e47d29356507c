-- The fates that a plan keeps by frame, for its private code alone (see Kept).
use Rattle.std.specs.Prelude.{ℕ, ◌≡◌, Bool, ◌==◌, ◌&&◌, List}
use Rattle.std.specs.HashMap.{get, HashMap}
use Rattle.std.specs.declared.hash.FoldHasher.{FoldHasher}
use Rattle.std.specs.declared.hash.BuildHasherDefault.{BuildHasherDefault}
use Rattle.dom_history.specs.declared.plan.Fate.{Fate}
use Rattle.dom_history.specs.declared.plan.FateRow.{FateRow}
use Rattle.dom_history.specs.Plans.{set_fate, IsPlan}

-- one frame: the nodes of its link, and its number there
abbrev pub same_frame : ℕ × ℕ × ℕ → ℕ × ℕ × ℕ → Bool
same_frame a b = (a.0 == b.0) && (a.1 == b.1) && (a.2 == b.2)

-- the fates by frame
abbrev pub Fates : Type 0
Fates = HashMap (ℕ × ℕ × ℕ) Fate (BuildHasherDefault FoldHasher)

-- the rows are a plan, and the fates by frame are its
pub record HoldsPlan (plan : List FateRow) (fates : Fates) : Type 0 where
  pub rows : IsPlan plan
  pub held : (from to index : ℕ) → get same_frame fates (from, to, index) ≡ set_fate plan from to index
