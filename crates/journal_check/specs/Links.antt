-- Where the things of a link stand among those of all links of so many nodes.
use Rattle.std.specs.Prelude.{ℕ, ◌+◌, ◌-◌, ◌*◌, Option, List, slice_get}

abbrev pub link_place : ℕ → ℕ → ℕ → ℕ
link_place nodes from to = (from - 1) * nodes + (to - 1)

-- what stands there
abbrev pub at_link : {A : Type 0} → ℕ → ℕ → ℕ → List A → Option A
at_link nodes from to xs = slice_get xs (link_place nodes from to)
