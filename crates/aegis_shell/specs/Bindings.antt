-- What contracts see of the variables that a shell has bound.
use Rattle.std.specs.Prelude.{ℕ, List}
use Rattle.std.specs.Ordering.{nat_cmp}
use Rattle.std.specs.Cmp.Lexicographic.{slice_cmp}
use Rattle.std.specs.FinMap.Entries.{find, put}
use Rattle.uid_names.specs.Names.{ObjectName}
use Rattle.aegis_shell.specs.Bound.{Bound}

-- a variable and its object, in the order of the variables
abbrev pub Rows : Type 0
Rows = List (List ℕ × ObjectName)

-- what the variables are bound to
abbrev pub object_at : Rows → Bound
object_at rows var = find (slice_cmp nat_cmp) var rows

-- a variable stands for this object from now on
abbrev pub rebound : List ℕ → ObjectName → Rows → Rows
rebound var u rows = put (slice_cmp nat_cmp) var u rows
