-- Where the names of the lanes stand once more.
use Rattle.std.specs.Prelude.{ℕ, ◌%◌, ◌==◌, nat_lt, Bool, ◌&&◌}

-- above the row of each fiftieth index but the first
abbrev pub is_headed : ℕ → Bool
is_headed at = nat_lt 0 at && ((at % 50) == 0)
