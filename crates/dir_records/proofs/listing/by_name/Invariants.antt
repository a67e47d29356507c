use Rattle.std.proofs.Common.{◌≡◌, ◌-◌, length, drop}
use Rattle.dir_records.specs.Listings.{by_name}
use Rattle.dir_records.proofs.listing.by_name.Given as goal

-- the last ones, in order
abbrev pub invariant-loop-i : goal.invariant-loop-i
invariant-loop-i l = l.sorted.items ≡ by_name (drop (length l.rows - l.i) l.rows)
