use Rattle.std.proofs.Common.{◌≡◌, ◌+◌, drop}
use Rattle.std.specs.List.{prefix_len}
use Rattle.dir_records.specs.Listings.{row_below}
use Rattle.dir_records.proofs.listing.place_among.Given as goal

-- those so far are below it
abbrev pub invariant-loop-i : goal.invariant-loop-i
invariant-loop-i l = prefix_len (λ x. row_below x l.row) l.rows ≡ l.i + prefix_len (λ x. row_below x l.row) (drop l.i l.rows)
