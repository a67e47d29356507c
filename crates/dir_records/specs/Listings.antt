-- Rows of a directory by their names.
use Rattle.std.specs.Prelude.{Bool, List, [], ◌∷◌}
use Rattle.std.specs.Ordering.{nat_cmp, is_lt}
use Rattle.std.specs.Cmp.Lexicographic.{slice_cmp}
use Rattle.uid_names.specs.InOrder.{put_in_order}
use Rattle.dir_records.specs.declared.row.DirRow.{DirRow}

-- a row comes before another by its name, in the order of bytes
abbrev pub row_below : DirRow → DirRow → Bool
row_below a b = is_lt (slice_cmp nat_cmp a.name b.name)

-- the rows in that order
abbrev pub by_name : List DirRow → List DirRow
by_name [] = []
by_name (row ∷ rows) = put_in_order row_below row (by_name rows)
