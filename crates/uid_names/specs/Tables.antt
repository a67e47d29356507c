-- Tables with one row for each object, the objects rising. `name` tells the object of a row.
use Rattle.std.specs.Prelude.{ℕ, Bool, not, Option, List, find, filter}
use Rattle.std.specs.List.{prefix_len}
use Rattle.uid_names.specs.Names.{ObjectName, same_uid, uid_lt}
use Rattle.uid_names.specs.InOrder.{AreInOrder, put_in_order}

module _ {R : Type 0} (name : R → ObjectName) where
  -- the order of rows: by object
  abbrev pub row_below : R → R → Bool
  row_below a b = uid_lt (name a) (name b)

  -- each object comes before those of the later rows
  abbrev pub AreRising : List R → Type 0
  AreRising rows = AreInOrder row_below rows

  -- the row is of u
  abbrev pub is_row_of : ObjectName → R → Bool
  is_row_of u row = same_uid u (name row)

  -- the row of u
  abbrev pub row_of : ObjectName → List R → Option R
  row_of u rows = find (is_row_of u) rows

  -- how many rows stand before that of u
  abbrev pub place_of : ObjectName → List R → ℕ
  place_of u rows = prefix_len (λ row. uid_lt (name row) u) rows

  -- rows without that of u
  abbrev pub without_row : ObjectName → List R → List R
  without_row u rows = filter (λ row. not (is_row_of u row)) rows

  -- rows in order, with this one in the place of that of its object
  abbrev pub with_row : R → List R → List R
  with_row new rows = put_in_order row_below new (without_row (name new) rows)
