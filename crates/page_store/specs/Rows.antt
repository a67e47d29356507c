-- A list of pages in order, and the volume that it is. It decides nothing that a caller sees: only the private bodies of
-- `ListPages` speak of it.
use Rattle.std.specs.Prelude.{◌≡◌, ℕ, ◌<◌, ◌≤◌, List, length, map, IsTrue}
use Rattle.std.specs.declared.cmp.Ordering.TheVariants.{Less, Equal, Greater}
use Rattle.std.specs.List.{AllWithin, HoldsAt}
use Rattle.std.specs.FinMap.{is_sorted, from_sorted}
use Rattle.page_store.specs.Volumes.{PageName, page_cmp, Volume}
use Rattle.page_store.specs.declared.list_pages.PageRow.{PageRow}

-- the name of a row's page
abbrev pub name_of : PageRow → PageName
name_of row = (row.counter, row.page)

-- a row as an entry of a volume
abbrev pub entry_of : PageRow → PageName × List ℕ
entry_of row = (name_of row, row.bytes)

-- the rows stand in the order of their names, each name once
abbrev pub AreInOrder : List PageRow → Type 0
AreInOrder rows = IsTrue (is_sorted page_cmp (map entry_of rows))

-- the volume that the rows are
abbrev pub volume_of : List PageRow → Volume
volume_of rows = from_sorted (map entry_of rows)

-- the page's row stands at this place
pub record StandsAt (rows : List PageRow) (name : PageName) (at : ℕ) : Type 0 where
  pub within : at < length rows
  pub named : HoldsAt (λ row. page_cmp (name_of row) name ≡ Equal) rows at

-- no row has the page's name, and one at this place would keep the order
pub record WouldStandAt (rows : List PageRow) (name : PageName) (at : ℕ) : Type 0 where
  pub within : at ≤ length rows
  pub before : AllWithin (λ row. page_cmp (name_of row) name ≡ Less) rows 0 at
  pub behind : AllWithin (λ row. page_cmp (name_of row) name ≡ Greater) rows at (length rows)
