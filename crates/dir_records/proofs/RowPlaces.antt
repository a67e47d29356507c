-- Rows at their places by name.
use Rattle.std.proofs.Common.{◌≡◌, ℕ, ◌+◌, Bool, true, false, cond, List, [], ◌∷◌, refl, ap, ◌∙◌, one-add}
use Rattle.std.specs.Prelude.{insert, if◌then◌else◌}
use Rattle.std.specs.List.{prefix_len}
use Rattle.uid_names.specs.InOrder.{put_in_order}
use Rattle.dir_records.specs.declared.row.DirRow.{DirRow}
use Rattle.dir_records.specs.Listings.{row_below}

-- a row goes behind those that are below it
pub put_at : (row : DirRow) (rows : List DirRow) → insert rows (prefix_len (λ x. row_below x row) rows) row ≡ put_in_order row_below row rows
put_at row [] = refl
put_at row (x ∷ rows) = by_test (row_below x row) (put_at row rows)
  where
    by_test : (t : Bool) → insert rows (prefix_len (λ x. row_below x row) rows) row ≡ put_in_order row_below row rows → insert (x ∷ rows) (cond t (1 + prefix_len (λ x. row_below x row) rows) 0) row ≡ (if t then x ∷ put_in_order row_below row rows else row ∷ x ∷ rows)
    by_test true h = ap (λ (n : ℕ). insert (x ∷ rows) n row) (one-add (prefix_len (λ x. row_below x row) rows)) ∙ ap (λ (l : List DirRow). x ∷ l) h
    by_test false h = refl
