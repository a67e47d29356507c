-- Rows that are written one after the other.
use Rattle.std.proofs.Common.{◌≡◌, ℕ, ◌+◌, ◌<◌, List, [], ◌∷◌, ◌++◌, take, length, get_or, ap, subst, ◌∙◌, sym, append_assoc, append-nil}
use Rattle.std.specs.Prelude.{All}
use Rattle.std.specs.List.{flat_map}
use Rattle.std.proofs.lemmas.List.{take_more}
use Rattle.std.proofs.lemmas.List.Concat.{flat_map-append}
use Rattle.std.proofs.lemmas.List.Elements.{All-push}
use Rattle.uid_names.specs.declared.lock_row.LockRow.{LockRow}
use Rattle.ring_messages.specs.Spelling.{row_bytes}
use Rattle.ring_messages.specs.Spelled.{IsRow}

take-row : (rows : List LockRow) (i : ℕ) (row : LockRow) → row ≡ get_or rows i row → i < length rows → take (i + 1) rows ≡ take i rows ++ row ∷ []
take-row rows i row is lt = take_more rows i row lt ∙ ap (λ (r : LockRow). take i rows ++ r ∷ []) (sym is)

pub one_more_row : (old out new : List ℕ) (rows : List LockRow) (i : ℕ) (row : LockRow) → row ≡ get_or rows i row → i < length rows → out ≡ old ++ flat_map row_bytes (take i rows) → new ≡ out ++ row_bytes row → new ≡ old ++ flat_map row_bytes (take (i + 1) rows)
one_more_row old out new rows i row is lt so_far one =
    let more : flat_map row_bytes (take (i + 1) rows) ≡ flat_map row_bytes (take i rows) ++ row_bytes row =
    ap (flat_map row_bytes) (take-row rows i row is lt) ∙ flat_map-append row_bytes (take i rows) (row ∷ []) ∙ ap (λ (r : List ℕ). flat_map row_bytes (take i rows) ++ r) (append-nil (row_bytes row)) in
    one ∙ ap (λ (r : List ℕ). r ++ row_bytes row) so_far ∙ append_assoc old (flat_map row_bytes (take i rows)) (row_bytes row) ∙ ap (λ (r : List ℕ). old ++ r) (sym more)

pub one_more_is : (rows : List LockRow) (i : ℕ) (row : LockRow) → row ≡ get_or rows i row → i < length rows → All IsRow (take i rows) → IsRow row → All IsRow (take (i + 1) rows)
one_more_is rows i row is lt so_far one = subst (All IsRow) (sym (take-row rows i row is lt)) (All-push IsRow (take i rows) row so_far one)
