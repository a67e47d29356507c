-- The differences of the first so many, and of one more.
use Rattle.std.proofs.Common.{◌≡◌, ℕ, ◌+◌, List, ◌++◌, ap, sym, ◌∙◌, add-one, append_assoc, Option}
use Rattle.std.specs.Prelude.{slice_get}
use Rattle.uid_names.specs.Names.{ProcName}
use Rattle.run_outcomes.specs.declared.outcome.OutcomeRow.{OutcomeRow}
use Rattle.run_outcomes.specs.declared.difference.Difference.{Difference}
use Rattle.run_outcomes.specs.Differing.{command_differences, answers_up_to, row_differences, rows_up_to}

pub answers-more : (start : List Difference) (i : ℕ) (proc : ProcName) (xs ys : List (List ℕ)) (was now : List Difference) (x y : Option (List ℕ)) → was ≡ start ++ answers_up_to i proc xs ys → now ≡ was ++ command_differences proc (i + 1) x y → x ≡ slice_get xs i → y ≡ slice_get ys i → now ≡ start ++ answers_up_to (i + 1) proc xs ys
answers-more start i proc xs ys was now x y so_far put left right =
    put ∙ (ap (λ d. d ++ command_differences proc (i + 1) x y) so_far ∙ (append_assoc start (answers_up_to i proc xs ys) (command_differences proc (i + 1) x y)
    ∙ (ap (λ z. start ++ (answers_up_to i proc xs ys ++ command_differences proc (i + 1) z y)) left
    ∙ (ap (λ z. start ++ (answers_up_to i proc xs ys ++ command_differences proc (i + 1) (slice_get xs i) z)) right
    ∙ ap (λ n. start ++ answers_up_to n proc xs ys) (sym (add-one i))))))

pub rows-more : (i : ℕ) (rs ss : List OutcomeRow) (was now : List Difference) (r s : Option OutcomeRow) → was ≡ rows_up_to i rs ss → now ≡ was ++ row_differences r s → r ≡ slice_get rs i → s ≡ slice_get ss i → now ≡ rows_up_to (i + 1) rs ss
rows-more i rs ss was now r s so_far put left right =
    put ∙ (ap (λ d. d ++ row_differences r s) so_far
    ∙ (ap (λ z. rows_up_to i rs ss ++ row_differences z s) left
    ∙ (ap (λ z. rows_up_to i rs ss ++ row_differences (slice_get rs i) z) right
    ∙ ap (λ n. rows_up_to n rs ss) (sym (add-one i)))))
