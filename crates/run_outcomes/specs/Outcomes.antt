-- Whether two outcomes are the same: the same processes in the same order, with the same answers.
use Rattle.std.specs.Prelude.{ℕ, Bool, ◌&&◌, List, bytes_eq}
use Rattle.std.specs.Cmp.Lexicographic.{pointwise}
use Rattle.uid_names.specs.Names.{same_proc}
use Rattle.run_outcomes.specs.declared.outcome.OutcomeRow.{OutcomeRow}

abbrev pub same_answers : List (List ℕ) → List (List ℕ) → Bool
same_answers xs ys = pointwise bytes_eq xs ys

abbrev pub same_row : OutcomeRow → OutcomeRow → Bool
same_row r s = same_proc r.proc s.proc && same_answers r.answers s.answers

abbrev pub same_outcome : List OutcomeRow → List OutcomeRow → Bool
same_outcome xs ys = pointwise same_row xs ys
