-- In which answers two outcomes differ.
use Rattle.std.specs.Prelude.{ℕ, zero, suc, ◌+◌, Bool, true, false, max, Option, Some, None, List, [], ◌∷◌, ◌++◌, length, bytes_eq, slice_get}
use Rattle.uid_names.specs.Names.{ProcName, same_proc}
use Rattle.run_outcomes.specs.declared.outcome.OutcomeRow.{OutcomeRow}
use Rattle.run_outcomes.specs.declared.difference.Difference.{Difference}

-- whether two answers are one text, or both are missing
abbrev pub same_text : Option (List ℕ) → Option (List ℕ) → Bool
same_text None None = true
same_text None (Some y) = false
same_text (Some x) None = false
same_text (Some x) (Some y) = bytes_eq x y

abbrev pub difference_if : Bool → Difference → List Difference
difference_if true d = []
difference_if false d = d ∷ []

-- in which the answers of a command differ
abbrev pub command_differences : ProcName → ℕ → Option (List ℕ) → Option (List ℕ) → List Difference
command_differences proc index x y = difference_if (same_text x y) (record { proc = proc; index = index; first = x; second = y })

-- in which those of the first so many commands of a process differ
abbrev pub answers_up_to : ℕ → ProcName → List (List ℕ) → List (List ℕ) → List Difference
answers_up_to zero proc xs ys = []
answers_up_to (suc n) proc xs ys = answers_up_to n proc xs ys ++ command_differences proc (n + 1) (slice_get xs n) (slice_get ys n)

abbrev pub answer_differences : ProcName → List (List ℕ) → List (List ℕ) → List Difference
answer_differences proc xs ys = answers_up_to (max (length xs) (length ys)) proc xs ys

-- two rows, of one process or of two
abbrev pub pair_differences : Bool → OutcomeRow → OutcomeRow → List Difference
pair_differences true r s = answer_differences r.proc r.answers s.answers
pair_differences false r s = answer_differences r.proc r.answers [] ++ answer_differences s.proc [] s.answers

-- the rows that stand at one place of two outcomes
abbrev pub row_differences : Option OutcomeRow → Option OutcomeRow → List Difference
row_differences None None = []
row_differences None (Some s) = answer_differences s.proc [] s.answers
row_differences (Some r) None = answer_differences r.proc r.answers []
row_differences (Some r) (Some s) = pair_differences (same_proc r.proc s.proc) r s

abbrev pub rows_up_to : ℕ → List OutcomeRow → List OutcomeRow → List Difference
rows_up_to zero rs ss = []
rows_up_to (suc n) rs ss = rows_up_to n rs ss ++ row_differences (slice_get rs n) (slice_get ss n)

-- in which two outcomes differ, by process and by command
abbrev pub outcome_differences : List OutcomeRow → List OutcomeRow → List Difference
outcome_differences rs ss = rows_up_to (max (length rs) (length ss)) rs ss
