-- The line that sums up the answers of a script that was generated.
use Rattle.std.specs.Prelude.{◌≡◌, ℕ, Bool, ◌==◌, not, List, ◌++◌, codes, decimal, length}
use Rattle.std.specs.List.{starts_with, count_by, flat_map}
use Rattle.dom_history.specs.Histories.{History}
use Rattle.script_reader.specs.Scripts.{Content}
use Rattle.script_runs.specs.Reports.{ProcAnswers, history_rows}

-- an answer is ok where it begins so
abbrev pub is_ok : List ℕ → Bool
is_ok answer = starts_with ◌==◌ answer (codes "ok")

-- the answers of all processes, one process after another
abbrev pub all_answers : List ProcAnswers → List (List ℕ)
all_answers rows = flat_map (λ row. row.answers) rows

-- the line that tells the seed, how many commands were answered, how many of the answers are ok, and how many are not
abbrev pub summary_line : ℕ → ℕ → ℕ → ℕ → List ℕ
summary_line seed commands ok other =
    codes "seed " ++ decimal seed ++ codes " commands " ++ decimal commands ++ codes " ok " ++ decimal ok ++ codes " other " ++ decimal other ++ codes "\n"

-- the line that sums up these answers
abbrev pub summary : ℕ → List (List ℕ) → List ℕ
summary seed answers = summary_line seed (length answers) (count_by is_ok answers) (count_by (λ a. not (is_ok a)) answers)

-- the summary of a history: that of the answers of its report
abbrev pub summary_of : ℕ → Content → History → List ℕ
summary_of seed s h = summary seed (all_answers (history_rows s h))

-- there are as many answers as commands
abbrev pub AreAsManyAnswers : Content → History → Type 0
AreAsManyAnswers s h = length (all_answers (history_rows s h)) ≡ length s.commands
