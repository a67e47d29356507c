-- The report of a script.
use Rattle.std.specs.Prelude.{ℕ, ◌+◌, List, [], ◌∷◌, ◌++◌, codes, decimal, map}
use Rattle.uid_names.specs.Names.{ProcName}
use Rattle.dom_history.specs.Follows.{Heard}
use Rattle.dom_history.specs.Histories.{History}
use Rattle.node_texts.specs.Texts.{process_text}
use Rattle.script_reader.specs.Scripts.{Content}
use Rattle.aegis_shell.specs.Asking.{answers}
use Rattle.script_runs.specs.Processes.{processes_of}
use Rattle.script_runs.specs.Answers.{heard_as}

-- a process, and the answers of its commands in order
pub record ProcAnswers : Type 0 where
  pub proc : ProcName
  pub answers : List (List ℕ)

-- a line of the report: the process, the number of the command in its process, and its answer
abbrev pub report_line : List ℕ → ℕ → List ℕ → List ℕ
report_line process index answer = process ++ codes " " ++ decimal index ++ codes " " ++ answer ++ codes "\n"

-- the lines of a process's answers, from an index on
abbrev pub report_lines : List ℕ → ℕ → List (List ℕ) → List ℕ
report_lines process index [] = []
report_lines process index (answer ∷ rest) = report_line process index answer ++ report_lines process (index + 1) rest

-- the lines of processes, one after another
abbrev pub lines_of : List (List ℕ) → List ProcAnswers → List ℕ
lines_of names [] = []
lines_of names (a ∷ rest) = report_lines (process_text names a.proc) 1 a.answers ++ lines_of names rest

-- the names of a script's nodes, by number
abbrev pub names_of : Content → List (List ℕ)
names_of s = map (λ n. n.name) s.nodes

-- the answers of each process, in order of node and number; each process has heard this
abbrev pub rows_of : Content → (ProcName → Heard) → List ProcAnswers
rows_of s heard = map (λ p. record { proc = p; answers = answers s p (heard p) }) (processes_of s.commands)

-- the same, as a history has them
abbrev pub history_rows : Content → History → List ProcAnswers
history_rows s h = rows_of s (heard_as s h)

-- the report of a history: a line for each command that was answered
abbrev pub report_of : Content → History → List ℕ
report_of s h = lines_of (names_of s) (history_rows s h)
