-- The answers of shells, by their processes.
use Rattle.std.specs.Prelude.{ℕ, Option, Some, None, List, []}
use Rattle.uid_names.specs.Names.{ProcName}
use Rattle.aegis_shell.specs.Shells.{Shelled, shell_answers}
use Rattle.ended_nodes.specs.Ended.{named}
use Rattle.script_runs.specs.Reports.{ProcAnswers}

abbrev pub answers_by : Option Shelled → List (List ℕ)
answers_by None = []
answers_by (Some shell) = shell_answers shell

-- a process, and what its shell was answered
abbrev pub row_in : List (ProcName × Shelled) → ProcName → ProcAnswers
row_in shells p = record { proc = p; answers = answers_by (named shells p) }
