-- What is told of a journal of a script that is accepted.
use Rattle.std.specs.Prelude.{◌≡◌, ℕ, ◌-◌, Option, List, length, map, slice_get}
use Rattle.uid_names.specs.Names.{ProcName}
use Rattle.uid_names.specs.Steps.{◌>>=◌}
use Rattle.dom_history.specs.Events.{Happening}
use Rattle.script_reader.specs.Scripts.{Content}
use Rattle.aegis_shell.specs.Shells.{Shelled}
use Rattle.node_runs.specs.Runs.{World}
use Rattle.node_core.specs.Nodes.{Noted, program_of}
use Rattle.script_runs.specs.Histories.{script_history, IsAsOneStore}
use Rattle.script_runs.specs.Reports.{ProcAnswers, history_rows}
use Rattle.journal_check.specs.Journals.{IsAcceptedOf}
use Rattle.script_runner.specs.Answered.{answers_by}
use Rattle.script_runner.specs.Reports.{answers_in}
use Rattle.script_runner.specs.declared.checks.CheckedJournal.{CheckedJournal}

-- the shell of a process among nodes, by number
abbrev pub shell_at : List (Noted Shelled) → ProcName → Option Shelled
shell_at nodes p = slice_get nodes (p.node - 1) >>= λ x. program_of x p.number

-- a process, and what its shell was answered
abbrev pub row_at : List (Noted Shelled) → ProcName → ProcAnswers
row_at nodes p = record { proc = p; answers = answers_by (shell_at nodes p) }

-- the bytes are the journal of these events, which are an ended and recent run of the script, planned by its faults, and as one store would have it; so
-- many events are in it, and the answers are those of its history
pub record IsCheckedOf (s : Content) (bytes : List ℕ) (c : CheckedJournal) : Type 0 where
  pub events : List Happening
  pub world : World
  pub is : IsAcceptedOf s bytes events world
  pub one_store : IsAsOneStore s events world
  pub count : c.events ≡ length events
  pub answered : map answers_in c.answers ≡ history_rows s (script_history s events)
