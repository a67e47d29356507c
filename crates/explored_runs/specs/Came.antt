-- What came of a number: the outcome of the run of a script that it picks, or why it has none.
use Rattle.std.specs.Prelude.{ℕ, ◌+◌, ◌≡◌, Some, List, [], ◌∷◌, map}
use Rattle.script_reader.specs.Scripts.{Content}
use Rattle.script_runs.specs.Runs.{last_tick}
use Rattle.script_runner.specs.declared.run.AnswerRow.{AnswerRow}
use Rattle.script_runner.specs.declared.run.Ran.{Ran}
use Rattle.script_runner.specs.Reports.{RunOf}
use Rattle.script_runner.specs.Faults.{ComesToLastTick}
use Rattle.run_outcomes.specs.declared.outcome.OutcomeRow.{OutcomeRow}
use Rattle.explored_counts.specs.declared.came.CameOf.{CameOf}
use Rattle.explored_counts.specs.declared.came.CameOf.TheVariants.{Answers, LastTick, NoMemory}

-- a process and its answers, as outcomes have them
abbrev pub outcome_row : AnswerRow → OutcomeRow
outcome_row row = record { proc = row.proc; answers = row.answers }

-- the answers of this run, or no memory
abbrev pub IsOutcomeOf : Ran → CameOf → Type 0
IsOutcomeOf ran (Answers outcome) = outcome ≡ map outcome_row ran.answers
IsOutcomeOf ran LastTick = ⊥
IsOutcomeOf ran NoMemory = Unit {0}

-- the answers are those of the run of the script in the turns of this number; or a node comes to the last tick in them
abbrev pub IsCameOf : Content → ℕ → CameOf → Type 0
IsCameOf s number (Answers outcome) = (ran : Ran) × RunOf s (Some number) last_tick ran × (outcome ≡ map outcome_row ran.answers)
IsCameOf s number LastTick = (node : ℕ) × ComesToLastTick s (Some number) last_tick node
IsCameOf s number NoMemory = Unit {0}

-- each of these came of its number, which are this one and those that follow it
abbrev pub AreCameOf : Content → ℕ → List CameOf → Type 0
AreCameOf s number [] = Unit {0}
AreCameOf s number (came ∷ rest) = IsCameOf s number came × AreCameOf s (number + 1) rest
