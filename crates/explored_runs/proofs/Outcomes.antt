-- The outcome of a run, and what came of its number.
use Rattle.std.proofs.Common.{◌≡◌, ℕ, ◌+◌, ◌<◌, List, [], ◌∷◌, ◌++◌, length, take, map, get_or, Some, refl, sym, ap, ◌∙◌}
use Rattle.std.proofs.lemmas.List.{take_more, map-append}
use Rattle.script_reader.specs.Scripts.{Content}
use Rattle.script_runs.specs.Runs.{last_tick}
use Rattle.script_runner.specs.declared.run.AnswerRow.{AnswerRow}
use Rattle.script_runner.specs.declared.run.Ran.{Ran}
use Rattle.script_runner.specs.Reports.{RunOf}
use Rattle.run_outcomes.specs.declared.outcome.OutcomeRow.{OutcomeRow}
use Rattle.explored_counts.specs.declared.came.CameOf.{CameOf}
use Rattle.explored_counts.specs.declared.came.CameOf.TheVariants.{Answers, LastTick, NoMemory}
use Rattle.explored_runs.specs.Came.{IsCameOf, IsOutcomeOf, outcome_row}

-- with the row of one process more
pub rows-more : (rows : List AnswerRow) (i : ℕ) (row : AnswerRow) (answers : List (List ℕ)) (was now : List OutcomeRow) → i < length rows → row ≡ get_or rows i row → was ≡ map outcome_row (take i rows) → answers ≡ row.answers → now ≡ was ++ record { proc = row.proc; answers = answers } ∷ [] → now ≡ map outcome_row (take (i + 1) rows)
rows-more rows i row answers was now low stands so_far same put =
    put ∙ (ap (λ (a : List (List ℕ)). was ++ record { proc = row.proc; answers = a } ∷ []) same
    ∙ (ap (λ (w : List OutcomeRow). w ++ outcome_row row ∷ []) so_far
    ∙ (ap (λ (r : AnswerRow). map outcome_row (take i rows) ++ outcome_row r ∷ []) stands
    ∙ (sym (map-append outcome_row (take i rows) (get_or rows i row ∷ [])) ∙ ap (map outcome_row) (sym (take_more rows i row low))))))

-- what came of the run of a number came of the number
pub came-of-run : (s : Content) (number : ℕ) (ran : Ran) (came : CameOf) → RunOf s (Some number) last_tick ran → IsOutcomeOf ran came → IsCameOf s number came
came-of-run s number ran (Answers outcome) run is = (ran, run, is)
came-of-run s number ran LastTick run is = absurd is
came-of-run s number ran NoMemory run is = tt
