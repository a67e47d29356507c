-- The first line of the journal of a run.
use Rattle.std.proofs.Common.{◌≡◌, ℕ, List, Option, Some, None, ap, ◌∙◌, inl}
use Rattle.script_reader.specs.Scripts.{Content}
use Rattle.script_reader.specs.Grammar.{raw_lines}
use Rattle.journal_text.specs.Lines.{journal}
use Rattle.script_runs.specs.Runs.{last_tick}
use Rattle.script_runs.specs.Reports.{names_of}
use Rattle.script_runner.specs.declared.run.Ran.{Ran}
use Rattle.script_runner.specs.Reports.{RunOf}
use Rattle.explored_runs.specs.Sought.{first_with, IsSought}

pub sought-in-run : (s : Content) (words names : List (List ℕ)) (number : ℕ) (ran : Ran) (line : Option (List ℕ)) → RunOf s (Some number) last_tick ran → names ≡ names_of s → line ≡ first_with words (raw_lines (journal names ran.events)) → IsSought s words number line
sought-in-run s words names number ran (Some line) run named is = record { ran = ran; run = run; first = is ∙ ap (λ (n : List (List ℕ)). first_with words (raw_lines (journal n ran.events))) named }
sought-in-run s words names number ran None run named is = inl (record { ran = ran; run = run; first = is ∙ ap (λ (n : List (List ℕ)). first_with words (raw_lines (journal n ran.events))) named })
