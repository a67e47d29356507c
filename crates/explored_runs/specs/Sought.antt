-- Which line of which journal has some words.
use Rattle.std.specs.Prelude.{ℕ, ◌<◌, ◌≤◌, ◌≡◌, ◌⊎◌, Option, Some, None, List, find}
use Rattle.script_reader.specs.Scripts.{Content}
use Rattle.script_reader.specs.Grammar.{raw_lines}
use Rattle.journal_text.specs.Lines.{journal}
use Rattle.script_runs.specs.Runs.{last_tick}
use Rattle.script_runs.specs.Reports.{names_of}
use Rattle.script_runner.specs.declared.run.Ran.{Ran}
use Rattle.script_runner.specs.Reports.{RunOf}
use Rattle.script_runner.specs.Faults.{ComesToLastTick}
use Rattle.event_views.specs.LineWords.{words_in, are_found}
use Rattle.explored_runs.specs.declared.numbers.Found.{Found}

-- the first of these lines that has the words in order
abbrev pub first_with : List (List ℕ) → List (List ℕ) → Option (List ℕ)
first_with words lines = find (λ line. are_found (words_in line) words) lines

-- the first such line of the journal of a run of the script in the turns of this number, if it has one
pub record IsSoughtInRun (s : Content) (words : List (List ℕ)) (number : ℕ) (line : Option (List ℕ)) : Type 0 where
  pub ran : Ran
  pub run : RunOf s (Some number) last_tick ran
  pub first : line ≡ first_with words (raw_lines (journal (names_of s) ran.events))

-- the same; or none, since a node comes to the last tick in the turns of this number
abbrev pub IsSought : Content → List (List ℕ) → ℕ → Option (List ℕ) → Type 0
IsSought s words number (Some line) = IsSoughtInRun s words number (Some line)
IsSought s words number None = IsSoughtInRun s words number None ⊎ ((node : ℕ) × ComesToLastTick s (Some number) last_tick node)

-- none of the numbers from one up to another, which is none of them, has such a line
abbrev pub HasNone : Content → List (List ℕ) → ℕ → ℕ → Type 0
HasNone s words from to = (number : ℕ) → from ≤ number → number < to → IsSought s words number None

-- this one is the lowest of them that has such a line, and this is its first
pub record IsLowest (s : Content) (words : List (List ℕ)) (from to : ℕ) (found : Found) : Type 0 where
  pub low : from ≤ found.number
  pub high : found.number < to
  pub line : IsSought s words found.number (Some found.line)
  pub lower : HasNone s words from found.number

-- the lowest of them that has such a line, or that none has
abbrev pub IsFound : Content → List (List ℕ) → ℕ → ℕ → Option Found → Type 0
IsFound s words from to None = HasNone s words from to
IsFound s words from to (Some found) = IsLowest s words from to found
