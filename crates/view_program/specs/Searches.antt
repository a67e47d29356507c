-- What is said of many numbers of turns.
use Rattle.std.specs.Prelude.{ℕ, ◌-◌, ◌≡◌, Option, Some, None, List, ◌++◌, codes, decimal}
use Rattle.script_reader.specs.Scripts.{Content}
use Rattle.script_runs.specs.Reports.{names_of}
use Rattle.explored_counts.specs.declared.seen.Explored.{Explored}
use Rattle.explored_counts.specs.Told.{IsTold}
use Rattle.explored_runs.specs.Explored.{IsExplored}
use Rattle.explored_runs.specs.declared.numbers.Found.{Found}
use Rattle.explored_runs.specs.Sought.{IsFound}
use Rattle.view_program.specs.declared.reading.Said.{Said}
use Rattle.view_program.specs.Saying.{saying}

-- what is told of what came of a script in the turns of each number from one up to another, which is none of them
pub record SaysExplored (s : Content) (from to : ℕ) (said : Said) : Type 0 where
  pub explored : Explored
  pub runs : IsExplored s from to explored
  pub text : List ℕ
  pub told : IsTold (names_of s) explored (to - from) text
  pub is : said ≡ saying 0 text

-- a number, and the line of its journal
abbrev pub found_line : Found → List ℕ
found_line f = codes "turns " ++ decimal f.number ++ codes ": " ++ f.line ++ codes "\n"

-- the number that was found, or the status 1 alone
abbrev pub said_of_found : Option Found → Said
said_of_found None = record { status = 1; text = None }
said_of_found (Some f) = saying 0 (found_line f)

-- the lowest of these numbers whose journal has a line with the words
pub record SaysFound (s : Content) (words : List (List ℕ)) (from to : ℕ) (said : Said) : Type 0 where
  pub found : Option Found
  pub runs : IsFound s words from to found
  pub is : said ≡ said_of_found found
