-- What is said to what is asked.
use Rattle.std.specs.Prelude.{ℕ, ◌≡◌, List}
use Rattle.script_reader.specs.Scripts.{Content}
use Rattle.script_runner.specs.Domain.{IsSourceOf}
use Rattle.script_runner.specs.Outside.{Bytes}
use Rattle.event_views.specs.Runs.{Run}
use Rattle.view_program.specs.declared.asked.Asked.{Asked}
use Rattle.view_program.specs.declared.asked.Asked.TheVariants.{Lanes, Counts, Diff, Explore, Find}
use Rattle.view_program.specs.declared.asked.Shown.{Shown}
use Rattle.view_program.specs.declared.asked.Numbers.{Numbers}
use Rattle.view_program.specs.declared.reading.Said.{Said}
use Rattle.view_program.specs.Drawn.{SaysDrawn}
use Rattle.view_program.specs.Read.{IsRead}
use Rattle.view_program.specs.Searches.{SaysExplored, SaysFound}

-- the run that the source and a number pick, drawn
pub record SaysLanes (shown : Shown) (turns : ℕ) (left : Bytes) (said : Said) : Type 0 where
  pub run : Run
  pub read : IsRead left turns run.events
  pub width : ℕ
  pub drawn : SaysDrawn shown width run said

-- what came of the source's script in the turns of these numbers
pub record SaysAll (numbers : Numbers) (left : Bytes) (said : Said) : Type 0 where
  pub script : Content
  pub source : IsSourceOf left script
  pub all : SaysExplored script numbers.first numbers.end said

-- the lowest of these numbers whose journal has a line with the words
pub record SaysLowest (numbers : Numbers) (words : List (List ℕ)) (left : Bytes) (said : Said) : Type 0 where
  pub script : Content
  pub source : IsSourceOf left script
  pub lowest : SaysFound script words numbers.first numbers.end said

-- what is said to what is asked; of what a run counts and where two differ only that it is said
abbrev pub IsAnswer : Asked → Bytes → Said → Type 0
IsAnswer (Lanes turns shown) left said = SaysLanes shown turns left said
IsAnswer (Counts turns) left said = said.status ≡ 0
IsAnswer (Diff compared) left said = said.status ≡ 0
IsAnswer (Explore numbers) left said = SaysAll numbers left said
IsAnswer (Find numbers words) left said = SaysLowest numbers words left said
