-- Which run is read.
use Rattle.std.specs.Prelude.{ℕ, ◌⊎◌, List}
use Rattle.std.specs.Io.KnownBytes.{IsAtEnd}
use Rattle.script_reader.specs.Scripts.{Content}
use Rattle.script_reader.specs.Grammar.{IsScript}
use Rattle.script_runner.specs.Domain.{AreLeft}
use Rattle.script_runner.specs.Outside.{Bytes}
use Rattle.script_runner.specs.Parted.{IsParted, LacksParting}
use Rattle.event_views.specs.declared.run.EventView.{EventView}
use Rattle.run_views.specs.Shown.{AreOfTurns, AreOfJournal}

-- the run that the turns of a number pick of the script that the bytes are
pub record IsRunOfTurns (bytes : List ℕ) (turns : ℕ) (views : List EventView) : Type 0 where
  pub script : Content
  pub form : IsScript bytes script
  pub are : AreOfTurns script turns views

-- the run of the script in front whose journal stands behind it
pub record IsRunOfJournal (front behind : List ℕ) (views : List EventView) : Type 0 where
  pub script : Content
  pub form : IsScript front script
  pub are : AreOfJournal script behind views

-- the bytes have no line between a script and a journal, and the number picks the run
pub record IsPicked (bytes : List ℕ) (turns : ℕ) (views : List EventView) : Type 0 where
  pub lacks : LacksParting bytes
  pub run : IsRunOfTurns bytes turns views

-- they have it, and the journal behind it picks the run
pub record IsChecked (bytes : List ℕ) (views : List EventView) : Type 0 where
  pub front : List ℕ
  pub behind : List ℕ
  pub parted : IsParted bytes front behind
  pub run : IsRunOfJournal front behind views

-- the run that the bytes and a number pick
abbrev pub IsRunIn : List ℕ → ℕ → List EventView → Type 0
IsRunIn bytes turns views = IsPicked bytes turns views ⊎ IsChecked bytes views

-- the run that the bytes of a source and a number pick; the source is at its end
pub record IsRead (left : Bytes) (turns : ℕ) (views : List EventView) : Type 0 where
  pub bytes : List ℕ
  pub are_left : AreLeft left.before bytes
  pub run : IsRunIn bytes turns views
  pub at_end : IsAtEnd left.after
