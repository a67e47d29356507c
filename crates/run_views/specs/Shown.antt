-- Which run is shown.
use Rattle.std.specs.Prelude.{◌≡◌, ℕ, List, reverse}
use Rattle.dom_history.specs.Events.{Happening}
use Rattle.script_reader.specs.Scripts.{Content}
use Rattle.node_runs.specs.Runs.{World}
use Rattle.script_runs.specs.Runs.{IsPickedRunOf}
use Rattle.journal_check.specs.Journals.{IsAcceptedOf}
use Rattle.script_runner.specs.declared.domain.TheConstants.{LAST_TICK}
use Rattle.event_views.specs.Runs.{events_of}
use Rattle.event_views.specs.declared.run.EventView.{EventView}

-- the views are of the run that the turns of a number pick, in its order
pub record AreOfTurns (s : Content) (turns : ℕ) (views : List EventView) : Type 0 where
  pub events : List Happening
  pub picked : IsPickedRunOf s turns LAST_TICK events
  pub are : events_of views ≡ reverse events

-- the views are of the run whose journal these bytes are, in its order
pub record AreOfJournal (s : Content) (bytes : List ℕ) (views : List EventView) : Type 0 where
  pub events : List Happening
  pub world : World
  pub is : IsAcceptedOf s bytes events world
  pub are : events_of views ≡ reverse events
