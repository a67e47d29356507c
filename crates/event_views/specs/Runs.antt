-- What is shown of a run.
use Rattle.std.specs.Prelude.{ℕ, List, map, All}
use Rattle.dom_history.specs.Events.{Happening}
use Rattle.dom_history.specs.declared.plan.FateRow.{FateRow}
use Rattle.journal_text.specs.Lines.{Names}
use Rattle.script_reader.specs.declared.script.VarRow.{VarRow}
use Rattle.event_views.specs.declared.command.CommandName.{CommandName}
use Rattle.event_views.specs.declared.command.CommandView.{CommandView}
use Rattle.event_views.specs.declared.run.EventView.{EventView}

-- a run: the names of its nodes, the variables of its declared objects, the fates of frames, its commands, those that were answered before any
-- event, and its events in order
pub record Run : Type 0 where
  pub names : List (List ℕ)
  pub objects : List VarRow
  pub plan : List FateRow
  pub commands : List CommandView
  pub early : List CommandName
  pub events : List EventView

-- the events alone
abbrev pub events_of : List EventView → List Happening
events_of views = map (λ v. v.event) views

-- each node that the events name has a name
abbrev pub AreNamed : List (List ℕ) → List EventView → Type 0
AreNamed names views = All (λ v. Names names v.event) views
