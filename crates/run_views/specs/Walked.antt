-- How a pass goes over the events of a run, of which the last one stands first, and what is seen of each. No public clause cites these.
use Rattle.std.specs.Prelude.{◌≡◌, ◌<◌, ◌^◌, List, ◌∷◌, length}
use Rattle.dom_history.specs.Events.{Happening}
use Rattle.script_reader.specs.Scripts.{Content}
use Rattle.aegis_shell.specs.Shells.{Shelled, shell_wants, shell_after}
use Rattle.node_runs.specs.Runs.{World}
use Rattle.script_runs.specs.Setups.{setup_of}
use Rattle.run_journals.specs.RecentRuns.{IsRecentRun}
use Rattle.journal_check.specs.Passes.{StandsFor}
use Rattle.journal_check.specs.declared.pass.Pass.{Pass}
use Rattle.script_runner.specs.Nodes.{made_shell}
use Rattle.event_views.specs.declared.run.EventView.{EventView}

-- a pass over the nodes of a script did these events
pub record HasDone {G : Type 0} (s : Content) (pass : Pass Shelled G) (es : List Happening) : Type 0 where
  pub world : World
  pub stands : StandsFor shell_wants shell_after (made_shell s) (setup_of s) pass world
  pub done : world.done ≡ es

-- an event comes next behind few others
pub record ComesNext (s : Content) (e : Happening) (es : List Happening) : Type 0 where
  pub few : length es < 2 ^ 40
  pub run : IsRecentRun (setup_of s) (e ∷ es)

-- it was done, and is seen
pub record IsSeen {G : Type 0} (s : Content) (pass : Pass Shelled G) (e : Happening) (es : List Happening) (view : EventView) : Type 0 where
  pub event : view.event ≡ e
  pub done : HasDone s pass (e ∷ es)
