-- The nodes of a script that have ended, and the shells of its processes then (for the private code alone).
use Rattle.std.specs.Prelude.{ℕ, ◌≡◌, Option, IfSome, List, length, reverse}
use Rattle.std.specs.Option.{option_map}
use Rattle.uid_names.specs.Names.{ProcName}
use Rattle.dom_history.specs.Events.{Happening}
use Rattle.dom_history.specs.Programs.{program_after}
use Rattle.fault_handler.specs.Desks.{IsNode}
use Rattle.script_reader.specs.Scripts.{Content}
use Rattle.aegis_shell.specs.Shells.{Shelled, shell_after}
use Rattle.node_runs.specs.Runs.{World}
use Rattle.recent_runs.specs.Recent.{IsRecent}
use Rattle.ended_nodes.specs.Ended.{named}
use Rattle.script_runs.specs.Setups.{setup_of}
use Rattle.script_runs.specs.Runs.{IsEndedRunOf, IsPickedRunOf}
use Rattle.script_runs.specs.Histories.{heard_in}
use Rattle.script_runner.specs.Nodes.{made_shell}
use Rattle.script_runner.specs.declared.run.Ran.{Ran}
use Rattle.script_runner.specs.Reports.{RunOf, StaysBelow}

-- these events, by rising place, are a recent run of the script that has ended, the one that the number of turns picks where there is one;
-- and each shell is what it became by what its process heard
pub record AreEndedShells (s : Content) (turns : Option ℕ) (last : ℕ) (events : List Happening) (shells : List (ProcName × Shelled)) : Type 0 where
  pub done : List Happening
  pub world : World
  pub run : IsEndedRunOf s done world
  pub picked : IfSome turns (λ number. IsPickedRunOf s number last done)
  pub below : IfSome turns (λ number. StaysBelow s number last)
  pub recent : IsRecent (setup_of s) done
  pub by_place : events ≡ reverse done
  pub heard : (p : ProcName) → IsNode (length s.nodes) p.node → named shells p ≡ option_map (λ y. program_after shell_after y (heard_in world p)) (made_shell s p.node p.number)

-- of whatever run these are the events and the shells, this came of it
abbrev pub CameOf : Content → List Happening → List (ProcName × Shelled) → Ran → Type 0
CameOf s events shells ran = (turns : Option ℕ) (last : ℕ) → AreEndedShells s turns last events shells → RunOf s turns last ran
