-- The histories of which that is said.
use Rattle.std.specs.Prelude.{◌<◌, ◌-◌, ◌^◌, length}
use Rattle.uid_names.specs.Names.{ProcName}
use Rattle.dom_history.specs.Follows.{Follows, IsEnded}
use Rattle.dom_history.specs.Histories.{History}
use Rattle.dom_history.specs.Legal.{IsLegal}
use Rattle.dom_history.specs.Ranges.{AreNamedReplies}
use Rattle.script_reader.specs.Scripts.{Content}
use Rattle.aegis_shell.specs.Asking.{ask}
use Rattle.node_runs.specs.Told.{AreFitting}
use Rattle.script_runs.specs.Answers.{heard_as}

-- a history of one store that does what a script gives its processes to do, to the end of all; each was told what fits, and of no object but real ones, and
-- no number runs over
pub record IsOfScript (s : Content) (h : History) : Type 0 where
  pub legal : IsLegal s.opening h
  pub follows : Follows (ask s) h
  pub ended : IsEnded (ask s) h
  pub fitting : (p : ProcName) → AreFitting (ask s p) (heard_as s h p)
  pub named : (p : ProcName) → AreNamedReplies (heard_as s h p)
  pub few : length h.items < 2 ^ 64 - 1
