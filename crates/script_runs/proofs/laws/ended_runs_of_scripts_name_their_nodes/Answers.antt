use Rattle.std.proofs.Common.{subst}
use Rattle.std.specs.Prelude.{All}
use Rattle.world_runs.specs.NamedNodes.{NamesNodes}
use Rattle.script_runs.specs.Setups.{setup_of}
use Rattle.script_runs.proofs.laws.ended_runs_of_scripts_name_their_nodes.Goals as goal

pub returns : goal.returns
returns c = λ s content start events w is.
    subst (λ n. All (NamesNodes n) events) content.draft.opening_nodes
    (c.events_name_nodes.ensures.runs (setup_of s) (c.scripts_set_nodes_up.ensures s content start) events w is.run.planned.run is.run.leads is.timely)
