use Rattle.script_runs.specs.Histories.{script_history}
use Rattle.read_laws.proofs.lists.runs_read_at_one_place.Goals as goal

pub returns : goal.returns
returns c = λ s content start events w ended.
    let one = c.ended_runs_of_scripts_are_as_one_store.ensures s content start events w ended in
    c.objects_are_read_at_one_place.ensures s.opening (script_history s events) one.legal one.whole.nothing_open
