use Rattle.std.proofs.Common.{List}
use Rattle.uid_names.specs.Openings.{IsStart}
use Rattle.dom_history.specs.Events.{Happening}
use Rattle.script_reader.specs.Scripts.{Content, IsContent}
use Rattle.node_runs.specs.Runs.{World}
use Rattle.script_runs.specs.Setups.{setup_of}
use Rattle.script_runs.specs.Runs.{IsEndedRunOf}
use Rattle.script_runs.specs.Answers.{heard_as, AreAllAnswered}
use Rattle.script_runs.specs.Histories.{script_history}
use Rattle.script_runs.proofs.Counting.{all-answered}
use Rattle.script_runs.proofs.laws.each_process_has_one_answer_for_each_command.Goals as goal

pub returns : goal.returns
returns c =
    let each : (s : Content) → IsContent s → IsStart s.opening → (events : List Happening) (w : World) → IsEndedRunOf s events w → AreAllAnswered s (script_history s events) =
    λ s content start events w is p.
    let h = script_history s events in
    let paced = c.scripts_are_paced.ensures s content in
    let ended = c.an_ended_run_ends_its_programs.ensures.history (setup_of s) s.plan (c.scripts_set_nodes_up.ensures s content start) paced events w is.run is.timely in
    c.each_command_has_one_answer.ensures.all s p (heard_as s h p) (c.histories_say_what_was_heard.ensures.ended_history (setup_of s) paced h ended p) in
    record {
      each = each;
      all = λ s content start events w is. all-answered s (heard_as s (script_history s events)) (each s content start events w is);
    }
