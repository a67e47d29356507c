use Rattle.std.proofs.Common.{◌≡◌, List, ◌∙◌}
use Rattle.uid_names.specs.Openings.{IsStart}
use Rattle.dom_history.specs.Events.{Happening}
use Rattle.script_reader.specs.Scripts.{Content, IsContent}
use Rattle.node_runs.specs.Runs.{World}
use Rattle.run_laws.specs.HeardOf.{heard_in}
use Rattle.script_runs.specs.Setups.{setup_of}
use Rattle.script_runs.specs.Runs.{IsEndedRunOf}
use Rattle.script_runs.specs.Answers.{heard_as}
use Rattle.script_runs.specs.Reports.{rows_of, history_rows}
use Rattle.script_runs.specs.Histories.{script_history}
use Rattle.script_runs.proofs.Running.{rows-are, like-heard}
use Rattle.script_runs.proofs.laws.answers_are_functions_of_histories.Goals as goal

pub returns : goal.returns
returns c =
    let ended : (s : Content) → IsContent s → IsStart s.opening → (events : List Happening) (w : World) → IsEndedRunOf s events w → rows_of s (heard_in w) ≡ history_rows s (script_history s events) =
    λ s content start events w is.
    rows-are s content (heard_in w) (heard_as s (script_history s events))
    (c.histories_say_what_was_heard.ensures.ended (setup_of s) s.plan (c.scripts_set_nodes_up.ensures s content start) (c.scripts_are_paced.ensures s content) events w is.run is.timely) in
    record {
      ended = ended;
      picked = λ s seed last content start most events picked.
          let led = c.a_seed_picks_one_run_of_a_script.ensures.ended s seed last content start most events picked in
          rows-are s content (heard_in picked.world) (heard_in led.0) (λ p proc. like-heard picked.world led.0 led.2 p) ∙ ended s content start events led.0 led.1;
    }
