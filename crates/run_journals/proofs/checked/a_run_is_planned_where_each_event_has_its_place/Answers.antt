use Rattle.std.proofs.Common.{◌≡◌, ℕ, List, Some, length, ap, ◌∙◌}
use Rattle.std.specs.Prelude.{map}
use Rattle.dom_history.specs.Events.{Happening}
use Rattle.node_runs.specs.Setups.{Setup, IsSetup}
use Rattle.node_runs.specs.NodesKeep.{IsTimely}
use Rattle.node_runs.specs.Runs.{World, IsRun, choice_of, world_of}
use Rattle.world_runs.specs.Sendings.{frames_on}
use Rattle.world_runs.proofs.LostFrames.{done-is}
use Rattle.run_journals.proofs.Planned.{planned-kept, kept-planned}
use Rattle.run_journals.proofs.checked.a_run_is_planned_where_each_event_has_its_place.Goals as goal

pub returns : goal.returns
returns c =
    let counts : (s : Setup) (es : List Happening) (w : World) → IsSetup s → IsRun s es → world_of s es ≡ Some w → IsTimely w → (from to : ℕ) → length (w.frames from to) ≡ frames_on from to es =
    λ s es w setup run leads timely from to.
    c.each_frame_of_a_run_says_the_next_number.ensures.links s setup (map choice_of es) w leads timely from to
    ∙ ap (λ (xs : List Happening). frames_on from to xs) (done-is s es w run leads) in
    record {
      kept = λ s plan es w setup leads timely planned. planned-kept s plan es w leads (counts s es w setup planned.run leads timely) planned;
      planned = λ s plan es w setup is_plan run leads timely kept. kept-planned s plan es w leads (counts s es w setup run leads timely) is_plan run kept;
    }
