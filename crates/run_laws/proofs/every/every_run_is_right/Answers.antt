use Rattle.std.proofs.Common.{◌≡◌, List, Some, subst}
use Rattle.std.specs.Prelude.{map}
use Rattle.dom_history.specs.Events.{Happening}
use Rattle.node_runs.specs.Setups.{Setup, IsSetup}
use Rattle.node_runs.specs.NodesKeep.{IsTimely}
use Rattle.node_runs.specs.Runs.{World, choice_of, world_of, IsRun}
use Rattle.world_runs.proofs.LostFrames.{done-is}
use Rattle.run_laws.specs.EveryRun.{IsRightAt, IsRightRun}
use Rattle.run_laws.proofs.Parts.{run-world, IsPart, part-of}
use Rattle.run_laws.proofs.every.every_run_is_right.Goals as goal

pub returns : goal.returns
returns c =
    let at : (s : Setup) → IsSetup s → (es : List Happening) (w : World) → IsRun s es → world_of s es ≡ Some w → IsTimely w → IsRightAt s es w =
    λ s setup es w run leads timely. record {
      legal = c.each_history_is_one_of_one_store.ensures s setup es w leads timely;
      phased = c.phases_never_overlap.ensures s setup es w leads timely;
      follows = c.histories_follow_programs.ensures s setup es w leads timely;
      replies = c.entries_are_what_programs_heard.ensures.replies s setup (map choice_of es) w leads timely;
      asked = c.entries_are_what_programs_heard.ensures.asked s setup (map choice_of es) w leads timely;
      answered = c.an_open_call_finds_what_it_needs.ensures.right s setup (map choice_of es) w leads timely;
      homes = c.a_home_has_what_was_stored_at_an_unlock.ensures s setup es w run leads timely;
    } in
    let each : (s : Setup) → IsSetup s → (es : List Happening) (w : World) → IsRun s es → world_of s es ≡ Some w → IsTimely w → IsRightRun s es =
    λ s setup es w run leads timely. record {
      world = w;
      leads = leads;
      done = done-is s es w run leads;
      each = λ newer older same.
          let part : IsPart s older w = part-of s newer older w (subst (IsRun s) same run) (subst (λ xs. world_of s xs ≡ Some w) same leads) in
          (part.world, part.leads, at s setup older part.world part.run part.leads (part.timely timely));
    } in
    record {
      every = λ s setup es run few.
          let led = run-world s es run in
          each s setup es led.0 run led.1 (c.a_run_of_few_events_is_timely.ensures s es led.0 run led.1 few);
      timely = each;
      last = at;
    }
