use Rattle.std.proofs.Common.{List, map, subst}
use Rattle.std.specs.Prelude.{All}
use Rattle.std.proofs.lemmas.List.Elements.{All-from_recursion, recursion_from_All}
use Rattle.dom_history.specs.Events.{Happening}
use Rattle.journal_text.specs.Written.{IsWritten}
use Rattle.node_runs.specs.Runs.{choice_of}
use Rattle.world_runs.specs.NamedNodes.{NamesNodes}
use Rattle.world_runs.proofs.LostFrames.{done-is}
use Rattle.run_journals.proofs.Journals.{events-written}
use Rattle.run_journals.proofs.Spelling.{runs-spelt}
use Rattle.run_journals.proofs.laws.each_event_can_be_spelled.Goals as goal

pub returns : goal.returns
returns c = λ s setup names enough events is.
    let cs = map choice_of events in
    let named = c.events_name_nodes.ensures.worlds s setup cs is.world is.leads is.timely in
    let event = c.each_node_of_a_run_agrees_with_its_desk.ensures.events s setup cs is.world is.leads is.timely in
    let spelt = runs-spelt s setup (λ cs w e timely. c.homes_stand_for_what_is_kept.ensures s setup cs w e timely) cs is.world is.leads is.timely in
    subst (λ (es : List Happening). All (IsWritten names) es) (done-is s events is.world is.run is.leads)
    (All-from_recursion (IsWritten names) is.world.done
    (events-written names s.opening.nodes setup.start.nodes_high enough is.world.done (recursion_from_All (NamesNodes s.opening.nodes) is.world.done named) event spelt.events))
