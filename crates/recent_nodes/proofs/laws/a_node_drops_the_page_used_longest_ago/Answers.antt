use Rattle.std.proofs.Common.{◌≡◌, ◌∙◌, Some, sym, subst}
use Rattle.std.proofs.lemmas.Option.{same_Some}
use Rattle.fault_handler.specs.Desks.{DeskState}
use Rattle.node_runs.specs.Outcomes.{Stepped}
use Rattle.node_runs.specs.Steps.{step_of}
use Rattle.node_runs.specs.NodesKeep.{starts, steps}
use Rattle.recent_runs.specs.Recent.{DropsTheOldest}
use Rattle.recent_nodes.proofs.laws.a_node_drops_the_page_used_longest_ago.Goals as goal

pub returns : goal.returns
returns generic c = record {
  begins = λ made g x given stands. record { given = given; stands = stands; reached = starts; order = tt };
  steps = λ made g what incoming old new emitted n used is frame may does.
      let kept = c.each_reached_node_agrees_with_its_desk.ensures.reached g is.given n is.reached in
      let found = c.an_enabled_event_happens.ensures.happens g n what incoming is.given kept frame may in
      let did = does made g n is.stands in
      let same : found.0 ≡ did.0 = same_Some found.0 did.0 (sym found.1 ∙ did.1.step) in
      let stepped : step_of g n what incoming did.0.effects.dropped ≡ Some did.0 =
      subst (λ (s : Stepped). step_of g n what incoming s.effects.dropped ≡ Some s) same found.2 in
      let law = c.a_step_is_recent_where_its_cache_names_the_page.ensures in
      let oldest = law.recent g is.given n is.reached what incoming did.0.effects.dropped did.0 frame stepped used is.order did.1.step in (
        did.0,
        record {
          happened = did.1;
          oldest = subst (λ (d : DeskState). DropsTheOldest used d did.0.effects) (sym did.1.stands.alike.desk) oldest;
          stands = record {
            given = is.given;
            stands = did.1.stands;
            reached = steps did.0 what incoming did.0.effects.dropped is.reached frame stepped;
            order = law.stands g is.given n is.reached what incoming did.0.effects.dropped did.0 frame stepped used is.order;
          };
        },
      );
}
