-- A local run goes on by each enabled event.
use Rattle.std.proofs.Common.{◌≡◌, ℕ, ◌+◌, ◌<◌, ◌≤◌, true, List, [], ◌∷◌, Option, Some, None, refl, sym, ap, subst, ◌∙◌, arith}
use Rattle.std.proofs.lemmas.Bool.Decides.{nat_tests}
use Rattle.std.proofs.lemmas.Option.{same_Some}
use Rattle.uid_names.specs.declared.ids.Place.{Place}
use Rattle.dom_history.specs.declared.event.What.{What}
use Rattle.dom_history.specs.Events.{Happening}
use Rattle.dom_history.specs.Histories.{place_lt}
use Rattle.dom_history.specs.Objects.{is_node}
use Rattle.node_runs.specs.Setups.{Setup, IsSetup, given}
use Rattle.node_runs.specs.NodeStates.{NodeState}
use Rattle.node_runs.specs.Incomings.{Incoming, enabled}
use Rattle.node_runs.specs.Outcomes.{Stepped}
use Rattle.node_runs.specs.Steps.{step_of, named_step}
use Rattle.node_runs.specs.SentFrames.{IsIncoming}
use Rattle.node_runs.specs.NodesKeep.{IsNodeOf}
use Rattle.node_runs.specs.Runs.{World, first_world, choice_of, is_above, world_if, after_step}
use Rattle.node_runs.proofs.Calls.{put-same}
use Rattle.node_runs.proofs.SettingUp.{setup-gives}
use Rattle.node_runs.proofs.Happening.{enabled-happens}
use Rattle.node_runs.proofs.Reaching.{step_of-keeps, IsNodeOf-first}
use Rattle.node_runs.proofs.Ticks.{step_of-tick}
use Rattle.local_runs.specs.LocalRuns.{Own, then_alone, IsLocalRun, AreIncomings, own_event, own_world}
use Rattle.local_runs.proofs.Alone.{last-of}

pub begins : (s : Setup) (n : ℕ) → IsLocalRun s n [] (first_world s)
begins s n = record { node = tt; run = refl; done = refl }

module _ (s : Setup) (setup : IsSetup s) (n : ℕ) (node : is_node s.opening n ≡ true) where
  -- the node is one in each state of a local run
  pub node-of : (own : List Own) (w : World) → IsLocalRun s n own w → AreIncomings own → IsNodeOf (given s n) (w.nodes n)
  node-of [] w is are = subst (λ (o : Option World). IsNode-or o) is.run (IsNodeOf-first (given s n) (setup-gives s setup n node))
    where
      IsNode-or : Option World → Type 0
      IsNode-or None = Unit {0}
      IsNode-or (Some v) = IsNodeOf (given s n) (v.nodes n)
  node-of (x ∷ own) w is are =
      let after = last-of s n x own w is in
      let at : x.event.place.node ≡ n = is.node.0 in
      let steps : step_of (given s n) (after.before.nodes n) x.event.what x.received x.event.effects.dropped ≡ Some after.next.step =
      subst (λ m. step_of (given s m) (after.before.nodes m) x.event.what x.received x.event.effects.dropped ≡ Some after.next.step) at after.next.steps in
      let keeps = (step_of-keeps (given s n) (after.before.nodes n) x.event.what x.received x.event.effects.dropped after.next.step (setup-gives s setup n node)
      (node-of own after.before after.run are.1) are.0 steps).node in
      subst (IsNodeOf (given s n)) (sym (ap (λ (v : World). v.nodes n) after.next.world ∙ put-same after.before.nodes x.event.place.node n after.next.step.node (sym at))) keeps

  -- a later tick is above all that was done
  later-tick : (t : ℕ) (own : List Own) (w : World) → IsLocalRun s n own w → (w.nodes n).tick < t → is_above (record { tick = t; node = n }) w.done ≡ true
  later-tick t [] w is low = ap (is_above (record { tick = t; node = n })) is.done
  later-tick t (x ∷ own) w is low =
      let after = last-of s n x own w is in
      let at : x.event.place.node ≡ n = is.node.0 in
      let now : w.nodes n ≡ after.next.step.node = ap (λ (v : World). v.nodes n) after.next.world ∙ put-same after.before.nodes x.event.place.node n after.next.step.node (sym at) in
      let tick : (w.nodes n).tick ≡ x.event.place.tick = ap (λ (y : NodeState). y.tick) now ∙ ap (λ (e : Happening). e.place.tick) after.event in
      ap (is_above (record { tick = t; node = n })) is.done ∙ early x.event.place (record { tick = t; node = n }) (omega (arith, tick, low))
    where
      early : (a b : Place) → a.tick < b.tick → place_lt a b ≡ true
      early a b h = grind (arith, nat_tests, h)

  module _ (own : List Own) (w : World) (is : IsLocalRun s n own w) (are : AreIncomings own) (what : What) (incoming : Incoming) (step : Stepped) (frame : IsIncoming incoming)
      (may : enabled (given s n) (w.nodes n) what incoming ≡ true) (steps : named_step (given s n) (w.nodes n) what incoming ≡ Some step) where
    happens : step_of (given s n) (w.nodes n) what incoming step.effects.dropped ≡ Some step
    happens =
        let found = enabled-happens (given s n) (w.nodes n) what incoming (setup-gives s setup n node) (node-of own w is are) frame may in
        let same : found.0 ≡ step = same_Some found.0 step (sym found.1 ∙ steps) in
        subst (λ (x : Stepped). step_of (given s n) (w.nodes n) what incoming x.effects.dropped ≡ Some x) same found.2

    above : is_above (record { tick = step.node.tick; node = n }) w.done ≡ true
    above =
        let tick = step_of-tick (given s n) (w.nodes n) what incoming step.effects.dropped step happens in
        later-tick step.node.tick own w is (omega (arith, tick))

    pub goes-on : IsLocalRun s n (own_event n what incoming step ∷ own) (own_world n w what step)
    goes-on = record {
      node = (refl, is.node);
      run =
          ap (λ (o : Option World). then_alone s o (own_event n what incoming step)) is.run
          ∙ ap (after_step w (choice_of (own_event n what incoming step).event)) happens
          ∙ ap (λ b. world_if b w (record { tick = step.node.tick; node = n }) what step) above;
      done = ap (λ (es : List Happening). (own_event n what incoming step).event ∷ es) is.done;
    }
