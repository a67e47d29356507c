-- An event of a node that the pass did: the world behind it.
use Rattle.std.proofs.Common.{◌≡◌, ℕ, ◌+◌, ◌<◌, Bool, true, false, Option, Some, None, ◌∷◌, length, refl, sym, ap, subst, ◌∙◌, arith}
use Rattle.std.specs.Prelude.{◌^◌, ◌&&◌, max, map}
use Rattle.std.proofs.lemmas.Bool.Decides.{nat_tests}
use Rattle.std.proofs.lemmas.Option.{same_Some}
use Rattle.uid_names.specs.declared.ids.Place.{Place}
use Rattle.dom_history.specs.declared.event.What.{What}
use Rattle.dom_history.specs.Events.{Happening}
use Rattle.dom_history.specs.Objects.{is_node}
use Rattle.fault_handler.specs.Desks.{IsNode}
use Rattle.node_runs.specs.Setups.{Setup, IsSetup, given}
use Rattle.node_runs.specs.Incomings.{Incoming, enabled, tick_of}
use Rattle.node_runs.specs.Outcomes.{Stepped}
use Rattle.node_runs.specs.Steps.{named_step, step_of}
use Rattle.node_runs.specs.SentFrames.{IsFrame, IsIncoming}
use Rattle.node_runs.specs.NodesKeep.{IsTimely}
use Rattle.node_runs.specs.Runs.{World, choice_of, is_above, then_next, world_of, world_with}
use Rattle.node_runs.proofs.Happening.{enabled-happens}
use Rattle.node_runs.proofs.Receiving.{incoming-is}
use Rattle.node_runs.proofs.Running.{AreKept, run-keeps}
use Rattle.node_runs.proofs.SettingUp.{setup-gives}
use Rattle.node_runs.proofs.Ticks.{step_of-tick}
use Rattle.world_runs.proofs.Counting.{AreLow, incoming-low, runs-low}
use Rattle.world_runs.proofs.Inserting.{next-from}
use Rattle.run_journals.specs.Deciding.{line_of, decided, IsDecided}
use Rattle.run_journals.proofs.Steps.{IsDone, decided-done}
use Rattle.journal_check.specs.Passes.{may_follow}
use Rattle.journal_check.proofs.Decided.{IsComing, is-decided, not-decided}

pub node-is : (s : Setup) (n : ℕ) → IsNode s.opening.nodes n → is_node s.opening n ≡ true
node-is s n node = let low = node.0 in let high = node.1 in grind (arith, nat_tests, low, high)

module _ (s : Setup) (setup : IsSetup s) (w : World) (leads : world_of s w.done ≡ Some w) (few : length w.done < 2 ^ 40) (n : ℕ) (node : IsNode s.opening.nodes n) where
  low : AreLow w
  low = runs-low s (map choice_of w.done) w leads

  timely : IsTimely w
  timely m = let most = low.nodes m in omega (arith, most, few)

  pub kept : AreKept s w
  kept = (run-keeps s setup (map choice_of w.done) w leads).kept timely

  pub node-low : (w.nodes n).tick < 2 ^ 40
  node-low = let most = low.nodes n in omega (arith, most, few)

  module _ (what : What) (i : Incoming) (coming : IsComing s w n what i) where
    pub tick-low : tick_of i < 2 ^ 40
    tick-low =
        let same = coming.alike_is.tick in
        let most = incoming-low (length w.done) w low.frames low.marks n what coming.incoming coming.comes in
        omega (arith, same, most, few)

    pub received : IsIncoming coming.incoming
    received = incoming-is IsIncoming tt (λ number tick. tt) (λ tick. tt) IsFrame (λ m is. is) w n (λ from. kept.frames from n) what coming.incoming coming.comes

    abbrev pub place_after : ℕ → Place
    place_after tick = record { tick = tick; node = n }

    abbrev pub next_tick : ℕ
    next_tick = max (w.nodes n).tick (tick_of i) + 1

    module _ (may : enabled (given s n) (w.nodes n) what i ≡ true) (st : Stepped) (named : named_step (given s n) (w.nodes n) what i ≡ Some st) where
      pub steps : step_of (given s n) (w.nodes n) what coming.incoming st.effects.dropped ≡ Some st
      steps =
          let happens = enabled-happens (given s n) (w.nodes n) what coming.incoming (setup-gives s setup n (node-is s n node)) (kept.nodes n (node-is s n node)) received (sym coming.alike_is.may ∙ may) in
          let same : happens.0 ≡ st = same_Some happens.0 st (sym happens.1 ∙ (sym coming.alike_is.step ∙ named)) in
          subst (λ (x : Stepped). step_of (given s n) (w.nodes n) what coming.incoming x.effects.dropped ≡ Some x) same happens.2

      tick-is : next_tick ≡ st.node.tick
      tick-is =
          ap (λ k. max (w.nodes n).tick k + 1) coming.alike_is.tick ∙ sym (step_of-tick (given s n) (w.nodes n) what coming.incoming st.effects.dropped st steps)

      pub above-is : is_above (line_of n what st).place w.done ≡ is_above (place_after next_tick) w.done
      above-is = ap (λ k. is_above (place_after k) w.done) (sym tick-is)

      module _ (above : is_above (line_of n what st).place w.done ≡ true) where
        abbrev pub event : Happening
        event = line_of n what st

        abbrev pub after : World
        after = world_with w event.place what st

        pub leads-after : world_of s (event ∷ w.done) ≡ Some after
        leads-after =
            ap (λ (o : Option World). then_next s o (choice_of event)) leads
            ∙ next-from s w (choice_of event) coming.incoming st (node-is s n node) coming.comes steps above

        pub decides : IsDecided s w event
        decides = is-decided s w n what i st (node-is s n node) coming may named

    -- where it may not follow no event of this kind does
    pub none-follows : may_follow (given s n) w n what i ≡ false → (e : Happening) → e.place.node ≡ n → e.what ≡ what → IsDecided s w e → is_above e.place w.done ≡ true → ⊥
    none-follows not_so e node_is what_is decides above = by (enabled (given s n) (w.nodes n) what i) refl
      where
        here : decided s w n what ≡ Some e
        here = ap (λ (x : What). decided s w n x) (sym what_is) ∙ (ap (λ k. decided s w k e.what) (sym node_is) ∙ decides)

        done : IsDone s w n what e
        done = decided-done s w n what e here

        named : named_step (given s n) (w.nodes n) what i ≡ Some done.step
        named =
            let same : coming.incoming ≡ done.incoming = same_Some coming.incoming done.incoming (sym coming.comes ∙ done.comes) in
            coming.alike_is.step ∙ (ap (named_step (given s n) (w.nodes n) what) same ∙ done.steps)

        by : (b : Bool) → enabled (given s n) (w.nodes n) what i ≡ b → ⊥
        by false shut = let both : None ≡ Some e = sym (not-decided s w n what i (node-is s n node) coming shut) ∙ here in cc
        by true sure =
            let shut : is_above (place_after next_tick) w.done ≡ false = sym (ap (λ b. b && is_above (place_after next_tick) w.done) sure) ∙ not_so in
            let both : true ≡ false = sym above ∙ (ap (λ (x : Happening). is_above x.place w.done) done.line ∙ (above-is sure done.step named ∙ shut)) in
            cc
