-- One event more behind a recent run.
use Rattle.std.proofs.Common.{◌≡◌, ℕ, ◌<◌, ◌≤◌, Bool, true, false, List, ◌∷◌, ◌++◌, [], length, Option, Some, refl, sym, ap, subst, ◌∙◌, arith}
use Rattle.std.specs.Prelude.{◌^◌, map}
use Rattle.std.specs.Option.{option_map}
use Rattle.std.proofs.lemmas.Option.{same_Some}
use Rattle.uid_names.specs.Steps.{◌>>=◌}
use Rattle.uid_names.specs.declared.ids.Place.{Place}
use Rattle.uid_names.proofs.Somes.{map-some, bind-some}
use Rattle.dom_history.specs.declared.event.What.{What}
use Rattle.dom_history.specs.Events.{Happening}
use Rattle.dom_history.specs.Objects.{is_node}
use Rattle.node_runs.specs.Setups.{Setup, IsSetup, given}
use Rattle.node_runs.specs.Incomings.{Incoming, enabled}
use Rattle.node_runs.specs.Outcomes.{Stepped}
use Rattle.node_runs.specs.Steps.{Dropped, step_of, named_step}
use Rattle.node_runs.specs.SentFrames.{IsIncoming, IsFrame}
use Rattle.node_runs.specs.NodesKeep.{IsTimely}
use Rattle.node_runs.specs.Runs.{World, choice_of, is_above, then_next, world_of, world_with, IsRun, AreRising, incoming_of}
use Rattle.node_runs.proofs.Happening.{enabled-happens}
use Rattle.node_runs.proofs.Receiving.{incoming-is}
use Rattle.node_runs.proofs.Running.{run-keeps}
use Rattle.node_runs.proofs.SettingUp.{setup-gives}
use Rattle.node_runs.proofs.Stepping.{step_of-is}
use Rattle.node_runs.proofs.Worlds.{IsNext, place_at, next-is, places-rise, initial-run}
use Rattle.world_runs.proofs.Among.{cons-heads}
use Rattle.world_runs.proofs.Inserting.{next-from}
use Rattle.world_runs.proofs.LostFrames.{done-is}
use Rattle.recent_runs.proofs.Running.{named-from, named-to, last-named, last-recent}
use Rattle.run_laws.proofs.Parts.{run-world}
use Rattle.run_journals.specs.RecentRuns.{IsRecentRun}
use Rattle.run_journals.specs.Deciding.{step_if, decided_step, line_of, decided_by, decided_if, decided, IsDecided}

-- what is known of an event that comes of something
pub record IsDone (s : Setup) (w : World) (n : ℕ) (what : What) (e : Happening) : Type 0 where
  pub node : is_node s.opening n ≡ true
  pub incoming : Incoming
  pub comes : incoming_of w n what ≡ Some incoming
  pub may : enabled (given s n) (w.nodes n) what incoming ≡ true
  pub step : Stepped
  pub steps : named_step (given s n) (w.nodes n) what incoming ≡ Some step
  pub line : e ≡ line_of n what step

step-done : (b : Bool) (o : Option Stepped) (st : Stepped) → step_if b o ≡ Some st → (b ≡ true) × (o ≡ Some st)
step-done true o st is = (refl, is)
step-done false o st is = absurd (cc)

module _ (s : Setup) (w : World) (n : ℕ) (what : What) (e : Happening) where
  by-node : (b : Bool) → is_node s.opening n ≡ b → decided_if b s w n what ≡ Some e → IsDone s w n what e
  by-node false node is = absurd (cc)
  by-node true node is =
      let received = bind-some (incoming_of w n what) (decided_by s w n what) e is in
      let stepped = map-some (line_of n what) (decided_step (given s n) (w.nodes n) what received.0) e received.2 in
      let both = step-done (enabled (given s n) (w.nodes n) what received.0) (named_step (given s n) (w.nodes n) what received.0) stepped.0 stepped.1 in
      record { node = node; incoming = received.0; comes = received.1; may = both.0; step = stepped.0; steps = both.1; line = stepped.2 }

  pub decided-done : decided s w n what ≡ Some e → IsDone s w n what e
  decided-done = by-node (is_node s.opening n) refl

  -- and the other way round
  pub done-decided : IsDone s w n what e → decided s w n what ≡ Some e
  done-decided d =
      ap (λ b. decided_if b s w n what) d.node
      ∙ ap (λ (o : Option Incoming). o >>= decided_by s w n what) d.comes
      ∙ ap (option_map (line_of n what)) (ap (λ b. step_if b (named_step (given s n) (w.nodes n) what d.incoming)) d.may ∙ d.steps)
      ∙ ap (λ (x : Happening). Some x) (sym d.line)

-- the place of each event is above those before it
pub stands-above : (s : Setup) (e : Happening) (es : List Happening) → IsRun s (e ∷ es) → is_above e.place es ≡ true
stands-above s e es run =
    let led = run-world s (e ∷ es) run in
    (subst AreRising led.2 (places-rise s (map choice_of (e ∷ es)) led.0 led.1)).0

-- each run of few events is timely
abbrev pub AreTimely : Setup → Type 0
AreTimely s = (es : List Happening) (w : World) → IsRun s es → world_of s es ≡ Some w → length es ≤ 2 ^ 40 → IsTimely w

module _ (s : Setup) (setup : IsSetup s) (few-timely : AreTimely s) (e : Happening) (es : List Happening) (w : World) (leads : world_of s es ≡ Some w) (few : length es < 2 ^ 40) where
  module _ (r : IsRecentRun s es) (above : is_above e.place es ≡ true) (decides : IsDecided s w e) where
    d : IsDone s w e.place.node e.what e
    d = decided-done s w e.place.node e.what e decides

    done : w.done ≡ es
    done = done-is s es w r.run leads

    drops : d.step.effects.dropped ≡ e.effects.dropped
    drops = ap (λ (x : Happening). x.effects.dropped) (sym d.line)

    place : place_at (choice_of e) d.step ≡ e.place
    place = ap (λ (x : Happening). x.place) (sym d.line)

    steps : step_of (given s e.place.node) (w.nodes e.place.node) e.what d.incoming e.effects.dropped ≡ Some d.step
    steps =
        let n = e.place.node in
        let kept = (run-keeps s setup (map choice_of es) w leads).kept (few-timely es w r.run leads (omega (arith, few))) in
        let frame : IsIncoming d.incoming = incoming-is IsIncoming tt (λ number tick. tt) (λ tick. tt) IsFrame (λ m is. is) w n (λ from. kept.frames from n) e.what d.incoming d.comes in
        let happens = enabled-happens (given s n) (w.nodes n) e.what d.incoming (setup-gives s setup n d.node) (kept.nodes n d.node) frame d.may in
        let same : happens.0 ≡ d.step = same_Some happens.0 d.step (sym happens.1 ∙ d.steps) in
        subst (λ (dropped : Dropped). step_of (given s n) (w.nodes n) e.what d.incoming dropped ≡ Some d.step) drops
        (subst (λ (st : Stepped). step_of (given s n) (w.nodes n) e.what d.incoming st.effects.dropped ≡ Some st) same happens.2)

    abbrev new : World
    new = world_with w (place_at (choice_of e) d.step) e.what d.step

    leads-new : world_of s (e ∷ es) ≡ Some new
    leads-new =
        let over : is_above (place_at (choice_of e) d.step) w.done ≡ true =
        subst (λ (p : Place). is_above p w.done ≡ true) (sym place) (subst (λ (xs : List Happening). is_above e.place xs ≡ true) (sym done) above) in
        ap (λ (o : Option World). then_next s o (choice_of e)) leads ∙ next-from s w (choice_of e) d.incoming d.step d.node d.comes steps over

    done-new : new.done ≡ e ∷ es
    done-new = ap (λ (x : Happening). x ∷ w.done) (sym d.line) ∙ ap (λ (xs : List Happening). e ∷ xs) done

    run-new : IsRun s (e ∷ es)
    run-new = ap (option_map (λ (v : World). v.done)) leads-new ∙ ap (λ (xs : List Happening). Some xs) done-new

    pub good : IsRecentRun s (e ∷ es)
    good = record {
      run = run-new;
      recent = (
        last-recent s setup e es w new leads leads-new done-new (few-timely (e ∷ es) new run-new leads-new (omega (arith, few))) (named-to s w e d.incoming d.comes (d.steps ∙ sym steps)),
        r.recent,
      );
    }

  pub only : IsRecentRun s (e ∷ es) → IsDecided s w e
  only r =
      let n = e.place.node in
      let led = run-world s (e ∷ es) r.run in
      let is : IsNext s w (choice_of e) led.0 = next-is s w (choice_of e) led.0 (sym (ap (λ (o : Option World). then_next s o (choice_of e)) leads) ∙ led.1) in
      let timely = few-timely (e ∷ es) led.0 r.run led.1 (omega (arith, few)) in
      let was = last-named s setup e es w led.0 leads led.1 led.2 timely r.recent.0 in
      let steps : named_step (given s n) (w.nodes n) e.what is.incoming ≡ Some is.step = named-from s w e is.incoming is.comes was ∙ is.steps in
      let line : line_of n e.what is.step ≡ e = cons-heads (line_of n e.what is.step) e w.done es (sym (ap (λ (v : World). v.done) is.world) ∙ led.2) in
      done-decided s w n e.what e
      (record {
        node = is.node;
        incoming = is.incoming;
        comes = is.comes;
        may = (step_of-is (given s n) (w.nodes n) e.what is.incoming e.effects.dropped is.step is.steps).enabled;
        step = is.step;
        steps = steps;
        line = sym line;
      })

-- an initial part of a recent run is one
pub initial-recent : (s : Setup) (newer older : List Happening) → IsRecentRun s (newer ++ older) → IsRecentRun s older
initial-recent s [] older r = r
initial-recent s (e ∷ newer) older r = initial-recent s newer older (record { run = initial-run s e (newer ++ older) r.run; recent = r.recent.1 })
