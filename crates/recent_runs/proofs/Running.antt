-- A run is recent exactly where room is made at each of its events as its node's cache names it.
use Rattle.std.proofs.Common.{◌≡◌, List, [], ◌∷◌, Some, IfSome, refl, sym, ap, subst, ◌∙◌}
use Rattle.std.proofs.lemmas.Option.{same_Some}
use Rattle.dom_history.specs.Events.{Happening}
use Rattle.fault_handler.specs.Desks.{DeskState}
use Rattle.node_runs.specs.Setups.{Setup, IsSetup, given}
use Rattle.node_runs.specs.NodeStates.{NodeState}
use Rattle.node_runs.specs.Incomings.{Incoming}
use Rattle.node_runs.specs.NodesKeep.{IsTimely}
use Rattle.node_runs.specs.Steps.{step_of, named_step}
use Rattle.node_runs.specs.Runs.{World, incoming_of, world_of}
use Rattle.node_runs.proofs.Calls.{put-same}
use Rattle.node_runs.proofs.SettingUp.{setup-gives}
use Rattle.recent_runs.specs.Uses.{PageName, uses}
use Rattle.recent_runs.specs.Recent.{DropsTheOldest, IsRecentEvent, IsRecent}
use Rattle.recent_runs.specs.Named.{IsNamed, AreNamed}
use Rattle.recent_runs.proofs.Standing.{Before, before, stands}
use Rattle.recent_runs.proofs.Deciding.{IsRecentStep, step-decides}

-- what an event is that receives this
abbrev pub IsNamedWith : Setup → World → Happening → Incoming → Type 0
IsNamedWith s w e incoming =
    named_step (given s e.place.node) (w.nodes e.place.node) e.what incoming ≡ step_of (given s e.place.node) (w.nodes e.place.node) e.what incoming e.effects.dropped

pub named-from : (s : Setup) (w : World) (e : Happening) (incoming : Incoming) → incoming_of w e.place.node e.what ≡ Some incoming → IsNamed s w e → IsNamedWith s w e incoming
named-from s w e incoming comes is = subst (λ o. IfSome o (IsNamedWith s w e)) comes is

pub named-to : (s : Setup) (w : World) (e : Happening) (incoming : Incoming) → incoming_of w e.place.node e.what ≡ Some incoming → IsNamedWith s w e incoming → IsNamed s w e
named-to s w e incoming comes is = subst (λ o. IfSome o (IsNamedWith s w e)) (sym comes) is

module _ (s : Setup) (setup : IsSetup s) where
  module _ (x : Happening) (older : List Happening) (w : World) (run : world_of s (x ∷ older) ≡ Some w) (done : w.done ≡ x ∷ older) (timely : IsTimely w) (b : Before s x older w) where
    all-done : (record { place = record { tick = b.is.step.node.tick; node = x.place.node }; what = x.what; effects = b.is.step.effects }) ∷ b.old.done ≡ x ∷ older
    all-done = sym (ap (λ (v : World). v.done) b.is.world) ∙ done

    pub older-done : b.old.done ≡ older
    older-done = let all = all-done in cc

    last-is : record { place = record { tick = b.is.step.node.tick; node = x.place.node }; what = x.what; effects = b.is.step.effects } ≡ x
    last-is = let all = all-done in cc

    pub effects-are : b.is.step.effects ≡ x.effects
    effects-are = ap (λ (e : Happening). e.effects) last-is

    desk-is : (w.nodes x.place.node).desk ≡ b.is.step.node.desk
    desk-is = ap (λ (v : World). (v.nodes x.place.node).desk) b.is.world ∙ ap (λ (y : NodeState). y.desk) (put-same b.old.nodes x.place.node x.place.node b.is.step.node refl)

    abbrev used : List PageName
    used = uses s x.place.node older

    -- the event is recent where its step is, and the other way round
    of-event : IsRecentEvent s older x → IsRecentStep used b.is.step
    of-event recent =
        let here = subst (λ (v : World). DropsTheOldest used (v.nodes x.place.node).desk x.effects) (same_Some recent.world w (sym recent.leads ∙ run)) recent.oldest in
        subst (λ (d : DeskState). DropsTheOldest used d b.is.step.effects) desk-is (subst (DropsTheOldest used (w.nodes x.place.node).desk) (sym effects-are) here)

    of-step : IsRecentStep used b.is.step → IsRecentEvent s older x
    of-step recent =
        record {
          world = w;
          leads = run;
          oldest = subst (DropsTheOldest used (w.nodes x.place.node).desk) effects-are (subst (λ (d : DeskState). DropsTheOldest used d b.is.step.effects) (sym desk-is) recent);
        }

    step-is : (IsRecentStep used b.is.step → named_step (given s x.place.node) (b.old.nodes x.place.node) x.what b.is.incoming ≡ Some b.is.step)
        × (named_step (given s x.place.node) (b.old.nodes x.place.node) x.what b.is.incoming ≡ Some b.is.step → IsRecentStep used b.is.step)
    step-is =
        step-decides used (given s x.place.node) (b.old.nodes x.place.node) x.what b.is.incoming x.effects.dropped b.is.step (setup-gives s setup x.place.node b.is.node) b.node b.frame
        (stands s setup older b.old b.run b.timely x.place.node b.is.node) b.is.steps

    event-named : IsRecentEvent s older x → IsNamed s b.old x
    event-named recent = named-to s b.old x b.is.incoming b.is.comes (step-is.0 (of-event recent) ∙ sym b.is.steps)

    event-recent : IsNamed s b.old x → IsRecentEvent s older x
    event-recent is = of-step (step-is.1 (named-from s b.old x b.is.incoming b.is.comes is ∙ b.is.steps))

  -- an event of a run
  pub last-named : (x : Happening) (older : List Happening) (old w : World) → world_of s older ≡ Some old → world_of s (x ∷ older) ≡ Some w → w.done ≡ x ∷ older → IsTimely w
      → IsRecentEvent s older x → IsNamed s old x
  last-named x older old w was run done timely recent =
      let b = before s setup x older w run timely in
      subst (λ v. IsNamed s v x) (same_Some b.old old (sym b.run ∙ was)) (event-named x older w run done timely b recent)

  pub last-recent : (x : Happening) (older : List Happening) (old w : World) → world_of s older ≡ Some old → world_of s (x ∷ older) ≡ Some w → w.done ≡ x ∷ older → IsTimely w
      → IsNamed s old x → IsRecentEvent s older x
  last-recent x older old w was run done timely is =
      let b = before s setup x older w run timely in
      event-recent x older w run done timely b (subst (λ v. IsNamed s v x) (same_Some old b.old (sym was ∙ b.run)) is)

  pub recent-are : (es : List Happening) (w : World) → world_of s es ≡ Some w → w.done ≡ es → IsTimely w → IsRecent s es → AreNamed s es
  recent-are [] w run done timely recent = tt
  recent-are (x ∷ older) w run done timely recent =
      let b = before s setup x older w run timely in (
        subst (λ o. IfSome o (λ v. IsNamed s v x)) (sym b.run) (event-named x older w run done timely b recent.0),
        recent-are older b.old b.run (older-done x older w run done timely b) b.timely recent.1,
      )

  pub named-are : (es : List Happening) (w : World) → world_of s es ≡ Some w → w.done ≡ es → IsTimely w → AreNamed s es → IsRecent s es
  named-are [] w run done timely are = tt
  named-are (x ∷ older) w run done timely are =
      let b = before s setup x older w run timely in (
        event-recent x older w run done timely b (subst (λ o. IfSome o (λ v. IsNamed s v x)) b.run are.0),
        named-are older b.old b.run (older-done x older w run done timely b) b.timely are.1,
      )
