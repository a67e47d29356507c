-- The events of turns are a run by place, which leads to the same.
use Rattle.std.proofs.Common.{◌≡◌, ℕ, cond, List, ◌∷◌, map, Some, refl, sym, ap, subst, ◌∙◌}
use Rattle.std.specs.Prelude.{◌==◌, ◌≤◌, ◌^◌}
use Rattle.std.proofs.lemmas.Option.{same_Some}
use Rattle.dom_history.specs.declared.plan.FateRow.{FateRow}
use Rattle.dom_history.specs.Events.{Happening}
use Rattle.node_runs.specs.Setups.{Setup, IsSetup, given}
use Rattle.node_runs.specs.NodeStates.{NodeState}
use Rattle.node_runs.specs.Incomings.{enabled}
use Rattle.node_runs.specs.Outcomes.{Stepped}
use Rattle.node_runs.specs.Steps.{step_of, named_step}
use Rattle.node_runs.specs.SentFrames.{IsFrame, IsIncoming}
use Rattle.node_runs.specs.NodesKeep.{IsTimely}
use Rattle.node_runs.specs.Runs.{World, first_world, choice_of, incoming_of, world_with, world_of}
use Rattle.node_runs.proofs.SettingUp.{setup-gives}
use Rattle.node_runs.proofs.Happening.{enabled-happens}
use Rattle.node_runs.proofs.Receiving.{incoming-is}
use Rattle.node_runs.proofs.Running.{AreKept, run-keeps}
use Rattle.world_runs.specs.ByPlace.{by_place, events_of, IsLike}
use Rattle.world_runs.specs.Turns.{after_turns}
use Rattle.world_runs.proofs.Alike.{like-same, like-then, like-back, like-with}
use Rattle.world_runs.proofs.Receiving.{incoming-like}
use Rattle.world_runs.proofs.Inserting.{Inserts, insert, event_at}
use Rattle.world_runs.proofs.Turning.{IsTurn, act_place, every-turn, timely-before}

-- the run by place of the events of turns
pub record Merged (s : Setup) (w : World) : Type 0 where
  pub world : World
  pub run : world_of s (by_place w.done) ≡ Some world
  pub done : world.done ≡ by_place w.done
  pub like : IsLike w world
  pub own : (k : ℕ) → events_of k (by_place w.done) ≡ events_of k w.done

pub record Merges (s : Setup) (w : World) : Type 0 where
  pub merged : IsTimely w → Merged s w

module _ (s : Setup) (setup : IsSetup s) (plan : List FateRow) where
  first-merges : Merges s (first_world s)
  first-merges = record { merged = λ timely. record { world = first_world s; run = refl; done = refl; like = like-same (first_world s); own = λ k. refl } }

  module _ (old new : World) (is : IsTurn s plan old new) where
    abbrev n : ℕ
    n = is.act.node

    abbrev it : Happening
    it = event_at n is.act.what is.step

    module _ (merged : Merged s old) (timely : IsTimely old) where
      kept : AreKept s merged.world
      kept = (run-keeps s setup (map choice_of (by_place old.done)) merged.world merged.run).kept (λ m. subst (λ (x : NodeState). x.tick ≤ 2 ^ 40) (merged.like.nodes m) (timely m))

      receives : incoming_of merged.world n is.act.what ≡ Some is.incoming
      receives = incoming-like old merged.world merged.like n is.act.what is.incoming is.receives

      frame-is : IsIncoming is.incoming
      frame-is = incoming-is IsIncoming tt (λ number tick. tt) (λ tick. tt) IsFrame (λ m frame. frame) merged.world n (λ from. kept.frames from n) is.act.what is.incoming receives

      pub steps : step_of (given s n) (merged.world.nodes n) is.act.what is.incoming is.step.effects.dropped ≡ Some is.step
      steps =
          let g = given s n in
          let found = enabled-happens g (merged.world.nodes n) is.act.what is.incoming (setup-gives s setup n is.node) (kept.nodes n is.node) frame-is
          (ap (λ (x : NodeState). enabled g x is.act.what is.incoming) (sym (merged.like.nodes n)) ∙ is.may) in
          let same : found.0 ≡ is.step = same_Some found.0 is.step (sym found.1 ∙ ap (λ (x : NodeState). named_step g x is.act.what is.incoming) (sym (merged.like.nodes n)) ∙ is.steps) in
          subst (λ (x : Stepped). step_of g (merged.world.nodes n) is.act.what is.incoming x.effects.dropped ≡ Some x) same found.2

      inserted : Inserts s (by_place old.done) merged.world n is.act.what is.step
      inserted = insert s n is.act.what is.incoming is.step (by_place old.done) merged.world merged.run merged.done (record { node = is.node; comes = receives; steps = steps })

      done-after : new.done ≡ it ∷ old.done
      done-after = ap (λ (w : World). w.done) is.world

      after : Merged s new
      after = record {
        world = inserted.world;
        run = ap (λ (es : List Happening). world_of s (by_place es)) done-after ∙ inserted.run;
        done = inserted.done ∙ sym (ap by_place done-after);
        like =
            like-then new (world_with merged.world (act_place is.act is.step) is.act.what is.step) inserted.world
            (subst (λ (w : World). IsLike w (world_with merged.world (act_place is.act is.step) is.act.what is.step)) (sym is.world)
            (like-with old merged.world merged.like (act_place is.act is.step) is.act.what is.step))
            (like-back inserted.world (world_with merged.world (act_place is.act is.step) is.act.what is.step) inserted.like);
        own = λ k.
            ap (λ (es : List Happening). events_of k (by_place es)) done-after ∙ inserted.own k
            ∙ ap (λ (es : List Happening). cond (n == k) (it ∷ es) es) (merged.own k)
            ∙ sym (ap (events_of k) done-after);
      }

    later-merges : Merges s old → Merges s new
    later-merges merges = record { merged = λ timely. let before = timely-before s plan old new is timely in after (merges.merged before) before }

  pub turns-merge : (cs : List ℕ) (w : World) → after_turns s plan cs ≡ Some w → Merges s w
  turns-merge = every-turn s plan (Merges s) first-merges later-merges
