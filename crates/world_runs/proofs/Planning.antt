-- The events of turns, by place, are a run by the plan.
use Rattle.std.proofs.Common.{◌≡◌, ℕ, true, List, ◌∷◌, length, Option, Some, refl, sym, ap, subst, ◌∙◌, arith}
use Rattle.std.specs.Option.{option_map}
use Rattle.dom_history.specs.declared.plan.FateRow.{FateRow}
use Rattle.dom_history.specs.Events.{Happening}
use Rattle.dom_history.specs.Plans.{fate_of, IsPlan}
use Rattle.ring_messages.specs.Frames.{Message}
use Rattle.node_runs.specs.Setups.{Setup, IsSetup, given}
use Rattle.node_runs.specs.NodesKeep.{IsTimely}
use Rattle.node_runs.specs.Runs.{World, first_world, world_of}
use Rattle.node_runs.specs.Deliveries.{deliveries, takes_on, noticed_in, is_prefix, sent_on, IsPlanned}
use Rattle.world_runs.specs.Sendings.{frames_on}
use Rattle.world_runs.specs.ByPlace.{by_place}
use Rattle.world_runs.specs.Turns.{after_turns}
use Rattle.world_runs.proofs.Alike.{added, frames-added}
use Rattle.world_runs.proofs.Sent.{step-sent}
use Rattle.world_runs.proofs.Inserting.{event_at}
use Rattle.world_runs.proofs.Merging.{Merged, turns-merge}
use Rattle.world_runs.proofs.TimelyTurns.{IsTimelyTurn, every-timely}
use Rattle.world_runs.proofs.Coming.{coming-due}
use Rattle.world_runs.proofs.Taking.{AreInOrder, frames-counted, order-kept, due-takes-oldest, taken-prefix, takes-same}
use Rattle.world_runs.proofs.Telling.{AreTold, told-kept, told-by_place, told-all, once-pairs}

-- what turns keep of links and notices
pub record AreDelivered (plan : List FateRow) (w : World) : Type 0 where
  pub frames : (from to : ℕ) → length (w.frames from to) ≡ frames_on from to w.done
  pub order : (from to : ℕ) → AreInOrder plan from to w.done
  pub told : AreTold plan w.done

module _ (s : Setup) (setup : IsSetup s) (plan : List FateRow) where
  pub first-delivered : AreDelivered plan (first_world s)
  first-delivered = record { frames = λ from to. refl; order = λ from to. record { parts = refl }; told = record { once = λ f. omega arith; gone = tt } }

  module _ (old new : World) (turn : IsTimelyTurn s plan old new) (before : AreDelivered plan old) where
    abbrev n : ℕ
    n = turn.is.act.node

    abbrev it : Happening
    it = event_at n turn.is.act.what turn.is.step

    done-after : new.done ≡ it ∷ old.done
    done-after = ap (λ (w : World). w.done) turn.is.world

    frames-after : (from to : ℕ) → new.frames from to ≡ added n turn.is.step.frame from to (old.frames from to)
    frames-after from to = ap (λ (w : World). w.frames from to) turn.is.world ∙ frames-added old n turn.is.step.frame from to

    pub later-delivered : AreDelivered plan new
    later-delivered = record {
      frames = λ from to.
          ap (λ (xs : List Message). length xs) (frames-after from to)
          ∙ frames-counted turn.is.step.node.tick n from to turn.is.step.frame it old.done (old.frames from to) refl
          (step-sent (given s n) (old.nodes n) turn.is.act.what turn.is.incoming turn.is.step.effects.dropped turn.is.step turn.steps)
          (before.frames from to)
          ∙ sym (ap (λ (es : List Happening). frames_on from to es) done-after);
      order = λ from to.
          subst (λ (es : List Happening). AreInOrder plan from to es) (sym done-after)
          (order-kept plan from to n it old.done refl (before.order from to)
          (due-takes-oldest plan old n turn.is.act.what (coming-due plan old n turn.is.act.what turn.is.comes) from to));
      told =
          subst (λ (es : List Happening). AreTold plan es) (sym done-after)
          (told-kept plan old n it (coming-due plan old n turn.is.act.what turn.is.comes) before.told);
    }

  pub turns-deliver : (cs : List ℕ) (w : World) → after_turns s plan cs ≡ Some w → IsTimely w → AreDelivered plan w
  turns-deliver = every-timely s setup plan (AreDelivered plan) first-delivered later-delivered

  module _ (kept : IsPlan plan) (w : World) (merged : Merged s w) (delivered : AreDelivered plan w) where
    sent-is : (from to : ℕ) → sent_on (world_of s (by_place w.done)) from to ≡ frames_on from to w.done
    sent-is from to =
        ap (λ (o : Option World). sent_on o from to) merged.run
        ∙ ap (λ (xs : List Message). length xs) (sym (merged.like.frames from to))
        ∙ delivered.frames from to

    prefix : (from to : ℕ) → is_prefix (takes_on from to (by_place w.done)) (deliveries (fate_of plan from to) (sent_on (world_of s (by_place w.done)) from to)) ≡ true
    prefix from to =
        ap (λ k. is_prefix (takes_on from to (by_place w.done)) (deliveries (fate_of plan from to) k)) (sent-is from to)
        ∙ ap (λ (ks : List ℕ). is_prefix ks (deliveries (fate_of plan from to) (frames_on from to w.done))) (takes-same from to (by_place w.done) w.done (merged.own to))
        ∙ taken-prefix plan from to w.done (delivered.order from to)

    planned : IsPlanned s plan (by_place w.done)
    planned = record {
      run = ap (λ (o : Option World). option_map (λ (v : World). v.done) o) merged.run ∙ ap (λ (es : List Happening). Some es) merged.done;
      plan_kept = kept;
      delivered = prefix;
      gone = told-all plan (by_place w.done) (told-by_place plan w.done delivered.told);
      once = once-pairs (noticed_in (by_place w.done)) (told-by_place plan w.done delivered.told).once;
    }

  pub turns-planned : IsPlan plan → (cs : List ℕ) (w : World) → after_turns s plan cs ≡ Some w → IsTimely w → IsPlanned s plan (by_place w.done)
  turns-planned kept cs w e timely = planned kept w ((turns-merge s setup plan cs w e).merged timely) (turns-deliver cs w e timely)
