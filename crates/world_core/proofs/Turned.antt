-- A turn of a world of nodes is one of the world that it stands for.
use Rattle.std.proofs.Common.{◌≡◌, ℕ, ◌+◌, ◌<◌, false, List, ◌∷◌, length, Option, Some, IfSome, refl, sym, ap, subst, ◌∙◌, arith}
use Rattle.std.specs.Prelude.{slice_get, slice_set, ◌-◌}
use Rattle.std.proofs.lemmas.Option.{slice_get_within, same_Some}
use Rattle.uid_names.proofs.ListLemmas.{get-within}
use Rattle.dom_history.specs.declared.op.Reply.{Reply}
use Rattle.dom_history.specs.declared.op.Want.{Want}
use Rattle.dom_history.specs.declared.event.What.{What}
use Rattle.dom_history.specs.declared.plan.FateRow.{FateRow}
use Rattle.dom_history.specs.Events.{Happening}
use Rattle.dom_history.specs.Plans.{IsPlan}
use Rattle.ring_messages.specs.Frames.{caller_of}
use Rattle.node_runs.specs.Setups.{Setup, given}
use Rattle.node_runs.specs.Incomings.{Incoming}
use Rattle.node_runs.specs.Outcomes.{Stepped}
use Rattle.node_runs.specs.Runs.{incoming_of}
use Rattle.node_runs.specs.Runs as runs
use Rattle.node_runs.proofs.Doing.{step_of-did}
use Rattle.world_runs.specs.Turns.{after_turns}
use Rattle.world_runs.proofs.Inserting.{event_at}
use Rattle.world_runs.proofs.Planning.{turns-deliver}
use Rattle.world_runs.proofs.Sent.{step-sent}
use Rattle.node_core.specs.declared.setup.Emitted.{Emitted}
use Rattle.node_core.specs.Nodes.{Happened}
use Rattle.world_core.specs.declared.station.Station.{Station}
use Rattle.world_core.specs.declared.world.World.{World}
use Rattle.world_core.specs.Stations.{open_ones}
use Rattle.world_core.specs.Listed.{IsListed, IsKept, IsDone}
use Rattle.world_core.specs.Reached.{AreSent}
use Rattle.world_core.specs.Stands.{Stands, IsStation, IsTurnOf}
use Rattle.world_core.proofs.Chosen.{world_by, IsChosen}
use Rattle.world_core.proofs.Marked.{set_many}
use Rattle.world_core.proofs.NextWorld as next
use Rattle.world_core.proofs.Sendable.{sent-nodes}
use Rattle.world_core.proofs.StationsAfter.{station-after}
use Rattle.world_core.proofs.StationsReached.{IsTurned, stations-after}

module _ {P G : Type 0} (wants : P → Want) (becomes : P → Option Reply → P) (made : ℕ → ℕ → Option P) (s : Setup) (old : World P G) (w : runs.World) (stands : Stands wants becomes made s old w)
    (choice i own : ℕ) (y : Station P G) (there : slice_get old.stations.items i ≡ Some y) (chosen : IsChosen s old.plan w choice (i + 1) own y) where
  abbrev what : What
  what = chosen.candidate.coming.what

  abbrev pub v : runs.World
  v = world_by w (i + 1) what chosen.step

  abbrev pub it : Happening
  it = event_at (i + 1) what chosen.step

  pub stays : (m : ℕ) (event : What) (incoming : Incoming) → incoming_of w m event ≡ Some incoming → incoming_of v m event ≡ Some incoming
  stays = next.stays s stands.setup old.plan stands.choices w stands.turns stands.timely choice (i + 1) what chosen.step chosen.turns

  -- what the node did is what the definitions have
  module _ (mid : Station P G) (emitted : Emitted) (done : IsDone wants becomes chosen.candidate emitted y mid) where
    pub happened : Happened wants becomes (made (i + 1)) (given s (i + 1)) what chosen.candidate.incoming y.node mid.node emitted (w.nodes (i + 1)) chosen.step
    happened =
        let does = done.does (made (i + 1)) (given s (i + 1)) (w.nodes (i + 1)) (stands.station i y there).node in
        subst (λ (t : Stepped). Happened wants becomes (made (i + 1)) (given s (i + 1)) what chosen.candidate.incoming y.node mid.node emitted (w.nodes (i + 1)) t)
        (same_Some does.0 chosen.step (sym does.1.step ∙ chosen.names)) does.1

    -- what it emits goes between nodes
    pub sends-to-nodes : IfSome emitted.frame (λ sent. (sent.1.to - 1 < length old.stations.items) × ((caller_of sent.1).node - 1 < length old.stations.items))
    sends-to-nodes =
        let named = next.event-named s stands.setup old.plan stands.choices w stands.turns stands.timely choice (i + 1) what chosen.step chosen.turns chosen.timely in
        let from = next.frame-from s stands.setup old.plan stands.choices w stands.turns stands.timely choice (i + 1) what chosen.step chosen.turns chosen.timely in
        subst (λ (e : Emitted). IfSome e.frame (λ sent. (sent.1.to - 1 < length old.stations.items) × ((caller_of sent.1).node - 1 < length old.stations.items))) (sym happened.emits)
        (sent-nodes s.opening.nodes (length old.stations.items) chosen.step.node.tick stands.count chosen.step.frame chosen.step.effects.sent
        (step-sent (given s (i + 1)) (w.nodes (i + 1)) what chosen.candidate.incoming chosen.step.effects.dropped chosen.step chosen.steps) from named.sent)

    -- what was sent has come, and its events are listed anew
    module _ (sent : List (Station P G)) (reached listed : Station P G) (many : length sent ≡ length old.stations.items)
        (are_sent : AreSent i old.plan emitted.mark emitted.frame (slice_set old.stations.items i mid) sent) (reached_at : slice_get sent i ≡ Some reached)
        (notices : listed.notices.items ≡ open_ones reached.node reached.notices.items) (is_listed : IsListed listed) (is_kept : IsKept reached listed) where
      is-turned : IsTurned wants becomes made s old.plan w i chosen.candidate chosen.step emitted old.stations.items sent (slice_set sent i listed)
      is-turned = record {
        stations = stands.station;
        count = stands.count;
        counts = (turns-deliver s stands.setup old.plan stands.choices w stands.turns stands.timely).frames;
        did = step_of-did (given s (i + 1)) (w.nodes (i + 1)) what chosen.candidate.incoming chosen.step.effects.dropped chosen.step chosen.steps;
        next = next.numbered-next s stands.setup old.plan stands.choices w stands.turns stands.timely choice (i + 1) what chosen.step chosen.turns;
        goes = (next.event-named s stands.setup old.plan stands.choices w stands.turns stands.timely choice (i + 1) what chosen.step chosen.turns chosen.timely).sent;
        before = y;
        after = mid;
        reached = reached;
        listed = listed;
        before_at = there;
        own = own;
        event = chosen.there;
        done = done;
        happened = happened;
        many = many;
        are_sent = are_sent;
        reached_at = reached_at;
        notices = notices;
        is_listed = is_listed;
        is_kept = is_kept;
        new_are = refl;
      }

      -- each node after the turn
      station : (k : ℕ) (b : Station P G) → slice_get (slice_set sent i listed) k ≡ Some b → IsStation wants becomes made s old.plan v (k + 1) b
      station k b e =
          let a = get-within old.stations.items k (let within = slice_get_within (slice_set sent i listed) k b e in let same = set_many sent i listed in omega (arith, within, same, many)) in
          station-after s old.plan w v (k + 1) it refl stays wants becomes made
          (next.kept-so s stands.setup old.plan stands.choices w stands.turns stands.timely choice (i + 1) what chosen.step chosen.turns (k + 1))
          a.0 b (stands.station k a.0 a.1)
          (stations-after wants becomes made s old.plan w i chosen.candidate chosen.step emitted old.stations.items sent (slice_set sent i listed) is-turned refl stays k a.0 b a.1 e)

      pub turned : (new : World P G) → new.plan ≡ old.plan → new.spent ≡ false → new.stations.items ≡ slice_set sent i listed → IsTurnOf wants becomes made s old new w choice i
      turned new plan whole stations =
          let same = ap length stations ∙ set_many sent i listed ∙ many in
          record {
            world = v;
            turns = chosen.turns;
            stands = record {
              whole = whole;
              setup = stands.setup;
              plan = subst IsPlan (sym plan) stands.plan;
              choices = choice ∷ stands.choices;
              turns =
                  subst (λ (p : List FateRow). after_turns s p (choice ∷ stands.choices) ≡ Some v) (sym plan)
                  (next.after s stands.setup old.plan stands.choices w stands.turns stands.timely choice (i + 1) what chosen.step chosen.turns);
              timely = chosen.timely;
              count = same ∙ stands.count;
              station = λ k b e.
                  subst (λ (p : List FateRow). IsStation wants becomes made s p v (k + 1) b) (sym plan)
                  (station k b (subst (λ (ys : List (Station P G)). slice_get ys k ≡ Some b) stations e));
            };
            within = let inside = slice_get_within old.stations.items i y there in omega (arith, inside, same);
            only = next.only s stands.setup old.plan stands.choices w stands.turns stands.timely choice (i + 1) what chosen.step chosen.turns;
          }
