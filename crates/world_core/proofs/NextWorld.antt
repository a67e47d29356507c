-- The world of the definitions after a turn.
use Rattle.std.proofs.Common.{◌≡◌, ◌≢◌, ℕ, ◌+◌, ◌≤◌, List, ◌∷◌, map, Option, Some, None, IfSome, refl, sym, ap, subst, ◌∙◌}
use Rattle.std.specs.Prelude.{◌==◌, ◌^◌, All}
use Rattle.std.proofs.lemmas.List.Elements.{All-filter, All-head}
use Rattle.uid_names.specs.Steps.{◌>>=◌}
use Rattle.dom_history.specs.declared.event.What.{What}
use Rattle.dom_history.specs.declared.plan.FateRow.{FateRow}
use Rattle.dom_history.specs.Events.{Happening}
use Rattle.ring_messages.specs.Frames.{Message}
use Rattle.fault_handler.specs.Desks.{IsNode}
use Rattle.fault_handler.specs.Invariant.{IsProc}
use Rattle.node_runs.specs.Setups.{Setup, IsSetup}
use Rattle.node_runs.specs.NodeStates.{NodeState}
use Rattle.node_runs.specs.Incomings.{Incoming}
use Rattle.node_runs.specs.NodesKeep.{IsTimely}
use Rattle.node_runs.specs.Outcomes.{Stepped}
use Rattle.node_runs.specs.CallsKeep.{EachOf}
use Rattle.node_runs.specs.Runs.{choice_of, incoming_of, frames_after}
use Rattle.node_runs.specs.Runs as runs
use Rattle.node_runs.proofs.Calls.{put-same, put-other}
use Rattle.node_runs.proofs.Receiving.{EachOf-more}
use Rattle.world_runs.specs.ByPlace.{by_place, events_of}
use Rattle.world_runs.specs.NamedNodes.{NamesNodes}
use Rattle.world_runs.specs.OpenNotices.{open_notices, notices_kept}
use Rattle.world_runs.specs.Sendings.{frames_on}
use Rattle.world_runs.specs.Turns.{after_turns, turn}
use Rattle.world_runs.proofs.Among.{cons-heads}
use Rattle.world_runs.proofs.Happening.{received-stays, turns-marked}
use Rattle.world_runs.proofs.Inserting.{event_at}
use Rattle.world_runs.proofs.Merging.{Merged, turns-merge}
use Rattle.world_runs.proofs.NamedNodes.{world-names}
use Rattle.world_runs.proofs.Noticing.{open-kept, turns-within}
use Rattle.world_runs.proofs.Numbering.{next-number, turns-number}
use Rattle.world_runs.proofs.TimelyTurns.{IsTimelyTurn, timely-turn}
use Rattle.world_runs.proofs.Turning.{turn-is}
use Rattle.world_runs.proofs.Sorting.{own-first}
use Rattle.world_core.proofs.Chosen.{world_by}

own-frames : (w : runs.World) (n : ℕ) (m : Message) → frames_after w n (Some m) n m.to ≡ m ∷ w.frames n m.to
own-frames w n m = ap (λ (f : ℕ → List Message). f m.to) (put-same w.frames n n _ refl) ∙ put-same (w.frames n) m.to m.to _ refl

-- what holds of each frame that a node sent holds of its last one
last-frame : (Q : Message → Type 0) (w : runs.World) (n : ℕ) (f : Option Message) → ((to : ℕ) → EachOf Q (frames_after w n f n to)) → IfSome f Q
last-frame Q w n None each = tt
last-frame Q w n (Some m) each = (subst (EachOf Q) (own-frames w n m) (each m.to)).0

module _ (s : Setup) (setup : IsSetup s) (plan : List FateRow) (choices : List ℕ) (w : runs.World) (before : after_turns s plan choices ≡ Some w) (timely : IsTimely w)
    (choice n : ℕ) (what : What) (step : Stepped) (turns : turn s plan w choice ≡ Some (world_by w n what step)) where
  abbrev v : runs.World
  v = world_by w n what step

  abbrev it : Happening
  it = event_at n what step

  pub after : after_turns s plan (choice ∷ choices) ≡ Some v
  after = ap (λ (o : Option runs.World). o >>= λ (u : runs.World). turn s plan u choice) before ∙ turns

  timely-one : IsTimelyTurn s plan w v
  timely-one = timely-turn s setup plan choices w v before (turn-is s plan w choice v turns) timely

  -- what is received stays
  pub stays : (m : ℕ) (event : What) (incoming : Incoming) → incoming_of w m event ≡ Some incoming → incoming_of v m event ≡ Some incoming
  stays = received-stays s plan w v timely-one (turns-marked s setup plan choices w before timely)

  -- open notices are kept
  pub kept-so : (k : ℕ) → open_notices s plan v k ≡ notices_kept s plan w v k it
  kept-so k =
      let is = timely-one.is in
      subst (λ (x : Happening). open_notices s plan v k ≡ notices_kept s plan w v k x)
      (cons-heads (event_at is.act.node is.act.what is.step) it w.done w.done (sym (ap (λ (u : runs.World). u.done) is.world)))
      (open-kept s setup plan w v timely-one (turns-within s setup plan choices w before timely) k)

  -- a frame that is sent has the next number of its link
  pub numbered-next : IfSome step.effects.sent (λ sent. sent.index ≡ frames_on n sent.to w.done + 1)
  numbered-next =
      let is = timely-one.is in
      subst (λ (x : Happening). IfSome x.effects.sent (λ sent. sent.index ≡ frames_on x.place.node sent.to w.done + 1))
      (cons-heads (event_at is.act.node is.act.what is.step) it w.done w.done (sym (ap (λ (u : runs.World). u.done) is.world)))
      (next-number s setup plan w v timely-one (turns-number s setup plan choices w before timely))

  pub only : (k : ℕ) → k ≢ n → v.nodes k ≡ w.nodes k
  only k differs = put-other w.nodes n k step.node differs

  module _ (timely-after : IsTimely v) where
    merged : Merged s v
    merged = (turns-merge s setup plan (choice ∷ choices) v after).merged timely-after

    all-named : All (NamesNodes s.opening.nodes) (by_place v.done)
    all-named =
        subst (λ (es : List Happening). All (NamesNodes s.opening.nodes) es) merged.done
        (world-names s setup (map choice_of (by_place v.done)) merged.world merged.run (λ k. subst (λ (x : NodeState). x.tick ≤ 2 ^ 40) (merged.like.nodes k) (timely-after k)))

    -- the event names nodes alone
    pub event-named : NamesNodes s.opening.nodes it
    event-named =
        All-head (NamesNodes s.opening.nodes) it (events_of n w.done)
        (subst (λ (es : List Happening). All (NamesNodes s.opening.nodes) es) (merged.own n ∙ own-first n it w.done refl)
        (All-filter (λ (e : Happening). e.place.node == n) (NamesNodes s.opening.nodes) (by_place v.done) all-named))

    -- a frame that it sends comes from a node
    pub frame-from : IfSome step.frame (λ m. IsNode s.opening.nodes m.from)
    frame-from =
        last-frame (λ m. IsNode s.opening.nodes m.from) w n step.frame
        (λ to. EachOf-more (λ m. IsProc m.proc × IsNode s.opening.nodes m.from) (λ m. IsNode s.opening.nodes m.from) (v.frames n to) (λ m is. is.1) ((turns-number s setup plan (choice ∷ choices) v after timely-after).between n to))
