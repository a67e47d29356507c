-- Where an event drops a page and sends a frame, that is to make room.
use Rattle.std.proofs.Common.{◌≡◌, ℕ, List, [], ◌∷◌, Some, inl, inr, sym, ap, subst, ◌∙◌}
use Rattle.std.proofs.lemmas.Option.{same_Some}
use Rattle.uid_names.specs.FrameKinds.{kind_number}
use Rattle.uid_names.specs.declared.frame_kind.FrameKind.TheVariants as kinds
use Rattle.dom_history.specs.declared.event.Effects.{Effects}
use Rattle.dom_history.specs.declared.event.Sent.{Sent}
use Rattle.dom_history.specs.declared.event.What.{What}
use Rattle.dom_history.specs.Events.{Happening}
use Rattle.fault_handler.specs.declared.tasks.Task.{Task}
use Rattle.fault_handler.specs.Desks.{DeskState}
use Rattle.fault_handler.specs.Outcomes.{Turn, Moved}
use Rattle.fault_handler.specs.Victims.{Victim}
use Rattle.fault_handler.specs.Accesses.{Accessed, room_made}
use Rattle.node_runs.specs.Setups.{Setup, IsSetup, Given, IsGiven, given}
use Rattle.node_runs.specs.NodeStates.{BegunOp, NodeState}
use Rattle.node_runs.specs.Incomings.{Incoming}
use Rattle.node_runs.specs.Outcomes.{Stage, Stepped, moved}
use Rattle.node_runs.specs.Doings.{Doing, ticked}
use Rattle.node_runs.specs.Steps.{step_of}
use Rattle.node_runs.specs.SentFrames.{IsIncoming}
use Rattle.node_runs.specs.NodesKeep.{IsNodeOf, IsTimely}
use Rattle.node_runs.specs.Runs.{World, world_of}
use Rattle.node_runs.proofs.SettingUp.{setup-gives}
use Rattle.node_runs.proofs.Stepping.{Leaves, step_of-is}
use Rattle.recent_runs.specs.Uses.{PageName}
use Rattle.recent_runs.proofs.Rooming.{AsksNone, NotBoth}
use Rattle.recent_runs.proofs.Ways.{HasWay, step-happens}
use Rattle.recent_runs.proofs.Standing.{before}
use Rattle.recent_runs.proofs.Running.{effects-are}

module _ (x : PageName) (more : List PageName) (sent : Sent) where
  -- one page is dropped, and a page is asked for
  abbrev pub Judged : Effects → Type 0
  Judged effects = effects.dropped ≡ x ∷ more → effects.sent ≡ Some sent → (more ≡ []) × (sent.kind ≡ kind_number kinds.PageIn)

  settled-judged : (g : Given) (n : NodeState) (p : ℕ) (o : BegunOp) (stage : Stage) (m : Moved) → NotBoth m → Judged (moved g n p o stage m).effects
  settled-judged g n p o stage m (inl none) dropped sends = absurd (cc)
  settled-judged g n p o stage m (inr no_ask) dropped sends = absurd (by m.turn no_ask sends)
    where
      by : (turn : Turn) → AsksNone turn → (moved g n p o stage (record m { turn = turn })).effects.sent ≡ Some sent → ⊥
      by (Turn.Ends reply) is sends = absurd (cc)
      by (Turn.Waits u k) is sends = absurd (cc)
      by (Turn.Asks home ask) is sends = is

  room-judged : (g : Given) (n : NodeState) (p : ℕ) (o : BegunOp) (stage : Stage) (d : DeskState) (task : Task) (v : Victim) → Judged (moved g n p o stage (room_made d p task v)).effects
  room-judged g n p o stage d task (Victim.SendsHome r) dropped sends = absurd (cc)
  room-judged g n p o stage d task (Victim.Drops u k) dropped sends = (cc, sym (ap (λ (f : Sent). f.kind) (same_Some _ sent sends)))

  doing-judged : (g : Given) (n : NodeState) (event : Doing) (st : Stepped) → HasWay n.desk event → Leaves g n event st → Judged st.effects
  doing-judged g n (Doing.Does s) st none is = λ dropped sends. absurd (let e : st.effects.dropped ≡ [] = ap (λ (y : Stepped). y.effects.dropped) is ∙ none in cc)
  doing-judged g n (Doing.Moves p o stage (Accessed.Settled m)) st way (to, may, is) =
      subst (λ (y : Stepped). Judged y.effects) (sym (is ∙ ap (moved g n p o stage) may)) (settled-judged g n p o stage m way)
  doing-judged g n (Doing.Moves p o stage (Accessed.NeedsRoom d task)) st needs (to, (v, may, made), is) =
      subst (λ (y : Stepped). Judged y.effects) (sym (is ∙ ap (moved g n p o stage) made)) (room-judged g n p o stage d task v)

  step-judged : (g : Given) (n : NodeState) (what : What) (incoming : Incoming) (dropped : List PageName) (st : Stepped) → IsGiven g → IsNodeOf g n → IsIncoming incoming → step_of g n what incoming dropped ≡ Some st → Judged st.effects
  step-judged g n what incoming dropped st given node frame e =
      let is = step_of-is g n what incoming dropped st e in
      doing-judged g (ticked n incoming) is.event st (step-happens g n what incoming dropped st given node frame is e) is.leaves

  -- so of each event of a run
  pub event-judged : (s : Setup) → IsSetup s → (e : Happening) (older : List Happening) (w : World) → world_of s (e ∷ older) ≡ Some w → w.done ≡ e ∷ older → IsTimely w → Judged e.effects
  event-judged s setup e older w run done timely =
      let b = before s setup e older w run timely in
      subst Judged (effects-are s setup e older w run done timely b)
      (step-judged (given s e.place.node) (b.old.nodes e.place.node) e.what b.is.incoming e.effects.dropped b.is.step (setup-gives s setup e.place.node b.is.node) b.node b.frame b.is.steps)
