-- An event of a node goes on from what a run of it alone led to.
use Rattle.std.proofs.Common.{◌≡◌, ℕ, ◌+◌, ◌<◌, ◌≤◌, true, List, [], ◌∷◌, ◌++◌, Option, Some, IfSome, reverse, refl, sym, ap, subst, ◌∙◌, arith}
use Rattle.std.specs.Prelude.{nat_le, ◌&&◌}
use Rattle.std.proofs.lemmas.Bool.Decides.{nat_tests}
use Rattle.std.proofs.lemmas.List.{reverse-append}
use Rattle.std.proofs.lemmas.Option.{same_Some}
use Rattle.dom_history.specs.declared.op.Reply.{Reply}
use Rattle.dom_history.specs.declared.op.Want.{Want}
use Rattle.dom_history.specs.declared.event.What.{What}
use Rattle.dom_history.specs.declared.event.NodeLog.{NodeLog}
use Rattle.dom_history.specs.Events.{Happening}
use Rattle.ring_messages.specs.Spelled.{IsFrame}
use Rattle.fault_handler.specs.Desks.{IsNode}
use Rattle.node_runs.specs.Setups.{Setup, given}
use Rattle.node_runs.specs.NodeStates.{NodeState}
use Rattle.node_runs.specs.Incomings.{Incoming, enabled}
use Rattle.node_runs.specs.Outcomes.{Stepped}
use Rattle.node_runs.specs.Steps.{step_of}
use Rattle.node_runs.specs.Runs.{World}
use Rattle.node_runs.specs.SentFrames.{IsIncoming}
use Rattle.node_runs.specs.NodesKeep.{IsNodeOf}
use Rattle.node_runs.proofs.Calls.{put-same}
use Rattle.node_runs.proofs.Happening.{enabled-happens}
use Rattle.node_runs.proofs.SettingUp.{setup-gives}
use Rattle.node_core.specs.declared.setup.Emitted.{Emitted}
use Rattle.node_core.specs.Nodes.{Noted, Stands, Happened, line_of, state_of}
use Rattle.node_core.specs.Receivings.{emitted_by}
use Rattle.local_runs.specs.LocalRuns.{Own, events_in, own_event, own_world}
use Rattle.local_runs.proofs.GoingOn.{node-of, goes-on}
use Rattle.local_runs.proofs.Local as recent
use Rattle.node_posts.specs.Owns.{IsOwn}
use Rattle.node_posts.specs.Turns.{IsStep}

log-is : (l : NodeLog) (n : ℕ) (es : List Happening) → l.node ≡ n → l.events ≡ es → l ≡ record { node = n; events = es }
log-is l n es a b = ap (λ (k : ℕ). let x : NodeLog = record { node = k; events = l.events } in x) a ∙ ap (λ (xs : List Happening). let x : NodeLog = record { node = n; events = xs } in x) b

module _ {P : Type 0} (wants : P → Want) (becomes : P → Option Reply → P) (made : ℕ → Option P) (s : Setup) (n : ℕ) (own : List Own) (w : World) (old : Noted P) (is : IsOwn wants becomes made s n own w old) where
  -- the node is one, and its tick is that of the world
  pub own-node : IsNodeOf (given s n) (w.nodes n)
  own-node = node-of s is.setup n is.node own w is.run is.incomings

  pub own-tick : (state_of old).tick ≡ (w.nodes n).tick
  own-tick = is.stands.alike.tick

  pub own-number : old.log.node ≡ n
  own-number = ap (λ (l : NodeLog). l.node) is.log

  pub own-is-node : IsNode s.opening.nodes n
  own-is-node = let e : (nat_le 1 n && nat_le n s.opening.nodes) ≡ true = is.node in (grind (arith, nat_tests, e), grind (arith, nat_tests, e))

  -- the event that a call did
  module _ (new : Noted P) (what : What) (incoming : Incoming) (emitted : Emitted) (frame : IsIncoming incoming) (may : enabled (given s n) (w.nodes n) what incoming ≡ true) where
    pub own-steps : (spelt : IfSome emitted.frame (λ sent. IsFrame sent.1)) → (st : Stepped) × Happened wants becomes made (given s n) what incoming old new emitted (w.nodes n) st
        → (st : Stepped) × (emitted ≡ emitted_by what st) × IsStep wants becomes made s n own w what incoming st new
    own-steps spelt did =
        let st = did.0 in
        let found = enabled-happens (given s n) (w.nodes n) what incoming (setup-gives s is.setup n is.node) own-node frame may in
        let same : found.0 ≡ st = same_Some found.0 st (sym found.1 ∙ did.1.step) in
        let steps : step_of (given s n) (w.nodes n) what incoming st.effects.dropped ≡ Some st =
        subst (λ (x : Stepped). step_of (given s n) (w.nodes n) what incoming x.effects.dropped ≡ Some x) same found.2 in
        let at : (own_world n w what st).nodes n ≡ st.node = put-same w.nodes n n st.node refl in
        let lines : new.log.events ≡ reverse (events_in (own_event n what incoming st ∷ own)) =
        did.1.events ∙ ap (λ (es : List Happening). es ++ line_of n what st ∷ []) (ap (λ (l : NodeLog). l.events) is.log)
        ∙ sym (reverse-append (line_of n what st ∷ []) (events_in own)) in
        let number : new.log.node ≡ n = did.1.node ∙ own-number in (
          st,
          did.1.emits,
          record {
            node = record {
              setup = is.setup;
              node = is.node;
              run = goes-on s is.setup n is.node own w is.run is.incomings what incoming st frame may did.1.step;
              incomings = (frame, is.incomings);
              named = recent.goes-on s n own w is.run is.named (own_event n what incoming st) (did.1.step ∙ sym steps);
              stands = subst (λ (y : NodeState). Stands wants becomes made (given s n) new y) (sym at) did.1.stands;
              log = log-is new.log n (reverse (events_in (own_event n what incoming st ∷ own))) number lines;
            };
            steps = steps;
            frame = subst (λ (x : Emitted). IfSome x.frame (λ sent. IsFrame sent.1)) did.1.emits spelt;
          },
        )
