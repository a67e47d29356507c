-- Serving goes on from one post to another.
use Rattle.std.proofs.Common.{◌≡◌, ◌≢◌, ℕ, ◌+◌, ◌<◌, ◌≤◌, List, [], ◌∷◌, ◌++◌, length, map, drop, Option, Some, None, IfSome, inl, inr, refl, sym, ap, subst, ◌∙◌, append-nil, arith}
use Rattle.std.specs.Prelude.{◌^◌, ◌⊎◌, max, nat_lt, slice_get, true, false, Bool}
use Rattle.std.proofs.lemmas.Option.{same_Some}
use Rattle.std.specs.List.{AllZip, AllByRecursion}
use Rattle.dom_history.specs.declared.op.Reply.{Reply}
use Rattle.dom_history.specs.declared.op.Want.{Want}
use Rattle.dom_history.specs.declared.event.What.{What}
use Rattle.dom_history.specs.declared.event.NodeLog.{NodeLog}
use Rattle.dom_history.specs.declared.event.Sent.{Sent}
use Rattle.dom_history.specs.declared.plan.FateRow.{FateRow}
use Rattle.ring_messages.specs.Frames.{Message}
use Rattle.fault_handler.specs.Desks.{IsNode}
use Rattle.node_runs.specs.Setups.{Setup, given}
use Rattle.node_runs.specs.NodeStates.{NodeState, is_ended}
use Rattle.node_runs.specs.NodesKeep.{IsNodeOf}
use Rattle.node_runs.specs.Dones.{Did}
use Rattle.node_runs.specs.Incomings.{Incoming, tick_of}
use Rattle.node_runs.specs.Outcomes.{Stepped}
use Rattle.node_runs.specs.Doings.{ticked}
use Rattle.node_runs.specs.Runs.{World}
use Rattle.node_runs.proofs.Calls.{put-same}
use Rattle.node_runs.proofs.Doing.{step_of-did}
use Rattle.node_runs.proofs.SettingUp.{given-procs, setup-gives}
use Rattle.node_runs.proofs.Ticks.{step_of-tick}
use Rattle.world_runs.specs.NamedNodes.{NamesNodesIn}
use Rattle.world_runs.proofs.AskedNodes.{asks-nodes, did-to}
use Rattle.world_runs.specs.Sendings.{sendings, frames_in}
use Rattle.world_runs.specs.Waiting.{Entry}
use Rattle.world_runs.proofs.Sent.{IsSent, step-sent}
use Rattle.ring_links.specs.declared.entry.Entry as link-entry
use Rattle.ring_links.specs.declared.notice.Notice as notice
use Rattle.ring_links.specs.Carried as links
use Rattle.local_runs.specs.LocalRuns.{Own, events_in, own_event, own_world}
use Rattle.node_core.specs.declared.fault.RunFault.{RunFault}
use Rattle.node_core.specs.declared.fault.RunFault.TheVariants as faults
use Rattle.node_core.specs.declared.setup.Incoming as code
use Rattle.node_core.specs.Nodes.{Noted, state_of, given_of, Stands}
use Rattle.node_core.specs.Receivings.{emitted_by}
use Rattle.node_core.proofs.Sends.{Sends, did-sends}
use Rattle.wire_links.specs.declared.carried.Carried.{Carried}
use Rattle.wire_links.specs.declared.wire.WireIn.{WireIn}
use Rattle.wire_links.specs.declared.wire.WireOut.{WireOut}
use Rattle.wire_links.specs.Carrying.{Posting, frames_of, wire_after}
use Rattle.wire_links.specs.Wires.{taken, pushed, SameIn, SameOut}
use Rattle.local_runs.specs.Posts.{Serving, IsServed}
use Rattle.node_posts.specs.declared.post.Post.{Post}
use Rattle.node_posts.specs.Ends.{other_at}
use Rattle.node_posts.specs.Sending.{IsUnpushed, AreUnpushed, posted, own_after, told_after}
use Rattle.node_posts.specs.Owns.{IsOwn}
use Rattle.node_posts.specs.Posts.{IsOut, AreOuts, AreIns, IsOwnLink, AreNotices, IsPushed, IsCome, IsKnown, IsLastTick, IsLogged, IsPost, IsWhole, IsKept, HasRun, GoesOn}
use Rattle.node_posts.specs.Turns.{IsStep, IsSentStep, IsBeside, IsCause, IsSender, MayDo, IsTurn, IsUnsent, IsFailed, IsDone}
use Rattle.node_posts.proofs.Zips.{all-same, all-then, all-more, all-from}
use Rattle.node_posts.proofs.Stepping.{own-node, own-tick, own-number}
use Rattle.node_posts.proofs.Counting.{frames-low}
use Rattle.node_posts.proofs.Wiring.{outs-after, outs-still, all-pushed, pushed-more}
use Rattle.node_posts.proofs.Telling.{Tells, tells, notices-after}
use Rattle.node_posts.proofs.Serving.{Receives, serving_after, own-next, served-next}

pub same-in : (x : WireIn) → SameIn x x
same-in x = search

pub then-in : (x y z : WireIn) → SameIn x y → SameIn y z → SameIn x z
then-in x y z a b = search (a, b)

pub same-out : (x : WireOut) → SameOut x x
same-out x = search

pub then-out : (x y z : WireOut) → SameOut x y → SameOut y z → SameOut x z
then-out x y z a b = search (a, b)

pub same-ins : (xs : List WireIn) → AllZip SameIn xs xs
same-ins xs = all-same SameIn same-in xs

pub same-outs : (xs : List WireOut) → AllZip SameOut xs xs
same-outs xs = all-same SameOut same-out xs

pub unpushed-same : (xs ys : List WireOut) → AreUnpushed xs ys → AllZip SameOut xs ys
unpushed-same xs ys are = all-more IsUnpushed SameOut (λ x y is. is.same) xs ys are

pub unpushed-none : (xs : List WireOut) → AreUnpushed xs xs
unpushed-none xs = all-same IsUnpushed (λ x. record { same = same-out x; in_ring = refl }) xs

pub unpushed-then : (x y z : WireOut) → IsUnpushed x y → IsUnpushed y z → IsUnpushed x z
unpushed-then x y z a b = record { same = then-out x y z a.same b.same; in_ring = b.in_ring ∙ a.in_ring }

module _ {P G : Type 0} (wants : P → Want) (becomes : P → Option Reply → P) (limit : ℕ) where
  pub goes-same : (x : Post P G) → GoesOn wants becomes limit x x
  goes-same x = record { ins = same-ins x.ins.items; outs = same-outs x.outs.items; kept = λ made s plan n is. is }

  pub goes-then : (x y z : Post P G) → GoesOn wants becomes limit x y → GoesOn wants becomes limit y z → GoesOn wants becomes limit x z
  goes-then x y z a b = record {
    ins = all-then SameIn then-in x.ins.items y.ins.items z.ins.items a.ins b.ins;
    outs = all-then SameOut then-out x.outs.items y.outs.items z.outs.items a.outs b.outs;
    kept = λ made s plan n is. b.kept made s plan n (a.kept made s plan n is);
  }

  pub run-goes : (x y : Post P G) → HasRun wants becomes limit x → GoesOn wants becomes limit x y → HasRun wants becomes limit y
  run-goes x y has goes = record { made = has.made; setup = has.setup; plan = has.plan; number = has.number; is = goes.kept has.made has.setup has.plan has.number has.is }

-- what is known of a post without a fault is known at a fault
pub whole-known : {P G : Type 0} (wants : P → Want) (becomes : P → Option Reply → P) (made : ℕ → Option P) (s : Setup) (plan : List FateRow) (n : ℕ) (p : Serving) (x : Post P G)
    → IsPost wants becomes made s plan n p x → (state_of x.node).tick ≤ 2 ^ 40 → IsKnown s plan n p x
whole-known wants becomes made s plan n p x is low = record {
  served = is.served;
  named = is.node.named;
  timely = let e = own-tick wants becomes made s n p.own p.world x.node is.node in omega (arith, low, e);
  log = is.node.log;
  ins = λ at i there. record { rest = []; came = is.ins.each at i there ∙ sym (append-nil (p.ins (other_at n at))) };
  none = is.ins.none;
  outs = all-pushed s.opening.nodes plan n p.outs x.outs.items is.outs;
}

-- whether the node has ended is told by it
pub stands-ended : {P : Type 0} (wants : P → Want) (becomes : P → Option Reply → P) (made : ℕ → Option P) (s : Setup) (n : ℕ) (own : List Own) (w : World) (x : Noted P) → IsOwn wants becomes made s n own w x
    → is_ended (given_of x) (state_of x) ≡ is_ended (given s n) (w.nodes n)
stands-ended wants becomes made s n own w x is =
    ap (λ (k : ℕ). nat_lt k (state_of x).phase) (sym is.stands.phases) ∙ ap (λ (k : ℕ). nat_lt (given s n).phases k) is.stands.alike.phase

-- what is known of a step of a node
module _ {P : Type 0} (wants : P → Want) (becomes : P → Option Reply → P) (made : ℕ → Option P) (s : Setup) (n : ℕ) (own : List Own) (w : World) (old : Noted P) (is : IsOwn wants becomes made s n own w old)
    (what : What) (incoming : Incoming) (st : Stepped) (new : Noted P) (step : IsStep wants becomes made s n own w what incoming st new) where
  abbrev pub did : Did (given s n) (ticked (w.nodes n) incoming) what incoming st
  did = step_of-did (given s n) (w.nodes n) what incoming st.effects.dropped st step.steps

  pub step-sends : Sends n what st
  step-sends = did-sends (given s n) (ticked (w.nodes n) incoming) what incoming st did

  sent-tick : (f : Option Message) (x : Option Sent) → IsSent st.node.tick f x → (m : Message) → f ≡ Some m → m.tick ≡ st.node.tick
  sent-tick None x sent m same = absurd (cc)
  sent-tick (Some f) None sent m same = absurd sent
  sent-tick (Some f) (Some x) sent m same = ap (λ (k : Message). k.tick) (sym (same_Some f m same)) ∙ sent.0

  pub step-ticks : (m : Message) → st.frame ≡ Some m → m.tick ≡ st.node.tick
  step-ticks = sent-tick st.frame st.effects.sent (step-sent (given s n) (w.nodes n) what incoming st.effects.dropped st step.steps)

  pub step-now : (own_world n w what st).nodes n ≡ st.node
  step-now = put-same w.nodes n n st.node refl

  pub step-tick : (state_of new).tick ≡ st.node.tick
  step-tick = own-tick wants becomes made s n (own_event n what incoming st ∷ own) (own_world n w what st) new step.node ∙ ap (λ (y : NodeState). y.tick) step-now

  -- no tick is above the greatest
  pub step-timely : (state_of old).tick < 2 ^ 40 → tick_of incoming < 2 ^ 40 → st.node.tick ≤ 2 ^ 40
  step-timely low early =
      let a = step_of-tick (given s n) (w.nodes n) what incoming st.effects.dropped st step.steps in
      let b = own-tick wants becomes made s n own w old is in
      omega (arith, a, b, low, early)

  -- what is sent goes to a node
  pub step-goes : NamesNodesIn s.opening.nodes what → (m : Message) → st.frame ≡ Some m → IsNode s.opening.nodes m.to
  step-goes named m f =
      let after = subst (IsNodeOf (given s n)) step-now (own-node wants becomes made s n (own_event n what incoming st ∷ own) (own_world n w what st) new step.node) in
      let goes = did-to s.opening.nodes (given s n) (ticked (w.nodes n) incoming) (own-node wants becomes made s n own w old is).four (given-procs (given s n) (setup-gives s is.setup n is.node).programs)
      what incoming st step.node.incomings.0 named (asks-nodes (given s n) st.node after) did in
      subst (λ (o : Option Message). IfSome o (λ (y : Message). IsNode s.opening.nodes y.to)) f goes
