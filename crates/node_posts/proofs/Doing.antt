-- A post is kept as an event of its node is done, whatever the event comes from.
use Rattle.std.proofs.Common.{◌≡◌, ◌≢◌, ℕ, ◌+◌, ◌<◌, ◌≤◌, List, [], ◌∷◌, length, map, Option, Some, None, IfSome, inl, inr, refl, sym, ap, subst, ◌∙◌, append-nil, arith}
use Rattle.std.specs.Prelude.{◌^◌, ◌⊎◌, slice_get}
use Rattle.dom_history.specs.declared.op.Reply.{Reply}
use Rattle.dom_history.specs.declared.op.Want.{Want}
use Rattle.dom_history.specs.declared.event.What.{What}
use Rattle.dom_history.specs.declared.plan.FateRow.{FateRow}
use Rattle.dom_history.specs.Plans.{fate_of}
use Rattle.ring_messages.specs.Frames.{Message}
use Rattle.node_runs.specs.Setups.{Setup, given}
use Rattle.node_runs.specs.NodeStates.{NodeState}
use Rattle.node_runs.specs.Incomings.{Incoming, tick_of}
use Rattle.node_runs.specs.Outcomes.{Stepped}
use Rattle.node_runs.specs.Runs.{World}
use Rattle.node_runs.proofs.Running.{step_of-sends-version}
use Rattle.world_runs.specs.NamedNodes.{NamesNodesIn}
use Rattle.world_runs.specs.Sendings.{frames_on}
use Rattle.world_runs.specs.Waiting.{Entry}
use Rattle.ring_links.specs.declared.entry.Entry as link-entry
use Rattle.ring_links.specs.Carried as links
use Rattle.local_runs.specs.LocalRuns.{events_in, own_event, own_world}
use Rattle.local_runs.proofs.Planning.{local-frames}
use Rattle.ended_nodes.proofs.Elements.{some_if}
use Rattle.node_core.specs.declared.fault.RunFault.{RunFault}
use Rattle.node_core.specs.declared.fault.RunFault.TheVariants as faults
use Rattle.node_core.specs.declared.setup.Emitted.{Emitted}
use Rattle.node_core.specs.declared.setup.Incoming as code
use Rattle.node_core.specs.Nodes.{Noted, state_of}
use Rattle.node_core.specs.Receivings.{emitted_by}
use Rattle.node_core.proofs.Sends.{Sends, nothing, mark, frame}
use Rattle.wire_links.specs.declared.carried.Carried.{Carried}
use Rattle.wire_links.specs.declared.wire.WireIn.{WireIn}
use Rattle.wire_links.specs.declared.wire.WireOut.{WireOut}
use Rattle.wire_links.specs.Carrying.{Wired}
use Rattle.wire_links.specs.Wires.{taken}
use Rattle.local_runs.specs.Posts.{Serving, IsServed}
use Rattle.node_posts.specs.declared.post.Post.{Post}
use Rattle.node_posts.specs.Ends.{other_at, place_of}
use Rattle.node_posts.specs.Sendable.{CanTake, CanSendFrame}
use Rattle.node_posts.specs.Sending.{IsUnpushed, posted, told_after}
use Rattle.node_posts.specs.Owns.{IsOwn}
use Rattle.node_posts.specs.Posts.{IsOut, AreOuts, AreIns, IsOwnLink, IsKnown, IsLastTick, AreNotices, IsLogged, IsPost, IsKept}
use Rattle.node_posts.specs.Turns.{IsStep, Steps, IsSentStep, IsBeside, IsCause, MayDo, IsUnsent, IsDone}
use Rattle.node_posts.proofs.Zips.{all-from}
use Rattle.node_posts.proofs.Placing.{other-place, place-within}
use Rattle.node_posts.proofs.Counting.{frames-low, wire-counts}
use Rattle.node_posts.proofs.Wiring.{outs-after, all-pushed, pushed-more}
use Rattle.node_posts.proofs.Sends.{emits-frame, emits-none}
use Rattle.node_posts.proofs.Stepping.{own-tick, own-number, own-is-node}
use Rattle.node_posts.proofs.Telling.{tells, notices-after}
use Rattle.node_posts.proofs.Coming.{IsLater, all-came-later}
use Rattle.node_posts.proofs.Serving.{Receives, serving_after, own-next, served-next, rest-next}
use Rattle.node_posts.proofs.Going.{step-sends, step-ticks, step-now, step-tick, step-timely, step-goes}

-- what an event emits can be sent
module _ {P G : Type 0} (wants : P → Want) (becomes : P → Option Reply → P) (limit : ℕ) (most : limit ≤ 2 ^ 40) (what : What) (incoming : Incoming) (x : Post P G) (may : MayDo wants becomes limit (λ nodes. NamesNodesIn nodes what) x)
    (node : Noted P) (emitted : Emitted) (steps : Steps wants becomes what incoming x.node node emitted) (low : (state_of node).tick < limit) where
  abbrev s : Setup
  s = may.setup

  abbrev n : ℕ
  n = may.number

  abbrev w : World
  w = may.world

  few-here : (to : ℕ) → length (w.frames n to) < 2 ^ 40
  few-here to =
      let a = frames-low s n may.own w may.is.node.run to in
      let b = own-tick wants becomes may.made s n may.own w x.node may.is.node in
      let c = may.low in
      omega (arith, a, b, c, most)

  frame-sendable : (st : Stepped) → IsStep wants becomes may.made s n may.own w what incoming st node → (m : Message) → st.frame ≡ Some m → m.from ≡ n → (k : ℕ) → k ≡ n → CanSendFrame k x m
  frame-sendable st step m is from k same =
      let to = step-goes wants becomes may.made s n may.own w x.node may.is.node what incoming st node step may.named m is in
      let here = own-is-node wants becomes may.made s n may.own w x.node may.is.node in
      record {
        tick =
            (let a = step-ticks wants becomes may.made s n may.own w x.node may.is.node what incoming st node step m is in
            let b = step-tick wants becomes may.made s n may.own w x.node may.is.node what incoming st node step in
            omega (arith, a, b, low, most));
        own = let a = may.is.own_counted in let b = few-here n in omega (arith, a, b);
        within = λ away.
            (let b = place-within n s.opening.nodes (length x.outs.items) m.to may.is.outs_are.many here to (λ h. away (h ∙ sym same)) in
            subst (λ (j : ℕ). place_of j m.to < length x.outs.items) (sym same) b);
        end_of = λ away.
            subst (λ (j : ℕ). IfSome (slice_get x.outs.items (place_of j m.to)) (CanTake m)) (sym same)
            (some_if (CanTake m) (slice_get x.outs.items (place_of n m.to)) (λ o there.
            (let at = place_of n m.to in
            let differs : m.to ≢ n = λ h. away (h ∙ sym same) in
            let link : other_at n at ≡ m.to = other-place n m.to here.0 to.0 differs in
            let out : IsOut may.plan n m.to (may.outs m.to) o = subst (λ (j : ℕ). IsOut may.plan n j (may.outs j) o) link (may.is.outs_are.each at o there) in
            record {
              from = from ∙ sym out.link.sender;
              to = sym out.link.receiver;
              few =
                  (let a = ap (λ (l : Wired). l.frames) out.wire in
                  let b = wire-counts (fate_of may.plan n m.to) (may.outs m.to) in
                  let c = ap (λ (ms : List Message). length ms) (may.is.counted m.to differs) in
                  let d = few-here m.to in
                  omega (arith, a, b, c, d));
            })));
      }

  by-sends : (st : Stepped) → IsStep wants becomes may.made s n may.own w what incoming st node → Sends n what st → (k : ℕ) → k ≡ n → IfSome (emitted_by what st).frame (λ sent. CanSendFrame k x sent.1)
  by-sends st step (nothing unmarked none nowhere) k same = subst (λ (o : Option (ℕ × Message)). IfSome o (λ sent. CanSendFrame k x sent.1)) (sym (emits-none what st none)) tt
  by-sends st step (mark phase is none nowhere) k same = subst (λ (o : Option (ℕ × Message)). IfSome o (λ sent. CanSendFrame k x sent.1)) (sym (emits-none what st none)) tt
  by-sends st step (frame m f unmarked is sent from goes) k same =
      subst (λ (o : Option (ℕ × Message)). IfSome o (λ sent. CanSendFrame k x sent.1)) (sym (emits-frame what st m f is sent)) (frame-sendable st step m is from k same)

  pub sendable : IfSome emitted.frame (λ sent. CanSendFrame node.log.node x sent.1)
  sendable =
      let d = steps may.made s n may.own w may.is.node in
      let number = own-number wants becomes may.made s n (own_event n what incoming d.0 ∷ may.own) (own_world n w what d.0) node d.2.node in
      subst (λ (e : Emitted). IfSome e.frame (λ sent. CanSendFrame node.log.node x sent.1)) (sym d.1)
      (by-sends d.0 d.2 (step-sends wants becomes may.made s n may.own w x.node may.is.node what incoming d.0 node d.2) node.log.node number)

-- a post after what it held was popped: what it takes is still to be done
pub record IsPopped {P G : Type 0} (wire n nodes : ℕ) (p : Serving) (rest : List Entry) (ins : ℕ → List Carried) (plan : List FateRow) (what : What) (incoming : Incoming) (old mid : Post P G) : Type 0 where
  pub node : mid.node ≡ old.node
  pub outs : mid.outs.items ≡ old.outs.items
  pub ins_are : AreIns nodes n ins mid.ins.items
  pub own : IsOwnLink wire n p.world mid.own
  pub gets : Receives nodes plan wire n p rest ins mid.own.queue mid.notices.items what incoming

module _ {P G : Type 0} (wants : P → Want) (becomes : P → Option Reply → P) (limit : ℕ) (most : limit ≤ 2 ^ 40) (made : ℕ → Option P) (s : Setup) (plan : List FateRow) (n : ℕ) (old : Post P G) (p : Serving) (is : IsPost wants becomes made s plan n p old)
    (before : (state_of old.node).tick < limit) (what : What) (incoming : Incoming) (early : tick_of incoming < 2 ^ 40) (named : NamesNodesIn s.opening.nodes what)
    (ins : ℕ → List Carried) (mid new : Post P G) (popped : IsPopped s.wire n s.opening.nodes p is.served.own_rest ins plan what incoming old mid) where
  node : IsOwn wants becomes made s n p.own p.world mid.node
  node = subst (IsOwn wants becomes made s n p.own p.world) (sym popped.node) is.node

  mid-low : (state_of mid.node).tick < limit
  mid-low = subst (λ (x : Noted P). (state_of x).tick < limit) (sym popped.node) before

  counted : length (p.world.frames n n) ≡ frames_on n n (events_in p.own)
  counted = local-frames s n p.own p.world is.node.run n n

  abbrev q : Serving
  q = record p { ins = ins }

  later-q : IsLater n p q
  later-q = record { ins = popped.gets.more; frames = λ to. record { stays = λ k m found. found } }

  -- the event was not done: what came out for it was taken in vain
  pub known-before : IsBeside mid new → new.node.log ≡ mid.node.log → IsKnown s plan n p new
  known-before beside log = record {
    served = is.served;
    named = is.node.named;
    timely = (let a = own-tick wants becomes made s n p.own p.world mid.node node in let b = mid-low in omega (arith, a, b, most));
    log = log ∙ node.log;
    ins = λ at i there.
        (let more = popped.gets.more (other_at n at) in
        record { rest = more.0; came = popped.ins_are.each at i (subst (λ (xs : List WireIn). slice_get xs at ≡ Some i) beside.ins there) ∙ more.1 });
    none = is.ins.none;
    outs = λ at o there.
        (let found = all-from IsUnpushed mid.outs.items new.outs.items at o beside.outs there in
        let to = other_at n at in
        pushed-more plan n to [] (p.outs to) found.was o
        (all-pushed s.opening.nodes plan n p.outs old.outs.items is.outs at found.was (subst (λ (xs : List WireOut). slice_get xs at ≡ Some found.was) popped.outs found.there))
        found.is.in_ring);
  }

  module _ (st : Stepped) (step : IsStep wants becomes made s n p.own p.world what incoming st new.node) where
    abbrev after : Serving
    after = serving_after n p ins what incoming st

    sends : Sends n what st
    sends = step-sends wants becomes made s n p.own p.world mid.node node what incoming st new.node step

    ticks : (m : Message) → st.frame ≡ Some m → m.tick ≡ st.node.tick
    ticks = step-ticks wants becomes made s n p.own p.world mid.node node what incoming st new.node step

    versions : IfSome st.frame (λ m. m.version ≡ s.wire)
    versions = step_of-sends-version (given s n) (p.world.nodes n) what incoming st.effects.dropped st step.steps

    abbrev served : IsServed s plan n after
    served =
        served-next s plan is.plan_kept n p is.served what incoming st sends step.node.run step.frame versions ins mid.own.queue mid.notices.items mid.own refl popped.own popped.gets ticks counted

    timely : (after.world.nodes n).tick ≤ 2 ^ 40
    timely =
        (let a = step-timely wants becomes made s n p.own p.world mid.node node what incoming st new.node step (let b = mid-low in omega (arith, b, most)) early in
        let c = ap (λ (y : NodeState). y.tick) (step-now wants becomes made s n p.own p.world mid.node node what incoming st new.node step) in
        omega (arith, a, c))

    -- the event is in the journal, whether it was sent or not
    known-after : IsBeside mid new → IsKnown s plan n after new
    known-after beside = record {
      served = served;
      named = step.node.named;
      timely = timely;
      log = step.node.log;
      ins = λ at i there.
          record { rest = []; came = popped.ins_are.each at i (subst (λ (xs : List WireIn). slice_get xs at ≡ Some i) beside.ins there) ∙ sym (append-nil (ins (other_at n at))) };
      none = popped.ins_are.none;
      outs = λ at o there.
          (let found = all-from IsUnpushed mid.outs.items new.outs.items at o beside.outs there in
          let to = other_at n at in
          pushed-more plan n to (posted st.node.tick to (emitted_by what st)) (p.outs to) found.was o
          (all-pushed s.opening.nodes plan n p.outs old.outs.items is.outs at found.was (subst (λ (xs : List WireOut). slice_get xs at ≡ Some found.was) popped.outs found.there))
          found.is.in_ring);
    }

    -- it was sent
    post-after : IsBeside mid new → st.node.tick < 2 ^ 40 → IsSentStep n st.node.tick (emitted_by what st) mid new → IsPost wants becomes made s plan n after new
    post-after beside small sent = record {
      node = step.node;
      plan_kept = is.plan_kept;
      served = served;
      ins = record {
        many = ap (λ (xs : List WireIn). length xs + 1) beside.ins ∙ popped.ins_are.many;
        each = λ at i there. popped.ins_are.each at i (subst (λ (xs : List WireIn). slice_get xs at ≡ Some i) beside.ins there);
        none = popped.ins_are.none;
      };
      outs =
          outs-after s.opening.nodes plan n p.outs mid.outs.items new.outs.items (λ to. posted st.node.tick to (emitted_by what st))
          (subst (λ (xs : List WireOut). AreOuts s.opening.nodes plan n p.outs xs) (sym popped.outs) is.outs) sent.outs beside.outs;
      own = subst (IsOwnLink s.wire n after.world) (sym sent.own) ((own-next s plan is.plan_kept n p is.served what incoming st sends step.node.run step.frame versions ins mid.own.queue mid.notices.items mid.own refl popped.own popped.gets ticks counted).own small);
      own_rest =
          rest-next s plan is.plan_kept n p is.served what incoming st sends step.node.run step.frame versions ins mid.own.queue mid.notices.items mid.own refl popped.own popped.gets ticks counted
          ∙ ap (λ (l : links.Carrying code.Incoming). map (λ (e : link-entry.Entry code.Incoming). links.plain_name e.waiting) l.queue) (sym sent.own);
      notices =
          subst (AreNotices s.opening.nodes plan n after) (sym sent.notices)
          (notices-after s.opening.nodes plan n q (all-came-later plan n p q later-q p.own is.served.came) what incoming st sends small ticks (step-goes wants becomes made s n p.own p.world mid.node node what incoming st new.node step named) popped.gets.now mid.notices.items popped.gets.each popped.gets.once after refl refl
          (told_after n (emitted_by what st) mid.outs.items)
          (tells plan n p.world what st p.outs s.opening.nodes mid.outs.items (subst (λ (xs : List WireOut). AreOuts s.opening.nodes plan n p.outs xs) (sym popped.outs) is.outs)
          is.served.frames (own-is-node wants becomes made s n p.own p.world mid.node node).0 sends
          (λ m f. (step-goes wants becomes made s n p.own p.world mid.node node what incoming st new.node step named m f).0)));
    }

  no-fault : {A : Type 0} (fault : RunFault) → new.fault ≡ Some fault → new.fault ≡ None → A
  no-fault fault some none = absurd (cc)

  logged-at : (q : Serving) → IsKnown s plan n q new → (f : Option RunFault) → new.fault ≡ f → IsLastTick limit n q f → IsLogged limit s plan n new
  logged-at q known f same last = record { post = q; known = known; last = subst (IsLastTick limit n q) (sym same) last }

  last-tick : (st : Stepped) → IsStep wants becomes made s n p.own p.world what incoming st new.node → (fault : RunFault) → IsCause limit fault new → IsLastTick limit n (serving_after n p ins what incoming st) (Some fault)
  last-tick st step faults.NoMemory cause = tt
  last-tick st step (faults.TickLimit k) cause =
      let number = own-number wants becomes made s n (own_event n what incoming st ∷ p.own) (own_world n p.world what st) new.node step.node in
      let tick = own-tick wants becomes made s n (own_event n what incoming st ∷ p.own) (own_world n p.world what st) new.node step.node in
      (cause.0 ∙ number, (let a = cause.1 in omega (arith, a, tick)))

  by-fault : (f : Option RunFault) → new.fault ≡ f → IsDone wants becomes limit what incoming mid new f → IsKept wants becomes limit made s plan n new
  by-fault None same turn =
      let d = turn.did made s n p.own p.world node in
      let small : d.0.node.tick < 2 ^ 40 =
      (let a = step-tick wants becomes made s n p.own p.world mid.node node what incoming d.0 new.node d.1 in let b = turn.low in omega (arith, a, b, most)) in
      record {
        logged = logged-at (serving_after n p ins what incoming d.0) (known-after d.0 d.1 turn.beside) None same tt;
        low = λ none. turn.low;
        whole = λ none. (serving_after n p ins what incoming d.0, post-after d.0 d.1 turn.beside small d.2);
      }
  by-fault (Some fault) same failed = by-how failed.did
    where
      by-how : ((fault ≡ faults.NoMemory) × (new.node.log ≡ mid.node.log)) ⊎ (IsUnsent wants becomes what incoming mid new × IsCause limit fault new) → IsKept wants becomes limit made s plan n new
      by-how (inl undone) = record {
        logged = logged-at p (known-before failed.beside undone.1) (Some faults.NoMemory) (same ∙ ap Some undone.0) tt;
        low = λ none. no-fault fault same none;
        whole = λ none. no-fault fault same none;
      }
      by-how (inr (unsent, cause)) =
          let d = unsent made s n p.own p.world node in
          record {
            logged = logged-at (serving_after n p ins what incoming d.0) (known-after d.0 d.1 failed.beside) (Some fault) same (last-tick d.0 d.1 fault cause);
            low = λ none. no-fault fault same none;
            whole = λ none. no-fault fault same none;
          }

  pub done-kept : IsDone wants becomes limit what incoming mid new new.fault → IsKept wants becomes limit made s plan n new
  done-kept done = by-fault new.fault refl done
