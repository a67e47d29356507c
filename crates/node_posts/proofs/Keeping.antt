-- A post is kept by each thing that is done to it.
use Rattle.std.proofs.Common.{◌≡◌, ◌≢◌, ℕ, ◌+◌, ◌<◌, ◌≤◌, Bool, true, false, List, [], ◌∷◌, ◌++◌, length, map, drop, Option, Some, None, inl, inr, refl, sym, ap, subst, ◌∙◌, append-nil, arith}
use Rattle.std.specs.Prelude.{◌^◌, ◌==◌, slice_get, IsTrue, IsFalse}
use Rattle.std.specs.List.{AllZip}
use Rattle.std.proofs.lemmas.Bool.{cases_eq, eq-eqb, ne_eqb}
use Rattle.std.proofs.lemmas.List.{length-map}
use Rattle.dom_history.specs.declared.op.Reply.{Reply}
use Rattle.dom_history.specs.declared.op.Want.{Want}
use Rattle.dom_history.specs.declared.event.What.{What}
use Rattle.dom_history.specs.declared.event.What.TheVariants as events
use Rattle.dom_history.specs.declared.plan.FateRow.{FateRow}
use Rattle.fault_handler.specs.Desks.{IsNode}
use Rattle.node_runs.specs.Setups.{Setup, given}
use Rattle.node_runs.specs.NodeStates.{is_ended}
use Rattle.node_runs.specs.Incomings.{Incoming, tick_of, enabled}
use Rattle.world_runs.specs.NamedNodes.{NamesNodesIn}
use Rattle.world_runs.specs.Waiting.{Entry, entries_taken}
use Rattle.local_runs.specs.LocalRuns.{events_in}
use Rattle.ring_links.specs.declared.entry.Entry as link-entry
use Rattle.ring_links.specs.declared.notice.Notice as notice
use Rattle.ring_links.specs.Notices.{notice_what, notice_incoming}
use Rattle.ring_links.specs.Carried as links
use Rattle.node_core.specs.declared.fault.RunFault.{RunFault}
use Rattle.node_core.specs.declared.fault.RunFault.TheVariants as faults
use Rattle.node_core.specs.declared.setup.Incoming as code
use Rattle.node_core.specs.declared.setup.Incoming.TheVariants as received
use Rattle.node_core.specs.Nodes.{Noted, Stands, state_of, given_of}
use Rattle.node_core.specs.Receivings.{seen}
use Rattle.wire_links.specs.declared.carried.Carried.{Carried}
use Rattle.wire_links.specs.declared.wire.WireIn.{WireIn}
use Rattle.wire_links.specs.declared.wire.WireOut.{WireOut}
use Rattle.wire_links.specs.Carrying.{Posting}
use Rattle.wire_links.specs.Wires.{taken, SameIn, SameOut}
use Rattle.wire_links.proofs.Draining.{none_waits}
use Rattle.local_runs.specs.Posts.{Serving, IsPassed, IsServed}
use Rattle.node_posts.specs.declared.post.Post.{Post}
use Rattle.node_posts.specs.Ends.{other_at, own_event}
use Rattle.node_posts.specs.Reading.{IsEventFor, come_if, AreTaken}
use Rattle.node_posts.specs.Sending.{IsFlushed}
use Rattle.node_posts.specs.Owns.{IsOwn}
use Rattle.node_posts.specs.Posts.{AreOuts, AreIns, IsOwnLink, AreNotices, IsLastTick, IsPost, IsKept, HasRun, GoesOn}
use Rattle.node_posts.specs.Turns.{IsStart, IsRefused, IsBeside, MayDo, IsDone, Comes}
use Rattle.node_posts.proofs.Zips.{all-more, zip-at, zip-length}
use Rattle.node_posts.proofs.Placing.{other-away, other-apart, other-node}
use Rattle.node_posts.proofs.Stepping.{own-number, own-is-node}
use Rattle.node_posts.proofs.Wiring.{outs-still, all-pushed}
use Rattle.node_posts.proofs.OwnLink.{own-less}
use Rattle.node_posts.proofs.Serving.{Receives}
use Rattle.node_posts.proofs.Going.{same-ins, same-outs, unpushed-same, goes-same, whole-known, stands-ended}
use Rattle.node_posts.proofs.Doing.{IsPopped, done-kept}
use Rattle.node_posts.proofs.Sources.{ins_with, begin-receives, go-receives, ready-receives, ring-receives, passed-by, passed-rest, own-receives, own-enabled, own-early, own-names, notice-receives, notice-dropped, refused-passed, odd-passed, entry-names}

either-way : (A : Type 0) (b : Bool) → (IsTrue b → A) → (IsFalse b → A) → A
either-way A true did none-did = did refl
either-way A false did none-did = none-did refl

module _ {P G : Type 0} (wants : P → Want) (becomes : P → Option Reply → P) (limit : ℕ) where
  pub done-beside : (what : What) (incoming : Incoming) (mid new : Post P G) (f : Option RunFault) → IsDone wants becomes limit what incoming mid new f → IsBeside mid new
  done-beside what incoming mid new None done = done.beside
  done-beside what incoming mid new (Some fault) done = done.beside

  -- something may be done at a post without a fault
  pub may-of : (x mid : Post P G) (has : HasRun wants becomes limit x) → x.fault ≡ None → mid.node ≡ x.node → mid.outs.items ≡ x.outs.items → mid.own.frames ≡ x.own.frames
      → (names : ℕ → Type 0) → names has.setup.opening.nodes → MayDo wants becomes limit names mid
  may-of x mid has none node outs own names named =
      let p = (has.is.whole none).0 in
      let is = (has.is.whole none).1 in
      record {
        made = has.made;
        setup = has.setup;
        plan = has.plan;
        number = has.number;
        own = p.own;
        world = p.world;
        outs = p.outs;
        is = record {
          node = subst (IsOwn wants becomes has.made has.setup has.number p.own p.world) (sym node) is.node;
          outs_are = subst (λ (xs : List WireOut). AreOuts has.setup.opening.nodes has.plan has.number p.outs xs) (sym outs) is.outs;
          counted = is.served.frames;
          own_counted = own ∙ (sym is.own.carries.frames ∙ length-map (p.world.frames has.number has.number) received.Frame);
        };
        low = subst (λ (y : Noted P). (state_of y).tick < limit) (sym node) (has.is.low none);
        named = named;
      }

  -- the event of an entry that came names nodes
  pub come-may : (x : Post P G) (from : ℕ) (c : Carried) (what : What) (incoming : Incoming) → IsEventFor from x.node.log.node c what incoming → MayDo wants becomes limit (λ nodes. IsNode nodes from) x
      → MayDo wants becomes limit (λ nodes. NamesNodesIn nodes what) x
  come-may x from c what incoming event may =
      let s = may.setup in
      let n = may.number in
      record {
        made = may.made;
        setup = s;
        plan = may.plan;
        number = n;
        own = may.own;
        world = may.world;
        outs = may.outs;
        is = may.is;
        low = may.low;
        named =
            entry-names s.opening.nodes from n c what incoming may.named (own-is-node wants becomes may.made s n may.own may.world x.node may.is.node)
            (subst (λ (k : ℕ). IsEventFor from k c what incoming) (own-number wants becomes may.made s n may.own may.world x.node may.is.node) event);
      }

  -- it was done, or dropped
  pub come-either : (x new : Post P G) (from : ℕ) (c : Carried) (what : What) (incoming : Incoming) (b : Bool) → IsEventFor from x.node.log.node c what incoming → tick_of incoming < 2 ^ 40
      → (IsTrue b → IsDone wants becomes limit what incoming x new new.fault) → (IsFalse b → IsRefused wants becomes what incoming x.node) → (IsFalse b → new ≡ x) → Comes wants becomes limit from c x new
  come-either x new from c what incoming b event early did refused same =
      either-way (Comes wants becomes limit from c x new) b (λ h. Comes.done what incoming event early (did h)) (λ h. Comes.dropped what incoming event (refused h) (same h))

  module _ (most : limit ≤ 2 ^ 40) (x : Post P G) (none : x.fault ≡ None) where
    -- an event that receives nothing
    start-popped : (made : ℕ → Option P) (s : Setup) (plan : List FateRow) (n : ℕ) (p : Serving) (is : IsPost wants becomes made s plan n p x) (what : What) → IsStart what
        → IsPopped s.wire n s.opening.nodes p is.served.own_rest p.ins plan what Incoming.Nothing x x
    start-popped made s plan n p is (events.Begin q) start =
        record { node = refl; outs = refl; ins_are = is.ins; own = is.own; gets = begin-receives s.opening.nodes plan n p is.served.own_rest x.own.queue x.notices.items is.own_rest s is.served is.notices q }
    start-popped made s plan n p is (events.Go q) start =
        record { node = refl; outs = refl; ins_are = is.ins; own = is.own; gets = go-receives s.opening.nodes plan n p is.served.own_rest x.own.queue x.notices.items is.own_rest s is.served is.notices q }
    start-popped made s plan n p is (events.Ready phase) start =
        record { node = refl; outs = refl; ins_are = is.ins; own = is.own; gets = ready-receives s.opening.nodes plan n p is.served.own_rest x.own.queue x.notices.items is.own_rest s is.served is.notices phase }
    start-popped made s plan n p is (events.Take from index) start = absurd start
    start-popped made s plan n p is (events.Notice q from to index) start = absurd start
    start-popped made s plan n p is (events.Mark from phase) start = absurd start

    start-names : (nodes : ℕ) (what : What) → IsStart what → NamesNodesIn nodes what
    start-names nodes (events.Begin q) start = tt
    start-names nodes (events.Go q) start = tt
    start-names nodes (events.Ready phase) start = tt
    start-names nodes (events.Take from index) start = absurd start
    start-names nodes (events.Notice q from to index) start = absurd start
    start-names nodes (events.Mark from phase) start = absurd start

    pub start-may : (what : What) → IsStart what → HasRun wants becomes limit x → MayDo wants becomes limit (λ nodes. NamesNodesIn nodes what) x
    start-may what start has = may-of x x has none refl refl refl (λ nodes. NamesNodesIn nodes what) (start-names has.setup.opening.nodes what start)

    -- whether an event was done or not
    pub goes-either : (new : Post P G) (b : Bool) → (IsTrue b → GoesOn wants becomes limit x new) → (IsFalse b → new ≡ x) → GoesOn wants becomes limit x new
    goes-either new true did none-did = did refl
    goes-either new false did none-did = subst (GoesOn wants becomes limit x) (sym (none-did refl)) (goes-same wants becomes limit x)

    pub start-goes : (what : What) (new : Post P G) → IsStart what → IsDone wants becomes limit what Incoming.Nothing x new new.fault → GoesOn wants becomes limit x new
    start-goes what new start done =
        let beside = done-beside what Incoming.Nothing x new new.fault done in
        record {
          ins = subst (λ (xs : List WireIn). AllZip SameIn x.ins.items xs) (sym beside.ins) (same-ins x.ins.items);
          outs = unpushed-same x.outs.items new.outs.items beside.outs;
          kept = λ made s plan n is.
              (let p = (is.whole none).0 in
              let post = (is.whole none).1 in
              done-kept wants becomes limit most made s plan n x p post (is.low none) what Incoming.Nothing (omega arith) (start-names s.opening.nodes what start) p.ins x new
              (start-popped made s plan n p post what start) done);
        }

    -- what waits changed, and nothing was done
    post-with : (made : ℕ → Option P) (s : Setup) (plan : List FateRow) (n : ℕ) (p q : Serving) (is : IsPost wants becomes made s plan n p x) (y : Post P G) → q.own ≡ p.own → q.world ≡ p.world → q.outs ≡ p.outs
        → y.node ≡ x.node → y.outs.items ≡ x.outs.items → y.own ≡ x.own → (served : IsServed s plan n q) → served.own_rest ≡ is.served.own_rest → AreIns s.opening.nodes n q.ins y.ins.items
        → AreNotices s.opening.nodes plan n q y.notices.items → IsPost wants becomes made s plan n q y
    post-with made s plan n p q is y own world sent node outs link served rest ins notices = record {
      node =
          subst (IsOwn wants becomes made s n q.own q.world) (sym node)
          (subst (λ o. IsOwn wants becomes made s n o q.world x.node) (sym own) (subst (λ w. IsOwn wants becomes made s n p.own w x.node) (sym world) is.node));
      plan_kept = is.plan_kept;
      served = served;
      ins = ins;
      outs =
          subst (λ (xs : List WireOut). AreOuts s.opening.nodes plan n q.outs xs) (sym outs)
          (subst (λ (f : ℕ → List Posting). AreOuts s.opening.nodes plan n f x.outs.items) (sym sent) is.outs);
      own = subst (IsOwnLink s.wire n q.world) (sym link) (subst (λ w. IsOwnLink s.wire n w x.own) (sym world) is.own);
      own_rest = rest ∙ (is.own_rest ∙ ap (λ (l : links.Carrying code.Incoming). map (λ (e : link-entry.Entry code.Incoming). links.plain_name e.waiting) l.queue) (sym link));
      notices = notices;
    }

    -- a post that still is whole is kept
    still-kept : (made : ℕ → Option P) (s : Setup) (plan : List FateRow) (n : ℕ) (q : Serving) (y : Post P G) → y.fault ≡ None → (state_of y.node).tick < limit → IsPost wants becomes made s plan n q y → IsKept wants becomes limit made s plan n y
    still-kept made s plan n q y whole low is = record {
      logged = record {
        post = q;
        known = whole-known wants becomes made s plan n q y is (omega (arith, low, most));
        last = subst (IsLastTick limit n q) (sym whole) tt;
      };
      low = λ f. low;
      whole = λ f. (q, is);
    }

    -- nothing came of it: what waits is as it was
    pub alike-goes : (y : Post P G) → y.node ≡ x.node → y.ins.items ≡ x.ins.items → y.outs.items ≡ x.outs.items → y.own ≡ x.own → y.notices.items ≡ x.notices.items → y.fault ≡ x.fault → GoesOn wants becomes limit x y
    alike-goes y node ins outs own notices fault = record {
      ins = subst (λ (xs : List WireIn). AllZip SameIn x.ins.items xs) (sym ins) (same-ins x.ins.items);
      outs = subst (λ (xs : List WireOut). AllZip SameOut x.outs.items xs) (sym outs) (same-outs x.outs.items);
      kept = λ made s plan n is.
          (let p = (is.whole none).0 in
          let post = (is.whole none).1 in
          still-kept made s plan n p y (fault ∙ none) (subst (λ (m : Noted P). (state_of m).tick < limit) (sym node) (is.low none))
          (post-with made s plan n p p post y refl refl refl node outs own post.served refl (subst (λ (xs : List WireIn). AreIns s.opening.nodes n p.ins xs) (sym ins) post.ins)
          (subst (λ (ns : List notice.Notice). AreNotices s.opening.nodes plan n p ns) (sym notices) post.notices)));
    }

    -- a notice was dropped
    pub notice-gone : (y : Post P G) (first : notice.Notice) → x.notices.items ≡ first ∷ y.notices.items → y.node ≡ x.node → y.ins.items ≡ x.ins.items → y.outs.items ≡ x.outs.items → y.own ≡ x.own → y.fault ≡ x.fault
        → GoesOn wants becomes limit x y
    notice-gone y first queue node ins outs own fault = record {
      ins = subst (λ (xs : List WireIn). AllZip SameIn x.ins.items xs) (sym ins) (same-ins x.ins.items);
      outs = subst (λ (xs : List WireOut). AllZip SameOut x.outs.items xs) (sym outs) (same-outs x.outs.items);
      kept = λ made s plan n is.
          (let p = (is.whole none).0 in
          let post = (is.whole none).1 in
          still-kept made s plan n p y (fault ∙ none) (subst (λ (m : Noted P). (state_of m).tick < limit) (sym node) (is.low none))
          (post-with made s plan n p p post y refl refl refl node outs own post.served refl (subst (λ (xs : List WireIn). AreIns s.opening.nodes n p.ins xs) (sym ins) post.ins)
          (notice-dropped s.opening.nodes plan n p post.served.own_rest x.own.queue first y.notices.items post.own_rest s post.served
          (subst (λ (xs : List notice.Notice). AreNotices s.opening.nodes plan n p xs) queue post.notices))));
    }

    -- the oldest notice is taken
    pub hear-may : (mid : Post P G) (first : notice.Notice) → x.notices.items ≡ first ∷ mid.notices.items → mid.node ≡ x.node → mid.outs.items ≡ x.outs.items → mid.own ≡ x.own → (has : HasRun wants becomes limit x)
        → MayDo wants becomes limit (λ nodes. NamesNodesIn nodes (notice_what first)) mid
    hear-may mid first queue node outs own has =
        let s = has.setup in
        let p = (has.is.whole none).0 in
        let post = (has.is.whole none).1 in
        let is = (subst (λ (xs : List notice.Notice). AreNotices s.opening.nodes has.plan has.number p xs) queue post.notices).each.0 in
        let here = own-is-node wants becomes has.made s has.number p.own p.world x.node post.node in
        may-of x mid has none node outs (ap (λ (l : links.Carrying code.Incoming). l.frames) own) (λ nodes. NamesNodesIn nodes (notice_what first)) (subst (IsNode s.opening.nodes) (sym is.from) here, is.receiver)

    pub hear-early : (mid : Post P G) (first : notice.Notice) → x.notices.items ≡ first ∷ mid.notices.items → (has : HasRun wants becomes limit x) → first.tick < 2 ^ 40
    hear-early mid first queue has =
        (subst (λ (xs : List notice.Notice). AreNotices has.setup.opening.nodes has.plan has.number (has.is.whole none).0 xs) queue (has.is.whole none).1.notices).each.0.early

    pub hear-goes : (mid new : Post P G) (first : notice.Notice) → x.notices.items ≡ first ∷ mid.notices.items → mid.node ≡ x.node → mid.ins.items ≡ x.ins.items → mid.outs.items ≡ x.outs.items → mid.own ≡ x.own
        → first.tick < 2 ^ 40 → IsDone wants becomes limit (notice_what first) (notice_incoming first) mid new new.fault → GoesOn wants becomes limit x new
    hear-goes mid new first queue node ins outs own early done =
        let beside = done-beside (notice_what first) (notice_incoming first) mid new new.fault done in
        record {
          ins = subst (λ (xs : List WireIn). AllZip SameIn x.ins.items xs) (sym (beside.ins ∙ ins)) (same-ins x.ins.items);
          outs = subst (λ (xs : List WireOut). AllZip SameOut xs new.outs.items) outs (unpushed-same mid.outs.items new.outs.items beside.outs);
          kept = λ made s plan n is.
              (let p = (is.whole none).0 in
              let post = (is.whole none).1 in
              let told = subst (λ (xs : List notice.Notice). AreNotices s.opening.nodes plan n p xs) queue post.notices in
              let here = own-is-node wants becomes made s n p.own p.world x.node post.node in
              done-kept wants becomes limit most made s plan n x p post (is.low none) (notice_what first) (notice_incoming first) early
              (subst (IsNode s.opening.nodes) (sym told.each.0.from) here, told.each.0.receiver) p.ins mid new
              (record {
                node = node;
                outs = outs;
                ins_are = subst (λ (xs : List WireIn). AreIns s.opening.nodes n p.ins xs) (sym ins) post.ins;
                own = subst (IsOwnLink s.wire n p.world) (sym own) post.own;
                gets =
                    notice-receives s.opening.nodes plan n p post.served.own_rest mid.own.queue first mid.notices.items
                    (post.own_rest ∙ ap (λ (l : links.Carrying code.Incoming). map (λ (e : link-entry.Entry code.Incoming). links.plain_name e.waiting) l.queue) (sym own)) s post.served told;
              }) done);
        }

    -- its event was done, or it was dropped
    pub hear-either : (mid new : Post P G) (first : notice.Notice) (b : Bool) → x.notices.items ≡ first ∷ mid.notices.items → mid.node ≡ x.node → mid.ins.items ≡ x.ins.items → mid.outs.items ≡ x.outs.items → mid.own ≡ x.own
        → mid.fault ≡ x.fault → first.tick < 2 ^ 40 → (IsTrue b → IsDone wants becomes limit (notice_what first) (notice_incoming first) mid new new.fault) → (IsFalse b → new ≡ mid) → GoesOn wants becomes limit x new
    hear-either mid new first b queue node ins outs own fault early did none-did =
        either-way (GoesOn wants becomes limit x new) b (λ h. hear-goes mid new first queue node ins outs own early (did h))
        (λ h. subst (GoesOn wants becomes limit x) (sym (none-did h)) (notice-gone mid first queue node ins outs own fault))

    -- the oldest frame of the node's own link is taken
    abbrev pub IsOwnPopped : link-entry.Entry code.Incoming → Post P G → Type 0
    IsOwnPopped e mid = (slice_get x.own.queue 0 ≡ Some e) × (mid.own ≡ record x.own { queue = drop 1 x.own.queue })

    pub own-goes-may : (mid : Post P G) (e : link-entry.Entry code.Incoming) → IsOwnPopped e mid → mid.node ≡ x.node → mid.outs.items ≡ x.outs.items → (has : HasRun wants becomes limit x)
        → MayDo wants becomes limit (λ nodes. NamesNodesIn nodes (own_event x.node.log.node e.waiting)) mid
    own-goes-may mid e popped node outs has =
        let s = has.setup in
        let n = has.number in
        let p = (has.is.whole none).0 in
        let post = (has.is.whole none).1 in
        let number = own-number wants becomes has.made s n p.own p.world x.node post.node in
        may-of x mid has none node outs (ap (λ (l : links.Carrying code.Incoming). l.frames) popped.1) (λ nodes. NamesNodesIn nodes (own_event x.node.log.node e.waiting))
        (subst (λ (k : ℕ). NamesNodesIn s.opening.nodes (own_event k e.waiting)) (sym number)
        (own-names s.opening.nodes has.plan n p post.served.own_rest x.own x.notices.items post.own_rest s post.served post.notices post.own e popped.0 (own-is-node wants becomes has.made s n p.own p.world x.node post.node)))

    -- there is none
    pub own-none : (y : Post P G) → slice_get x.own.queue 0 ≡ None → y.own ≡ record x.own { queue = drop 1 x.own.queue } → y.node ≡ x.node → y.ins.items ≡ x.ins.items → y.outs.items ≡ x.outs.items
        → y.notices.items ≡ x.notices.items → y.fault ≡ x.fault → GoesOn wants becomes limit x y
    own-none y empty own node ins outs notices fault =
        alike-goes y node ins outs
        (own ∙ subst (λ (q : List (link-entry.Entry code.Incoming)). record x.own { queue = drop 1 q } ≡ record x.own { queue = q }) (sym (none_waits x.own.queue empty)) refl) notices fault

    pub own-comes-early : (e : link-entry.Entry code.Incoming) → slice_get x.own.queue 0 ≡ Some e → (has : HasRun wants becomes limit x) → tick_of (seen e.received) < 2 ^ 40
    own-comes-early e there has =
        let post = (has.is.whole none).1 in
        own-early has.setup.opening.nodes has.plan has.number (has.is.whole none).0 post.served.own_rest x.own x.notices.items post.own_rest has.setup post.served post.notices post.own e there

    pub own-goes : (mid new : Post P G) (e : link-entry.Entry code.Incoming) → IsOwnPopped e mid → mid.node ≡ x.node → mid.ins.items ≡ x.ins.items → mid.outs.items ≡ x.outs.items → mid.notices.items ≡ x.notices.items
        → tick_of (seen e.received) < 2 ^ 40 → IsDone wants becomes limit (own_event x.node.log.node e.waiting) (seen e.received) mid new new.fault → GoesOn wants becomes limit x new
    own-goes mid new e popped node ins outs notices early done =
        let beside = done-beside (own_event x.node.log.node e.waiting) (seen e.received) mid new new.fault done in
        record {
          ins = subst (λ (xs : List WireIn). AllZip SameIn x.ins.items xs) (sym (beside.ins ∙ ins)) (same-ins x.ins.items);
          outs = subst (λ (xs : List WireOut). AllZip SameOut xs new.outs.items) outs (unpushed-same mid.outs.items new.outs.items beside.outs);
          kept = λ made s plan n is.
              (let p = (is.whole none).0 in
              let post = (is.whole none).1 in
              let number = own-number wants becomes made s n p.own p.world x.node post.node in
              let here = own-is-node wants becomes made s n p.own p.world x.node post.node in
              done-kept wants becomes limit most made s plan n x p post (is.low none) (own_event n e.waiting) (seen e.received) early
              (own-names s.opening.nodes plan n p post.served.own_rest x.own x.notices.items post.own_rest s post.served post.notices post.own e popped.0 here) p.ins mid new
              (record {
                node = node;
                outs = outs;
                ins_are = subst (λ (xs : List WireIn). AreIns s.opening.nodes n p.ins xs) (sym ins) post.ins;
                own = subst (IsOwnLink s.wire n p.world) (sym popped.1) (own-less s.wire n p.world x.own post.own);
                gets =
                    subst (λ (q : List (link-entry.Entry code.Incoming)). Receives s.opening.nodes plan s.wire n p post.served.own_rest p.ins q mid.notices.items (own_event n e.waiting) (seen e.received))
                    (sym (ap (λ (l : links.Carrying code.Incoming). l.queue) popped.1))
                    (subst (λ (ns : List notice.Notice). Receives s.opening.nodes plan s.wire n p post.served.own_rest p.ins (drop 1 x.own.queue) ns (own_event n e.waiting) (seen e.received)) (sym notices)
                    (own-receives s.opening.nodes plan n p post.served.own_rest x.own x.notices.items post.own_rest s post.served post.notices post.own e popped.0));
              })
              (subst (λ (k : ℕ). IsDone wants becomes limit (own_event k e.waiting) (seen e.received) mid new new.fault) number done));
        }

    -- it is not refused, since the node has not ended
    pub own-not-refused : (e : link-entry.Entry code.Incoming) → slice_get x.own.queue 0 ≡ Some e → is_ended (given_of x.node) (state_of x.node) ≡ false → HasRun wants becomes limit x
        → IsRefused wants becomes (own_event x.node.log.node e.waiting) (seen e.received) x.node → ⊥
    own-not-refused e there lasts has refused =
        let s = has.setup in
        let n = has.number in
        let p = (has.is.whole none).0 in
        let post = (has.is.whole none).1 in
        let number = own-number wants becomes has.made s n p.own p.world x.node post.node in
        let ended = sym (stands-ended wants becomes has.made s n p.own p.world x.node post.node) ∙ lasts in
        let may = own-enabled s.opening.nodes has.plan n p post.served.own_rest x.own x.notices.items post.own_rest s post.served post.notices post.own (p.world.nodes n) e there ended in
        let not = refused has.made (given s n) (p.world.nodes n) post.node.stands in
        let also = subst (λ (k : ℕ). enabled (given s n) (p.world.nodes n) (own_event k e.waiting) (seen e.received) ≡ false) number not in
        absurd (cc)

    pub own-either : (mid new : Post P G) (e : link-entry.Entry code.Incoming) (b : Bool) → IsOwnPopped e mid → mid.node ≡ x.node → mid.ins.items ≡ x.ins.items → mid.outs.items ≡ x.outs.items → mid.notices.items ≡ x.notices.items
        → is_ended (given_of x.node) (state_of x.node) ≡ false → HasRun wants becomes limit x
        → (IsTrue b → IsDone wants becomes limit (own_event x.node.log.node e.waiting) (seen e.received) mid new new.fault)
        → (IsFalse b → IsRefused wants becomes (own_event x.node.log.node e.waiting) (seen e.received) mid.node) → GoesOn wants becomes limit x new
    own-either mid new e b popped node ins outs notices lasts has did refused =
        either-way (GoesOn wants becomes limit x new) b
        (λ h. own-goes mid new e popped node ins outs notices (own-comes-early e popped.0 has) (did h))
        (λ h. absurd (own-not-refused e popped.0 lasts has (subst (IsRefused wants becomes (own_event x.node.log.node e.waiting) (seen e.received)) node (refused h))))

    -- an entry came out of the ring at a place
    module _ (at : ℕ) (carried : Carried) (from : ℕ) (mid : Post P G) (from_is : from ≡ other_at x.node.log.node at) (within : at < length x.ins.items) (node : mid.node ≡ x.node) (outs : mid.outs.items ≡ x.outs.items)
        (own : mid.own ≡ x.own) (notices : mid.notices.items ≡ x.notices.items) (fault : mid.fault ≡ x.fault) (took : AreTaken (λ k. come_if (k == at) carried) x.ins.items mid.ins.items) (same : AllZip SameIn x.ins.items mid.ins.items)
        (lasts : is_ended (given_of x.node) (state_of x.node) ≡ false) where
      same-place : (n k : ℕ) → (k == at) ≡ (other_at n k == other_at n at)
      same-place n k = elim (cases_eq k at) [
        | inl here ↦ eq-eqb k at here ∙ sym (eq-eqb (other_at n k) (other_at n at) (ap (other_at n) here))
        | inr differs ↦ ne_eqb k at differs ∙ sym (ne_eqb (other_at n k) (other_at n at) (λ h. differs (other-apart n k at h)))
      ]

      ins-come : (nodes n : ℕ) (ins : ℕ → List Carried) → from ≡ other_at n at → IsNode nodes from → AreIns nodes n ins x.ins.items → AreIns nodes n (ins_with from carried ins) mid.ins.items
      ins-come nodes n ins is sends are = record {
        many = ap (λ (k : ℕ). k + 1) (zip-length (λ k i j. taken j ≡ taken i ++ come_if (k == at) carried) 0 x.ins.items mid.ins.items took) ∙ are.many;
        each = λ k i there.
            (let found = zip-at (λ k i j. taken j ≡ taken i ++ come_if (k == at) carried) 0 k k x.ins.items mid.ins.items i (omega arith) took there in
            found.is ∙ (ap (λ (cs : List Carried). cs ++ come_if (k == at) carried) (are.each k found.was found.there)
            ∙ ap (λ (b : Bool). ins (other_at n k) ++ come_if b carried) (same-place n k ∙ ap (λ (j : ℕ). other_at n k == j) (sym is))));
        none = λ k out. ap (λ (b : Bool). ins k ++ come_if b carried) (ne_eqb k from (λ h. out (subst (IsNode nodes) (sym h) sends))) ∙ (append-nil (ins k) ∙ are.none k out);
      }

      module _ (made : ℕ → Option P) (s : Setup) (plan : List FateRow) (n : ℕ) (is : IsKept wants becomes limit made s plan n x) where
        abbrev p : Serving
        p = (is.whole none).0

        abbrev post : IsPost wants becomes made s plan n p x
        post = (is.whole none).1

        number : x.node.log.node ≡ n
        number = own-number wants becomes made s n p.own p.world x.node post.node

        sender : from ≡ other_at n at
        sender = from_is ∙ ap (λ (k : ℕ). other_at k at) number

        apart : from ≢ n
        apart h = other-away n at (sym sender ∙ h)

        here : IsNode s.opening.nodes n
        here = own-is-node wants becomes made s n p.own p.world x.node post.node

        there : IsNode s.opening.nodes from
        there = subst (IsNode s.opening.nodes) (sym sender) (other-node n s.opening.nodes (length x.ins.items) at post.ins.many here within)

        ins : AreIns s.opening.nodes n (ins_with from carried p.ins) mid.ins.items
        ins = ins-come s.opening.nodes n p.ins sender there post.ins

        goes-by : (new : Post P G) (what : What) (incoming : Incoming) → IsEventFor from n carried what incoming → tick_of incoming < 2 ^ 40 → IsDone wants becomes limit what incoming mid new new.fault
            → IsKept wants becomes limit made s plan n new
        goes-by new what incoming event early done =
            done-kept wants becomes limit most made s plan n x p post (is.low none) what incoming early (entry-names s.opening.nodes from n carried what incoming there here event) (ins_with from carried p.ins) mid new
            (record {
              node = node;
              outs = outs;
              ins_are = ins;
              own = subst (IsOwnLink s.wire n p.world) (sym own) post.own;
              gets =
                  ring-receives s.opening.nodes plan n p post.served.own_rest mid.own.queue mid.notices.items
                  (post.own_rest ∙ ap (λ (l : links.Carrying code.Incoming). map (λ (e : link-entry.Entry code.Incoming). links.plain_name e.waiting) l.queue) (sym own)) s post.served
                  (subst (λ (ns : List notice.Notice). AreNotices s.opening.nodes plan n p ns) (sym notices) post.notices) from apart carried what incoming event;
            }) done

        dropped-by : IsPassed s.wire from n (entries_taken from n (events_in p.own)) carried → IsKept wants becomes limit made s plan n mid
        dropped-by passed =
            let q : Serving = record p { ins = ins_with from carried p.ins } in
            let served = passed-by s.opening.nodes plan n p post.served.own_rest x.own.queue x.notices.items post.own_rest s post.served post.notices from apart carried passed in
            still-kept made s plan n q mid (fault ∙ none) (subst (λ (m : Noted P). (state_of m).tick < limit) (sym node) (is.low none))
            (post-with made s plan n p q post mid refl refl refl node outs own served
            (passed-rest s.opening.nodes plan n p post.served.own_rest x.own.queue x.notices.items post.own_rest s post.served post.notices from apart carried passed) ins
            (record {
              each = (subst (λ (ns : List notice.Notice). AreNotices s.opening.nodes plan n p ns) (sym notices) post.notices).each;
              once = (subst (λ (ns : List notice.Notice). AreNotices s.opening.nodes plan n p ns) (sym notices) post.notices).once;
            }))

        ended : is_ended (given s n) (p.world.nodes n) ≡ false
        ended = sym (stands-ended wants becomes made s n p.own p.world x.node post.node) ∙ lasts

        unread-by : (new : Post P G) → new ≡ record mid { fault = Some faults.NoMemory } → IsKept wants becomes limit made s plan n new
        unread-by new e = subst (IsKept wants becomes limit made s plan n) (sym e) (record {
          logged = record {
            post = p;
            known = record {
              served = post.served;
              named = post.node.named;
              timely = (whole-known wants becomes made s plan n p x post (let a = is.low none in omega (arith, a, most))).timely;
              log = ap (λ (m : Noted P). m.log) node ∙ post.node.log;
              ins = λ k i found. record { rest = come_if (other_at n k == from) carried; came = ins.each k i found };
              none = post.ins.none;
              outs = λ k o found. all-pushed s.opening.nodes plan n p.outs x.outs.items post.outs k o (subst (λ (xs : List WireOut). slice_get xs k ≡ Some o) outs found);
            };
            last = tt;
          };
          low = λ f. absurd (cc);
          whole = λ f. absurd (cc);
        })

        come-kept : (new : Post P G) → Comes wants becomes limit from carried mid new → IsKept wants becomes limit made s plan n new
        come-kept new (Comes.done what incoming event early done) =
            goes-by new what incoming (subst (λ (k : ℕ). IsEventFor from k carried what incoming) (ap (λ (m : Noted P). m.log.node) node ∙ number) event) early done
        come-kept new (Comes.dropped what incoming event refused e) =
            subst (IsKept wants becomes limit made s plan n) (sym e)
            (dropped-by (refused-passed s plan n p post.served from apart ended carried what incoming
            (subst (λ (k : ℕ). IsEventFor from k carried what incoming) (ap (λ (m : Noted P). m.log.node) node ∙ number) event)
            (refused made (given s n) (p.world.nodes n) (subst (λ (m : Noted P). Stands wants becomes made (given s n) m (p.world.nodes n)) (sym node) post.node.stands))))
        come-kept new (Comes.odd odd e) = subst (IsKept wants becomes limit made s plan n) (sym e) (dropped-by (odd-passed s.wire from n (entries_taken from n (events_in p.own)) carried odd))
        come-kept new (Comes.unread e) = unread-by new e

      come-ins : (new : Post P G) → Comes wants becomes limit from carried mid new → new.ins.items ≡ mid.ins.items
      come-ins new (Comes.done what incoming event early done) = (done-beside what incoming mid new new.fault done).ins
      come-ins new (Comes.dropped what incoming event refused e) = ap (λ (y : Post P G). y.ins.items) e
      come-ins new (Comes.odd odd e) = ap (λ (y : Post P G). y.ins.items) e
      come-ins new (Comes.unread e) = ap (λ (y : Post P G). y.ins.items) e

      come-outs : (new : Post P G) → Comes wants becomes limit from carried mid new → AllZip SameOut mid.outs.items new.outs.items
      come-outs new (Comes.done what incoming event early done) = unpushed-same mid.outs.items new.outs.items (done-beside what incoming mid new new.fault done).outs
      come-outs new (Comes.dropped what incoming event refused e) = subst (λ (xs : List WireOut). AllZip SameOut mid.outs.items xs) (sym (ap (λ (y : Post P G). y.outs.items) e)) (same-outs mid.outs.items)
      come-outs new (Comes.odd odd e) = subst (λ (xs : List WireOut). AllZip SameOut mid.outs.items xs) (sym (ap (λ (y : Post P G). y.outs.items) e)) (same-outs mid.outs.items)
      come-outs new (Comes.unread e) = subst (λ (xs : List WireOut). AllZip SameOut mid.outs.items xs) (sym (ap (λ (y : Post P G). y.outs.items) e)) (same-outs mid.outs.items)

      pub take-goes : (new : Post P G) → Comes wants becomes limit from carried mid new → GoesOn wants becomes limit x new
      take-goes new comes = record {
        ins = subst (λ (xs : List WireIn). AllZip SameIn x.ins.items xs) (sym (come-ins new comes)) same;
        outs = subst (λ (xs : List WireOut). AllZip SameOut xs new.outs.items) outs (come-outs new comes);
        kept = λ made s plan n is. come-kept made s plan n is new comes;
      }

      pub take-may : HasRun wants becomes limit x → MayDo wants becomes limit (λ nodes. IsNode nodes from) mid
      take-may has =
          may-of x mid has none node outs (ap (λ (l : links.Carrying code.Incoming). l.frames) own) (λ nodes. IsNode nodes from) (there has.made has.setup has.plan has.number has.is)

    -- nothing came out of the ring
    pub looked-goes : (y : Post P G) → AreTaken (λ k. []) x.ins.items y.ins.items → AllZip SameIn x.ins.items y.ins.items → y.node ≡ x.node → y.outs.items ≡ x.outs.items → y.own ≡ x.own
        → y.notices.items ≡ x.notices.items → y.fault ≡ x.fault → GoesOn wants becomes limit x y
    looked-goes y took same node outs own notices fault = record {
      ins = same;
      outs = subst (λ (xs : List WireOut). AllZip SameOut x.outs.items xs) (sym outs) (same-outs x.outs.items);
      kept = λ made s plan n is.
          (let p = (is.whole none).0 in
          let post = (is.whole none).1 in
          still-kept made s plan n p y (fault ∙ none) (subst (λ (m : Noted P). (state_of m).tick < limit) (sym node) (is.low none))
          (post-with made s plan n p p post y refl refl refl node outs own post.served refl
          (record {
            many = ap (λ (k : ℕ). k + 1) (zip-length (λ k i j. taken j ≡ taken i ++ []) 0 x.ins.items y.ins.items took) ∙ post.ins.many;
            each = λ k i there.
                (let found = zip-at (λ k i j. taken j ≡ taken i ++ []) 0 k k x.ins.items y.ins.items i (omega arith) took there in
                found.is ∙ (append-nil (taken found.was) ∙ post.ins.each k found.was found.there));
            none = post.ins.none;
          })
          (subst (λ (ns : List notice.Notice). AreNotices s.opening.nodes plan n p ns) (sym notices) post.notices)));
    }

    -- entries were pushed
    pub flush-goes : (y : Post P G) → AllZip IsFlushed x.outs.items y.outs.items → y.node ≡ x.node → y.ins.items ≡ x.ins.items → y.own ≡ x.own
        → y.notices.items ≡ x.notices.items → y.fault ≡ x.fault → GoesOn wants becomes limit x y
    flush-goes y still node ins own notices fault = record {
      ins = subst (λ (xs : List WireIn). AllZip SameIn x.ins.items xs) (sym ins) (same-ins x.ins.items);
      outs = all-more IsFlushed SameOut (λ o p is. is.same) x.outs.items y.outs.items still;
      kept = λ made s plan n is.
          (let p = (is.whole none).0 in
          let post = (is.whole none).1 in
          still-kept made s plan n p y (fault ∙ none) (subst (λ (m : Noted P). (state_of m).tick < limit) (sym node) (is.low none))
          (record {
            node = subst (IsOwn wants becomes made s n p.own p.world) (sym node) post.node;
            plan_kept = post.plan_kept;
            served = post.served;
            ins = subst (λ (xs : List WireIn). AreIns s.opening.nodes n p.ins xs) (sym ins) post.ins;
            outs = outs-still s.opening.nodes plan n p.outs x.outs.items y.outs.items post.outs still;
            own = subst (IsOwnLink s.wire n p.world) (sym own) post.own;
            own_rest = post.own_rest ∙ ap (λ (l : links.Carrying code.Incoming). map (λ (e : link-entry.Entry code.Incoming). links.plain_name e.waiting) l.queue) (sym own);
            notices = subst (λ (ns : List notice.Notice). AreNotices s.opening.nodes plan n p ns) (sym notices) post.notices;
          }));
    }
