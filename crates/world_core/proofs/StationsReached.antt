-- The nodes of a world after an event, after what it sent, and with the events of its node listed anew.
--
-- Beside what the calls of a turn ensure, these facts of the world and of the event are taken:
--   counts: as many frames are on each link as events sent there;
--   did: what the event did, at its node with the tick of the event;
--   next: the frame that it sends has the next number of its link;
--   goes: and leads to a node of the set-up;
--   stays: what was received before is received after it.
use Rattle.std.proofs.Common.{◌≡◌, ◌≢◌, ℕ, ◌+◌, ◌<◌, ◌≤◌, Bool, true, false, Option, Some, None, IfSome, List, [], ◌∷◌, ◌++◌, map, length, inl, inr, refl, sym, ap, subst, ◌∙◌, arith}
use Rattle.std.specs.Prelude.{◌==◌, ◌-◌, slice_get, slice_set, reverse, All, cond}
use Rattle.std.proofs.lemmas.Bool.{cases_eq, eq-eqb, ne_eqb}
use Rattle.std.proofs.lemmas.List.{length-map}
use Rattle.std.proofs.lemmas.List.Elements.{All-nil}
use Rattle.std.proofs.lemmas.Option.{slice_get_within}
use Rattle.uid_names.proofs.ListLemmas.{set-there}
use Rattle.uid_names.proofs.Somes.{take-some}
use Rattle.dom_history.specs.declared.op.Reply.{Reply}
use Rattle.dom_history.specs.declared.op.Want.{Want}
use Rattle.dom_history.specs.declared.event.What.{What}
use Rattle.dom_history.specs.declared.event.What.TheVariants.{Ready}
use Rattle.dom_history.specs.declared.event.Sent.{Sent}
use Rattle.dom_history.specs.declared.event.NodeLog.{NodeLog}
use Rattle.dom_history.specs.declared.plan.FateRow.{FateRow}
use Rattle.dom_history.specs.Events.{Happening}
use Rattle.dom_history.specs.Plans.{fate_of}
use Rattle.ring_messages.specs.Frames.{Message, caller_of}
use Rattle.fault_handler.specs.Desks.{IsNode}
use Rattle.node_runs.specs.Setups.{Setup, given}
use Rattle.node_runs.specs.Incomings.{Incoming}
use Rattle.node_runs.specs.Outcomes.{Stepped}
use Rattle.node_runs.specs.Doings.{ticked}
use Rattle.node_runs.specs.Dones.{Did}
use Rattle.node_runs.specs.Runs.{World, numbered, incoming_of, world_with}
use Rattle.node_runs.proofs.Calls.{put-same, put-other}
use Rattle.world_runs.specs.ByPlace.{events_of}
use Rattle.world_runs.specs.Sendings.{frames_on}
use Rattle.world_runs.specs.OpenNotices.{notices_by}
use Rattle.world_runs.proofs.Sorting.{other-first}
use Rattle.node_core.specs.declared.setup.Incoming.TheVariants as received
use Rattle.node_core.specs.declared.setup.Emitted.{Emitted}
use Rattle.node_core.specs.Receivings.{indexed, mark_in}
use Rattle.node_core.specs.Nodes as nodes
use Rattle.node_core.specs.Nodes.{Noted, state_of}
use Rattle.node_core.proofs.Sends.{Sends, nothing, mark, frame, did-sends}
use Rattle.ring_links.specs.declared.notice.Notice.{Notice}
use Rattle.world_core.specs.declared.station.LinkFrom.{LinkFrom}
use Rattle.world_core.specs.declared.station.Station.{Station}
use Rattle.ring_links.specs.Notices.{notice_what}
use Rattle.world_core.specs.Stations.{Candidate, open_ones}
use Rattle.world_core.specs.Sending.{delivered, marked}
use Rattle.world_core.specs.SentMarks.{AreMarked}
use Rattle.world_core.specs.Listed.{IsListed, IsKept, event_at, IsDone}
use Rattle.world_core.specs.Reached.{ins_if, frame_notices, frame_ins, came_of, framed_ins, AreReached, AreSent}
use Rattle.world_core.specs.Stands.{IsNoticeOf, IsStation}
use Rattle.world_core.proofs.TakingTurns.{own-log}
use Rattle.world_core.proofs.StationsAfter.{IsStationAfter}
use Rattle.world_core.proofs.Sources.{event-from}
use Rattle.world_core.proofs.EventsSent.{sent-away}
use Rattle.world_core.proofs.LinksReached.{changed-many, delivered-is, marked-is, AreLess, less-away, less-own, less-many}
use Rattle.world_core.proofs.LinksSent.{frames-there, AreMade, nothing-made, own-mark-made, mark-made, no-frame-made, frame-made}
use Rattle.world_core.proofs.NoticesReached.{AreLeft, left-away, left-own, caller-low, notices-came, told-came, none-came}
use Rattle.world_core.proofs.Renewed.{IsRenewed, all-open, own-new, frame-own, frame-other, mark-own, mark-other}

-- a journal by its node and its events
log-is : (l : NodeLog) (node : ℕ) (events : List Happening) → l.node ≡ node → l.events ≡ events → l ≡ record { node = node; events = events }
log-is l node events h i =
    ap (λ (k : ℕ). let m : NodeLog = record { node = k; events = l.events } in m) h ∙ ap (λ (es : List Happening). let m : NodeLog = record { node = node; events = es } in m) i

-- the world after the event of a candidate, and that event, by the node at a place
abbrev pub world-after : World → ℕ → Candidate → Stepped → World
world-after w at c st = world_with w (record { tick = st.node.tick; node = at + 1 }) c.coming.what st

abbrev pub event-of : ℕ → Candidate → Stepped → Happening
event-of at c st = record { place = record { tick = st.node.tick; node = at + 1 }; what = c.coming.what; effects = st.effects }

module _ {P G : Type 0} (wants : P → Want) (becomes : P → Option Reply → P) (made : ℕ → ℕ → Option P) (s : Setup) (plan : List FateRow) (w : World) (at : ℕ) (c : Candidate) (st : Stepped) where
  -- the node at a place did the event of a candidate, what it emitted was sent, and its events were listed anew
  pub record IsTurned (emitted : Emitted) (old sent new : List (Station P G)) : Type 0 where
    -- the world
    pub stations : (k : ℕ) (x : Station P G) → slice_get old k ≡ Some x → IsStation wants becomes made s plan w (k + 1) x
    pub count : length old ≡ s.opening.nodes
    pub counts : (from to : ℕ) → length (w.frames from to) ≡ frames_on from to w.done
    -- the event
    pub did : Did (given s (at + 1)) (ticked (w.nodes (at + 1)) c.incoming) c.coming.what c.incoming st
    pub next : IfSome st.effects.sent (λ x. x.index ≡ frames_on (at + 1) x.to w.done + 1)
    pub goes : IfSome st.effects.sent (λ x. IsNode s.opening.nodes x.to)
    -- the node before the event and after it, with what was sent to it, and in the end
    pub before : Station P G
    pub after : Station P G
    pub reached : Station P G
    pub listed : Station P G
    -- the event is done
    pub before_at : slice_get old at ≡ Some before
    pub own : ℕ
    pub event : event_at before own ≡ Some c
    pub done : IsDone wants becomes c emitted before after
    pub happened : nodes.Happened wants becomes (made (at + 1)) (given s (at + 1)) c.coming.what c.incoming before.node after.node emitted (w.nodes (at + 1)) st
    -- what it emitted is sent
    pub many : length sent ≡ length old
    pub are_sent : AreSent at plan emitted.mark emitted.frame (slice_set old at after) sent
    pub reached_at : slice_get sent at ≡ Some reached
    -- its events are listed anew
    pub notices : listed.notices.items ≡ open_ones reached.node reached.notices.items
    pub is_listed : IsListed listed
    pub is_kept : IsKept reached listed
    pub new_are : new ≡ slice_set sent at listed

  -- a node after the event, to which came nothing of what it sent so far
  record IsMid (k : ℕ) (x mid : Station P G) : Type 0 where
    stands : nodes.Stands wants becomes (made (k + 1)) (given s (k + 1)) mid.node ((world-after w at c st).nodes (k + 1))
    log : mid.node.log ≡ record { node = k + 1; events = reverse (events_of (k + 1) (world-after w at c st).done) }
    left : AreLeft w (k + 1) (event-of at c st) x.notices.items mid.notices.items
    less : AreLess (k + 1) (at + 1) c.coming.what x.ins.items mid.ins.items
    many : length mid.ins.items ≡ length x.ins.items

  module _ (emitted : Emitted) (old sent new : List (Station P G)) (t : IsTurned emitted old sent new)
      (done : (world-after w at c st).done ≡ (event-of at c st) ∷ w.done) (stays : (m : ℕ) (x : What) (i : Incoming) → incoming_of w m x ≡ Some i → incoming_of (world-after w at c st) m x ≡ Some i) where
    within : at < length old
    within = slice_get_within old at t.before t.before_at

    was : IsStation wants becomes made s plan w (at + 1) t.before
    was = t.stations at t.before t.before_at

    mid-own : IsMid at t.before t.after
    mid-own =
        let from = event-from t.before t.own c t.event in
        record {
          stands = subst (nodes.Stands wants becomes (made (at + 1)) (given s (at + 1)) t.after.node) (sym (put-same w.nodes (at + 1) (at + 1) st.node refl)) t.happened.stands;
          log =
              log-is t.after.node.log (at + 1) (reverse (events_of (at + 1) (world-after w at c st).done)) (t.happened.node ∙ ap (λ (l : NodeLog). l.node) was.log)
              (t.happened.events ∙ ap (λ (l : NodeLog). l.events ++ (event-of at c st) ∷ []) was.log ∙ own-log (at + 1) (event-of at c st) w.done refl);
          left =
              subst (AreLeft w (at + 1) (event-of at c st) t.before.notices.items) (sym t.done.notices)
              (left-own w (at + 1) (event-of at c st) t.before.notices.items was.told s plan t.before.ins.items c.coming.source was.notices refl from);
          less =
              subst (AreLess (at + 1) (at + 1) c.coming.what t.before.ins.items) (sym t.done.ins)
              (less-own (at + 1) (at + 1) c.coming.what t.before.ins.items t.before.notices.items c.coming.source refl (λ i l there. (was.link i l there).from_is) from);
          many = ap (λ (ls : List LinkFrom). length ls) t.done.ins ∙ less-many c.coming.source t.before.ins.items;
        }

    apart : (k : ℕ) → k ≢ at → (at + 1) ≢ k + 1
    apart k away same = away (omega (arith, same))

    mid-other : (k : ℕ) (x : Station P G) → k ≢ at → IsStation wants becomes made s plan w (k + 1) x → IsMid k x x
    mid-other k x away is = record {
      stands =
          subst (nodes.Stands wants becomes (made (k + 1)) (given s (k + 1)) x.node) (sym (put-other w.nodes (at + 1) (k + 1) st.node (λ same. apart k away (sym same)))) is.node;
      log = is.log ∙ ap (λ (es : List Happening). let l : NodeLog = record { node = k + 1; events = reverse es } in l) (sym (other-first (k + 1) (event-of at c st) w.done (apart k away)));
      left = left-away w (k + 1) (event-of at c st) x.notices.items is.told (apart k away);
      less = less-away (k + 1) (at + 1) c.coming.what x.ins.items (apart k away);
      many = refl;
    }

    -- no link leads from a node that is none
    silent : (k from : ℕ) → s.opening.nodes < from → (at + 1) ≢ from
    silent k from above same = absurd (let inside = within in let count = t.count in omega (arith, above, same, inside, count))

    module _ (k : ℕ) (x mid y : Station P G) (is : IsMid k x mid) (came : List Notice) (ins : List LinkFrom) (renewed : IsRenewed came ins mid y) where
      -- the node, by what came to it
      station-is : length ins ≡ length mid.ins.items → AreMade s plan w at c.coming.what st (k + 1) done stays x.ins.items ins → map notice_what came ≡ notices_by plan (world-after w at c st) (k + 1) (event-of at c st) w.done → All (IsNoticeOf (world-after w at c st) (k + 1)) came
          → IsStationAfter s plan w (world-after w at c st) (k + 1) (event-of at c st) done stays wants becomes made x y
      station-is many links came-are came-told = record {
        node = subst (λ (z : Noted P). nodes.Stands wants becomes (made (k + 1)) (given s (k + 1)) z ((world-after w at c st).nodes (k + 1))) (sym renewed.node) is.stands;
        log = ap (λ (z : Noted P). z.log) renewed.node ∙ is.log;
        many = ap (λ (ls : List LinkFrom). length ls) renewed.ins_are ∙ many ∙ is.many;
        silent = λ from above. sent-away (at + 1) st.node.tick c.coming.what st from (k + 1) (silent k from above);
        links = λ j l there.
            let one = links j l (ap (λ (ls : List LinkFrom). slice_get ls j) (sym renewed.ins_are) ∙ there) in
            (one.link, one.there, one.made);
        notices = record {
          kept = mid.notices.items;
          came = came;
          kept_are = is.left.are;
          kept_told = is.left.told;
          came_are = came-are;
          came_told = came-told;
          new_are = renewed.notices ∙ ap (λ (z : Noted P). open_ones z (mid.notices.items ++ came)) (sym renewed.node);
        };
        listed = renewed.listed;
      }

    -- what was sent came to the nodes
    abbrev mids : List (Station P G)
    mids = slice_set old at t.after

    sent-are : AreSent at plan (mark_in c.coming.what) (indexed st.frame st.effects.sent) mids sent
    sent-are = subst (λ (x : Emitted). AreSent at plan x.mark x.frame mids sent) t.happened.emits t.are_sent

    reached-are : (o : Option (ℕ × Message)) → mark_in c.coming.what ≡ None → indexed st.frame st.effects.sent ≡ o → AreReached at (came_of plan o) (framed_ins plan at o) mids sent
    reached-are o unmarked is =
        subst (λ (f : Option (ℕ × Message)). AreReached at (came_of plan f) (framed_ins plan at f) mids sent) is
        (subst (λ (m : Option ℕ). AreSent at plan m (indexed st.frame st.effects.sent) mids sent) unmarked sent-are)

    marked-are : (phase : ℕ) → c.coming.what ≡ Ready phase → AreMarked at phase st.node.tick mids sent
    marked-are phase is =
        subst (λ (k : ℕ). AreMarked at phase k mids sent) t.happened.stands.alike.tick
        (take-some (λ (x : Station P G). AreMarked at phase (state_of x.node).tick mids sent) (slice_get mids at) t.after (set-there old at t.after within)
        (subst (λ (m : Option ℕ). AreSent at plan m (indexed st.frame st.effects.sent) mids sent) (ap mark_in is) sent-are))

    -- a node of the new list, and what it was
    record IsPlace (k : ℕ) (x mid y : Station P G) : Type 0 where
      station : IsStation wants becomes made s plan w (k + 1) x
      is_mid : IsMid k x mid
      by_frame : (came : ℕ → List Notice) (ins : ℕ → List LinkFrom → List LinkFrom) → AreReached at came ins mids sent → IsRenewed (came k) (ins k mid.ins.items) mid y
      by_own_mark : (phase : ℕ) → k ≡ at → AreMarked at phase st.node.tick mids sent → IsRenewed [] mid.ins.items mid y
      by_mark : (phase : ℕ) → k ≢ at → AreMarked at phase st.node.tick mids sent → IsRenewed [] (marked at phase st.node.tick mid.ins.items) mid y

    own-place : IsPlace at t.before t.after t.listed
    own-place = record {
      station = was;
      is_mid = mid-own;
      by_frame = λ came ins are. frame-own at old sent new t.after t.reached t.listed within t.many t.reached_at t.notices t.is_listed t.is_kept t.new_are came ins are;
      by_own_mark = λ phase same are. mark-own at old sent new t.after t.reached t.listed within t.many t.reached_at t.notices t.is_listed t.is_kept t.new_are phase st.node.tick are;
      by_mark = λ phase away are. absurd (away refl);
    }

    other-place : (k : ℕ) (x y : Station P G) → k ≢ at → slice_get old k ≡ Some x → slice_get new k ≡ Some y → IsPlace k x x y
    other-place k x y away there stands =
        let is = t.stations k x there in
        record {
          station = is;
          is_mid = mid-other k x away is;
          by_frame = λ came ins are.
              frame-other at old sent new t.after t.reached t.listed within t.many t.reached_at t.notices t.is_listed t.is_kept t.new_are came ins are k x y away there stands
              (all-open wants becomes made s plan w (k + 1) x is) is.listed;
          by_own_mark = λ phase same are. absurd (away same);
          by_mark = λ phase _ are.
              mark-other at old sent new t.after t.reached t.listed within t.many t.reached_at t.notices t.is_listed t.is_kept t.new_are phase st.node.tick are k x y away there stands
              (all-open wants becomes made s plan w (k + 1) x is) is.listed;
        }

    module _ (k : ℕ) (x mid y : Station P G) (p : IsPlace k x mid y) where
      abbrev After : Type 0
      After = IsStationAfter s plan w (world-after w at c st) (k + 1) (event-of at c st) done stays wants becomes made x y

      after-nothing : mark_in c.coming.what ≡ None → st.frame ≡ None → st.effects.sent ≡ None → After
      after-nothing unmarked none nowhere =
          station-is k x mid y p.is_mid [] mid.ins.items
          (p.by_frame (came_of plan None) (framed_ins plan at None) (reached-are None unmarked (ap (λ (o : Option Message). indexed o st.effects.sent) none)))
          refl (nothing-made s plan w at c.coming.what st (k + 1) done stays x.ins.items mid.ins.items p.is_mid.less unmarked none nowhere)
          (none-came plan w (world-after w at c st) (k + 1) (event-of at c st) nowhere) (All-nil (IsNoticeOf (world-after w at c st) (k + 1)))

      after-mark : (phase : ℕ) → c.coming.what ≡ Ready phase → st.frame ≡ None → st.effects.sent ≡ None → After
      after-mark phase is none nowhere = elim (cases_eq k at) [
        | inl same ↦
            station-is k x mid y p.is_mid [] mid.ins.items (p.by_own_mark phase same (marked-are phase is))
            refl (own-mark-made s plan w at c.coming.what st (k + 1) done stays x.ins.items mid.ins.items p.is_mid.less phase is none nowhere (ap (λ (j : ℕ). j + 1) (sym same)))
            (none-came plan w (world-after w at c st) (k + 1) (event-of at c st) nowhere) (All-nil (IsNoticeOf (world-after w at c st) (k + 1)))
        | inr away ↦
            station-is k x mid y p.is_mid [] (marked at phase st.node.tick mid.ins.items) (p.by_mark phase away (marked-are phase is))
            (ap (λ (ls : List LinkFrom). length ls) (marked-is at phase st.node.tick mid.ins.items) ∙ changed-many _ at mid.ins.items (slice_get mid.ins.items at))
            (mark-made s plan w at c.coming.what st (k + 1) done stays x.ins.items mid.ins.items p.is_mid.less phase is none nowhere (apart k away))
            (none-came plan w (world-after w at c st) (k + 1) (event-of at c st) nowhere) (All-nil (IsNoticeOf (world-after w at c st) (k + 1)))
      ]

      module _ (m : Message) (f : Sent) (unmarked : mark_in c.coming.what ≡ None) (is : st.frame ≡ Some m) (sends : st.effects.sent ≡ Some f) (from : m.from ≡ (at + 1)) (goes : f.to ≡ m.to) where
        next : f.index ≡ frames_on (at + 1) f.to w.done + 1
        next = take-some (λ (z : Sent). z.index ≡ frames_on (at + 1) z.to w.done + 1) st.effects.sent f sends t.next

        low : 1 ≤ m.to
        low = let node = take-some (λ (z : Sent). IsNode s.opening.nodes z.to) st.effects.sent f sends t.goes in let one = node.0 in omega (arith, one, goes)

        -- it is the newest frame of its link
        number : f.index ≡ length (w.frames m.from m.to) + 1
        number =
            let many = t.counts (at + 1) f.to in
            let here : length (w.frames (at + 1) f.to) ≡ length (w.frames m.from m.to) =
            ap (λ (a : ℕ). length (w.frames a f.to)) (sym from) ∙ ap (λ (b : ℕ). length (w.frames m.from b)) goes in
            let is-next = next in
            omega (arith, many, here, is-next)

        found : numbered f.index ((world-after w at c st).frames m.from m.to) ≡ Some m
        found =
            ap (numbered f.index) (frames-there s plan w at c.coming.what st m m.from m.to is from refl)
            ∙ ap (λ (b : Bool). cond b (Some m) (numbered f.index (w.frames m.from m.to))) (eq-eqb f.index (length (w.frames m.from m.to) + 1) number)

        next-on : k + 1 ≡ m.to → (l : LinkFrom) → slice_get x.ins.items at ≡ Some l → f.index ≡ l.link.frames + 1
        next-on there l stands =
            let carried = (p.station.link at l stands).frames.frames in
            let many = length-map (w.frames (at + 1) (k + 1)) received.Frame in
            let here : length (w.frames m.from m.to) ≡ length (w.frames (at + 1) (k + 1)) =
            ap (λ (a : ℕ). length (w.frames a m.to)) from ∙ ap (λ (b : ℕ). length (w.frames (at + 1) b)) (sym there) in
            let newest = number in
            omega (arith, carried, many, here, newest)

        links-made : AreMade s plan w at c.coming.what st (k + 1) done stays x.ins.items (frame_ins at (fate_of plan m.from m.to f.index) m k mid.ins.items)
        links-made = elim (cases_eq (k + 1) m.to) [
          | inl there ↦
              subst (λ (b : Bool). AreMade s plan w at c.coming.what st (k + 1) done stays x.ins.items (ins_if b (delivered at (fate_of plan m.from m.to f.index) m mid.ins.items) mid.ins.items))
              (sym (eq-eqb k (m.to - 1) (omega (arith, there))))
              (frame-made s plan w at c.coming.what st (k + 1) done stays x.ins.items mid.ins.items p.is_mid.less m f unmarked is sends goes f.index from there (next-on there))
          | inr away ↦
              subst (λ (b : Bool). AreMade s plan w at c.coming.what st (k + 1) done stays x.ins.items (ins_if b (delivered at (fate_of plan m.from m.to f.index) m mid.ins.items) mid.ins.items))
              (sym (ne_eqb k (m.to - 1) (λ same. away (let least = low in omega (arith, same, least)))))
              (no-frame-made s plan w at c.coming.what st (k + 1) done stays x.ins.items mid.ins.items p.is_mid.less m f unmarked is sends goes away)
        ]

        many-links : (b : Bool) → length (ins_if b (delivered at (fate_of plan m.from m.to f.index) m mid.ins.items) mid.ins.items) ≡ length mid.ins.items
        many-links true =
            ap (λ (ls : List LinkFrom). length ls) (delivered-is at (fate_of plan m.from m.to f.index) m mid.ins.items)
            ∙ changed-many _ at mid.ins.items (slice_get mid.ins.items at)
        many-links false = refl

        caller : 1 ≤ (caller_of m).node
        caller = caller-low m (omega (arith, from)) low

        after-frame : After
        after-frame =
            let o : Option (ℕ × Message) = Some (f.index, m) in
            let indexed-is : indexed st.frame st.effects.sent ≡ o = ap (λ (z : Option Message). indexed z st.effects.sent) is ∙ ap (indexed (Some m)) sends in
            station-is k x mid y p.is_mid (frame_notices (fate_of plan m.from m.to f.index) f.index m k) (frame_ins at (fate_of plan m.from m.to f.index) m k mid.ins.items)
            (p.by_frame (came_of plan o) (framed_ins plan at o) (reached-are o unmarked indexed-is))
            (many-links (k == m.to - 1)) links-made
            (notices-came plan w (world-after w at c st) (at + 1) k (event-of at c st) m f refl sends from goes next found caller)
            (told-came plan w (world-after w at c st) (at + 1) k (event-of at c st) m f refl sends from goes next found caller)

      by-sends : Sends (at + 1) c.coming.what st → After
      by-sends (nothing unmarked none nowhere) = after-nothing unmarked none nowhere
      by-sends (mark phase is none nowhere) = after-mark phase is none nowhere
      by-sends (frame m f unmarked is sends from goes) = after-frame m f unmarked is sends from goes

      after : After
      after = by-sends (did-sends (given s (at + 1)) (ticked (w.nodes (at + 1)) c.incoming) c.coming.what c.incoming st t.did)

    -- each node is one after the event
    pub stations-after : (k : ℕ) (x y : Station P G) → slice_get old k ≡ Some x → slice_get new k ≡ Some y → IsStationAfter s plan w (world-after w at c st) (k + 1) (event-of at c st) done stays wants becomes made x y
    stations-after k x y there stands = elim (cases_eq k at) [
      | inl same ↦
          (let first : t.before ≡ x = (let r = sym t.before_at ∙ ap (slice_get old) (sym same) ∙ there in cc) in
          let listed = own-new at old sent new t.after t.reached t.listed within t.many t.reached_at t.notices t.is_listed t.is_kept t.new_are in
          let last : t.listed ≡ y = (let r = sym listed ∙ ap (slice_get new) (sym same) ∙ stands in cc) in
          subst (λ (j : ℕ). IsStationAfter s plan w (world-after w at c st) (j + 1) (event-of at c st) done stays wants becomes made x y) (sym same)
          (subst (λ (z : Station P G). IsStationAfter s plan w (world-after w at c st) (at + 1) (event-of at c st) done stays wants becomes made x z) last
          (subst (λ (z : Station P G). IsStationAfter s plan w (world-after w at c st) (at + 1) (event-of at c st) done stays wants becomes made z t.listed) first (after at t.before t.after t.listed own-place))))
      | inr away ↦ after k x x y (other-place k x y away there stands)
    ]
