-- What an event may come from, and what becomes of it that is dropped.
use Rattle.std.proofs.Common.{◌≡◌, ◌≢◌, ℕ, ◌+◌, ◌<◌, ◌≤◌, Bool, true, false, cond, List, [], ◌∷◌, ◌++◌, length, map, drop, Option, Some, None, IfSome, inl, inr, refl, sym, ap, subst, ◌∙◌, append-nil, arith}
use Rattle.std.specs.Prelude.{◌^◌, ◌⊎◌, ◌==◌, ◌&&◌, not, slice_get, All}
use Rattle.std.proofs.lemmas.List.Elements.{recursion_from_All}
use Rattle.std.specs.List.{AllZip, AllByRecursion}
use Rattle.std.proofs.lemmas.Bool.{cases_eq, eq-eqb, ne_eqb, not-true}
use Rattle.std.proofs.lemmas.Option.{same_Some}
use Rattle.uid_names.proofs.ListLemmas.{by_cases}
use Rattle.uid_names.proofs.Passed.{left-true, right-true, equal}
use Rattle.dom_history.specs.declared.op.Reply.{Reply}
use Rattle.dom_history.specs.declared.op.Want.{Want}
use Rattle.dom_history.specs.declared.event.What.{What}
use Rattle.dom_history.specs.declared.event.What.TheVariants as events
use Rattle.dom_history.specs.declared.plan.FateRow.{FateRow}
use Rattle.ring_messages.specs.Frames.{Message}
use Rattle.ring_messages.specs.Spelled.{Spells}
use Rattle.fault_handler.specs.Desks.{IsNode}
use Rattle.node_runs.specs.Setups.{Setup, given}
use Rattle.node_runs.specs.NodeStates.{NodeState, is_ended, is_marked}
use Rattle.node_runs.specs.Incomings.{Incoming, tick_of, may_happen, enabled}
use Rattle.node_runs.specs.Runs.{World, numbered, taken}
use Rattle.node_runs.specs.Deliveries.{noticed_by, noticed_in}
use Rattle.world_runs.specs.Gone.{FrameName, same_frame}
use Rattle.world_runs.specs.NamedNodes.{NamesNodesIn}
use Rattle.world_runs.specs.Waiting.{Entry, entry_if, entry_by, entries_taken}
use Rattle.ring_links.specs.declared.entry.Entry as link-entry
use Rattle.ring_links.specs.declared.entry.Waiting.{Waiting}
use Rattle.ring_links.specs.declared.entry.Waiting.TheVariants as waiting
use Rattle.ring_links.specs.declared.notice.Notice as notice
use Rattle.ring_links.specs.Notices.{notice_what, notice_incoming}
use Rattle.ring_links.specs.Carried as links
use Rattle.local_runs.specs.LocalRuns.{events_in}
use Rattle.node_core.specs.declared.setup.Incoming as code
use Rattle.node_core.specs.declared.setup.Incoming.TheVariants as received
use Rattle.node_core.specs.Nodes.{Noted, state_of, given_of}
use Rattle.node_core.specs.Receivings.{seen}
use Rattle.wire_links.specs.declared.carried.Parcel.{Parcel}
use Rattle.wire_links.specs.declared.carried.Parcel.TheVariants as parcel
use Rattle.wire_links.specs.declared.carried.Carried.{Carried}
use Rattle.wire_links.specs.declared.carried.Carried.TheVariants as carried
use Rattle.local_runs.specs.Posts.{Serving, IsIn, words_in, times_in, times_named, count_if, Came, IsHeard, IsPassedBy, IsPassed, IsServed}
use Rattle.local_runs.proofs.Counting.{words-prefix}
use Rattle.local_runs.proofs.Members.{in-last, numbered-map}
use Rattle.node_posts.specs.Ends.{other_at, own_event}
use Rattle.node_posts.specs.Reading.{IsEntryEvent, IsEventFor, IsEntryOdd, IsOdd, come_if}
use Rattle.node_posts.specs.Posts.{IsNoticeHere, frame_name, IsOwnFrame, IsOwnLink, AreNotices}
use Rattle.node_posts.proofs.Coming.{all-came-later, marks-taken}
use Rattle.node_posts.proofs.Noticing.{named-append}
use Rattle.node_posts.proofs.Serving.{Receives}

-- what came out of a ring: one entry more of the ring from one node
abbrev pub ins_with : ℕ → Carried → (ℕ → List Carried) → ℕ → List Carried
ins_with from x ins k = ins k ++ come_if (k == from) x

module _ (nodes : ℕ) (plan : List FateRow) (n : ℕ) (p : Serving) (rest : List Entry) (queue : List (link-entry.Entry code.Incoming)) (xs : List notice.Notice) (rest_is : rest ≡ map (λ e. links.plain_name e.waiting) queue)
    (s : Setup) (served : IsServed s plan n p) (notices : AreNotices nodes plan n p xs) where
  -- nothing
  receives-nothing : (what : What) → Came plan n p what Incoming.Nothing → noticed_by what ≡ [] → ((from : ℕ) → entry_by from n n what ≡ []) → Receives nodes plan s.wire n p rest p.ins queue xs what Incoming.Nothing
  receives-nothing what now untold untaken = record {
    more = λ from. ([], sym (append-nil (p.ins from)));
    now = now;
    takes = λ from away. subst (IsHeard s.wire from n (p.ins from)) (sym (ap (λ (es : List Entry). entries_taken from n (events_in p.own) ++ es) (untaken from) ∙ append-nil (entries_taken from n (events_in p.own)))) (served.takes from away);
    told = λ f away. (let a = served.told f away in let b = ap (λ (fs : List FrameName). times_named f (fs ++ noticed_in (events_in p.own))) untold in omega (arith, a, b));
    taken = rest_is ∙ ap (λ (es : List Entry). es ++ map (λ (e : link-entry.Entry code.Incoming). links.plain_name e.waiting) queue) (sym (untaken n));
    each = notices.each;
    once = λ f at. (let a = notices.once f at in let b = ap (λ (fs : List FrameName). times_named f (fs ++ noticed_in (events_in p.own))) untold in omega (arith, a, b));
  }

  pub begin-receives : (q : ℕ) → Receives nodes plan s.wire n p rest p.ins queue xs (events.Begin q) Incoming.Nothing
  begin-receives q = receives-nothing (events.Begin q) refl refl (λ from. refl)

  pub go-receives : (q : ℕ) → Receives nodes plan s.wire n p rest p.ins queue xs (events.Go q) Incoming.Nothing
  go-receives q = receives-nothing (events.Go q) refl refl (λ from. refl)

  pub ready-receives : (phase : ℕ) → Receives nodes plan s.wire n p rest p.ins queue xs (events.Ready phase) Incoming.Nothing
  ready-receives phase = receives-nothing (events.Ready phase) refl refl (λ from. refl)

  -- an entry of a ring
  module _ (from : ℕ) (away : from ≢ n) (x : Carried) where
    abbrev pub ins : ℕ → List Carried
    ins = ins_with from x p.ins

    ins-here : ins from ≡ p.ins from ++ x ∷ []
    ins-here = ap (λ (b : Bool). p.ins from ++ come_if b x) (eq-eqb from from refl)

    elsewhere : (k : ℕ) → k ≢ from → ins k ≡ p.ins k
    elsewhere k differs = ap (λ (b : Bool). p.ins k ++ come_if b x) (ne_eqb k from differs) ∙ append-nil (p.ins k)

    -- which of the entries was heard
    heard-at : (es : ℕ → List Entry) → IsHeard s.wire from n (p.ins from ++ x ∷ []) (es from) → ((k : ℕ) → k ≢ from → es k ≡ entries_taken k n (events_in p.own))
        → (k : ℕ) → k ≢ n → IsHeard s.wire k n (ins k) (es k)
    heard-at es now others k differs = elim (cases_eq k from) [
      | inl same ↦ subst (λ (j : ℕ). IsHeard s.wire j n (ins j) (es j)) (sym same) (subst (λ (cs : List Carried). IsHeard s.wire from n cs (es from)) (sym ins-here) now)
      | inr other ↦ subst (λ (cs : List Carried). IsHeard s.wire k n cs (es k)) (sym (elsewhere k other)) (subst (IsHeard s.wire k n (p.ins k)) (sym (others k other)) (served.takes k differs))
    ]

    in-ring : IsIn x (ins from)
    in-ring = subst (IsIn x) (sym ins-here) (in-last x (p.ins from))

    -- words stay
    words-more : (f : FrameName) → times_in f.2 (words_in (p.ins f.0)) ≤ times_in f.2 (words_in (ins f.0))
    words-more f = words-prefix f.2 (p.ins f.0) (come_if (f.0 == from) x)

    -- nothing of it was heard: it is passed by
    pub passed-by : IsPassed s.wire from n (entries_taken from n (events_in p.own)) x → IsServed s plan n (record p { ins = ins })
    passed-by passed = record {
      run = served.run;
      came = all-came-later plan n p (record p { ins = ins }) (record { ins = λ k. (come_if (k == from) x, refl); frames = λ to. record { stays = λ k m found. found } }) p.own served.came;
      takes = heard-at (λ k. entries_taken k n (events_in p.own)) (IsHeard.passed x (served.takes from away) passed) (λ k other. refl);
      told = λ f differs. (let a = served.told f differs in let b = words-more f in omega (arith, a, b));
      own_rest = served.own_rest;
      own_link = served.own_link;
      own_told = served.own_told;
      sent = served.sent;
      frames = served.frames;
      links = served.links;
      marks = served.marks;
    }

    pub passed-rest : (passed : IsPassed s.wire from n (entries_taken from n (events_in p.own)) x) → (passed-by passed).own_rest ≡ served.own_rest
    unfolding passed-by
    passed-rest passed = refl

    untold : (what : What) → noticed_by what ≡ [] → (f : FrameName) → f.0 ≢ n → times_named f (noticed_by what ++ noticed_in (events_in p.own)) ≤ times_in f.2 (words_in (ins f.0))
    untold what none f differs =
        let a = served.told f differs in
        let b = ap (λ (fs : List FrameName). times_named f (fs ++ noticed_in (events_in p.own))) none in
        let c = words-more f in
        omega (arith, a, b, c)

    unheard : (what : What) → noticed_by what ≡ [] → (f : FrameName) → f.0 ≡ n → times_named f (noticed_by what ++ noticed_in (events_in p.own)) + times_named f (map frame_name xs) ≤ 1
    unheard what none f at =
        let a = notices.once f at in
        let b = ap (λ (fs : List FrameName). times_named f (fs ++ noticed_in (events_in p.own))) none in
        omega (arith, a, b)

    untaken : (what : What) → entry_by n n n what ≡ [] → rest ≡ entry_by n n n what ++ map (λ e. links.plain_name e.waiting) queue
    untaken what none = rest_is ∙ ap (λ (es : List Entry). es ++ map (λ (e : link-entry.Entry code.Incoming). links.plain_name e.waiting) queue) (sym none)

    entry-here : (e : Entry) → entry_if ((from == from) && (n == n)) e ≡ e ∷ []
    entry-here e = ap (λ (b : Bool). entry_if (b && (n == n)) e) (eq-eqb from from refl) ∙ ap (λ (b : Bool). entry_if b e) (eq-eqb n n refl)

    entry-away : (k : ℕ) (e : Entry) → k ≢ from → entry_if ((from == k) && (n == n)) e ≡ []
    entry-away k e differs = ap (λ (b : Bool). entry_if (b && (n == n)) e) (ne_eqb from k (λ h. differs (sym h)))

    none-more : (es : List Entry) (k : ℕ) → es ≡ [] → entries_taken k n (events_in p.own) ++ es ≡ entries_taken k n (events_in p.own)
    none-more es k none = ap (λ (ys : List Entry). entries_taken k n (events_in p.own) ++ ys) none ∙ append-nil (entries_taken k n (events_in p.own))

  -- a frame is taken
  frame-receives : (from : ℕ) (away : from ≢ n) (index : ℕ) (bytes : List ℕ) (m : Message) → Spells m bytes
      → Receives nodes plan s.wire n p rest (ins_with from (carried.Put (record { waiting = waiting.Copy index; received = parcel.Frame bytes })) p.ins) queue xs (events.Take from index) (Incoming.Frame m)
  frame-receives from away index bytes m spells =
      let x = carried.Put (record { waiting = waiting.Copy index; received = parcel.Frame bytes }) in
      record {
        more = λ k. (come_if (k == from) x, refl);
        now = inr (away, record { frame = m; bytes = bytes; spells = spells; is = refl; came = in-ring from away x });
        takes = heard-at from away x (λ k. entries_taken k n (events_in p.own) ++ entry_by k n n (events.Take from index))
            (subst (λ (es : List Entry). IsHeard s.wire from n (p.ins from ++ x ∷ []) (entries_taken from n (events_in p.own) ++ es)) (sym (entry-here from away x (Entry.Copy index)))
            (IsHeard.frame index bytes (served.takes from away)))
            (λ k other. none-more from away x (entry_by k n n (events.Take from index)) k (entry-away from away x k (Entry.Copy index) other));
        told = untold from away x (events.Take from index) refl;
        taken = untaken from away x (events.Take from index) (entry-away from away x n (Entry.Copy index) (λ h. away (sym h)));
        each = notices.each;
        once = unheard from away x (events.Take from index) refl;
      }

  -- a mark
  mark-receives : (from : ℕ) (away : from ≢ n) (phase tick : ℕ)
      → Receives nodes plan s.wire n p rest (ins_with from (carried.Put (record { waiting = waiting.Mark phase; received = parcel.Mark tick })) p.ins) queue xs (events.Mark from phase) (Incoming.Mark tick)
  mark-receives from away phase tick =
      let x = carried.Put (record { waiting = waiting.Mark phase; received = parcel.Mark tick }) in
      record {
        more = λ k. (come_if (k == from) x, refl);
        now = (away, record { tick = tick; is = refl; came = in-ring from away x });
        takes = heard-at from away x (λ k. entries_taken k n (events_in p.own) ++ entry_by k n n (events.Mark from phase))
            (subst (λ (es : List Entry). IsHeard s.wire from n (p.ins from ++ x ∷ []) (entries_taken from n (events_in p.own) ++ es)) (sym (entry-here from away x (Entry.Mark phase)))
            (IsHeard.mark phase tick (served.takes from away)))
            (λ k other. none-more from away x (entry_by k n n (events.Mark from phase)) k (entry-away from away x k (Entry.Mark phase) other));
        told = untold from away x (events.Mark from phase) refl;
        taken = untaken from away x (events.Mark from phase) (entry-away from away x n (Entry.Mark phase) (λ h. away (sym h)));
        each = notices.each;
        once = unheard from away x (events.Mark from phase) refl;
      }

  -- word of a reply that is lost or late
  words-last : (k proc number index tick : ℕ) (cs : List Carried) → times_in k (words_in (cs ++ carried.Gone proc number index tick ∷ [])) ≡ times_in k (words_in cs) + count_if (k == index)
  words-last k proc number index tick [] = omega arith
  words-last k proc number index tick (carried.Put e ∷ cs) = words-last k proc number index tick cs
  words-last k proc number index tick (carried.Gone a b c d ∷ cs) = let e = words-last k proc number index tick cs in omega (arith, e)

  few-same : (f : FrameName) (from index : ℕ) → count_if (same_frame f (from, n, index)) ≤ count_if (f.2 == index)
  few-same f from index = by-tests (f.0 == from) (f.1 == n) (f.2 == index)
    where
      by-tests : (a b c : Bool) → count_if (a && (b && c)) ≤ count_if c
      by-tests true true c = omega arith
      by-tests true false c = omega arith
      by-tests false b c = omega arith

  other-link : (f : FrameName) (from index : ℕ) → f.0 ≢ from → count_if (same_frame f (from, n, index)) ≡ 0
  other-link f from index differs = ap (λ (b : Bool). count_if (b && ((f.1 == n) && (f.2 == index)))) (ne_eqb f.0 from differs)

  word-receives : (from : ℕ) (away : from ≢ n) (proc number index tick : ℕ)
      → Receives nodes plan s.wire n p rest (ins_with from (carried.Gone proc number index tick) p.ins) queue xs (events.Notice proc from n index) (Incoming.Gone number tick)
  word-receives from away proc number index tick =
      let x = carried.Gone proc number index tick in
      record {
        more = λ k. (come_if (k == from) x, refl);
        now = inr (away, record { number = number; tick = tick; here = refl; is = refl; came = in-ring from away x });
        takes = heard-at from away x (λ k. entries_taken k n (events_in p.own) ++ [])
            (IsHeard.passed x (subst (IsHeard s.wire from n (p.ins from)) (sym (append-nil (entries_taken from n (events_in p.own)))) (served.takes from away)) tt)
            (λ k other. append-nil (entries_taken k n (events_in p.own)));
        told = λ f differs. elim (cases_eq f.0 from) [
          | inl same ↦
              (let a = served.told f differs in
              let b = few-same f from index in
              let c = words-last f.2 proc number index tick (p.ins f.0) in
              let d : ins_with from x p.ins f.0 ≡ p.ins f.0 ++ x ∷ [] = ap (λ (b : Bool). p.ins f.0 ++ come_if b x) (eq-eqb f.0 from same) in
              let e = ap (λ (cs : List Carried). times_in f.2 (words_in cs)) d in
              omega (arith, a, b, c, e))
          | inr other ↦
              (let a = served.told f differs in
              let b = other-link f from index other in
              let c = words-more from away x f in
              omega (arith, a, b, c))
        ];
        taken = rest_is;
        each = notices.each;
        once = λ f at.
            (let a = notices.once f at in
            let b = other-link f from index (λ h. away (sym h ∙ at)) in
            omega (arith, a, b));
      }

  -- whichever it is
  entry-receives : (from : ℕ) (away : from ≢ n) (w : Waiting) (r : Parcel) (what : What) (incoming : Incoming) → IsEntryEvent from w r what incoming
      → Receives nodes plan s.wire n p rest (ins_with from (carried.Put (record { waiting = w; received = r })) p.ins) queue xs what incoming
  entry-receives from away (waiting.Copy index) (parcel.Frame bytes) what incoming is =
      let x = carried.Put (record { waiting = waiting.Copy index; received = parcel.Frame bytes }) in
      subst (λ (i : Incoming). Receives nodes plan s.wire n p rest (ins_with from x p.ins) queue xs what i) (sym is.1.2)
      (subst (λ (e : What). Receives nodes plan s.wire n p rest (ins_with from x p.ins) queue xs e (Incoming.Frame is.1.0)) (sym is.0) (frame-receives from away index bytes is.1.0 is.1.1))
  entry-receives from away (waiting.Mark phase) (parcel.Mark tick) what incoming is =
      let x = carried.Put (record { waiting = waiting.Mark phase; received = parcel.Mark tick }) in
      subst (λ (i : Incoming). Receives nodes plan s.wire n p rest (ins_with from x p.ins) queue xs what i) (sym is.1)
      (subst (λ (e : What). Receives nodes plan s.wire n p rest (ins_with from x p.ins) queue xs e (Incoming.Mark tick)) (sym is.0) (mark-receives from away phase tick))
  entry-receives from away (waiting.Copy index) (parcel.Mark tick) what incoming is = absurd is
  entry-receives from away (waiting.Mark phase) (parcel.Frame bytes) what incoming is = absurd is

  pub ring-receives : (from : ℕ) (away : from ≢ n) (x : Carried) (what : What) (incoming : Incoming) → IsEventFor from n x what incoming → Receives nodes plan s.wire n p rest (ins_with from x p.ins) queue xs what incoming
  ring-receives from away (carried.Put e) what incoming is = entry-receives from away e.waiting e.received what incoming is
  ring-receives from away (carried.Gone proc number index tick) what incoming is =
      let x = carried.Gone proc number index tick in
      subst (λ (i : Incoming). Receives nodes plan s.wire n p rest (ins_with from x p.ins) queue xs what i) (sym is.1)
      (subst (λ (e : What). Receives nodes plan s.wire n p rest (ins_with from x p.ins) queue xs e (Incoming.Gone number tick)) (sym is.0) (word-receives from away proc number index tick))

  -- an event of which no other link's entry is
  own-heard : (what : What) → ((k : ℕ) → k ≢ n → entry_by k n n what ≡ []) → (k : ℕ) → k ≢ n → IsHeard s.wire k n (p.ins k) (entries_taken k n (events_in p.own) ++ entry_by k n n what)
  own-heard what none k differs =
      subst (IsHeard s.wire k n (p.ins k)) (sym (ap (λ (es : List Entry). entries_taken k n (events_in p.own) ++ es) (none k differs) ∙ append-nil (entries_taken k n (events_in p.own)))) (served.takes k differs)

-- the oldest frame of the node's own link
module _ (nodes : ℕ) (plan : List FateRow) (n : ℕ) (p : Serving) (rest : List Entry) (link : links.Carrying code.Incoming) (xs : List notice.Notice) (rest_is : rest ≡ map (λ e. links.plain_name e.waiting) link.queue)
    (s : Setup) (served : IsServed s plan n p) (notices : AreNotices nodes plan n p xs) (own : IsOwnLink s.wire n p.world link) where
  abbrev Frames : List (link-entry.Entry code.Incoming) → Type 0
  Frames q = AllByRecursion (λ e. IsOwnFrame s.wire n e.waiting (seen e.received)) q

  carried-first : (q : List (link-entry.Entry code.Incoming)) (e : link-entry.Entry code.Incoming) → slice_get q 0 ≡ Some e → All (λ e. links.IsFrameOf (map received.Frame (p.world.frames n n)) e.received e.waiting) q
      → links.IsFrameOf (map received.Frame (p.world.frames n n)) e.received e.waiting
  carried-first q e there all = AllByRecursion-first q (recursion_from_All (λ e. links.IsFrameOf (map received.Frame (p.world.frames n n)) e.received e.waiting) q all) there
    where
      AllByRecursion-first : (q : List (link-entry.Entry code.Incoming)) → AllByRecursion (λ e. links.IsFrameOf (map received.Frame (p.world.frames n n)) e.received e.waiting) q → slice_get q 0 ≡ Some e
          → links.IsFrameOf (map received.Frame (p.world.frames n n)) e.received e.waiting
      AllByRecursion-first [] all there = absurd (cc)
      AllByRecursion-first (f ∷ q) all there =
          subst (λ (g : link-entry.Entry code.Incoming). links.IsFrameOf (map received.Frame (p.world.frames n n)) g.received g.waiting) (same_Some f e there) all.0

  own-first : (q : List (link-entry.Entry code.Incoming)) (e : link-entry.Entry code.Incoming) → slice_get q 0 ≡ Some e → Frames q → IsOwnFrame s.wire n e.waiting (seen e.received)
  own-first [] e there all = absurd (cc)
  own-first (f ∷ q) e there all = subst (λ (g : link-entry.Entry code.Incoming). IsOwnFrame s.wire n g.waiting (seen g.received)) (same_Some f e there) all.0

  names-first : (q : List (link-entry.Entry code.Incoming)) (e : link-entry.Entry code.Incoming) → slice_get q 0 ≡ Some e
      → map (λ e. links.plain_name e.waiting) q ≡ links.plain_name e.waiting ∷ map (λ e. links.plain_name e.waiting) (drop 1 q)
  names-first [] e there = absurd (cc)
  names-first (f ∷ q) e there = ap (λ (g : link-entry.Entry code.Incoming). links.plain_name g.waiting ∷ map (λ (e : link-entry.Entry code.Incoming). links.plain_name e.waiting) q) (same_Some f e there)

  by-copy : (w : Waiting) (r : code.Incoming) → IsOwnFrame s.wire n w (seen r) → links.IsFrameOf (map received.Frame (p.world.frames n n)) r w
      → rest ≡ links.plain_name w ∷ map (λ e. links.plain_name e.waiting) (drop 1 link.queue) → Receives nodes plan s.wire n p rest p.ins (drop 1 link.queue) xs (own_event n w) (seen r)
  by-copy (waiting.Mark phase) r is at names = absurd is
  by-copy (waiting.Copy index) r is at names =
      let found = numbered-map received.Frame index (p.world.frames n n) r at in
      let takes : taken (numbered index (p.world.frames n n)) ≡ Some (seen r) = ap taken found.1 ∙ ap (λ (i : code.Incoming). Some (seen i)) found.2 in
      record {
        more = λ from. ([], sym (append-nil (p.ins from)));
        now = inl (refl, takes);
        takes = own-heard nodes plan n p rest link.queue xs rest_is s served notices (events.Take n index)
            (λ k away. ap (λ (b : Bool). entry_if (b && (n == n)) (Entry.Copy index)) (ne_eqb n k (λ h. away (sym h))));
        told = served.told;
        taken = names ∙ ap (λ (es : List Entry). es ++ map (λ (e : link-entry.Entry code.Incoming). links.plain_name e.waiting) (drop 1 link.queue))
            (sym (ap (λ (b : Bool). entry_if (b && b) (Entry.Copy index)) (eq-eqb n n refl)));
        each = notices.each;
        once = notices.once;
      }

  pub own-receives : (e : link-entry.Entry code.Incoming) → slice_get link.queue 0 ≡ Some e → Receives nodes plan s.wire n p rest p.ins (drop 1 link.queue) xs (own_event n e.waiting) (seen e.received)
  own-receives e there =
      by-copy e.waiting e.received (own-first link.queue e there own.frames) (carried-first link.queue e there own.carries.queue) (rest_is ∙ names-first link.queue e there)

  -- it is enabled, unless the node has ended
  own-may : (m : NodeState) (w : Waiting) (i : Incoming) → IsOwnFrame s.wire n w i → is_ended (given s n) m ≡ false → enabled (given s n) m (own_event n w) i ≡ true
  own-may m (waiting.Copy index) (Incoming.Frame f) is lasts =
      ap (λ (b : Bool). not b && (((f.from == n) && (f.to == n)) && (f.version == s.wire))) lasts
      ∙ (ap (λ (b : Bool). (b && (f.to == n)) && (f.version == s.wire)) (eq-eqb f.from n is.0)
      ∙ (ap (λ (b : Bool). b && (f.version == s.wire)) (eq-eqb f.to n is.1) ∙ eq-eqb f.version s.wire is.3))
  own-may m (waiting.Copy index) Incoming.Nothing is lasts = absurd is
  own-may m (waiting.Copy index) (Incoming.Gone number tick) is lasts = absurd is
  own-may m (waiting.Copy index) (Incoming.Mark tick) is lasts = absurd is
  own-may m (waiting.Mark phase) i is lasts = absurd is

  pub own-enabled : (m : NodeState) (e : link-entry.Entry code.Incoming) → slice_get link.queue 0 ≡ Some e → is_ended (given s n) m ≡ false → enabled (given s n) m (own_event n e.waiting) (seen e.received) ≡ true
  own-enabled m e there lasts = own-may m e.waiting (seen e.received) (own-first link.queue e there own.frames) lasts

  -- it names this node, and came early
  pub own-early : (e : link-entry.Entry code.Incoming) → slice_get link.queue 0 ≡ Some e → tick_of (seen e.received) < 2 ^ 40
  own-early e there = by-frame e.waiting (seen e.received) (own-first link.queue e there own.frames)
    where
      by-frame : (w : Waiting) (i : Incoming) → IsOwnFrame s.wire n w i → tick_of i < 2 ^ 40
      by-frame (waiting.Copy index) (Incoming.Frame f) is = is.2
      by-frame (waiting.Copy index) Incoming.Nothing is = absurd is
      by-frame (waiting.Copy index) (Incoming.Gone number tick) is = absurd is
      by-frame (waiting.Copy index) (Incoming.Mark tick) is = absurd is
      by-frame (waiting.Mark phase) i is = absurd is

  pub own-names : (e : link-entry.Entry code.Incoming) → slice_get link.queue 0 ≡ Some e → IsNode nodes n → NamesNodesIn nodes (own_event n e.waiting)
  own-names e there node = by-waiting e.waiting
    where
      by-waiting : (w : Waiting) → NamesNodesIn nodes (own_event n w)
      by-waiting (waiting.Copy index) = node
      by-waiting (waiting.Mark phase) = node

-- the oldest notice
module _ (nodes : ℕ) (plan : List FateRow) (n : ℕ) (p : Serving) (rest : List Entry) (queue : List (link-entry.Entry code.Incoming)) (x : notice.Notice) (xs : List notice.Notice)
    (rest_is : rest ≡ map (λ e. links.plain_name e.waiting) queue) (s : Setup) (served : IsServed s plan n p) (notices : AreNotices nodes plan n p (x ∷ xs)) where
  first-here : IsNoticeHere nodes plan n p.world x
  first-here = notices.each.0

  pub notice-receives : Receives nodes plan s.wire n p rest p.ins queue xs (notice_what x) (notice_incoming x)
  notice-receives = record {
    more = λ from. ([], sym (append-nil (p.ins from)));
    now = inl (first-here.from, first-here.told, first-here.gone);
    takes = λ k away. subst (IsHeard s.wire k n (p.ins k)) (sym (append-nil (entries_taken k n (events_in p.own)))) (served.takes k away);
    told = λ f away.
        (let a = served.told f away in
        let b : count_if (same_frame f (frame_name x)) ≡ 0 = ap (λ (b : Bool). count_if (b && ((f.1 == x.to) && (f.2 == x.index)))) (ne_eqb f.0 x.from (λ h. away (h ∙ first-here.from))) in
        omega (arith, a, b));
    taken = rest_is;
    each = notices.each.1;
    once = λ f at. (let a = notices.once f at in omega (arith, a));
  }

  -- or it is dropped
  pub notice-dropped : AreNotices nodes plan n p xs
  notice-dropped = record { each = notices.each.1; once = λ f at. (let a = notices.once f at in omega (arith, a)) }

-- an entry of a ring whose event is not enabled at a node that has not ended is passed by
module _ (s : Setup) (plan : List FateRow) (n : ℕ) (p : Serving) (served : IsServed s plan n p) (from : ℕ) (away : from ≢ n) (lasts : is_ended (given s n) (p.world.nodes n) ≡ false) where
  refused-may : (what : What) (i : Incoming) → enabled (given s n) (p.world.nodes n) what i ≡ false → may_happen (given s n) (p.world.nodes n) what i ≡ false
  refused-may what i refused = sym (ap (λ (b : Bool). not b && may_happen (given s n) (p.world.nodes n) what i) lasts) ∙ refused

  all-true : (a b c : Bool) → ((a && b) && c) ≡ false → a ≡ true → b ≡ true → c ≡ true → ⊥
  all-true true true true e f g h = absurd (cc)
  all-true true true false e f g h = absurd (cc)
  all-true true false c e f g h = absurd (cc)
  all-true false b c e f g h = absurd (cc)

  not-false : (b : Bool) → not b ≡ false → b ≡ true
  not-false true e = refl
  not-false false e = absurd (cc)

  away-false : (b : Bool) → (not (from == n) && not b) ≡ false → b ≡ true
  away-false b e = not-false b (sym (ap (λ (c : Bool). not c && not b) (ne_eqb from n away)) ∙ e)

  passed-entry : (w : Waiting) (r : Parcel) (what : What) (incoming : Incoming) → IsEntryEvent from w r what incoming → enabled (given s n) (p.world.nodes n) what incoming ≡ false
      → IsPassedBy s.wire from n (entries_taken from n (events_in p.own)) w r
  passed-entry (waiting.Copy index) (parcel.Frame bytes) what incoming is refused =
      let m = is.1.0 in
      let e : enabled (given s n) (p.world.nodes n) (events.Take from index) (Incoming.Frame m) ≡ false =
      ap (λ (x : What). enabled (given s n) (p.world.nodes n) x (Incoming.Frame m)) (sym is.0) ∙ (ap (enabled (given s n) (p.world.nodes n) what) (sym is.1.2) ∙ refused) in
      (m, is.1.1, λ a b c. all-true (m.from == from) (m.to == n) (m.version == s.wire) (refused-may (events.Take from index) (Incoming.Frame m) e) (eq-eqb m.from from a) (eq-eqb m.to n b) (eq-eqb m.version s.wire c))
  passed-entry (waiting.Mark phase) (parcel.Mark tick) what incoming is refused =
      let e : enabled (given s n) (p.world.nodes n) (events.Mark from phase) (Incoming.Mark tick) ≡ false =
      ap (λ (x : What). enabled (given s n) (p.world.nodes n) x (Incoming.Mark tick)) (sym is.0) ∙ (ap (enabled (given s n) (p.world.nodes n) what) (sym is.1) ∙ refused) in
      marks-taken s n p.own p.world served.run from phase (away-false (is_marked (p.world.nodes n) from phase) (refused-may (events.Mark from phase) (Incoming.Mark tick) e))
  passed-entry (waiting.Copy index) (parcel.Mark tick) what incoming is refused = tt
  passed-entry (waiting.Mark phase) (parcel.Frame bytes) what incoming is refused = tt

  pub refused-passed : (x : Carried) (what : What) (incoming : Incoming) → IsEventFor from n x what incoming → enabled (given s n) (p.world.nodes n) what incoming ≡ false → IsPassed s.wire from n (entries_taken from n (events_in p.own)) x
  refused-passed (carried.Put e) what incoming is refused = passed-entry e.waiting e.received what incoming is refused
  refused-passed (carried.Gone proc number index tick) what incoming is refused = tt

odd-entry : (wire from n : ℕ) (es : List Entry) (w : Waiting) (r : Parcel) → IsEntryOdd w r → IsPassedBy wire from n es w r
odd-entry wire from n es (waiting.Copy index) (parcel.Mark tick) is = tt
odd-entry wire from n es (waiting.Mark phase) (parcel.Frame bytes) is = tt
odd-entry wire from n es (waiting.Copy index) (parcel.Frame bytes) is = absurd is
odd-entry wire from n es (waiting.Mark phase) (parcel.Mark tick) is = absurd is

pub odd-passed : (wire from n : ℕ) (es : List Entry) (x : Carried) → IsOdd x → IsPassed wire from n es x
odd-passed wire from n es (carried.Put e) is = odd-entry wire from n es e.waiting e.received is
odd-passed wire from n es (carried.Gone proc number index tick) is = absurd is

-- the nodes that an entry's event names
pub entry-names : (nodes from n : ℕ) (x : Carried) (what : What) (incoming : Incoming) → IsNode nodes from → IsNode nodes n → IsEventFor from n x what incoming → NamesNodesIn nodes what
entry-names nodes from n (carried.Put e) what incoming sender here is = by-entry e.waiting e.received is
  where
    by-entry : (w : Waiting) (r : Parcel) → IsEntryEvent from w r what incoming → NamesNodesIn nodes what
    by-entry (waiting.Copy index) (parcel.Frame bytes) is = subst (NamesNodesIn nodes) (sym is.0) sender
    by-entry (waiting.Mark phase) (parcel.Mark tick) is = subst (NamesNodesIn nodes) (sym is.0) sender
    by-entry (waiting.Copy index) (parcel.Mark tick) is = absurd is
    by-entry (waiting.Mark phase) (parcel.Frame bytes) is = absurd is
entry-names nodes from n (carried.Gone proc number index tick) what incoming sender here is = subst (NamesNodesIn nodes) (sym is.0) (sender, here)
