-- A node of a world after a turn stands for the node of the new world of the definitions.
use Rattle.std.proofs.Common.{◌≡◌, ℕ, zero, suc, ◌+◌, ◌<◌, Bool, true, false, cond, Option, Some, None, List, [], ◌∷◌, ◌++◌, map, drop, length, refl, sym, ap, subst, ◌∙◌, arith}
use Rattle.std.specs.Prelude.{◌==◌, not, filter, slice_get, All, reverse}
use Rattle.std.specs.Option.{option_map}
use Rattle.std.proofs.lemmas.List.{map-append}
use Rattle.std.proofs.lemmas.List.Elements.{All-filter, All-append, All-nil, All-cons, All-head, All-tail}
use Rattle.uid_names.proofs.ListLemmas.{All-more}
use Rattle.dom_history.specs.declared.op.Reply.{Reply}
use Rattle.dom_history.specs.declared.op.Want.{Want}
use Rattle.dom_history.specs.declared.event.What.{What}
use Rattle.dom_history.specs.declared.event.What.TheVariants as events
use Rattle.dom_history.specs.declared.plan.Fate.{Fate}
use Rattle.dom_history.specs.declared.plan.FateRow.{FateRow}
use Rattle.dom_history.specs.Events.{Happening}
use Rattle.dom_history.specs.Plans.{fate_of}
use Rattle.ring_messages.specs.Frames.{Message}
use Rattle.node_runs.specs.Setups.{Setup, given}
use Rattle.node_runs.specs.Incomings.{Incoming}
use Rattle.node_runs.specs.Runs.{World, SentMark, marked, mark_of, incoming_of}
use Rattle.world_runs.specs.Sendings.{Sending, sendings, sent_by}
use Rattle.world_runs.specs.Waiting.{entry_by}
use Rattle.world_runs.specs.Links as links
use Rattle.world_runs.specs.Links.{link_of, link_after, link_less}
use Rattle.world_runs.specs.OpenNotices.{open_notices, is_done_by, notices_by, notices_kept}
use Rattle.world_runs.specs.Turns as turns
use Rattle.world_runs.specs.ByPlace.{events_of}
use Rattle.ring_links.specs.declared.entry.Waiting.{Waiting}
use Rattle.ring_links.specs.declared.entry.Waiting.TheVariants.{Copy, Mark}
use Rattle.ring_links.specs.declared.entry.Entry.{Entry}
use Rattle.ring_links.specs.declared.link.Later.{Later}
use Rattle.node_runs.specs.Deliveries.{in_place}
use Rattle.ring_links.specs.Carried.{plain_link, CarriesFrames, copy_of, later_copy, falling, mark_of as carried_mark}
use Rattle.ring_links.proofs.Plain.{plain-frame, plain-mark, plain-less}
use Rattle.ring_links.proofs.Carrying.{frame-carried, mark-carried, less-carried}
use Rattle.node_core.specs.declared.setup.Incoming as code
use Rattle.node_core.specs.declared.setup.Incoming.TheVariants as received
use Rattle.node_core.specs.Nodes.{Noted}
use Rattle.node_core.specs.Nodes as nodes
use Rattle.ring_links.specs.declared.notice.Notice.{Notice}
use Rattle.world_core.specs.declared.station.LinkFrom.{LinkFrom}
use Rattle.world_core.specs.declared.station.Station.{Station}
use Rattle.ring_links.specs.Notices.{notice_what, notice_incoming}
use Rattle.world_core.specs.Stations.{is_open_notice, open_ones}
use Rattle.world_core.specs.Sending.{link_with, mark_with}
use Rattle.world_core.specs.Listed.{IsListed}
use Rattle.world_core.specs.Stands.{IsMarkOf, IsLink, IsNoticeOf, IsStation}
use Rattle.world_core.proofs.Standing.{enabled-stands}
use Rattle.ended_nodes.proofs.Elements.{all_at, at_all}

drop-at : {A : Type 0} (k : ℕ) (xs : List A) (i : ℕ) → slice_get (drop k xs) i ≡ slice_get xs (k + i)
drop-at zero xs i = ap (slice_get xs) (let e : i ≡ 0 + i = omega arith in e)
drop-at (suc k) [] i = refl
drop-at (suc k) (x ∷ xs) i = drop-at k xs i ∙ ap (slice_get (x ∷ xs)) (let e : suc (k + i) ≡ suc k + i = omega arith in e)

all-dropped : {A : Type 0} (T : A → Type 0) (k : ℕ) (xs : List A) → All T xs → All T (drop k xs)
all-dropped T k xs all = all_at T (drop k xs) (λ i x e. at_all T xs (k + i) x all (sym (drop-at k xs i) ∙ e))

-- the oldest entries of a link are taken
abbrev pub less : ℕ → LinkFrom → LinkFrom
less k l = record l { link = record l.link { queue = drop k l.link.queue } }

marks-stay : (q r : Option SentMark) (x : code.Incoming) → ((i : Incoming) → marked q ≡ Some i → marked r ≡ Some i)
    → option_map (λ (m : SentMark). received.Mark m.tick) q ≡ Some x → option_map (λ (m : SentMark). received.Mark m.tick) r ≡ Some x
marks-stay None r x stays e = absurd (cc)
marks-stay (Some m) None x stays e = absurd (let f = stays (Incoming.Mark m.tick) refl in cc)
marks-stay (Some m) (Some k) x stays e =
    let f = stays (Incoming.Mark m.tick) refl in
    let same : k.tick ≡ m.tick = cc in
    ap (λ (t : ℕ). Some (received.Mark t)) same ∙ e

one-open : (y : Notice) (kept : List Notice) (whats : List What) (b d : Bool) → b ≡ d → map notice_what kept ≡ whats → map notice_what (cond b (y ∷ kept) kept) ≡ cond d (notice_what y ∷ whats) whats
one-open y kept whats true true f h = ap (λ (xs : List What). notice_what y ∷ xs) h
one-open y kept whats false false f h = h
one-open y kept whats true false f h = absurd (cc)
one-open y kept whats false true f h = absurd (cc)

module _ (s : Setup) (plan : List FateRow) (w v : World) (n : ℕ) (e : Happening) (done : v.done ≡ e ∷ w.done)
    (stays : (m : ℕ) (what : What) (incoming : Incoming) → incoming_of w m what ≡ Some incoming → incoming_of v m what ≡ Some incoming) where
  mark-stays : (from : ℕ) (x : code.Incoming) (waiting : Waiting) → IsMarkOf w from x waiting → IsMarkOf v from x waiting
  mark-stays from x (Copy index) is = is
  mark-stays from x (Mark phase) is = marks-stay (mark_of w from phase) (mark_of v from phase) x (stays n (events.Mark from phase)) is

  abbrev pub took : ℕ → ℕ
  took from = length (entry_by from n e.place.node e.what)

  -- what became of a link
  pub data IsLinkAfter (from : ℕ) (l new : LinkFrom) : Type 0 where
    quiet : sent_by from n e ≡ [] → v.frames from n ≡ w.frames from n → new ≡ less (took from) l → IsLinkAfter from l new
    framed : (fate : Fate) (m : Message) → sent_by from n e ≡ Sending.Frame ∷ [] → v.frames from n ≡ m ∷ w.frames from n → fate ≡ fate_of plan from n (l.link.frames + 1)
        → new ≡ link_with fate m (less (took from) l) → IsLinkAfter from l new
    sent_mark : (phase tick : ℕ) → sent_by from n e ≡ Sending.Mark phase ∷ [] → v.frames from n ≡ w.frames from n → option_map (λ (m : SentMark). m.tick) (mark_of v from phase) ≡ Some tick
        → new ≡ mark_with phase tick (less (took from) l) → IsLinkAfter from l new

  link-is : (from : ℕ) (ss : List Sending) → sent_by from n e ≡ ss
      → link_of plan from n v.done ≡ link_after (fate_of plan from n) ss (link_less (took from) (link_of plan from n w.done))
  link-is from ss is =
      ap (link_of plan from n) done
      ∙ ap (λ (x : List Sending). link_after (fate_of plan from n) x (link_less (took from) (link_of plan from n w.done))) is

  less-is : (from : ℕ) (l : LinkFrom) → IsLink plan w from n l → plain_link (less (took from) l).link ≡ link_less (took from) (link_of plan from n w.done)
  less-is from l is = plain-less (took from) l.link ∙ ap (link_less (took from)) is.waits

  less-frames : (from : ℕ) (l : LinkFrom) → IsLink plan w from n l → CarriesFrames (map received.Frame (w.frames from n)) (less (took from) l).link
  less-frames from l is = less-carried (took from) (map received.Frame (w.frames from n)) l.link is.frames

  less-marks : (from : ℕ) (l : LinkFrom) → IsLink plan w from n l → All (λ d. IsMarkOf v from d.received d.waiting) (drop (took from) l.link.queue)
  less-marks from l is =
      All-more (λ (d : Entry code.Incoming). IsMarkOf w from d.received d.waiting) (λ (d : Entry code.Incoming). IsMarkOf v from d.received d.waiting) (drop (took from) l.link.queue)
      (λ d. mark-stays from d.received d.waiting)
      (all-dropped (λ (d : Entry code.Incoming). IsMarkOf w from d.received d.waiting) (took from) l.link.queue is.marks)

  pub quiet-link : (from : ℕ) (l : LinkFrom) → IsLink plan w from n l → sent_by from n e ≡ [] → v.frames from n ≡ w.frames from n → IsLink plan v from n (less (took from) l)
  quiet-link from l is none same = record {
    from_is = is.from_is;
    waits = less-is from l is ∙ sym (link-is from [] none);
    frames = subst (λ (xs : List Message). CarriesFrames (map received.Frame xs) (less (took from) l).link) (sym same) (less-frames from l is);
    marks = less-marks from l is;
  }

  marked-tick : (o : Option SentMark) (tick : ℕ) → option_map (λ (m : SentMark). m.tick) o ≡ Some tick → option_map (λ (m : SentMark). received.Mark m.tick) o ≡ Some (received.Mark tick)
  marked-tick None tick f = absurd (cc)
  marked-tick (Some m) tick f = let same : m.tick ≡ tick = cc in ap (λ (t : ℕ). Some (received.Mark t)) same

  pub mark-link : (from phase tick : ℕ) (l : LinkFrom) → IsLink plan w from n l → sent_by from n e ≡ Sending.Mark phase ∷ [] → v.frames from n ≡ w.frames from n
      → option_map (λ (m : SentMark). m.tick) (mark_of v from phase) ≡ Some tick → IsLink plan v from n (mark_with phase tick (less (took from) l))
  mark-link from phase tick l is one same there = record {
    from_is = is.from_is;
    waits = plain-mark phase (received.Mark tick) (less (took from) l).link ∙ ap (links.mark_sent phase) (less-is from l is) ∙ sym (link-is from (Sending.Mark phase ∷ []) one);
    frames =
        subst (λ (xs : List Message). CarriesFrames (map received.Frame xs) (mark_with phase tick (less (took from) l)).link) (sym same)
        (mark-carried phase (received.Mark tick) (map received.Frame (w.frames from n)) (less (took from) l).link (less-frames from l is));
    marks =
        All-append (λ (d : Entry code.Incoming). IsMarkOf v from d.received d.waiting) (drop (took from) l.link.queue) (carried_mark (received.Mark tick) phase ∷ [])
        (less-marks from l is)
        (All-cons (λ (d : Entry code.Incoming). IsMarkOf v from d.received d.waiting) (carried_mark (received.Mark tick) phase) [] (marked-tick (mark_of v from phase) tick there)
        (All-nil (λ (d : Entry code.Incoming). IsMarkOf v from d.received d.waiting)));
  }

  copies-free : {A : Type 0} (f : A → Entry code.Incoming) → ((a : A) → (x : ℕ) × ((f a).waiting ≡ Copy x)) → (from : ℕ) (xs : List A) → All (λ (d : Entry code.Incoming). IsMarkOf v from d.received d.waiting) (map f xs)
  copies-free f copies from [] = All-nil (λ (d : Entry code.Incoming). IsMarkOf v from d.received d.waiting)
  copies-free f copies from (a ∷ xs) =
      All-cons (λ (d : Entry code.Incoming). IsMarkOf v from d.received d.waiting) (f a) (map f xs)
      (subst (λ (x : Waiting). IsMarkOf v from (f a).received x) (sym (copies a).1) tt) (copies-free f copies from xs)

  pub frame-link : (from : ℕ) (fate : Fate) (m : Message) (l : LinkFrom) → IsLink plan w from n l → sent_by from n e ≡ Sending.Frame ∷ [] → v.frames from n ≡ m ∷ w.frames from n
      → fate ≡ fate_of plan from n (l.link.frames + 1) → IsLink plan v from n (link_with fate m (less (took from) l))
  frame-link from fate m l is one more fits =
      let r = received.Frame m in
      let k = less (took from) l in
      let later = k.link.later ++ map (later_copy r) (links.later_of (k.link.frames + 1) fate) in
      record {
        from_is = is.from_is;
        waits =
            plain-frame fate r k.link
            ∙ ap (links.frame_sent fate) (less-is from l is)
            ∙ ap (λ (f : Fate). links.frame_sent f (link_less (took from) (link_of plan from n w.done))) (fits ∙ ap (λ (x : links.Link). fate_of plan from n (x.frames + 1)) is.waits)
            ∙ sym (link-is from (Sending.Frame ∷ []) one);
        frames =
            subst (λ (xs : List Message). CarriesFrames (map received.Frame xs) (link_with fate m k).link) (sym more)
            (frame-carried fate r (map received.Frame (w.frames from n)) k.link (less-frames from l is));
        marks =
            All-append (λ (d : Entry code.Incoming). IsMarkOf v from d.received d.waiting) (drop (took from) l.link.queue) (map (copy_of r) (in_place (k.link.frames + 1) fate) ++ falling (k.link.frames + 1) later)
            (less-marks from l is)
            (All-append (λ (d : Entry code.Incoming). IsMarkOf v from d.received d.waiting) (map (copy_of r) (in_place (k.link.frames + 1) fate)) (falling (k.link.frames + 1) later)
            (copies-free (copy_of r) (λ a. (a, refl)) from (in_place (k.link.frames + 1) fate))
            (copies-free (λ (c : Later code.Incoming). copy_of c.received c.index) (λ c. (c.index, refl)) from (filter (λ (c : Later code.Incoming). c.behind == k.link.frames + 1) later)));
      }

  pub link-after : (from : ℕ) (l new : LinkFrom) → IsLink plan w from n l → IsLinkAfter from l new → IsLink plan v from n new
  link-after from l new is (quiet none same are) = subst (IsLink plan v from n) (sym are) (quiet-link from l is none same)
  link-after from l new is (framed fate m one more fits are) = subst (IsLink plan v from n) (sym are) (frame-link from fate m l is one more fits)
  link-after from l new is (sent_mark phase tick one same there are) = subst (IsLink plan v from n) (sym are) (mark-link from phase tick l is one same there)

  module _ {P : Type 0} (wants : P → Want) (becomes : P → Option Reply → P) (made : ℕ → ℕ → Option P) where
    open-one : (x : Noted P) → nodes.Stands wants becomes (made n) (given s n) x (v.nodes n) → (y : Notice) → IsNoticeOf v n y → is_open_notice x y ≡ turns.is_enabled s v n (notice_what y)
    open-one x stands y is =
        enabled-stands wants becomes (made n) (given s n) x (v.nodes n) stands (notice_what y) (notice_incoming y)
        ∙ ap (turns.is_enabled_by (given s n) (v.nodes n) (notice_what y)) (sym is)

    open-are : (x : Noted P) → nodes.Stands wants becomes (made n) (given s n) x (v.nodes n) → (ys : List Notice) → All (IsNoticeOf v n) ys
        → map notice_what (open_ones x ys) ≡ filter (turns.is_enabled s v n) (map notice_what ys)
    open-are x stands [] all = refl
    open-are x stands (y ∷ ys) all =
        one-open y (open_ones x ys) (filter (turns.is_enabled s v n) (map notice_what ys)) (is_open_notice x y) (turns.is_enabled s v n (notice_what y))
        (open-one x stands y (All-head (IsNoticeOf v n) y ys all)) (open-are x stands ys (All-tail (IsNoticeOf v n) y ys all))

    -- the notices after the event: of what was left and what came, those whose call is open
    pub record AreNoticesAfter (x : Noted P) (old new : List Notice) : Type 0 where
      pub kept : List Notice
      pub came : List Notice
      pub kept_are : map notice_what kept ≡ filter (λ y. not (is_done_by n e y)) (map notice_what old)
      pub kept_told : All (IsNoticeOf w n) kept
      pub came_are : map notice_what came ≡ notices_by plan v n e w.done
      pub came_told : All (IsNoticeOf v n) came
      pub new_are : new ≡ open_ones x (kept ++ came)

    -- a node after the event
    pub record IsStationAfter {G : Type 0} (old new : Station P G) : Type 0 where
      pub node : nodes.Stands wants becomes (made n) (given s n) new.node (v.nodes n)
      pub log : new.node.log ≡ record { node = n; events = reverse (events_of n v.done) }
      pub many : length new.ins.items ≡ length old.ins.items
      pub silent : (from : ℕ) → s.opening.nodes < from → sent_by from n e ≡ []
      pub links : (k : ℕ) (l : LinkFrom) → slice_get new.ins.items k ≡ Some l → (o : LinkFrom) × (slice_get old.ins.items k ≡ Some o) × IsLinkAfter (k + 1) o l
      pub notices : AreNoticesAfter new.node old.notices.items new.notices.items
      pub listed : IsListed new

    module _ {G : Type 0} (kept-so : open_notices s plan v n ≡ notices_kept s plan w v n e) (old new : Station P G) (is : IsStation wants becomes made s plan w n old) (after : IsStationAfter old new) where
      both-told : All (IsNoticeOf v n) (after.notices.kept ++ after.notices.came)
      both-told =
          All-append (IsNoticeOf v n) after.notices.kept after.notices.came
          (All-more (IsNoticeOf w n) (IsNoticeOf v n) after.notices.kept (λ y told. stays n (notice_what y) (notice_incoming y) told) after.notices.kept_told)
          after.notices.came_told

      notices-are : map notice_what new.notices.items ≡ open_notices s plan v n
      notices-are =
          ap (map notice_what) after.notices.new_are
          ∙ open-are new.node after.node (after.notices.kept ++ after.notices.came) both-told
          ∙ ap (filter (turns.is_enabled s v n))
          (map-append notice_what after.notices.kept after.notices.came
          ∙ ap (λ (xs : List What). xs ++ map notice_what after.notices.came) (after.notices.kept_are ∙ ap (filter (λ y. not (is_done_by n e y))) is.notices)
          ∙ ap (λ (xs : List What). filter (λ y. not (is_done_by n e y)) (open_notices s plan w n) ++ xs) after.notices.came_are)
          ∙ sym kept-so

      told-are : All (IsNoticeOf v n) new.notices.items
      told-are =
          subst (All (IsNoticeOf v n)) (sym after.notices.new_are)
          (All-filter (is_open_notice new.node) (IsNoticeOf v n) (after.notices.kept ++ after.notices.came) both-told)

      pub station-after : IsStation wants becomes made s plan v n new
      station-after = record {
        node = after.node;
        log = after.log;
        links = after.many ∙ is.links;
        silent = λ from above. ap (sendings from n) done ∙ ap (λ (xs : List Sending). xs ++ sendings from n w.done) (after.silent from above) ∙ is.silent from above;
        link = λ k l there. let o = after.links k l there in link-after (k + 1) o.0 l (is.link k o.0 o.1) o.2;
        notices = notices-are;
        told = told-are;
        listed = after.listed;
      }
