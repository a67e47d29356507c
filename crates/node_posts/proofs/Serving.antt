-- A post stays served as its node does one event more.
use Rattle.std.proofs.Common.{◌≡◌, ◌≢◌, ℕ, ◌+◌, ◌<◌, ◌≤◌, Bool, true, false, cond, List, [], ◌∷◌, ◌++◌, length, map, Option, Some, None, IfSome, inl, inr, refl, sym, ap, subst, ◌∙◌, append_assoc, append-nil, arith}
use Rattle.std.specs.Prelude.{◌==◌, ◌&&◌, ◌^◌, slice_get}
use Rattle.std.specs.List.{AllByRecursion}
use Rattle.std.proofs.lemmas.Bool.{cases_eq, eq-eqb, ne_eqb}
use Rattle.std.proofs.lemmas.List.{map-append}
use Rattle.std.proofs.lemmas.Option.{same_Some}
use Rattle.uid_names.proofs.ListLemmas.{by_cases}
use Rattle.uid_names.proofs.Passed.{equal}
use Rattle.dom_history.specs.declared.op.Reply.{Reply}
use Rattle.dom_history.specs.declared.op.Want.{Want}
use Rattle.dom_history.specs.declared.event.What.{What}
use Rattle.dom_history.specs.declared.event.What.TheVariants.{Begin, Go, Take, Notice, Ready, Mark}
use Rattle.dom_history.specs.declared.event.Sent.{Sent}
use Rattle.dom_history.specs.declared.plan.FateRow.{FateRow}
use Rattle.dom_history.specs.Events.{Happening}
use Rattle.dom_history.specs.Plans.{IsPlan}
use Rattle.ring_messages.specs.Frames.{Message}
use Rattle.ring_messages.specs.Spelled.{IsFrame}
use Rattle.node_runs.specs.Setups.{Setup, given}
use Rattle.node_runs.specs.Incomings.{Incoming}
use Rattle.node_runs.specs.Outcomes.{Stepped}
use Rattle.node_runs.specs.Runs.{World, SentMark, numbered, marked, mark_of}
use Rattle.node_runs.specs.Deliveries.{noticed_by, noticed_in}
use Rattle.world_runs.specs.Gone.{FrameName}
use Rattle.world_runs.specs.Sendings.{Sending, sent_by, sendings, frames_in}
use Rattle.world_runs.specs.Waiting.{Entry, entry_by, entries_taken, entries_put}
use Rattle.world_runs.proofs.Alike.{marked_by, marks-marked}
use Rattle.ring_links.specs.declared.entry.Entry as link-entry
use Rattle.ring_links.specs.declared.notice.Notice as notice
use Rattle.ring_links.specs.Carried as links
use Rattle.local_runs.specs.LocalRuns.{Own, events_in, own_event, own_world, IsLocalRun}
use Rattle.node_core.specs.declared.setup.Incoming as code
use Rattle.node_core.specs.declared.setup.Emitted.{Emitted}
use Rattle.node_core.specs.Receivings.{mark_in, emitted_by}
use Rattle.node_core.proofs.Sends.{Sends, nothing, mark, frame}
use Rattle.wire_links.specs.declared.carried.Carried.{Carried}
use Rattle.wire_links.specs.Carrying.{Posting, sending_of, frames_of, IsPosted}
use Rattle.local_runs.specs.Posts.{Serving, count_if, words_in, times_in, times_named, Came, IsHeard, IsServed}
use Rattle.local_runs.proofs.Marks.{marks_posted, marks-once}
use Rattle.node_posts.specs.Sending.{posting_if, posted, own_after}
use Rattle.node_posts.specs.Posts.{IsNoticeHere, frame_name, IsOwnLink}
use Rattle.node_posts.proofs.Sends.{emits-frame, posted-none, posted-mark, posted-frame, posted-sent, posted-frames}
use Rattle.node_posts.proofs.OwnLink.{IsOwnAfter, own-link-after}
use Rattle.node_posts.proofs.Telling.{grown}
use Rattle.node_posts.proofs.Coming.{IsLater, came-later, all-came-later}

-- an event receives this, so that this much came out of the rings, and these wait on the node's own link and of its notices
pub record Receives (nodes : ℕ) (plan : List FateRow) (wire n : ℕ) (p : Serving) (rest : List Entry) (ins : ℕ → List Carried) (queue : List (link-entry.Entry code.Incoming)) (xs : List notice.Notice) (what : What) (incoming : Incoming) : Type 0 where
  pub more : (from : ℕ) → (more : List Carried) × (ins from ≡ p.ins from ++ more)
  pub now : Came plan n (record p { ins = ins }) what incoming
  pub takes : (from : ℕ) → from ≢ n → IsHeard wire from n (ins from) (entries_taken from n (events_in p.own) ++ entry_by from n n what)
  pub told : (f : FrameName) → f.0 ≢ n → times_named f (noticed_by what ++ noticed_in (events_in p.own)) ≤ times_in f.2 (words_in (ins f.0))
  pub taken : rest ≡ entry_by n n n what ++ map (λ e. links.plain_name e.waiting) queue
  pub each : AllByRecursion (IsNoticeHere nodes plan n p.world) xs
  pub once : (f : FrameName) → f.0 ≡ n → times_named f (noticed_by what ++ noticed_in (events_in p.own)) + times_named f (map frame_name xs) ≤ 1

-- the post after the event
abbrev pub serving_after : ℕ → Serving → (ℕ → List Carried) → What → Incoming → Stepped → Serving
serving_after n p ins what incoming st =
    record {
      own = own_event n what incoming st ∷ p.own;
      world = own_world n p.world what st;
      ins = ins;
      outs = λ to. posted st.node.tick to (emitted_by what st) ++ p.outs to;
    }

posted-counted : (phase tick : ℕ) (xs : List Posting) → IsPosted (Posting.Mark phase tick) xs → 1 ≤ marks_posted phase xs
posted-counted phase tick [] is = absurd is
posted-counted phase tick (Posting.Frame m ∷ xs) (inl e) = absurd (cc)
posted-counted phase tick (Posting.Frame m ∷ xs) (inr is) = posted-counted phase tick xs is
posted-counted phase tick (Posting.Mark k t ∷ xs) (inl e) =
    let same : phase ≡ k = cc in
    let one = ap count_if (eq-eqb phase k same) in
    omega (arith, one)
posted-counted phase tick (Posting.Mark k t ∷ xs) (inr is) = let e = posted-counted phase tick xs is in omega (arith, e)

unmarked-by : (n t from phase : ℕ) (what : What) (o : Option SentMark) → mark_in what ≡ None → marked_by n t what from phase o ≡ o
unmarked-by n t from phase (Begin p) o h = refl
unmarked-by n t from phase (Go p) o h = refl
unmarked-by n t from phase (Take a k) o h = refl
unmarked-by n t from phase (Notice p a b k) o h = refl
unmarked-by n t from phase (Ready k) o h = absurd (cc)
unmarked-by n t from phase (Mark a k) o h = refl

module _ (s : Setup) (plan : List FateRow) (kept : IsPlan plan) (n : ℕ) (p : Serving) (served : IsServed s plan n p) (what : What) (incoming : Incoming) (st : Stepped) (sends : Sends n what st)
    (run : IsLocalRun s n (own_event n what incoming st ∷ p.own) (own_world n p.world what st)) (spelt : IfSome (emitted_by what st).frame (λ sent. IsFrame sent.1)) (versions : IfSome st.frame (λ m. m.version ≡ s.wire)) where
  abbrev w : World
  w = p.world

  abbrev v : World
  v = own_world n w what st

  abbrev es : List Happening
  es = events_in p.own

  abbrev e : Happening
  e = (own_event n what incoming st).event

  abbrev tick : ℕ
  tick = st.node.tick

  abbrev outs : ℕ → List Posting
  outs to = posted tick to (emitted_by what st) ++ p.outs to

  -- what was sent
  sent-next : (to : ℕ) → to ≢ n → map sending_of (outs to) ≡ sendings n to (e ∷ es)
  sent-next to away =
      map-append sending_of (posted tick to (emitted_by what st)) (p.outs to)
      ∙ (ap (λ (ss : List Sending). ss ++ map sending_of (p.outs to)) (posted-sent n tick what incoming st refl to away sends)
      ∙ ap (λ (ss : List Sending). sent_by n to e ++ ss) (served.sent to away))

  frames-next : (to : ℕ) → to ≢ n → frames_of (outs to) ≡ v.frames n to
  frames-next to away = posted-frames n tick what incoming st refl w to (p.outs to) sends (served.frames to away)

  abbrev IsOfLink : ℕ → Message → Type 0
  IsOfLink to m = (m.from ≡ n) × (m.to ≡ to) × IsFrame m × (m.version ≡ s.wire)

  newest : (b : Bool) (to k : ℕ) (m x : Message) (xs : List Message) → (IsOfLink to m) → (numbered k xs ≡ Some x → IsOfLink to x) → cond b (Some m) (numbered k xs) ≡ Some x → IsOfLink to x
  newest true to k m x xs is before found = subst (IsOfLink to) (same_Some m x found) is
  newest false to k m x xs is before found = before found

  by-frame : (b : Bool) (to k : ℕ) (m x : Message) (xs : List Posting) → (b ≡ true → IsOfLink to m) → (numbered k (frames_of xs) ≡ Some x → IsOfLink to x)
      → numbered k (frames_of (posting_if b m ++ xs)) ≡ Some x → IsOfLink to x
  by-frame true to k m x xs is before found = newest (k == length (frames_of xs) + 1) to k m x (frames_of xs) (is refl) before found
  by-frame false to k m x xs is before found = before found

  links-next : Sends n what st → (to : ℕ) → to ≢ n → (k : ℕ) (m : Message) → numbered k (frames_of (outs to)) ≡ Some m → IsOfLink to m
  links-next (nothing unmarked none nowhere) to away k m found =
      served.links to away k m (ap (λ (ys : List Posting). numbered k (frames_of (ys ++ p.outs to))) (sym (posted-none n tick what incoming st refl to unmarked none)) ∙ found)
  links-next (mark phase is none nowhere) to away k m found =
      served.links to away k m (ap (λ (ys : List Posting). numbered k (frames_of (ys ++ p.outs to))) (sym (posted-mark n tick what incoming st refl to phase is)) ∙ found)
  links-next (frame f x unmarked is sent from goes) to away k m found =
      by-frame (to == f.to) to k f m (p.outs to)
      (λ h. (from, sym (equal to f.to h), subst (λ (o : Option (ℕ × Message)). IfSome o (λ y. IsFrame y.1)) (emits-frame what st f x is sent) spelt, subst (λ (o : Option Message). IfSome o (λ m. m.version ≡ s.wire)) is versions))
      (served.links to away k m)
      (ap (λ (ys : List Posting). numbered k (frames_of (ys ++ p.outs to))) (sym (posted-frame n tick what incoming st refl to f x unmarked is sent)) ∙ found)

  -- and each mark with its tick
  mark-is : (phase : ℕ) → mark_of v n phase ≡ marked_by n tick what n phase (mark_of w n phase)
  mark-is phase = marks-marked w e.place what st n phase

  no-mark : (phase t to : ℕ) → to ≢ n → mark_in what ≡ None → IsPosted (Posting.Mark phase t) (p.outs to) → marked (mark_of v n phase) ≡ Some (Incoming.Mark t)
  no-mark phase t to away unmarked is = ap marked (mark-is phase ∙ unmarked-by n tick n phase what (mark_of w n phase) unmarked) ∙ served.marks to away phase t is

  not-framed : (b : Bool) (phase t : ℕ) (m : Message) (xs : List Posting) → IsPosted (Posting.Mark phase t) (posting_if b m ++ xs) → IsPosted (Posting.Mark phase t) xs
  not-framed true phase t m xs (inl f) = absurd (cc)
  not-framed true phase t m xs (inr is) = is
  not-framed false phase t m xs is = is

  by-mark : (k phase t to : ℕ) → to ≢ n → what ≡ Ready k → (b : Bool) → (k == phase) ≡ b → (Posting.Mark k tick ≡ Posting.Mark phase t → tick ≡ t)
      → (IsPosted (Posting.Mark phase t) (p.outs to) → b ≡ true → ⊥) → IsPosted (Posting.Mark phase t) (Posting.Mark k tick ∷ p.outs to) → marked (mark_of v n phase) ≡ Some (Incoming.Mark t)
  by-mark k phase t to away is true same ticks apart (inl here) =
      ap marked (mark-is phase ∙ (ap (λ (x : What). marked_by n tick x n phase (mark_of w n phase)) is
      ∙ (ap (λ (b : Bool). cond (b && (k == phase)) (Some (record { node = n; phase = k; tick = tick })) (mark_of w n phase)) (eq-eqb n n refl)
      ∙ ap (λ (b : Bool). cond b (Some (record { node = n; phase = k; tick = tick })) (mark_of w n phase)) same)))
      ∙ ap (λ (i : ℕ). Some (Incoming.Mark i)) (ticks here)
  by-mark k phase t to away is false same ticks apart (inl here) = absurd (let f : k ≡ phase = cc in let g = eq-eqb k phase f in cc)
  by-mark k phase t to away is true same ticks apart (inr before) = absurd (apart before refl)
  by-mark k phase t to away is false same ticks apart (inr before) =
      ap marked (mark-is phase ∙ (ap (λ (x : What). marked_by n tick x n phase (mark_of w n phase)) is
      ∙ (ap (λ (b : Bool). cond (b && (k == phase)) (Some (record { node = n; phase = k; tick = tick })) (mark_of w n phase)) (eq-eqb n n refl)
      ∙ ap (λ (b : Bool). cond b (Some (record { node = n; phase = k; tick = tick })) (mark_of w n phase)) same)))
      ∙ served.marks to away phase t before

  mark-tick : (k a phase b : ℕ) → Posting.Mark k a ≡ Posting.Mark phase b → a ≡ b
  mark-tick k a phase b same = cc

  once-only : (k phase t to : ℕ) → to ≢ n → what ≡ Ready k → IsPosted (Posting.Mark phase t) (p.outs to) → (k == phase) ≡ true → ⊥
  once-only k phase t to away is before same =
      let few = marks-once s n to phase (own_event n what incoming st ∷ p.own) v (outs to) run (sent-next to away) in
      let all = ap (λ (ys : List Posting). marks_posted phase (ys ++ p.outs to)) (posted-mark n tick what incoming st refl to k is) in
      let one = ap count_if (eq-eqb phase k (sym (equal k phase same))) in
      let some = posted-counted phase t (p.outs to) before in
      absurd (omega (arith, few, all, one, some))

  marks-next : Sends n what st → (to : ℕ) → to ≢ n → (phase t : ℕ) → IsPosted (Posting.Mark phase t) (outs to) → marked (mark_of v n phase) ≡ Some (Incoming.Mark t)
  marks-next (nothing unmarked none nowhere) to away phase t is =
      no-mark phase t to away unmarked (subst (λ (ys : List Posting). IsPosted (Posting.Mark phase t) (ys ++ p.outs to)) (posted-none n tick what incoming st refl to unmarked none) is)
  marks-next (frame f x unmarked found sent from goes) to away phase t is =
      no-mark phase t to away unmarked
      (not-framed (to == f.to) phase t f (p.outs to) (subst (λ (ys : List Posting). IsPosted (Posting.Mark phase t) (ys ++ p.outs to)) (posted-frame n tick what incoming st refl to f x unmarked found sent) is))
  marks-next (mark k ready none nowhere) to away phase t is =
      by-mark k phase t to away ready (k == phase) refl (mark-tick k tick phase t) (once-only k phase t to away ready)
      (subst (λ (ys : List Posting). IsPosted (Posting.Mark phase t) (ys ++ p.outs to)) (posted-mark n tick what incoming st refl to k ready) is)

  -- all of it
  module _ (ins : ℕ → List Carried) (queue : List (link-entry.Entry code.Incoming)) (xs : List notice.Notice) (link : links.Carrying code.Incoming) (queue_is : link.queue ≡ queue) (own : IsOwnLink s.wire n w link)
      (gets : Receives s.opening.nodes plan s.wire n p served.own_rest ins queue xs what incoming) (ticks : (m : Message) → st.frame ≡ Some m → m.tick ≡ tick)
      (counted : length (w.frames n n) ≡ frames_in (sendings n n es)) where
    abbrev after : Serving
    after = serving_after n p ins what incoming st

    abbrev taken : List Entry
    taken = entries_taken n n es ++ entry_by n n n what

    put : entries_put plan n n es ≡ taken ++ map (λ e. links.plain_name e.waiting) link.queue
    put =
        served.own_link ∙ (ap (λ (rest : List Entry). entries_taken n n es ++ rest) gets.taken
        ∙ (sym (append_assoc (entries_taken n n es) (entry_by n n n what) (map (λ (e : link-entry.Entry code.Incoming). links.plain_name e.waiting) queue))
        ∙ ap (λ (q : List (link-entry.Entry code.Incoming)). taken ++ map (λ e. links.plain_name e.waiting) q) (sym queue_is)))

    pub own-next : IsOwnAfter plan s.wire n tick e es taken v (own_after n (emitted_by what st) link)
    own-next = own-link-after plan kept s.wire n w es what incoming st counted link own taken put sends ticks versions

    later-all : IsLater n p after
    later-all = record { ins = gets.more; frames = grown n w what incoming st sends }

    later-now : IsLater n (record p { ins = ins }) after
    later-now = record { ins = λ from. ([], sym (append-nil (ins from))); frames = grown n w what incoming st sends }

    pub served-next : IsServed s plan n after
    served-next = record {
      run = run;
      came = (came-later plan n (record p { ins = ins }) after later-now what incoming gets.now, all-came-later plan n p after later-all p.own served.came);
      takes = gets.takes;
      told = gets.told;
      own_rest = map (λ e. links.plain_name e.waiting) (own_after n (emitted_by what st) link).queue;
      own_link = own-next.put;
      own_told = λ f at. (let a = gets.once f at in omega (arith, a));
      sent = sent-next;
      frames = frames-next;
      links = λ to away k m found. links-next sends to away k m found;
      marks = λ to away phase t is. marks-next sends to away phase t is;
    }

    pub rest-next : served-next.own_rest ≡ map (λ e. links.plain_name e.waiting) (own_after n (emitted_by what st) link).queue
    unfolding served-next
    rest-next = refl
