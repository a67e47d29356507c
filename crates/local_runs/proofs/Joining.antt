-- Served posts are local runs, matched and delivered.
use Rattle.std.proofs.Common.{◌≡◌, ◌≢◌, ℕ, ◌≤◌, Bool, true, false, cond, List, [], ◌∷◌, ◌++◌, length, drop, Some, inl, inr, refl, sym, ap, subst, ◌∙◌, arith}
use Rattle.std.specs.Prelude.{◌==◌, ◌&&◌, IsTrue}
use Rattle.std.specs.List.{AllByRecursion}
use Rattle.std.proofs.lemmas.Bool.{cases_eq, eq-eqb}
use Rattle.std.proofs.lemmas.List.Elements.{recursion_from_All}
use Rattle.std.proofs.Math.Seq.{drop-append_seam}
use Rattle.uid_names.proofs.ListLemmas.{by_cases}
use Rattle.uid_names.specs.Names.{ProcName, same_proc}
use Rattle.uid_names.proofs.Passed.{equal}
use Rattle.dom_history.specs.declared.event.What.{What}
use Rattle.dom_history.specs.declared.event.What.TheVariants.{Begin, Go, Take, Notice, Ready, Mark}
use Rattle.dom_history.specs.declared.plan.FateRow.{FateRow}
use Rattle.dom_history.specs.Objects.{is_node}
use Rattle.dom_history.specs.Plans.{fate_of}
use Rattle.ring_messages.specs.Frames.{Message, caller_of}
use Rattle.ring_messages.specs.Bodies.{is_request}
use Rattle.ring_messages.specs.Spelling.{spelling}
use Rattle.ring_messages.specs.Spelled.{Spells}
use Rattle.node_runs.specs.Setups.{Setup}
use Rattle.node_runs.specs.Incomings.{Incoming}
use Rattle.node_runs.specs.Runs.{World, numbered, taken, told_if, told_of, marked, mark_of, incoming_of}
use Rattle.node_runs.specs.Deliveries.{is_gone, noticed_by, noticed_in}
use Rattle.world_runs.specs.Gone.{FrameName}
use Rattle.world_runs.specs.Waiting.{Entry, entries, entries_put, entries_taken}
use Rattle.world_runs.proofs.Telling.{once-pairs}
use Rattle.ring_links.specs.declared.entry.Entry as carried-entry
use Rattle.ring_links.specs.declared.entry.Waiting.TheVariants as waiting
use Rattle.ring_links.specs.Carried.{IsFrameOf}
use Rattle.local_runs.specs.LocalRuns.{Own, events_in, sender_of, IsMatched, AreLocalRuns, AreDelivered}
use Rattle.wire_links.specs.declared.carried.Parcel.{Parcel}
use Rattle.wire_links.specs.declared.carried.Parcel.TheVariants as parcel
use Rattle.wire_links.specs.declared.carried.Carried.{Carried}
use Rattle.wire_links.specs.declared.carried.Carried.TheVariants as carried
use Rattle.wire_links.specs.Carrying.{wire_after, frames_of, parcels_of, kept, names_of, IsWordOf}
use Rattle.wire_links.proofs.Keeping.{names-after, carries-after}
use Rattle.wire_links.proofs.Words.{words-after}
use Rattle.local_runs.specs.Posts.{Serving, IsIn, words_in, times_in, times_named, CameAsFrame, CameAsWord, CameAsMark, Came, IsHeard, IsServed, Numbered, idle, post_of, own_of, world_at, IsPrefix, AreServed}
use Rattle.local_runs.proofs.Counting.{words-prefix, words-once, are-once}
use Rattle.local_runs.proofs.Hearing.{times_marked, marks-prefix, marks-put, IsGood, good-entry, all-heard}
use Rattle.local_runs.proofs.Marks.{marks-once}
use Rattle.local_runs.proofs.Members.{in-append, all-in, in-kept, names-append, numbered-map}

module _ (s : Setup) (plan : List FateRow) where
  abbrev pub idle-served : (n : ℕ) → IsServed s plan n (idle s)
  idle-served n = record {
    run = record { node = tt; run = refl; done = refl };
    came = tt;
    takes = λ from other. IsHeard.nothing;
    told = λ f other. omega arith;
    own_rest = [];
    own_link = refl;
    own_told = λ f own. omega arith;
    sent = λ to other. refl;
    frames = λ to other. refl;
    links = λ to other k m found. absurd (cc);
    marks = λ to other phase tick posted. absurd posted;
  }

  served-at : (posts : List Numbered) → AllByRecursion (λ p. IsServed s plan p.node p.post) posts → (n : ℕ) → IsServed s plan n (post_of s posts n)
  served-at [] all n = idle-served n
  served-at (p ∷ posts) all n =
      by_cases (p.node == n) (IsServed s plan n (post_of s (p ∷ posts) n))
      (λ h. subst (λ (b : Bool). IsServed s plan n (cond b p.post (post_of s posts n))) (sym h) (subst (λ m. IsServed s plan m p.post) (equal p.node n h) all.0))
      (λ h. subst (λ (b : Bool). IsServed s plan n (cond b p.post (post_of s posts n))) (sym h) (served-at posts all.1 n))

  -- what is no node did nothing
  nothing-at : (posts : List Numbered) → AllByRecursion (λ p. is_node s.opening p.node ≡ true) posts → (n : ℕ) → is_node s.opening n ≡ false → own_of s posts n ≡ []
  nothing-at [] all n away = refl
  nothing-at (p ∷ posts) all n away =
      by_cases (p.node == n) (own_of s (p ∷ posts) n ≡ [])
      (λ h. absurd (let e : is_node s.opening n ≡ true = subst (λ m. is_node s.opening m ≡ true) (equal p.node n h) all.0 in cc))
      (λ h. subst (λ (b : Bool). (cond b p.post (post_of s posts n)).own ≡ []) (sym h) (nothing-at posts all.1 n away))

pub told-same : (m : Message) (p : ProcName) → caller_of m ≡ p → told_of p (Some m) ≡ Some (Incoming.Gone m.number m.tick)
told-same m p same =
    ap (λ (b : Bool). told_if b m)
    (ap (λ (q : ProcName). same_proc q p) same ∙ ap (λ (b : Bool). b && (p.number == p.number)) (eq-eqb p.node p.node refl) ∙ eq-eqb p.number p.number refl)

reply-caller : (m : Message) (n proc : ℕ) → is_request m.body ≡ false → m.to ≡ n → m.proc ≡ proc → caller_of m ≡ record { node = n; number = proc }
reply-caller m n proc reply to same =
    ap (λ (b : Bool). let q : ProcName = record { node = cond b m.from m.to; number = m.proc } in q) reply
    ∙ (ap (λ (k : ℕ). let q : ProcName = record { node = k; number = m.proc } in q) to
    ∙ ap (λ (k : ℕ). let q : ProcName = record { node = n; number = k } in q) same)

bytes-same : (a b : List ℕ) → parcel.Frame a ≡ parcel.Frame b → a ≡ b
bytes-same a b e = cc

tick-same : (a b : ℕ) → parcel.Mark a ≡ parcel.Mark b → a ≡ b
tick-same a b e = cc

module _ (s : Setup) (plan : List FateRow) (P : ℕ → Serving) (served : (n : ℕ) → IsServed s plan n (P n))
    (rings : (from to : ℕ) → from ≢ to → IsPrefix plan from to (P from) (P to))
    (one : (m n : Message) (bytes : List ℕ) → Spells m bytes → Spells n bytes → m ≡ n) where
  abbrev put : (from to : ℕ) → List Carried
  put from to = (wire_after (fate_of plan from to) ((P from).outs to)).put

  in-put : (from to : ℕ) → from ≢ to → (c : Carried) → IsIn c ((P to).ins from) → IsIn c (put from to)
  in-put from to differ c is =
      let ring = rings from to differ in
      subst (λ (xs : List Carried). IsIn c xs) (sym ring.put) (in-append c ((P to).ins from) ring.rest is)

  word-of : (from to : ℕ) → from ≢ to → (c : Carried) → IsIn c ((P to).ins from) → IsWordOf (fate_of plan from to) ((P from).outs to) c
  word-of from to differ c is =
      all-in (IsWordOf (fate_of plan from to) ((P from).outs to)) (put from to) c
      (recursion_from_All (IsWordOf (fate_of plan from to) ((P from).outs to)) (put from to) (words-after (fate_of plan from to) ((P from).outs to)))
      (in-put from to differ c is)

  frame-matched : (from n index : ℕ) (i : Incoming) → from ≢ n → CameAsFrame (P n) from index i → taken (numbered index ((P from).world.frames from n)) ≡ Some i
  frame-matched from n index i differ is =
      let xs = (P from).outs n in
      let e : carried-entry.Entry Parcel = record { waiting = waiting.Copy index; received = parcel.Frame is.bytes } in
      let carries = carries-after (fate_of plan from n) xs in
      let at : numbered index (parcels_of xs) ≡ Some (parcel.Frame is.bytes) =
      all-in (λ (f : carried-entry.Entry Parcel). IsFrameOf (parcels_of xs) f.received f.waiting) (kept (put from n)) e
      (recursion_from_All (λ (f : carried-entry.Entry Parcel). IsFrameOf (parcels_of xs) f.received f.waiting) (kept (put from n)) carries.queue)
      (in-kept e (put from n) (in-put from n differ (carried.Put e) is.came)) in
      let found = numbered-map (λ (m : Message). parcel.Frame (spelling m)) index (frames_of xs) (parcel.Frame is.bytes) at in
      let link = (served from).links n (λ h. differ (sym h)) index found.0 found.1 in
      let same : found.0 ≡ is.frame = one found.0 is.frame is.bytes (record { frame = link.2; text = sym (bytes-same (spelling found.0) is.bytes found.2) }) is.spells in
      ap (λ (ms : List Message). taken (numbered index ms)) (sym ((served from).frames n (λ h. differ (sym h))))
      ∙ (ap taken found.1 ∙ (ap (λ (m : Message). Some (Incoming.Frame m)) same ∙ ap (λ (j : Incoming). Some j) (sym is.is)))

  word-matched : (proc from to n index : ℕ) (i : Incoming) → from ≢ n → CameAsWord n (P n) proc from to index i
      → told_of (record { node = n; number = proc }) (numbered index ((P from).world.frames from to)) ≡ Some i
  word-matched proc from to n index i differ is =
      let word = word-of from n differ (carried.Gone proc is.number index is.tick) is.came in
      let m = word.frame in
      let says : carried.Gone proc is.number index is.tick ≡ carried.Gone m.proc m.number index m.tick = word.says in
      let own : m.proc ≡ proc = cc in
      let number : m.number ≡ is.number = cc in
      let tick : m.tick ≡ is.tick = cc in
      let link = (served from).links n (λ h. differ (sym h)) index m word.sent in
      ap (λ (k : ℕ). told_of (record { node = n; number = proc }) (numbered index ((P from).world.frames from k))) is.here
      ∙ (ap (λ (ms : List Message). told_of (record { node = n; number = proc }) (numbered index ms)) (sym ((served from).frames n (λ h. differ (sym h))))
      ∙ (ap (told_of (record { node = n; number = proc })) word.sent
      ∙ (told-same m (record { node = n; number = proc }) (reply-caller m n proc word.reply link.1 own)
      ∙ (ap (λ (k : ℕ). Some (Incoming.Gone k m.tick)) number ∙ (ap (λ (t : ℕ). Some (Incoming.Gone is.number t)) tick ∙ ap (λ (j : Incoming). Some j) (sym is.is))))))

  mark-matched : (from n phase : ℕ) (i : Incoming) → from ≢ n → CameAsMark (P n) from phase i → marked (mark_of (P from).world from phase) ≡ Some i
  mark-matched from n phase i differ is =
      let word = word-of from n differ (carried.Put (record { waiting = waiting.Mark phase; received = parcel.Mark is.tick })) is.came in
      let same : word.0 ≡ is.tick = sym (tick-same is.tick word.0 word.2) in
      (served from).marks n (λ h. differ (sym h)) phase word.0 word.1
      ∙ (ap (λ (t : ℕ). Some (Incoming.Mark t)) same ∙ ap (λ (j : Incoming). Some j) (sym is.is))

  abbrev ws : ℕ → World
  ws n = (P n).world

  what-matched : (n : ℕ) (what : What) (i : Incoming) → Came plan n (P n) what i → incoming_of (ws (sender_of n what)) n what ≡ Some i
  what-matched n (Begin proc) i is = ap (λ (j : Incoming). Some j) (sym is)
  what-matched n (Go proc) i is = ap (λ (j : Incoming). Some j) (sym is)
  what-matched n (Ready phase) i is = ap (λ (j : Incoming). Some j) (sym is)
  what-matched n (Take from index) i (inl (own, is)) = subst (λ k. taken (numbered index ((P k).world.frames k n)) ≡ Some i) (sym own) is
  what-matched n (Take from index) i (inr (other, is)) = frame-matched from n index i other is
  what-matched n (Notice proc from to index) i (inl (own, is, gone)) =
      subst (λ k. told_of (record { node = n; number = proc }) (numbered index ((P k).world.frames k to)) ≡ Some i) (sym own) is
  what-matched n (Notice proc from to index) i (inr (other, is)) = word-matched proc from to n index i other is
  what-matched n (Mark from phase) i (other, is) = mark-matched from n phase i other is

  all-matched : (n : ℕ) (own : List Own) → AllByRecursion (λ x. Came plan n (P n) x.event.what x.received) own → AllByRecursion (IsMatched ws n) own
  all-matched n [] all = tt
  all-matched n (x ∷ own) all = (what-matched n x.event.what x.received all.0, all-matched n own all.1)

  notice-gone : (n : ℕ) (what : What) (i : Incoming) → Came plan n (P n) what i → (more : List FrameName) → AllByRecursion (λ f. IsTrue (is_gone (fate_of plan f.0 f.1 f.2))) more
      → AllByRecursion (λ f. IsTrue (is_gone (fate_of plan f.0 f.1 f.2))) (noticed_by what ++ more)
  notice-gone n (Begin proc) i is more all = all
  notice-gone n (Go proc) i is more all = all
  notice-gone n (Ready phase) i is more all = all
  notice-gone n (Take from index) i is more all = all
  notice-gone n (Mark from phase) i is more all = all
  notice-gone n (Notice proc from to index) i (inl (own, is, gone)) more all =
      (subst (λ k. IsTrue (is_gone (fate_of plan k to index))) (sym own) gone, all)
  notice-gone n (Notice proc from to index) i (inr (other, is)) more all =
      (subst (λ k. IsTrue (is_gone (fate_of plan from k index))) (sym is.here) (word-of from n other (carried.Gone proc is.number index is.tick) is.came).gone, all)

  all-gone : (n : ℕ) (own : List Own) → AllByRecursion (λ x. Came plan n (P n) x.event.what x.received) own
      → AllByRecursion (λ f. IsTrue (is_gone (fate_of plan f.0 f.1 f.2))) (noticed_in (events_in own))
  all-gone n [] all = tt
  all-gone n (x ∷ own) all = notice-gone n x.event.what x.received all.0 (noticed_in (events_in own)) (all-gone n own all.1)

  told-once : (n : ℕ) (f : FrameName) → times_named f (noticed_in (events_in (P n).own)) ≤ 1
  told-once n f = elim (cases_eq f.0 n) [
    | inl own ↦ (served n).own_told f own
    | inr other ↦
        let a = (served n).told f other in
        let ring = rings f.0 n other in
        let b = words-prefix f.2 ((P n).ins f.0) ring.rest in
        let c = words-once (fate_of plan f.0 n) ((P f.0).outs n) f.2 in
        let d = ap (λ (xs : List Carried). times_in f.2 (words_in xs)) ring.put in
        omega (arith, a, b, c, d)
  ]

  good-in : (from to : ℕ) → from ≢ to → (c : Carried) → IsIn c ((P to).ins from) → IsGood s.wire from to c
  good-in from to differ (carried.Gone proc number index tick) is = tt
  good-in from to differ (carried.Put e) is =
      let xs = (P from).outs to in
      good-entry s.wire from to xs (λ k m found. (served from).links to (λ h. differ (sym h)) k m found) e.waiting e.received
      (all-in (λ (f : carried-entry.Entry Parcel). IsFrameOf (parcels_of xs) f.received f.waiting) (kept (put from to)) e
      (recursion_from_All (λ (f : carried-entry.Entry Parcel). IsFrameOf (parcels_of xs) f.received f.waiting) (kept (put from to)) (carries-after (fate_of plan from to) xs).queue)
      (in-kept e (put from to) (in-put from to differ (carried.Put e) is)))
      (word-of from to differ (carried.Put e) is)

  heard-all : (from to : ℕ) → from ≢ to → entries_taken from to (events_in (P to).own) ≡ names_of ((P to).ins from)
  heard-all from to differ =
      let ring = rings from to differ in
      all-heard s.wire from to one ((P to).ins from) (entries_taken from to (events_in (P to).own)) ((served to).takes from differ) (good-in from to differ)
      (λ phase.
      let a = marks-prefix phase ((P to).ins from) ring.rest in
      let b = ap (λ (xs : List Carried). times_marked phase (names_of xs)) ring.put in
      let c = ap (times_marked phase) (names-after (fate_of plan from to) ((P from).outs to)) in
      let d = marks-put phase (fate_of plan from to) ((P from).outs to) in
      let e = marks-once s from to phase (P from).own (P from).world ((P from).outs to) (served from).run ((served from).sent to (λ h. differ (sym h))) in
      omega (arith, a, b, c, d, e))

  seam : (all first rest : List Entry) → all ≡ first ++ rest → all ≡ first ++ drop (length first) all
  seam all first rest e = e ∙ ap (λ (xs : List Entry). first ++ xs) (sym (ap (drop (length first)) e ∙ drop-append_seam first rest))

  in-order : (from to : ℕ) → entries_put plan from to (events_in (P from).own)
      ≡ entries_taken from to (events_in (P to).own) ++ drop (length (entries_taken from to (events_in (P to).own))) (entries_put plan from to (events_in (P from).own))
  in-order from to = elim (cases_eq from to) [
    | inl same ↦
        subst (λ k. entries_put plan from k (events_in (P from).own)
        ≡ entries_taken from k (events_in (P k).own) ++ drop (length (entries_taken from k (events_in (P k).own))) (entries_put plan from k (events_in (P from).own))) same
        (seam (entries_put plan from from (events_in (P from).own)) (entries_taken from from (events_in (P from).own)) (served from).own_rest (served from).own_link)
    | inr differ ↦
        let ring = rings from to differ in
        let fate = fate_of plan from to in
        let all : entries_put plan from to (events_in (P from).own) ≡ entries_taken from to (events_in (P to).own) ++ names_of ring.rest =
        ap (entries fate) (sym ((served from).sent to (λ h. differ (sym h))))
        ∙ (sym (names-after fate ((P from).outs to))
        ∙ (ap names_of ring.put
        ∙ (names-append ((P to).ins from) ring.rest
        ∙ ap (λ (xs : List Entry). xs ++ names_of ring.rest) (sym (heard-all from to differ))))) in
        seam (entries_put plan from to (events_in (P from).own)) (entries_taken from to (events_in (P to).own)) (names_of ring.rest) all
  ]

  delivered-all : AreDelivered plan (λ n. (P n).own)
  delivered-all = record {
    rest = λ from to. drop (length (entries_taken from to (events_in (P to).own))) (entries_put plan from to (events_in (P from).own));
    order = in-order;
    gone = λ n. all-gone n (P n).own (served n).came;
    once = λ n. once-pairs (noticed_in (events_in (P n).own)) (are-once (noticed_in (events_in (P n).own)) (told-once n));
  }

module _ (s : Setup) (plan : List FateRow) (posts : List Numbered) (are : AreServed s plan posts)
    (one : (m n : Message) (bytes : List ℕ) → Spells m bytes → Spells n bytes → m ≡ n) where
  pub joined-runs : AreLocalRuns s (own_of s posts) (world_at s posts)
  joined-runs = record {
    run = λ n. (served-at s plan posts are.each n).run;
    nodes = λ n away. nothing-at s plan posts are.nodes n away;
    matched = λ n. all-matched s plan (post_of s posts) (served-at s plan posts are.each) are.rings one n (own_of s posts n) (served-at s plan posts are.each n).came;
  }

  pub joined-delivered : AreDelivered plan (own_of s posts)
  joined-delivered = delivered-all s plan (post_of s posts) (served-at s plan posts are.each) are.rings one
