-- What an event of a run makes of objects: what they hold, their stamps, and what was told of them.
use Rattle.std.proofs.Common.{◌≡◌, ◌≢◌, ℕ, ◌+◌, ◌<◌, ◌≤◌, Bool, true, false, List, ◌∷◌, Option, Some, None, inl, inr, refl, sym, ap, subst, ◌∙◌, arith}
use Rattle.std.specs.Prelude.{◌==◌, ◌&&◌, nat_le, if◌then◌else◌, is_some, unwrap_or}
use Rattle.std.proofs.lemmas.Bool.{cases_eq}
use Rattle.std.proofs.Math.Bool.{and-false}
use Rattle.std.proofs.lemmas.Bool.Decides.{nat_tests}
use Rattle.uid_names.specs.Names.{ProcName, ObjectName, same_uid}
use Rattle.object_store.specs.HomeStates.{HomeState, attr_of}
use Rattle.object_store.specs.Kept.{IsHome}
use Rattle.ring_messages.specs.Bodies.{Ask, Answer}
use Rattle.call_once.specs.Calls.{last_of}
use Rattle.ring_messages.specs.Frames.{Message, caller_of}
use Rattle.fault_handler.specs.Invariant.{IsProc}
use Rattle.page_server.specs.Decisions.{decide}
use Rattle.page_server.proofs.Given.{greatest-rises}
use Rattle.node_runs.specs.Setups.{Setup, given}
use Rattle.node_runs.specs.NodeStates.{NodeState}
use Rattle.node_runs.specs.Notes.{Note}
use Rattle.node_runs.specs.Runs.{World, Noted, Choice}
use Rattle.node_runs.specs.CallsKeep.{IsCallAt, IsOnLink, EachOf}
use Rattle.node_runs.specs.Incomings.{Incoming}
use Rattle.node_runs.proofs.CallSteps.{IsFrameProc}
use Rattle.node_runs.proofs.Receiving.{EachOf-more, incoming-is}
use Rattle.node_runs.proofs.Calls.{put-same, put-other}
use Rattle.node_runs.proofs.Decisions.{IsNoDecision, IsDecisionOn, HomeStep, apart, decides}
use Rattle.run_laws.proofs.HearingRuns.{IsKeptNext, event, event-home}
use Rattle.run_laws.proofs.Replies.{caller-at}
use Rattle.run_laws.proofs.LiveRun.{link-call}
use Rattle.run_laws.specs.Items.{Item, Value, same_item, home_value, Write, write_of}
use Rattle.run_laws.specs.Contents.{value_if, left_by, left_at, left_if, content}
use Rattle.run_laws.specs.ObjectMoves.{IsSameObject, IsTaking, ObjectMove, keeps, writes, makes}
use Rattle.run_laws.specs.Stamps.{home_at, stamp_at, IsThere, IsStampOf, IsItemTold, TellsWritten, TellsItem, TellsStamp, IsBaseOf}
use Rattle.run_laws.proofs.NotedContents.{IsTakenIn, TakesIn, left-none, content-above, left-nothing, content-blank}
use Rattle.run_laws.proofs.ObjectChanges.{ObjectChange, same-home, decide-change}

no-decision-left : (u : ObjectName) (s : ℕ) (x : Item) (note : Note) → IsNoDecision note → left_at u x s note ≡ None
no-decision-left u s x Note.Nothing none = refl
no-decision-left u s x (Note.Began p op) none = refl
no-decision-left u s x (Note.Did p phase op reply) none = refl
no-decision-left u s x (Note.Ended t) none = refl
no-decision-left u s x (Note.Decided p number ask answer) none = absurd none

-- what the note of a write that was taken leaves
pub taking-content : (old : World) (u : ObjectName) (w : Write) (j : Noted) → IsTaking old u w j → (older : List Noted) (t : ℕ) (x : Item)
    → content (j ∷ older) u t x ≡ unwrap_or (value_if (same_item w.item x && nat_le (stamp_at old u + 1) t) w) (content older u t x)
taking-content old u w j is older t x = ap (λ (o : Option Value). unwrap_or o (content older u t x))
    (ap (λ b. left_if b u x t j.note) (let h = is.home in let e : (j.place.node == u.home) ≡ true = grind (arith, nat_tests, h) in e)
    ∙ (ap (left_at u x t) is.note
    ∙ (ap (λ o. left_by u x t o (Answer.Stored (stamp_at old u + 1))) is.write
    ∙ ap (λ b. value_if (b && (same_item w.item x && nat_le (stamp_at old u + 1) t)) w) (ap (λ v. same_uid v u) is.named ∙ (let e : same_uid u u ≡ true = grind (arith, nat_tests) in e)))))

module _ (s : Setup) (old : World) (c : Choice) (new : World) (next : IsKeptNext s old c new) where
  open event s old c new next use {n, step, after, mark}

  kept : IsHome n.side.home
  kept = (next.kept.nodes c.node next.is.node).side.home

  pub home-step : HomeStep (given s c.node) n c.what next.is.incoming step
  home-step = event-home s old c new next

  -- a frame that is taken is of a process
  caller-proc : (m : Message) → next.is.incoming ≡ Incoming.Frame m → IsProc m.proc
  caller-proc m frame = subst IsFrameProc frame
      (incoming-is IsFrameProc tt (λ i tick. tt) (λ tick. tt) (λ x. IsProc x.proc) (λ x is. is) old c.node
      (λ from. EachOf-more (IsOnLink old.calls from c.node) (λ (x : Message). IsProc x.proc) (old.frames from c.node) (λ x is. is.proc) (next.calls.frames from c.node)) c.what next.is.incoming next.is.comes)

  module _ (u : ObjectName) where
    home-away : u.home ≢ c.node → home_at after u ≡ home_at old u
    home-away away = ap (λ (x : NodeState). x.side.home) (put-other old.nodes c.node u.home step.node away)

    pub home-here : u.home ≡ c.node → home_at after u ≡ step.node.side.home
    home-here here = ap (λ (x : NodeState). x.side.home) (put-same old.nodes c.node u.home step.node here)

    home-was : u.home ≡ c.node → home_at old u ≡ n.side.home
    home-was here = ap (λ a. (old.nodes a).side.home) here

    still : home_at after u ≡ home_at old u → IsThere after u → IsSameObject (home_at old u) (home_at after u) u
    still same is = subst (λ h. IsSameObject (home_at old u) h u) (sym same) (same-home (home_at old u) u (ap (λ (h : HomeState). is_some (attr_of h u)) (sym same) ∙ is))

    abbrev ChangesBy : ProcName → Ask → Answer → Type 0
    ChangesBy p ask answer = ObjectChange (home_at old u) (home_at after u) (old.nodes u.home).side.locks p ask answer u

    by-change : u.home ≡ c.node → (p : ProcName) (number : ℕ) (ask : Ask) (answer : Answer) → IsProc p.number → step.note ≡ Note.Decided p number ask answer → IsCallAt (old.calls p.node p.number) number c.node ask → last_of p n.side.served < number → ChangesBy p ask answer → ObjectMove old after u
    by-change here p number ask answer owner note call fresh (ObjectChange.keeps none same) = keeps (λ t x. left-none u t x mark old.trace (left-nothing u t x (c.node == u.home) step.note (ap (left_at u x t) note ∙ none t x))) same
    by-change here p number ask answer owner note call fresh (ObjectChange.writes w is named told granted written) =
        writes w mark (record {
          proc = p;
          owner = owner;
          number = number;
          ask = ask;
          home = sym here;
          note = note ∙ ap (Note.Decided p number ask) told;
          write = is;
          named = named;
          call = subst (λ a. IsCallAt (old.calls p.node p.number) number a ask) (sym here) call;
          undecided = subst (λ a. last_of p (old.nodes a).side.served < number) (sym here) fresh;
          granted = granted;
        }) refl written
    by-change here p number ask answer owner note call fresh (ObjectChange.makes none above stamp new_one) = makes (λ t x. left-none u t x mark old.trace (left-nothing u t x (c.node == u.home) step.note (ap (left_at u x t) note ∙ none t x))) above stamp new_one

    decided-change : u.home ≡ c.node → (p : ProcName) (ask : Ask) (answer : Answer) → IsDecisionOn n step.node p ask answer → ChangesBy p ask answer
    decided-change here p ask answer decision =
        subst (λ a. ChangesBy p ask a) (sym decision.told)
        (subst (λ h. ObjectChange (home_at old u) h (old.nodes u.home).side.locks p ask (decide n.side.home n.side.locks p ask).answer u) (sym (home-here here ∙ decision.home))
        (subst (λ a. ObjectChange (old.nodes a).side.home (decide n.side.home n.side.locks p ask).home (old.nodes a).side.locks p ask (decide n.side.home n.side.locks p ask).answer u) (sym here) (decide-change n.side.home kept n.side.locks p u ask)))

    move-here : u.home ≡ c.node → HomeStep (given s c.node) n c.what next.is.incoming step → ObjectMove old after u
    move-here here (apart more same none) =
        keeps (λ t x. left-none u t x mark old.trace (left-nothing u t x (c.node == u.home) step.note (no-decision-left u t x step.note none))) (still (home-here here ∙ (same.0 ∙ sym (home-was here))))
    move-here here (decides from index m ask answer takes frame asks more above now note decision) =
        by-change here (caller_of m) m.number ask answer (subst (λ (q : ProcName). IsProc q.number) (sym (caller-at m ask asks)) (caller-proc m frame)) note
        (subst (λ (q : ProcName). IsCallAt (old.calls q.node q.number) m.number c.node ask) (sym (caller-at m ask asks)) (link-call s old c new next m frame ask asks)) above (decided-change here (caller_of m) ask answer decision)

    move-after : ObjectMove old after u
    move-after = elim (cases_eq u.home c.node) [
      | inl here ↦ move-here here home-step
      | inr away ↦ keeps (λ t x. left-none u t x mark old.trace (ap (λ b. left_if b u x t step.note) (let e : (c.node == u.home) ≡ false = grind (arith, nat_tests, away) in e))) (still (home-away away))
    ]

    rises-here : HomeStep (given s c.node) n c.what next.is.incoming step → n.side.home.greatest ≤ step.node.side.home.greatest
    rises-here (apart more same none) = let e = ap (λ (h : HomeState). h.greatest) same.0 in omega (arith, e)
    rises-here (decides from index m ask answer takes frame asks more above now note decision) =
        let e = ap (λ (h : HomeState). h.greatest) decision.home in let f = greatest-rises n.side.home n.side.locks (caller_of m) ask in omega (arith, e, f)

    rises-after : (home_at old u).greatest ≤ (home_at after u).greatest
    rises-after = elim (cases_eq u.home c.node) [
      | inl here ↦ (let e = ap (λ (h : HomeState). h.greatest) (home-here here) in let f = ap (λ (h : HomeState). h.greatest) (home-was here) in let r = rises-here home-step in omega (arith, e, f, r))
      | inr away ↦ (let e = ap (λ (h : HomeState). h.greatest) (home-away away) in omega (arith, e))
    ]

    -- what the event makes of the object, and of the counters of its home
    pub object-move : ObjectMove old new u
    object-move = subst (λ (w : World). ObjectMove old w u) (sym next.is.world) move-after

    pub counters-rise : (home_at old u).greatest ≤ (home_at new u).greatest
    counters-rise = subst (λ (w : World). (home_at old u).greatest ≤ (home_at w u).greatest) (sym next.is.world) rises-after

-- what was told stays so
module _ (old new : World) (move : (u : ObjectName) → ObjectMove old new u) (rises : (u : ObjectName) → (home_at old u).greatest ≤ (home_at new u).greatest) where
  module _ (u : ObjectName) (given_name : u.counter ≤ (home_at old u).greatest) where
    pub name-later : u.counter ≤ (home_at new u).greatest
    name-later = let r = rises u in omega (arith, given_name, r)

    -- an object of which the name was given is not made anew
    pub was-there : IsThere new u → IsThere old u
    was-there is = by (move u)
      where
        by : ObjectMove old new u → IsThere old u
        by (keeps same kept) = (kept is).there
        by (writes w j taking trace written) = written.there
        by (makes same above stamp fresh) = absurd (omega (arith, given_name, above))

    -- its stamp never falls
    pub stamp-up : IsThere new u → stamp_at old u ≤ stamp_at new u
    stamp-up is = by (move u)
      where
        by : ObjectMove old new u → stamp_at old u ≤ stamp_at new u
        by (keeps same kept) = let e = (kept is).stamp in omega (arith, e)
        by (writes w j taking trace written) = let e = written.stamp in omega (arith, e)
        by (makes same above stamp fresh) = absurd (omega (arith, given_name, above))

  -- what it held up to its stamp stays
  pub content-stays : (u : ObjectName) (t : ℕ) (x : Item) → (IsThere old u → t ≤ stamp_at old u) → content new.trace u t x ≡ content old.trace u t x
  content-stays u t x most = by (move u)
    where
      by : ObjectMove old new u → content new.trace u t x ≡ content old.trace u t x
      by (keeps same kept) = same t x
      by (makes same above stamp fresh) = same t x
      by (writes w j taking trace written) =
          let low = most written.there in
          ap (λ notes. content notes u t x) trace
          ∙ (taking-content old u w j taking old.trace t x
          ∙ ap (λ b. unwrap_or (value_if b w) (content old.trace u t x))
          (ap (λ b. same_item w.item x && b) (let e : nat_le (stamp_at old u + 1) t ≡ false = grind (arith, nat_tests, low) in e) ∙ and-false (same_item w.item x)))

  pub stamp-later : (u : ObjectName) (t : ℕ) → IsStampOf old u t → IsStampOf new u t
  stamp-later u t is = record {
    given = name-later u is.given;
    least = is.least;
    most = λ there. let m = is.most (was-there u is.given there) in let up = stamp-up u is.given there in omega (arith, m, up);
  }

  pub base-later : (w : Write) → IsBaseOf old w → IsBaseOf new w
  base-later w is = record {
    given = name-later w.uid is.given;
    most = λ there. let m = is.most (was-there w.uid is.given there) in let up = stamp-up w.uid is.given there in omega (arith, m, up);
  }

  told-later : (u : ObjectName) (t : ℕ) (x : Item) (v : Value) → IsItemTold old u t x v → IsItemTold new u t x v
  told-later u t x v is = record {
    stamp = stamp-later u t is.stamp;
    value = λ there. is.value (was-there u is.stamp.given there) ∙ sym (content-stays u t x is.stamp.most);
  }

  written-later : (o : Option Write) (answer : Answer) → TellsWritten old o answer → TellsWritten new o answer
  written-later (Some w) (Answer.Stored t) is = stamp-later w.uid t is
  written-later (Some w) (Answer.Stale t) is = stamp-later w.uid t is
  written-later (Some w) answer is = tt
  written-later None answer is = tt

  tells-later : (ask : Ask) (answer : Answer) → TellsItem old ask answer → TellsItem new ask answer
  tells-later (Ask.PageIn u k) (Answer.Page t bytes) is = told-later u t (Item.Page k) (Value.Bytes bytes) is
  tells-later (Ask.Lock u m) (Answer.Granted grant t kind room length) is = told-later u t Item.Size (Value.Length length) is
  tells-later (Ask.PageOut u k grant base bytes) answer is = written-later (write_of (Ask.PageOut u k grant base bytes)) answer is
  tells-later (Ask.AttrOut u length grant base) answer is = written-later (write_of (Ask.AttrOut u length grant base)) answer is
  tells-later ask answer is = tt

  pub note-later : (note : Note) → TellsStamp old note → TellsStamp new note
  note-later (Note.Decided p number ask answer) is = tells-later ask answer is
  note-later note is = tt

-- by what was told, no write was taken above the stamp of an object that is there, and none of one that was not made
module _ (w : World) (u : ObjectName) (P : ℕ → Type 0) (follows : (t : ℕ) → IsStampOf w u t → P t) where
  taken-by : (v : ObjectName) (t : ℕ) → IsStampOf w v t → v ≡ u → P t
  taken-by v t is same = follows t (subst (λ z. IsStampOf w z t) same is)

  taken-ask : (ask : Ask) (answer : Answer) → TellsItem w ask answer → IsTakenIn P u (write_of ask) answer
  taken-ask (Ask.PageOut v k grant base bytes) (Answer.Stored t) is = taken-by v t is
  taken-ask (Ask.AttrOut v length grant base) (Answer.Stored t) is = taken-by v t is
  taken-ask (Ask.PageOut v k grant base bytes) answer is = tt
  taken-ask (Ask.AttrOut v length grant base) answer is = tt
  taken-ask ask answer is = tt

  taken-note : (note : Note) → TellsStamp w note → TakesIn P u note
  taken-note (Note.Decided p number ask answer) is = taken-ask ask answer is
  taken-note note is = tt

  pub taken-each : EachOf (λ (j : Noted). TellsStamp w j.note) w.trace → EachOf (λ (j : Noted). TakesIn P u j.note) w.trace
  taken-each told = EachOf-more (λ (j : Noted). TellsStamp w j.note) (λ (j : Noted). TakesIn P u j.note) w.trace (λ j is. taken-note j.note is) told

-- a home has what its object holds at its stamp
module _ (old new : World) (u : ObjectName) (told : EachOf (λ (j : Noted). TellsStamp old j.note) old.trace) (was : IsThere old u → (x : Item) → home_value (home_at old u) u x ≡ content old.trace u (stamp_at old u) x) where
  pub home-later : ObjectMove old new u → IsThere new u → (x : Item) → home_value (home_at new u) u x ≡ content new.trace u (stamp_at new u) x
  home-later (keeps same kept) there x = let k = kept there in k.value x ∙ (was k.there x ∙ (ap (λ t. content old.trace u t x) (sym k.stamp) ∙ sym (same (stamp_at new u) x)))
  home-later (makes same above stamp fresh) there x =
      fresh x ∙ (sym (content-blank u (stamp_at new u) x old.trace (taken-each old u (λ t. ⊥) (λ t is. let e = is.given in absurd (omega (arith, e, above))) told)) ∙ sym (same (stamp_at new u) x))
  home-later (writes w j taking trace written) there x =
      written.value x
      ∙ (by (same_item w.item x)
      ∙ (ap (λ b. unwrap_or (value_if (same_item w.item x && b) w) (content old.trace u (stamp_at new u) x)) (let e = written.stamp in let f : true ≡ nat_le (stamp_at old u + 1) (stamp_at new u) = grind (arith, nat_tests, e) in f)
      ∙ (sym (taking-content old u w j taking old.trace (stamp_at new u) x) ∙ ap (λ notes. content notes u (stamp_at new u) x) (sym trace))))
    where
      up : stamp_at old u ≤ stamp_at new u
      up = let e = written.stamp in omega (arith, e)

      by : (b : Bool) → (if b then w.value else home_value (home_at old u) u x) ≡ unwrap_or (value_if (b && true) w) (content old.trace u (stamp_at new u) x)
      by true = refl
      by false = was written.there x ∙ sym (content-above u (stamp_at old u) (stamp_at new u) x up old.trace (taken-each old u (λ t. t ≤ stamp_at old u) (λ t is. is.most written.there) told))
