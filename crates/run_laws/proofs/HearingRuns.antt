-- In every run each process's entries have what its program asked and heard.
use Rattle.std.proofs.Common.{◌≡◌, ◌≢◌, ℕ, ◌+◌, ◌<◌, ◌≤◌, false, List, [], ◌∷◌, ◌++◌, length, Option, Some, None, inl, inr, refl, sym, ap, subst, ◌∙◌, arith}
use Rattle.std.specs.Prelude.{◌&&◌, ◌==◌, not, if◌then◌else◌}
use Rattle.std.proofs.lemmas.Bool.{cases_eq}
use Rattle.std.proofs.lemmas.Bool.Decides.{nat_tests}
use Rattle.std.proofs.lemmas.Option.{same_Some}
use Rattle.uid_names.proofs.ListLemmas.{by_cases}
use Rattle.uid_names.proofs.Orders.{same_proc_is}
use Rattle.uid_names.specs.Names.{ProcName, same_proc}
use Rattle.uid_names.specs.declared.ids.Place.{Place}
use Rattle.uid_names.proofs.Passed.{left-true, right-true, equal}
use Rattle.dom_history.specs.declared.op.Entry.{Entry}
use Rattle.dom_history.specs.declared.op.Op.{Op}
use Rattle.dom_history.specs.declared.op.Reply.{Reply}
use Rattle.dom_history.specs.Histories.{SomeOf}
use Rattle.dom_history.specs.Follows.{starts, entries_of}
use Rattle.ring_messages.specs.Frames.{Message}
use Rattle.ring_messages.specs.Bodies.{Ask, ask_of}
use Rattle.fault_handler.specs.Invariant.{IsProc}
use Rattle.fault_handler.proofs.Fours.{by_proc}
use Rattle.node_runs.specs.Setups.{Setup, IsSetup, Given, given}
use Rattle.node_runs.specs.NodeStates.{Asked, Await, BegunOp, ProcState, NodeState, first_proc, first_node, proc_of, name_of}
use Rattle.node_runs.specs.Incomings.{Incoming}
use Rattle.node_runs.specs.Notes.{Told, Note}
use Rattle.node_runs.specs.Doings.{ticked}
use Rattle.node_runs.specs.Dones.{asking, Did}
use Rattle.node_runs.specs.Outcomes.{Stepped}
use Rattle.node_runs.specs.NodesKeep.{IsTimely}
use Rattle.node_runs.specs.SentFrames.{IsFrame, IsIncoming}
use Rattle.node_runs.specs.Runs.{World, Noted, Choice, first_world, numbered, then_next, world_with, world_after}
use Rattle.node_runs.specs.RunHistories.{settled_op, told_by, all_told, ended_by}
use Rattle.node_runs.specs.CallsKeep.{HasProcs, AsksThis, IsCallAt, EachOf, IsOpenAt, AreCalls}
use Rattle.node_runs.specs.DecidedCalls.{IsDecided, IsOther, IsFirst, AreDecidedOnce, AreDecisions}
use Rattle.node_runs.proofs.SettingUp.{given-procs, setup-gives}
use Rattle.node_runs.proofs.Doing.{step_of-did}
use Rattle.node_runs.proofs.Ticks.{step_of-tick}
use Rattle.node_runs.proofs.Receiving.{EachOf-more, incoming-is}
use Rattle.node_runs.proofs.Calls.{put-same, put-other, calls-are}
use Rattle.node_runs.proofs.CallSteps.{IsFrameProc}
use Rattle.node_runs.proofs.Decisions.{decisions-are, HomeStep, did-home}
use Rattle.node_runs.proofs.Running.{AreKept, run-keeps}
use Rattle.node_runs.proofs.Worlds.{IsNext, place_at, next-is}
use Rattle.run_laws.specs.NotedEntries.{entry_if, begun_entry, decided_entry, entries_at}
use Rattle.run_laws.specs.Progress.{IsSettling, IsAnswered, Progress, opens, goes_on, again, did, told, pauses, is_done, IsApart, ProcStep, rests, comes, told_of}
use Rattle.run_laws.specs.DecidedReplies.{proc_at, IsDecisionOf, WasDecided, AreReplies, IsReplyOf}
use Rattle.run_laws.specs.Placed.{IsSettledBy}
use Rattle.run_laws.specs.Heard.{IsHeardAt, IsToldByDecision, IsOfProc, AreHeard}
use Rattle.run_laws.proofs.Slots.{IsNew}
use Rattle.run_laws.proofs.Walks.{settled-decides, first-other, others-not, SomeOf-more}
use Rattle.run_laws.proofs.Replies.{replies-are, answered-decided}
use Rattle.run_laws.proofs.Progressing.{did-progress}
use Rattle.run_laws.proofs.Hearing.{carry, others-told, place-none, open-since, new-told, progress-on}

-- a call that was made has no number above the list
past-call : (k : ℕ) (calls : List Asked) (to : ℕ) (ask : Ask) → length calls < k → IsCallAt calls k to ask → ⊥
past-call k [] to ask above is = is
past-call k (c ∷ older) to ask above is =
    by_cases (k == length older + 1) ⊥
    (λ h. absurd (let e = equal k (length older + 1) h in omega (arith, e, above)))
    (λ h. past-call k older to ask (omega (arith, above)) (subst (λ b. AsksThis (if b then Some c else numbered k older) to ask) h is))

-- so no decision is of a call that is not made yet
not-yet : (w : World) (n p : ℕ) (last : ℕ) → last ≡ length (w.calls n p) → (x : Place) (note : Note) → IsDecided w x note → IsOther (proc_at n p) (last + 1) note
not-yet w n p last same x Note.Nothing is = tt
not-yet w n p last same x (Note.Began q op) is = tt
not-yet w n p last same x (Note.Did q phase op reply) is = tt
not-yet w n p last same x (Note.Ended t) is = tt
not-yet w n p last same x (Note.Decided q k ask answer) is = λ same_p same_k.
    past-call (last + 1) (w.calls n p) x.node ask (omega (arith, same))
    (subst (λ (r : ProcName). IsCallAt (w.calls r.node r.number) (last + 1) x.node ask) same_p (subst (λ j. IsCallAt (w.calls q.node q.number) j x.node ask) same_k is.1))

pub same-ask : (o : Option Asked) (a b : ℕ) (x y : Ask) → AsksThis o a x → AsksThis o b y → x ≡ y
same-ask None a b x y is other = absurd is
same-ask (Some c) a b x y is other = sym is.1 ∙ other.1

-- a decision on a call that settles its operation settles it
decides-settled : (w : World) (n p : ℕ) (c : Asked) → IsCallAt (w.calls n p) c.waiting.number c.home c.ask → IsSettling c.ask → (x : Place) (note : Note) → IsDecided w x note → IsDecisionOf (proc_at n p) c.waiting.number note → IsSettledBy (proc_at n p) c.waiting.number note
decides-settled w n p c call settling x Note.Nothing decided is = absurd is
decides-settled w n p c call settling x (Note.Began q op) decided is = absurd is
decides-settled w n p c call settling x (Note.Did q phase op reply) decided is = absurd is
decides-settled w n p c call settling x (Note.Ended t) decided is = absurd is
decides-settled w n p c call settling x (Note.Decided q k ask answer) decided is =
    let at : IsCallAt (w.calls n p) c.waiting.number x.node ask =
    subst (λ (r : ProcName). IsCallAt (w.calls r.node r.number) c.waiting.number x.node ask) is.0 (subst (λ j. IsCallAt (w.calls q.node q.number) j x.node ask) is.1 decided.1) in
    (is.0, is.1, subst IsSettling (sym (same-ask _ x.node c.home ask c.ask at call)) settling)

pub SomeOf-both : {A : Type 0} (P Q R : A → Type 0) (xs : List A) → ((x : A) → P x → Q x → R x) → SomeOf P xs → EachOf Q xs → SomeOf R xs
SomeOf-both P Q R [] both some each = some
SomeOf-both P Q R (x ∷ xs) both (inl is) each = inl (both x is each.0)
SomeOf-both P Q R (x ∷ xs) both (inr some) each = inr (SomeOf-both P Q R xs both some each.1)

-- a new decision is of no call of which a process was told an answer
decided-none : (x : Place) (p : ProcName) (number : ℕ) (o : Option Op) (notes : List Noted) (so_far : List Told) → EachOf (IsToldByDecision notes) so_far → EachOf (λ (j : Noted). IsOther p number j.note) notes → decided_entry x o (ended_by p number so_far) ≡ []
decided-none x p number None notes so_far each others = refl
decided-none x p number (Some op) notes [] each others = refl
decided-none x p number (Some op) notes (t ∷ so_far) each others =
    let rest = decided-none x p number (Some op) notes so_far each.1 others in
    by_cases (same_proc t.proc p && (t.number == number)) (decided_entry x (Some op) (ended_by p number (t ∷ so_far)) ≡ [])
    (λ h. ap (λ b. decided_entry x (Some op) (if b then Some t else ended_by p number so_far)) h ∙ (elim each.0 [
      | inl fault ↦ ap (λ b. entry_if (not b) x t) fault
      | inr decided ↦ absurd (others-not p number notes others
          (subst (λ q. WasDecided notes q number) (same_proc_is t.proc p (left-true _ _ h)) (subst (λ k. WasDecided notes t.proc k) (equal t.number number (right-true (same_proc t.proc p) _ h)) decided)))
    ]))
    (λ h. ap (λ b. decided_entry x (Some op) (if b then Some t else ended_by p number so_far)) h ∙ rest)

-- what a frame that is taken answers
abbrev IsGoodReply : List Noted → ℕ → Incoming → Type 0
IsGoodReply notes n (Incoming.Frame m) = ask_of m.body ≡ None → WasDecided notes (proc_at n m.proc) m.number
IsGoodReply notes n incoming = Unit {0}

-- an event of a run, and what was kept up to it
pub record IsKeptNext (s : Setup) (old : World) (c : Choice) (new : World) : Type 0 where
  pub is : IsNext s old c new
  pub kept : AreKept s old
  pub calls : AreCalls old
  pub decisions : AreDecisions old
  pub once : AreDecidedOnce new.trace
  pub replies : AreReplies old

-- what an event of a run is made of: what its node is given, the node as it begins, what was done, the world after it and its note
pub record Event : Type 0 where
  pub g : Given
  pub n : NodeState
  pub step : Stepped
  pub after : World
  pub mark : Noted

abbrev pub event : (s : Setup) (old : World) (c : Choice) (new : World) → IsKeptNext s old c new → Event
event s old c new next =
    record {
      g = given s c.node;
      n = ticked (old.nodes c.node) next.is.incoming;
      step = next.is.step;
      after = world_with old (place_at c next.is.step) c.what next.is.step;
      mark = record { place = place_at c next.is.step; note = next.is.step.note };
    }

-- what is known of each: what it receives is such as nodes send, what it did, and what that made of its home
pub event-incoming : (s : Setup) → (old : World) (c : Choice) (new : World) (next : IsKeptNext s old c new) → IsIncoming next.is.incoming
event-incoming s old c new next =
    incoming-is IsIncoming tt (λ number tick. tt) (λ tick. tt) IsFrame (λ x is. is) old c.node (λ from. next.kept.frames from c.node) c.what next.is.incoming next.is.comes

pub event-did : (s : Setup) → (old : World) (c : Choice) (new : World) (next : IsKeptNext s old c new)
    → Did (given s c.node) (ticked (old.nodes c.node) next.is.incoming) c.what next.is.incoming next.is.step
event-did s old c new next = step_of-did (given s c.node) (old.nodes c.node) c.what next.is.incoming c.dropped next.is.step next.is.steps

pub event-home : (s : Setup) → (old : World) (c : Choice) (new : World) (next : IsKeptNext s old c new)
    → HomeStep (given s c.node) (ticked (old.nodes c.node) next.is.incoming) c.what next.is.incoming next.is.step
event-home s old c new next = did-home (given s c.node) (ticked (old.nodes c.node) next.is.incoming) c.what next.is.incoming next.is.step (event-did s old c new next)

module _ (s : Setup) (setup : IsSetup s) (old : World) (c : Choice) (new : World) (next : IsKeptNext s old c new) (heard : AreHeard s old) where
  open event s old c new next use {g, step, after}

  abbrev pub n : NodeState
  n = ticked (old.nodes c.node) next.is.incoming

  same-tick : step.node.tick ≡ n.tick
  same-tick = step_of-tick g (old.nodes c.node) c.what next.is.incoming c.dropped step next.is.steps

  up : (old.nodes c.node).tick < n.tick
  up = omega arith

  pub proc-step : ProcStep g n next.is.incoming step
  proc-step =
      let node = next.kept.nodes c.node next.is.node in
      did-progress g n (next.calls.four c.node) (given-procs g (setup-gives s setup c.node next.is.node).programs) node.agrees (λ p proc. (node.followed p proc).wanted) c.what next.is.incoming step
      (incoming-is IsFrameProc tt (λ number tick. tt) (λ tick. tt) (λ m. IsProc m.proc) (λ m proc. proc) old c.node
      (λ from. EachOf-more _ (λ m. IsProc m.proc) (old.frames from c.node) (λ m is. is.proc) (next.calls.frames from c.node)) c.what next.is.incoming next.is.comes)
      (event-did s old c new next)

  -- the place of the event is none of before
  place-late : (x : Place) (a : ℕ) → x.node ≡ a → x.tick ≤ (old.nodes a).tick → place_at c step ≢ x
  place-late x a node most same = absurd (
      let e = ap (λ (y : Place). y.tick) same in
      let f : a ≡ c.node = sym node ∙ ap (λ (y : Place). y.node) (sym same) in
      let h = ap (λ b. (old.nodes b).tick) f in
      let k = same-tick in let u = up in omega (arith, e, h, most, k, u))

  ticks-up : (a : ℕ) → (old.nodes a).tick ≤ (after.nodes a).tick
  ticks-up a = elim (cases_eq a c.node) [
    | inl same ↦ let e = ap (λ (x : NodeState). x.tick) (put-same old.nodes c.node a step.node same) in let h = ap (λ b. (old.nodes b).tick) same in let k = same-tick in let u = up in omega (arith, e, h, k, u)
    | inr differs ↦ let e = ap (λ (x : NodeState). x.tick) (put-other old.nodes c.node a step.node differs) in omega (arith, e)
  ]

  places-after : EachOf (λ (j : Noted). j.place.tick ≤ (after.nodes j.place.node).tick) after.trace
  places-after = (
    (let e = ap (λ (x : NodeState). x.tick) (put-same old.nodes c.node c.node step.node refl) in omega (arith, e)),
    EachOf-more (λ (j : Noted). j.place.tick ≤ (old.nodes j.place.node).tick) (λ (j : Noted). j.place.tick ≤ (after.nodes j.place.node).tick) old.trace (λ j was. let e = ticks-up j.place.node in omega (arith, e, was)) heard.places,
  )

  abbrev so_far : List Told
  so_far = all_told old.trace

  -- nothing of any process
  apart-none : (note : Note) → note ≡ step.note → IsApart note → (told_by note ≡ []) × (entries_at so_far (place_at c step) note ≡ [])
  apart-none Note.Nothing same is = (refl, refl)
  apart-none (Note.Began q op) same is = absurd is
  apart-none (Note.Did q phase op reply) same is = absurd is
  apart-none (Note.Ended t) same is = absurd is
  apart-none (Note.Decided q k ask answer) same is = (
    refl,
    decided-none (place_at c step) q k (settled_op c.node ask) old.trace so_far heard.decided
        (first-other q k (Note.Decided q k ask answer) old.trace (refl, refl) (subst (λ (x : Note). IsFirst x old.trace) (sym same) first)),
  )
    where
      first : IsFirst step.note old.trace
      first = (subst (λ (w : World). AreDecidedOnce w.trace) next.is.world next.once).0

  -- a process of which nothing was noted
  abbrev HeardAt : ℕ → ℕ → List Told → List Noted → ℕ → ProcState → Type 0
  HeardAt a q so notes tick x = IsHeardAt ((given s a).asks q) (proc_at a q) so notes tick x

  carried : (a q : ℕ) (so : List Told) (x : ProcState) → HeardAt a q so old.trace (old.nodes a).tick x → entries_of (proc_at a q) (entries_at so (place_at c step) step.note) ≡ [] → HeardAt a q so after.trace (after.nodes a).tick x
  carried a q so x was none = carry ((given s a).asks q) (proc_at a q) so old.trace (old.nodes a).tick x was (record { place = place_at c step; note = step.note }) (after.nodes a).tick (ticks-up a) (λ y node most. place-late y a node most) none

  -- the processes, by node
  at-node : (so : List Told) (a q : ℕ) → (a ≡ c.node → HeardAt c.node q so after.trace (after.nodes c.node).tick (proc_of step.node q)) → (a ≢ c.node → HeardAt a q so after.trace (after.nodes a).tick (proc_of (old.nodes a) q))
      → HeardAt a q so after.trace (after.nodes a).tick (proc_of (after.nodes a) q)
  at-node so a q here away = elim (cases_eq a c.node) [
    | inl is ↦ subst (λ b. HeardAt b q so after.trace (after.nodes b).tick (proc_of (after.nodes b) q)) (sym is)
        (subst (λ (x : NodeState). HeardAt c.node q so after.trace (after.nodes c.node).tick (proc_of x q)) (sym (put-same old.nodes c.node c.node step.node refl)) (here is))
    | inr is ↦ subst (λ (x : NodeState). HeardAt a q so after.trace (after.nodes a).tick (proc_of x q)) (sym (put-other old.nodes c.node a step.node is)) (away is)
  ]

  decided-more : EachOf (IsToldByDecision after.trace) so_far
  decided-more = EachOf-more (IsToldByDecision old.trace) (IsToldByDecision after.trace) so_far (λ t was. elim was [ inl fault ↦ inl fault | inr decided ↦ inr (inr decided) ]) heard.decided

  all-so : told_by step.note ≡ [] → all_told after.trace ≡ so_far
  all-so none = ap (λ xs. xs ++ so_far) none

  apart-named : (note : Note) → IsApart note → IsOfProc note
  apart-named Note.Nothing is = tt
  apart-named (Note.Began q op) is = tt
  apart-named (Note.Did q phase op reply) is = absurd is
  apart-named (Note.Ended t) is = absurd is
  apart-named (Note.Decided q k ask answer) is = tt

  abbrev Result : Type 0
  Result = AreHeard s after

  when-rests : ((q : ℕ) → proc_of step.node q ≡ proc_of n q) → IsApart step.note → Result
  when-rests all apart =
      let none = apart-none step.note refl apart in
      record {
        places = places-after;
        named = (apart-named step.note apart, heard.named);
        decided = subst (EachOf (IsToldByDecision after.trace)) (sym (all-so none.0)) decided-more;
        procs = λ a q proc. subst (λ so. HeardAt a q so after.trace (after.nodes a).tick (proc_of (after.nodes a) q)) (sym (all-so none.0))
            (let same = carried a q so_far (proc_of (old.nodes a) q) (heard.procs a q proc) (ap (entries_of (proc_at a q)) none.1) in
            at-node so_far a q
            (λ here. subst (HeardAt c.node q so_far after.trace (after.nodes c.node).tick) (sym (all q)) (subst (λ b. HeardAt b q so_far after.trace (after.nodes b).tick (proc_of (old.nodes b) q)) here same))
            (λ away. same));
      }

  apart-proc : (a q p : ℕ) → (a ≡ c.node → q ≡ p → ⊥) → same_proc (proc_at c.node p) (proc_at a q) ≡ false
  apart-proc a q p differs = elim (cases_eq a c.node) [
    | inr away ↦ grind (arith, nat_tests, away)
    | inl here ↦ elim (cases_eq q p) [ inl there ↦ absurd (differs here there) | inr beside ↦ grind (arith, nat_tests, beside) ]
  ]

  apart-name : (a q p : ℕ) → (a ≡ c.node → q ≡ p → ⊥) → proc_at c.node p ≡ proc_at a q → ⊥
  apart-name a q p differs same = differs (ap (λ (x : ProcName). x.node) (sym same)) (ap (λ (x : ProcName). x.number) (sym same))

  module _ (p : ℕ) (proc : IsProc p) (others : (q : ℕ) → IsProc q → q ≢ p → proc_of step.node q ≡ proc_of n q) (progress : Progress (g.asks p) (name_of g p) n.tick next.is.incoming (proc_of n p) (proc_of step.node p) step.note) where
    was_heard : IsHeardAt (g.asks p) (proc_at c.node p) so_far old.trace (old.nodes c.node).tick (proc_of n p)
    was_heard = heard.procs c.node p proc

    -- the reply that ended an operation is of a call that was decided
    pub answered-call : (o : BegunOp) (k : Asked) → (proc_of n p).doing ≡ asking o k → IsAnswered next.is.incoming p k → SomeOf (λ (j : Noted). IsSettledBy (proc_at c.node p) k.waiting.number j.note) old.trace
    answered-call o k doing answer =
        let good : IsGoodReply old.trace c.node next.is.incoming =
        incoming-is (IsGoodReply old.trace c.node) tt (λ number tick. tt) (λ tick. tt) (λ m. ask_of m.body ≡ None → WasDecided old.trace (proc_at c.node m.proc) m.number) (λ m is. is) old c.node
        (λ from. EachOf-more (IsReplyOf old.trace from c.node) (λ (m : Message). ask_of m.body ≡ None → WasDecided old.trace (proc_at c.node m.proc) m.number) (old.frames from c.node)
        (λ m is none. let was = is none in answered-decided from (proc_at c.node m.proc) m.number was.0 old.trace was.2) (next.replies.frames from c.node)) c.what next.is.incoming next.is.comes in
        let here : WasDecided old.trace (proc_at c.node answer.frame.proc) answer.frame.number = (subst (IsGoodReply old.trace c.node) answer.received good) answer.replies in
        let mine : WasDecided old.trace (proc_at c.node p) k.waiting.number = subst (λ i. WasDecided old.trace (proc_at c.node p) i) answer.number (subst (λ q. WasDecided old.trace (proc_at c.node q) answer.frame.number) answer.proc here) in
        let call : IsCallAt (old.calls c.node p) k.waiting.number k.home k.ask = subst (IsOpenAt (old.calls c.node p)) doing (next.calls.opened c.node p proc) in
        SomeOf-both (λ (j : Noted). IsDecisionOf (proc_at c.node p) k.waiting.number j.note) (λ (j : Noted). IsDecided old j.place j.note) (λ (j : Noted). IsSettledBy (proc_at c.node p) k.waiting.number j.note) old.trace
        (λ j is decided. decides-settled old c.node p k call answer.settling j.place j.note decided is) mine next.decisions.each

    acting : IsHeardAt (g.asks p) (proc_at c.node p) (all_told after.trace) after.trace (after.nodes c.node).tick (proc_of step.node p)
    acting =
        subst (λ t. IsHeardAt (g.asks p) (proc_at c.node p) (all_told after.trace) after.trace t (proc_of step.node p)) (sym (ap (λ (x : NodeState). x.tick) (put-same old.nodes c.node c.node step.node refl)))
        (subst (λ t. IsHeardAt (g.asks p) (proc_at c.node p) (told_by step.note ++ so_far) (record { place = record { tick = t; node = c.node }; note = step.note } ∷ old.trace) t (proc_of step.node p)) (sym same-tick)
        (progress-on (g.asks p) (proc_at c.node p) so_far old.trace (old.nodes c.node).tick n.tick (proc_of n p) (proc_of step.node p) next.is.incoming was_heard up
        (EachOf-more (λ (j : Noted). j.place.tick ≤ (old.nodes j.place.node).tick) (λ (j : Noted). j.place ≢ record { tick = n.tick; node = c.node }) old.trace
        (λ j most same. place-late j.place j.place.node refl most (ap (λ t. let x : Place = record { tick = t; node = c.node } in x) same-tick ∙ sym same)) heard.places)
        (EachOf-more (λ (j : Noted). IsDecided old j.place j.note) (λ (j : Noted). IsOther (proc_at c.node p) ((proc_of n p).last + 1) j.note) old.trace
        (λ j is. not-yet old c.node p (proc_of n p).last (next.calls.last c.node p proc) j.place j.note is) next.decisions.each)
        next.decisions.once (λ o k doing answer. answered-call o k doing answer) step.note progress))

    finish : (so : List Told) → IsOfProc step.note → all_told after.trace ≡ so → EachOf (IsToldByDecision after.trace) so
        → ((a q : ℕ) → IsProc q → (a ≡ c.node → q ≡ p → ⊥) → HeardAt a q so old.trace (old.nodes a).tick (proc_of (old.nodes a) q))
        → ((a q : ℕ) → (a ≡ c.node → q ≡ p → ⊥) → entries_of (proc_at a q) (entries_at so (place_at c step) step.note) ≡ []) → Result
    finish so name same decided base none = record {
      places = places-after;
      named = (name, heard.named);
      decided = subst (EachOf (IsToldByDecision after.trace)) (sym same) decided;
      procs = λ a q other. subst (λ xs. HeardAt a q xs after.trace (after.nodes a).tick (proc_of (after.nodes a) q)) (sym same)
          (at-node so a q
          (λ here. elim (cases_eq q p) [
            | inl there ↦ subst (λ r. HeardAt c.node r so after.trace (after.nodes c.node).tick (proc_of step.node r)) (sym there) (subst (λ xs. HeardAt c.node p xs after.trace (after.nodes c.node).tick (proc_of step.node p)) same acting)
            | inr beside ↦ subst (HeardAt c.node q so after.trace (after.nodes c.node).tick) (sym (others q other beside))
                (subst (λ b. HeardAt b q so after.trace (after.nodes b).tick (proc_of (old.nodes b) q)) here (carried a q so (proc_of (old.nodes a) q) (base a q other (λ h there. beside there)) (none a q (λ h there. beside there))))
          ])
          (λ away. carried a q so (proc_of (old.nodes a) q) (base a q other (λ here there. away here)) (none a q (λ here there. away here))));
    }

    quietly : IsOfProc step.note → told_by step.note ≡ [] → ((a q : ℕ) → (a ≡ c.node → q ≡ p → ⊥) → entries_of (proc_at a q) (entries_at so_far (place_at c step) step.note) ≡ []) → Result
    quietly name none entries = finish so_far name (all-so none) decided-more (λ a q other differs. heard.procs a q other) entries

    nothing-noted : step.note ≡ Note.Nothing → Result
    nothing-noted same = quietly (subst IsOfProc (sym same) tt) (ap told_by same) (λ a q differs. ap (λ (k : Note). entries_of (proc_at a q) (entries_at so_far (place_at c step) k)) same)

    begun-noted : (op : Op) → step.note ≡ Note.Began (proc_at c.node p) op → Result
    begun-noted op same = quietly (subst IsOfProc (sym same) tt) (ap told_by same) (λ a q differs.
        ap (λ (k : Note). entries_of (proc_at a q) (entries_at so_far (place_at c step) k)) same
        ∙ ap (λ o. entries_of (proc_at a q) (begun_entry (place_at c step) o))
        (place-none (proc_at c.node p) (place_at c step) so_far (EachOf-more (λ (t : Told). t.proc ≡ proc_at c.node p → (t.number ≤ (proc_of n p).last) × (t.begun.tick ≤ (old.nodes c.node).tick)) (λ (t : Told). t.proc ≡ proc_at c.node p → t.begun.tick < step.node.tick) so_far
        (λ t was mine. let e = (was mine).1 in let k = same-tick in let u = up in omega (arith, e, k, u)) was_heard.told)))

    did-noted : (phase : ℕ) (op : Op) (reply : Reply) → step.note ≡ Note.Did (proc_at c.node p) phase op reply → Result
    did-noted phase op reply same = quietly (subst IsOfProc (sym same) proc) (ap told_by same) (λ a q differs.
        let e : Entry = record { place = place_at c step; proc = proc_at c.node p; phase = phase; op = op; reply = reply } in
        ap (λ (k : Note). entries_of (proc_at a q) (entries_at so_far (place_at c step) k)) same ∙ ap (λ b. if b then e ∷ [] else []) (apart-proc a q p differs))

    ended-noted : (t : Told) → t.proc ≡ proc_at c.node p → IsNew t so_far → IsToldByDecision after.trace t → step.note ≡ Note.Ended t → Result
    ended-noted t mine is_new decided same = finish (t ∷ so_far) (subst IsOfProc (sym same) (subst (λ (x : ProcName). IsProc x.number) (sym mine) proc)) (ap (λ (k : Note). told_by k ++ so_far) same) (decided, decided-more)
        (λ a q other differs. others-told ((given s a).asks q) (proc_at a q) so_far old.trace (old.nodes a).tick (proc_of (old.nodes a) q) (heard.procs a q other) t is_new
        (subst (λ x. same_proc x (proc_at a q) ≡ false) (sym mine) (apart-proc a q p differs)) (λ e. apart-name a q p differs (sym mine ∙ e)))
        (λ a q differs. ap (λ (k : Note). entries_of (proc_at a q) (entries_at (t ∷ so_far) (place_at c step) k)) same)

    when-comes : Result
    when-comes = by progress
      where
        by : Progress (g.asks p) (name_of g p) n.tick next.is.incoming (proc_of n p) (proc_of step.node p) step.note → Result
        by (opens op a asks none doing awaits same e) = begun-noted op e
        by (goes_on o a b part was doing awaits same e) = nothing-noted e
        by (again o k was doing last same e) = nothing-noted e
        by (did op reply part asks end e) = did-noted (proc_of n p).phase op reply e
        by (told o k reply asks was end e tells) =
            let open_was = open-since (g.asks p) (proc_at c.node p) so_far old.trace (old.nodes c.node).tick (proc_of n p) was_heard o (Await.Answer k) was in
            ended-noted (told_of (proc_at c.node p) (proc_of n p) o k.waiting.number reply) refl (new-told (proc_at c.node p) so_far old.trace (old.nodes c.node).tick (proc_of n p) o k reply open_was)
            (elim tells [
              | inl fault ↦ inl fault
              | inr answer ↦ inr (inr (SomeOf-more (λ (j : Noted). IsSettledBy (proc_at c.node p) k.waiting.number j.note) (λ (j : Noted). IsDecisionOf (proc_at c.node p) k.waiting.number j.note) old.trace
                  (λ j is. settled-decides (proc_at c.node p) k.waiting.number j.note is) (answered-call o k was answer)))
            ]) e
        by (pauses was asks none last h phase e) = nothing-noted e
        by (is_done was asks none last h e) = nothing-noted e

  pub step-heard : AreHeard s new
  step-heard = subst (AreHeard s) (sym next.is.world) (elim proc-step [ rests all apart ↦ when-rests all apart | comes p proc others progress ↦ when-comes p proc others progress ])

-- ticks never fall
pub timely-before : (s : Setup) (old : World) (c : Choice) (new : World) (is : IsNext s old c new) → IsTimely new → IsTimely old
timely-before s old c new is timely a = elim (cases_eq a c.node) [
  | inl same ↦
      (let e = ap (λ (w : World). (w.nodes a).tick) is.world ∙ ap (λ (x : NodeState). x.tick) (put-same old.nodes c.node a is.step.node same) in
      let f = timely a in let h = ap (λ b. (old.nodes b).tick) same in
      let k = step_of-tick (given s c.node) (old.nodes c.node) c.what is.incoming c.dropped is.step is.steps in omega (arith, e, f, h, k))
  | inr differs ↦ (let e = ap (λ (w : World). (w.nodes a).tick) is.world ∙ ap (λ (x : NodeState). x.tick) (put-other old.nodes c.node a is.step.node differs) in let f = timely a in omega (arith, e, f))
]

module _ (s : Setup) (setup : IsSetup s) (procs : HasProcs s) where
  heard-first : AreHeard s (first_world s)
  heard-first = record { places = tt; named = tt; decided = tt; procs = λ n. by_proc (λ p. IsHeardAt ((given s n).asks p) (proc_at n p) [] [] 0 (proc_of (first_node (given s n)) p)) (start n 1) (start n 2) (start n 3) (start n 4) }
    where
      start : (n p : ℕ) → IsHeardAt ((given s n).asks p) (proc_at n p) [] [] 0 first_proc
      start n p = record { phase = 1; reaches = starts; in_phase = inl refl; told = tt; doing = tt }

  -- what holds at the start, and after each event of a run, holds of every run
  module _ (P : World → Type 0) (first : P (first_world s)) (later : (cs : List Choice) (old : World) (c : Choice) (new : World) → world_after s cs ≡ Some old → IsTimely old → IsKeptNext s old c new → P old → P new) where
    then-one : (cs : List Choice) (c : Choice) (w : World) (o : Option World) → world_after s cs ≡ o → ((old : World) → o ≡ Some old → IsTimely old → P old) → then_next s o c ≡ Some w → world_after s (c ∷ cs) ≡ Some w → IsTimely w → P w
    then-one cs c w None has before e whole timely = absurd (cc)
    then-one cs c w (Some old) has before e whole timely =
        let is = next-is s old c w e in
        let was = timely-before s old c w is timely in
        later cs old c w has was (record {
          is = is;
          kept = (run-keeps s setup cs old has).kept was;
          calls = calls-are s procs cs old has;
          decisions = decisions-are s procs cs old has;
          once = (decisions-are s procs (c ∷ cs) w whole).once;
          replies = replies-are s cs old has;
        }) (before old refl was)

    pub every-kept-run : (cs : List Choice) (w : World) → world_after s cs ≡ Some w → IsTimely w → P w
    every-kept-run [] w e timely = subst P (same_Some (first_world s) w e) first
    every-kept-run (c ∷ cs) w e timely = then-one cs c w (world_after s cs) refl (λ old before was. every-kept-run cs old before was) e e timely

  -- in every run
  pub heard-are : (cs : List Choice) (w : World) → world_after s cs ≡ Some w → IsTimely w → AreHeard s w
  heard-are = every-kept-run (AreHeard s) heard-first (λ cs old c new e timely next heard. step-heard s setup old c new next heard)
