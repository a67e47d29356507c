-- In every run a home has what a process stored to an object where it takes back the lock that the process held.
use Rattle.std.proofs.Common.{◌≡◌, ℕ, ◌+◌, ◌≤◌, ◌<◌, Bool, true, false, List, [], ◌∷◌, ◌++◌, length, Option, Some, None, inl, inr, refl, sym, ap, subst, ◌∙◌, arith}
use Rattle.std.specs.Prelude.{◌==◌, ◌&&◌, not}
use Rattle.std.proofs.lemmas.Bool.{cases_eq}
use Rattle.std.proofs.lemmas.Bool.Decides.{nat_tests}
use Rattle.uid_names.specs.Names.{ProcName, ObjectName, same_uid}
use Rattle.uid_names.proofs.ListLemmas.{by_cases}
use Rattle.uid_names.proofs.Passed.{equal}
use Rattle.dom_history.specs.declared.op.Reply.TheVariants as replies
use Rattle.dom_history.specs.Histories.{SomeOf}
use Rattle.dom_history.specs.Locks.{is_held, state}
use Rattle.dom_history.specs.Objects.{is_node}
use Rattle.dom_history.specs.StoreEffects.{own}
use Rattle.call_once.specs.Calls.{last_of}
use Rattle.object_store.specs.HomeStates.{HomeState, attr_of}
use Rattle.ring_messages.specs.Bodies.{Ask, Answer}
use Rattle.ring_messages.specs.Frames.{Message, caller_of}
use Rattle.fault_handler.specs.declared.entries.LockEntry.{LockEntry}
use Rattle.fault_handler.specs.Entries.{state_in, is_released, keeps}
use Rattle.fault_handler.specs.Desks.{entry_at}
use Rattle.fault_handler.specs.Outcomes.{Turn}
use Rattle.fault_handler.specs.Invariant.{IsProc}
use Rattle.node_runs.specs.Setups.{Setup, IsSetup, given}
use Rattle.node_runs.specs.HomesHave.{HasObject}
use Rattle.node_runs.specs.Incomings.{Incoming}
use Rattle.node_runs.specs.NodeStates.{Asked, Await, BegunOp, OpenOp, ProcState, NodeState, proc_of}
use Rattle.node_runs.specs.NodesKeep.{IsTimely}
use Rattle.node_runs.specs.Notes.{Note, Told}
use Rattle.node_runs.specs.Dones.{asking}
use Rattle.node_runs.specs.Replays.{Held, after_if, after_note}
use Rattle.node_runs.specs.RunHistories.{told_by, all_told}
use Rattle.node_runs.specs.SentFrames.{IsFrame, IsIncoming}
use Rattle.node_runs.specs.CallsKeep.{IsCallAt, IsOnLink, IsOpenAt, EachOf}
use Rattle.node_runs.specs.DecidedCalls.{IsOther, IsFirst, AreDecidedOnce}
use Rattle.node_runs.specs.Runs.{World, Noted, Choice, put, numbered, calls_after, world_after}
use Rattle.node_runs.proofs.Calls.{put-same, put-other, numbered-within}
use Rattle.node_runs.proofs.Decisions.{IsNoDecision, HomeStep, apart, decides}
use Rattle.node_runs.proofs.Receiving.{EachOf-more, incoming-is, numbered-each}
use Rattle.node_runs.proofs.Replaying.{replays-are}
use Rattle.node_runs.proofs.SettingUp.{setup-gives, setup-procs}
use Rattle.run_laws.specs.DecidedReplies.{proc_at}
use Rattle.run_laws.proofs.HearingRuns.{IsKeptNext, same-ask, every-kept-run, event, event-home}
use Rattle.run_laws.proofs.Replies.{caller-at}
use Rattle.run_laws.specs.AskedHomes.{IsAtHome}
use Rattle.run_laws.specs.DeskSteps.{IsSameAwait, IsSameDoing, NodeMove, still, moved, doing_after}
use Rattle.run_laws.specs.Released.{gives_up, is_being_released}
use Rattle.run_laws.specs.ToldAnswers.{IsFaultOf, IsReleaseFault, IsToldBy, IsTold, IsEnded}
use Rattle.run_laws.proofs.AskedHomes.{calls-at-homes}
use Rattle.run_laws.proofs.DeskSteps.{step-desk}
use Rattle.run_laws.proofs.EndedOps.{step-ended}
use Rattle.run_laws.proofs.Released.{node-released}
use Rattle.run_laws.proofs.ToldAnswers.{told-are}
use Rattle.run_laws.specs.HistoryHomes.{held_then}
use Rattle.run_laws.proofs.HistoryHomes.{asked-home}
use Rattle.run_laws.specs.LiveLocks.{served_of}
use Rattle.run_laws.proofs.LiveRun.{link-call}
use Rattle.run_laws.specs.NotedEffects.{noted_past}
use Rattle.run_laws.specs.NotedDeeds.{noted_deeds}
use Rattle.run_laws.specs.States.{AreStatesTold}
use Rattle.run_laws.specs.Stamps.{home_at}
use Rattle.run_laws.specs.Stores.{AreStores}
use Rattle.run_laws.proofs.StoresRun.{calls-of-nodes}
use Rattle.run_laws.specs.Left.{AreLeft}
use Rattle.run_laws.specs.Releases.{IsUnlocked, AreReleasesHome}
use Rattle.run_laws.proofs.HomesHave.{home-has}
use Rattle.run_laws.proofs.StandingRows.{IsGivenUp, rowed-are}

-- whether the open call has this number
abbrev is_awaited : ℕ → Await → Bool
is_awaited number (Await.Answer c) = c.waiting.number == number
is_awaited number (Await.Page u k) = false

abbrev pub is_open_number : ℕ → Option OpenOp → Bool
is_open_number number None = false
is_open_number number (Some o) = is_awaited number o.awaits

-- the call of this number was made, and is open no more
pub record IsOpenNoMore (w : World) (p : ProcName) (number : ℕ) : Type 0 where
  pub proc : IsProc p.number
  pub made : number ≤ length (w.calls p.node p.number)
  pub closed : is_open_number number (proc_of (w.nodes p.node) p.number).doing ≡ false

-- the end of the unlock was told fine
abbrev pub IsToldFine : World → ObjectName → ProcName → ℕ → Type 0
IsToldFine w u p number = SomeOf (IsUnlocked u p number) (all_told w.trace)

abbrev pub HasOf : Setup → Noted → List Noted → ObjectName → ProcName → Type 0
HasOf s j older u p = let home = (held_then s u.home (j ∷ older)).home in HasObject s.opening (noted_past older) home u p (attr_of home u)

-- the home has what the process stored; or its process did not hold the lock, by what it had been told; or did not have the call open
pub data GivesBack (s : Setup) (w : World) (j : Noted) (older : List Noted) (u : ObjectName) (p : ProcName) (number : ℕ) : Type 0 where
  whole : HasOf s j older u p → GivesBack s w j older u p number
  unheld : is_held (state u (own p (noted_deeds older))) ≡ false → GivesBack s w j older u p number
  untold : IsOpenNoMore w p number → (IsToldFine w u p number → ⊥) → GivesBack s w j older u p number

abbrev pub NoteGives : Setup → World → Noted → List Noted → Type 0
NoteGives s w j older = (u : ObjectName) (p : ProcName) (number : ℕ) (answer : Answer) → j.note ≡ Note.Decided p number (Ask.Unlock u) answer → is_node s.opening j.place.node ≡ true → GivesBack s w j older u p number

abbrev pub EachGives : Setup → World → List Noted → Type 0
EachGives s w [] = Unit {0}
EachGives s w (j ∷ older) = NoteGives s w j older × EachGives s w older

-- a frame is of a process
abbrev IsProcIn : Incoming → Type 0
IsProcIn (Incoming.Frame m) = IsProc m.proc
IsProcIn incoming = Unit {0}

-- an open operation that awaits the same still
same-number : (number : ℕ) (o r : Option OpenOp) → IsSameDoing o r → is_open_number number r ≡ is_open_number number o
same-number number None None is = refl
same-number number None (Some r) is = absurd is
same-number number (Some o) None is = absurd is
same-number number (Some o) (Some r) is = by o.awaits r.awaits is.1
  where
    by : (a b : Await) → IsSameAwait a b → is_awaited number b ≡ is_awaited number a
    by (Await.Answer c) (Await.Answer k) is = ap (λ i. i == number) is.2
    by (Await.Page u k) (Await.Page v j) is = refl
    by (Await.Answer c) (Await.Page v j) is = absurd is
    by (Await.Page u k) (Await.Answer c) is = absurd is

-- a new call has a number of its own
next-number : (number : ℕ) (o : BegunOp) (q : ProcState) (turn : Turn) → number ≤ q.last → is_open_number number (doing_after o q turn) ≡ false
next-number number o q (Turn.Ends reply) low = refl
next-number number o q (Turn.Waits u k) low = refl
next-number number o q (Turn.Asks home ask) low = by_cases (q.last + 1 == number) ((q.last + 1 == number) ≡ false) (λ same. absurd (let e = equal (q.last + 1) number same in omega (arith, e, low))) (λ h. h)

-- a link fault does not end an unlock fine
fault-not-fine : (ask : Ask) → IsReleaseFault ask replies.Fine → ⊥
fault-not-fine (Ask.PageOut u k grant base bytes) is = absurd (cc)
fault-not-fine (Ask.AttrOut u n grant base) is = absurd (cc)
fault-not-fine (Ask.Unlock u) is = absurd (cc)
fault-not-fine (Ask.Remove u) is = absurd (cc)
fault-not-fine (Ask.PageIn u k) is = is
fault-not-fine (Ask.Lock u m) is = is
fault-not-fine (Ask.Make kind room) is = is
fault-not-fine (Ask.ListLocks after) is = is

-- nothing of this call was decided before
none-decided : (t : Told) (p : ProcName) (number : ℕ) → t.proc ≡ p → t.number ≡ number → (notes : List Noted) → EachOf (λ (j : Noted). IsOther p number j.note) notes → SomeOf (λ (j : Noted). IsToldBy t j.note) notes → ⊥
none-decided t p number named numbered_so [] others some = some
none-decided t p number named numbered_so (j ∷ older) others (inr some) = none-decided t p number named numbered_so older others.1 some
none-decided t p number named numbered_so (j ∷ older) others (inl is) = by j.note others.0 is
  where
    by : (note : Note) → IsOther p number note → IsToldBy t note → ⊥
    by (Note.Decided q k ask answer) other is = other (is.0 ∙ named) (is.1 ∙ numbered_so)
    by Note.Nothing other is = is
    by (Note.Began q op) other is = is
    by (Note.Did q phase op reply) other is = is
    by (Note.Ended x) other is = is

module _ (s : Setup) (setup : IsSetup s) (cs : List Choice) (old : World) (e : world_after s cs ≡ Some old) (timely : IsTimely old) (c : Choice) (new : World) (next : IsKeptNext s old c new) (left : AreLeft s old) (stores : AreStores s old) (states : AreStatesTold s old) where
  open event s old c new next use {n, step, after, mark}

  is_incoming : IsIncoming next.is.incoming
  is_incoming = incoming-is IsIncoming tt (λ number tick. tt) (λ tick. tt) IsFrame (λ x is. is) old c.node (λ from. next.kept.frames from c.node) c.what next.is.incoming next.is.comes

  move : NodeMove (given s c.node) n next.is.incoming step
  move = step-desk (given s c.node) (old.nodes c.node) c.what next.is.incoming c.dropped step (setup-gives s setup c.node next.is.node) (next.kept.nodes c.node next.is.node) is_incoming next.is.steps

  ended : IsEnded (given s c.node) n next.is.incoming step.note
  ended = step-ended (given s c.node) (old.nodes c.node) c.what next.is.incoming c.dropped step (setup-gives s setup c.node next.is.node) (next.kept.nodes c.node next.is.node) is_incoming next.is.steps

  home-step : HomeStep (given s c.node) n c.what next.is.incoming step
  home-step = event-home s old c new next

  -- what is closed stays so
  module _ (p : ProcName) (number : ℕ) (closed : IsOpenNoMore old p number) where
    low : number ≤ (proc_of (old.nodes p.node) p.number).last
    low = let f = next.calls.last p.node p.number closed.proc in let g = closed.made in omega (arith, f, g)

    closed-here : NodeMove (given s c.node) n next.is.incoming step → p.node ≡ c.node → is_open_number number (proc_of step.node p.number).doing ≡ false
    closed-here (still desk same quiet uncalled) here = same-number number _ _ (same p.number closed.proc) ∙ subst (λ a. is_open_number number (proc_of (old.nodes a) p.number).doing ≡ false) here closed.closed
    closed-here (moved q o stage m proc is_at made at_desk doing others note call side) here = elim (cases_eq p.number q) [
      | inl mine ↦ subst (λ r. is_open_number number (proc_of step.node r).doing ≡ false) (sym mine)
          (ap (is_open_number number) doing ∙ next-number number o (proc_of n q) m.turn (subst (λ r. number ≤ (proc_of n r).last) mine (subst (λ a. number ≤ (proc_of (old.nodes a) p.number).last) here low)))
      | inr differs ↦ ap (λ (x : ProcState). is_open_number number x.doing) (others p.number closed.proc differs) ∙ subst (λ a. is_open_number number (proc_of (old.nodes a) p.number).doing ≡ false) here closed.closed
    ]

    closed-after : is_open_number number (proc_of (after.nodes p.node) p.number).doing ≡ false
    closed-after = elim (cases_eq p.node c.node) [
      | inl here ↦ ap (λ (x : NodeState). is_open_number number (proc_of x p.number).doing) (put-same old.nodes c.node p.node step.node here) ∙ closed-here move here
      | inr away ↦ ap (λ (x : NodeState). is_open_number number (proc_of x p.number).doing) (put-other old.nodes c.node p.node step.node away) ∙ closed.closed
    ]

    still-closed : length (old.calls p.node p.number) ≤ length (after.calls p.node p.number) → IsOpenNoMore after p number
    still-closed up = record { proc = closed.proc; made = (let f = closed.made in omega (arith, f, up)); closed = closed-after }

    -- what ends now is another call
    untold-now : (u : ObjectName) (note : Note) → IsEnded (given s c.node) n next.is.incoming note → (IsToldFine old u p number → ⊥) → SomeOf (IsUnlocked u p number) (told_by note ++ all_told old.trace) → ⊥
    untold-now u Note.Nothing is none some = none some
    untold-now u (Note.Began q op) is none some = none some
    untold-now u (Note.Did q phase op reply) is none some = none some
    untold-now u (Note.Decided q k ask answer) is none some = none some
    untold-now u (Note.Ended t) is none (inr some) = none some
    untold-now u (Note.Ended t) is none (inl told) =
        let named : proc_at c.node is.proc ≡ p = sym is.named ∙ told.proc in
        let open_one : is_open_number number (proc_of n is.proc).doing ≡ true = ap (is_open_number number) is.doing ∙ (let f = is.number in let g = told.number in let h : (is.call.waiting.number == number) ≡ true = grind (arith, nat_tests, f, g) in h) in
        absurd (let h : true ≡ false = sym open_one ∙ subst (λ (r : ProcName). is_open_number number (proc_of (old.nodes r.node) r.number).doing ≡ false) (sym named) closed.closed in cc)

  calls-up : (a q : ℕ) → length (old.calls a q) ≤ length (after.calls a q)
  calls-up a q = by step.call
    where
      by : (o : Option (ℕ × Asked)) → length (old.calls a q) ≤ length (calls_after old c.node o a q)
      by None = omega arith
      by (Some made) = elim (cases_eq a c.node) [
        | inr away ↦ (let f = ap (λ (g : ℕ → List Asked). length (g q)) (put-other old.calls c.node a (put (old.calls c.node) made.0 (made.1 ∷ old.calls c.node made.0)) away) in omega (arith, f))
        | inl here ↦ elim (cases_eq q made.0) [
          | inl mine ↦
              (let f = ap (λ (g : ℕ → List Asked). length (g q)) (put-same old.calls c.node a (put (old.calls c.node) made.0 (made.1 ∷ old.calls c.node made.0)) here) in
              let g = ap (λ (xs : List Asked). length xs) (put-same (old.calls c.node) made.0 q (made.1 ∷ old.calls c.node made.0) mine) in
              let h = ap (λ b. length (old.calls b q)) here in let i = ap (λ r. length (old.calls c.node r)) mine in omega (arith, f, g, h, i))
          | inr differs ↦
              (let f = ap (λ (g : ℕ → List Asked). length (g q)) (put-same old.calls c.node a (put (old.calls c.node) made.0 (made.1 ∷ old.calls c.node made.0)) here) in
              let g = ap (λ (xs : List Asked). length xs) (put-other (old.calls c.node) made.0 q (made.1 ∷ old.calls c.node made.0) differs) in
              let h = ap (λ b. length (old.calls b q)) here in omega (arith, f, g, h))
        ]
      ]

  gives-later : (j : Noted) (older : List Noted) → NoteGives s old j older → NoteGives s after j older
  gives-later j older was u p number answer is node = by (was u p number answer is node)
    where
      by : GivesBack s old j older u p number → GivesBack s after j older u p number
      by (whole all) = whole all
      by (unheld not_held) = unheld not_held
      by (untold closed none) = untold (still-closed p number closed (calls-up p.node p.number)) (λ some. untold-now p number closed u step.note ended none some)

  each-later : (notes : List Noted) → EachGives s old notes → EachGives s after notes
  each-later [] each = tt
  each-later (j ∷ older) each = (gives-later j older each.0, each-later older each.1)

  -- the unlock that is decided now
  module _ (u : ObjectName) (p : ProcName) (number : ℕ) (answer : Answer) (note : step.note ≡ Note.Decided p number (Ask.Unlock u) answer) where
    first : EachOf (λ (j : Noted). IsOther p number j.note) old.trace
    first = subst (λ (x : Note). IsFirst x old.trace) note (subst (λ (w : World). AreDecidedOnce w.trace) next.is.world next.once).0

    untold-before : IsToldFine old u p number → ⊥
    untold-before some = by (all_told old.trace) (told-are s setup cs old e timely).told some
      where
        by : (ts : List Told) → EachOf (IsTold old) ts → SomeOf (IsUnlocked u p number) ts → ⊥
        by [] each some = some
        by (t ∷ ts) each (inr some) = by ts each.1 some
        by (t ∷ ts) each (inl is) = elim each.0.by [
          | inl fault ↦ fault-not-fine each.0.ask (subst (IsReleaseFault each.0.ask) is.reply (subst (λ op. IsFaultOf op each.0.ask t.reply) is.op fault))
          | inr decided ↦ none-decided t p number is.proc is.number old.trace first decided
        ]

    told-same : SomeOf (IsUnlocked u p number) (told_by step.note ++ all_told old.trace) → IsToldFine old u p number
    told-same some = subst (λ (x : Note). SomeOf (IsUnlocked u p number) (told_by x ++ all_told old.trace)) note some

    record IsAsked : Type 0 where
      proc : IsProc p.number
      node : is_node s.opening p.node ≡ true
      call : IsCallAt (old.calls p.node p.number) number c.node (Ask.Unlock u)
      above : last_of p (old.nodes c.node).side.served < number
      home : c.node ≡ u.home

    same-decision : {a b : ProcName} {i j : ℕ} {x y : Ask} {k l : Answer} → Note.Decided a i x k ≡ Note.Decided b j y l → (a ≡ b) × (i ≡ j) × (x ≡ y)
    same-decision same = ((let h = same in cc), (let h = same in cc), (let h = same in cc))

    asked-by : HomeStep (given s c.node) n c.what next.is.incoming step → IsAsked
    asked-by (apart more same none) = absurd (subst IsNoDecision note none)
    asked-by (decides from index m ask given takes frame asks more above now decided decision) =
        let same = same-decision (sym decided ∙ note) in
        let link = link-call s old c new next m frame ask asks in
        let named : proc_at m.from m.proc ≡ p = sym (caller-at m ask asks) ∙ same.0 in
        let call : IsCallAt (old.calls p.node p.number) number c.node (Ask.Unlock u) =
        subst (λ (r : ProcName). IsCallAt (old.calls r.node r.number) number c.node (Ask.Unlock u)) named (subst (λ i. IsCallAt (old.calls m.from m.proc) i c.node (Ask.Unlock u)) same.1 (subst (IsCallAt (old.calls m.from m.proc) m.number c.node) same.2 link)) in
        record {
          proc = subst (λ (r : ProcName). IsProc r.number) named (proc-in m frame);
          node = by_cases (is_node s.opening p.node) (is_node s.opening p.node ≡ true) (λ h. h) (λ none. absurd (subst (λ calls. IsCallAt calls number c.node (Ask.Unlock u)) (calls-of-nodes s setup cs old e timely p.node p.number none) call));
          call = call;
          above = subst (λ r. last_of r n.side.served < number) same.0 (subst (λ i. last_of (caller_of m) n.side.served < i) same.1 above);
          home = asked-home (numbered number (old.calls p.node p.number)) c.node (Ask.Unlock u) (numbered-each (λ (k : Asked). IsAtHome k.home k.ask) number (old.calls p.node p.number) (calls-at-homes s setup cs old e timely p.node p.number)) call;
        }
      where
        proc-in : (m : Message) → next.is.incoming ≡ Incoming.Frame m → IsProc m.proc
        proc-in m frame = subst IsProcIn frame (incoming-is IsProcIn tt (λ i tick. tt) (λ tick. tt) (λ (x : Message). IsProc x.proc) (λ x is. is) old c.node
            (λ from. EachOf-more (IsOnLink old.calls from c.node) (λ (x : Message). IsProc x.proc) (old.frames from c.node) (λ x is. is.proc) (next.calls.frames from c.node)) c.what next.is.incoming next.is.comes)

    asked : IsAsked
    asked = asked-by home-step

    -- the home after it
    home-is : (held_then s u.home (mark ∷ old.trace)).home ≡ home_at old u
    home-is =
        let here : (c.node == u.home) ≡ true = (let h = asked.home in grind (arith, nat_tests, h)) in
        ap (λ b. (after_if b (held_then s u.home old.trace) step.note).home) here
        ∙ (ap (λ x. (after_note (held_then s u.home old.trace) x).home) note ∙ ap (λ (h : Held). h.home) (sym ((replays-are s cs old e).homes u.home)))

    -- its call is the open one
    open-given : (o : Option OpenOp) → (proc_of (old.nodes p.node) p.number).doing ≡ o → is_open_number number o ≡ true → is_held (state_in (entry_at (old.nodes p.node).desk.entries p.number u)) ≡ true → IsGivenUp (entry_at (old.nodes p.node).desk.entries p.number u)
    open-given None is open_one held = absurd (cc)
    open-given (Some o) is open_one held = by o.awaits refl open_one
      where
        by : (a : Await) → o.awaits ≡ a → is_awaited number a ≡ true → IsGivenUp (entry_at (old.nodes p.node).desk.entries p.number u)
        by (Await.Page v k) awaits open_one = absurd (cc)
        by (Await.Answer x) awaits open_one =
            let here : (proc_of (old.nodes p.node) p.number).doing ≡ asking o.began x = is ∙ ap (λ a. Some (let y : OpenOp = record { began = o.began; awaits = a } in y)) awaits in
            let made : IsCallAt (old.calls p.node p.number) x.waiting.number x.home x.ask = subst (IsOpenAt (old.calls p.node p.number)) here (next.calls.opened p.node p.number asked.proc) in
            let same : x.waiting.number ≡ number = equal x.waiting.number number open_one in
            let ask : x.ask ≡ Ask.Unlock u = same-ask (numbered number (old.calls p.node p.number)) x.home c.node x.ask (Ask.Unlock u) (subst (λ i. IsCallAt (old.calls p.node p.number) i x.home x.ask) same made) asked.call in (
              held,
              node-released (given s p.node) (old.nodes p.node) (next.kept.nodes p.node asked.node) p.number asked.proc u held
                  ∙ (ap (λ d. is_being_released d u) here ∙ (ap (λ y. gives_up y u) ask ∙ (let h : same_uid u u ≡ true = grind (arith, nat_tests) in h))),
            )

    given-unkept : (o : Option LockEntry) → IsGivenUp o → keeps o ≡ false
    given-unkept o is = by (is_held (state_in o)) (is_released o) is.1
      where
        by : (a b : Bool) → b ≡ true → (a && not b) ≡ false
        by true true gone = refl
        by false true gone = refl
        by a false gone = absurd (cc)

    gives-open : is_held (state_in (entry_at (old.nodes p.node).desk.entries p.number u)) ≡ true → is_open_number number (proc_of (old.nodes p.node) p.number).doing ≡ true → is_node s.opening c.node ≡ true → GivesBack s after mark old.trace u p number
    gives-open held open_one node =
        let given_up = open-given (proc_of (old.nodes p.node) p.number).doing refl open_one held in
        let within = numbered-within number (old.calls p.node p.number) c.node (Ask.Unlock u) asked.call in
        let above : served_of old p u.home < number = subst (λ a. served_of old p a < number) asked.home asked.above in
        let row = rowed-are s setup cs old e timely p.node p.number asked.node asked.proc u given_up (omega (arith, above, within)) in
        let all = home-has s setup cs old e timely next.kept.nodes p u row.mode row.grant row.row (given-unkept (entry_at (old.nodes p.node).desk.entries p.number u) given_up) asked.node asked.proc left stores (subst (λ a. is_node s.opening a ≡ true) asked.home node) in
        whole (subst (λ (h : HomeState). HasObject s.opening (noted_past old.trace) h u p (attr_of h u)) (sym home-is) all)

    gives-held : (held open_one : Bool) → is_held (state u (own p (noted_deeds old.trace))) ≡ held → is_open_number number (proc_of (old.nodes p.node) p.number).doing ≡ open_one → is_node s.opening c.node ≡ true → GivesBack s after mark old.trace u p number
    gives-held false open_one held is node = unheld held
    gives-held true false held is node =
        let closed : IsOpenNoMore old p number = record { proc = asked.proc; made = numbered-within number (old.calls p.node p.number) c.node (Ask.Unlock u) asked.call; closed = is } in
        untold (still-closed p number closed (calls-up p.node p.number)) (λ some. untold-before (told-same some))
    gives-held true true held is node = gives-open (ap is_held (sym (states.states p.node p.number asked.node asked.proc u)) ∙ held) is node

  gives-now : NoteGives s after mark old.trace
  gives-now u p number answer note node =
      gives-held u p number answer note (is_held (state u (own p (noted_deeds old.trace)))) (is_open_number number (proc_of (old.nodes p.node) p.number).doing) refl refl node

  pub each-new : EachGives s old old.trace → EachGives s new new.trace
  each-new each = subst (λ (w : World). EachGives s w w.trace) (sym next.is.world) (gives-now, each-later old.trace each)

-- so it is at each place of the trace
each-at : (s : Setup) (w : World) (newer : List Noted) (j : Noted) (older notes : List Noted) → notes ≡ newer ++ j ∷ older → EachGives s w notes → NoteGives s w j older
each-at s w [] j older notes is each = (subst (EachGives s w) is each).0
each-at s w (k ∷ newer) j older notes is each = each-at s w newer j older (newer ++ j ∷ older) refl (subst (EachGives s w) is each).1

-- in every run, as what is left is at home, the last stores are there or at the writing node, and desks have what was told of locks
pub releases-are : (s : Setup) → IsSetup s → ((cs : List Choice) (w : World) → world_after s cs ≡ Some w → IsTimely w → AreLeft s w)
    → ((cs : List Choice) (w : World) → world_after s cs ≡ Some w → IsTimely w → AreStores s w) → ((cs : List Choice) (w : World) → world_after s cs ≡ Some w → IsTimely w → AreStatesTold s w)
    → (cs : List Choice) (w : World) → world_after s cs ≡ Some w → IsTimely w → AreReleasesHome s w
releases-are s setup left stores states cs w e timely newer older j u p trace node given_back =
    by (each-at s w newer j older w.trace trace (each cs w e timely) u p given_back.number given_back.answer given_back.decided node)
  where
    each : (cs : List Choice) (w : World) → world_after s cs ≡ Some w → IsTimely w → EachGives s w w.trace
    each = every-kept-run s setup (setup-procs s setup) (λ w. EachGives s w w.trace) tt (λ cs old c new e timely next was. each-new s setup cs old e timely c new next (left cs old e timely) (stores cs old e timely) (states cs old e timely) was)

    by : GivesBack s w j older u p given_back.number → HasOf s j older u p
    by (whole all) = all
    by (unheld none) = absurd (let h : true ≡ false = sym given_back.held ∙ none in cc)
    by (untold closed none) = absurd (none given_back.told)
