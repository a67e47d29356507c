-- In every run each call is decided at most once, and at the home that it asks.
use Rattle.std.proofs.Common.{◌≡◌, ℕ, ◌≤◌, ◌<◌, Bool, true, List, ◌∷◌, Option, Some, None, inl, inr, refl, sym, ap, subst, ◌∙◌, arith}
use Rattle.std.specs.Prelude.{◌&&◌, if◌then◌else◌, unwrap_or, IfSome}
use Rattle.std.proofs.lemmas.Bool.{cases_eq}
use Rattle.std.proofs.lemmas.Bool.Decides.{nat_tests}
use Rattle.uid_names.proofs.ListLemmas.{by_cases}
use Rattle.uid_names.specs.Names.{ProcName, ObjectName, same_proc}
use Rattle.uid_names.proofs.Orders.{same_proc_is}
use Rattle.uid_names.specs.declared.ids.Place.{Place}
use Rattle.dom_history.specs.declared.event.What.{What}
use Rattle.dom_history.specs.declared.event.What.TheVariants.{Take}
use Rattle.dom_history.specs.declared.op.Reply.{Reply}
use Rattle.call_once.specs.declared.served.Looked.{Looked}
use Rattle.call_once.specs.declared.served.Looked.TheVariants.{Fresh, Again, Old}
use Rattle.call_once.specs.Calls.{Call, call_of, number_in, last_of, looked, with_call}
use Rattle.call_once.proofs.KeptCalls.{call_of-with_call}
use Rattle.call_once.proofs.LookedNumbers.{fresh-above}
use Rattle.ring_messages.specs.Bodies.{Ask, Answer, ask_of, is_request}
use Rattle.ring_messages.specs.Frames.{Message, caller_of}
use Rattle.ring_messages.proofs.Asking.{request-is}
use Rattle.page_server.specs.Decisions.{decide}
use Rattle.page_server.specs.Serving.{HomeSide, serve_as, serve_of}
use Rattle.fault_handler.specs.Desks.{DeskState}
use Rattle.fault_handler.specs.Outcomes.{Turn, Moved}
use Rattle.node_runs.specs.Setups.{Setup, Given, given}
use Rattle.node_runs.specs.NodeStates.{Asked, BegunOp, NodeState}
use Rattle.node_runs.specs.Incomings.{Incoming}
use Rattle.node_runs.specs.Notes.{Note}
use Rattle.node_runs.specs.Outcomes.{Stepped, Stage, end_note, open_note, turned, dropping, moved}
use Rattle.node_runs.specs.Doings.{ticked, begun_at, stage_of, served_note, in_next_phase, others_marked}
use Rattle.node_runs.specs.Dones.{Did, paused, finished, began, resumed, served, passed_over, heard, ignored, resent, gave_up, got_ready, marked}
use Rattle.node_runs.specs.Runs.{World, Noted, Choice, numbered, taken, incoming_of, calls_after, world_with, world_after}
use Rattle.node_runs.specs.CallsKeep.{HasProcs, AsksThis, IsCallAt, IsOnLink, EachOf, AreCalls}
use Rattle.node_runs.specs.DecidedCalls.{IsDecided, IsOther, IsFirst, AreDecisions}
use Rattle.node_runs.proofs.Doing.{step_of-did}
use Rattle.node_runs.proofs.Sides.{next-side}
use Rattle.node_runs.proofs.Worlds.{IsNext, place_at, every-run}
use Rattle.node_runs.proofs.Receiving.{EachOf-more, numbered-each}
use Rattle.node_runs.proofs.Calls.{put-same, put-other, Grows, calls-grow, calls-first, calls-later}

-- the last number of a process never falls, and is that of a call that was decided
module _ (side : HomeSide) (q : ProcName) (number : ℕ) (ask : Ask) where
  kept-last : (p : ProcName) → last_of q side.served < number → last_of p side.served ≤ last_of p (serve_as Fresh side q number ask).side.served
  kept-last p above =
      let call : Call Answer = record { proc = q; number = number; body = (decide side.home side.locks q ask).answer } in
      let found = call_of-with_call call side.served p in
      by_cases (same_proc q p) (last_of p side.served ≤ last_of p (with_call call side.served))
      (λ h. let e : last_of p (with_call call side.served) ≡ number = ap number_in found ∙ ap (λ b. number_in (if b then Some call else call_of p side.served)) h in
      let f : last_of p side.served ≡ last_of q side.served = ap (λ r. last_of r side.served) (sym (same_proc_is q p h)) in omega (arith, e, f, above))
      (λ h. let e : last_of p (with_call call side.served) ≡ last_of p side.served = ap number_in found ∙ ap (λ b. number_in (if b then Some call else call_of p side.served)) h in omega (arith, e))

  decided-last : last_of q (serve_as Fresh side q number ask).side.served ≡ number
  decided-last =
      let call : Call Answer = record { proc = q; number = number; body = (decide side.home side.locks q ask).answer } in
      let same : same_proc q q ≡ true = grind (arith, nat_tests) in
      ap number_in (call_of-with_call call side.served q) ∙ ap (λ b. number_in (if b then Some call else call_of q side.served)) same

  as-last : (how : Looked) → how ≡ looked number (last_of q side.served) → (p : ProcName) → last_of p side.served ≤ last_of p (serve_as how side q number ask).side.served
  as-last Fresh same p = kept-last p (fresh-above number (last_of q side.served) (sym same))
  as-last Again same p = omega arith
  as-last Old same p = omega arith

  serve-last : (p : ProcName) → last_of p side.served ≤ last_of p (serve_of side q number ask).side.served
  serve-last p = as-last (looked number (last_of q side.served)) refl p

abbrev pub IsNoDecision : Note → Type 0
IsNoDecision (Note.Decided p number ask answer) = ⊥
IsNoDecision note = Unit {0}

-- the objects and the lock table stay, or are those of a decision
abbrev pub IsSameHome : NodeState → NodeState → Type 0
IsSameHome old new = (new.side.home ≡ old.side.home) × (new.side.locks ≡ old.side.locks)

pub record IsDecisionOn (old new : NodeState) (p : ProcName) (ask : Ask) (answer : Answer) : Type 0 where
  pub home : new.side.home ≡ (decide old.side.home old.side.locks p ask).home
  pub locks : new.side.locks ≡ (decide old.side.home old.side.locks p ask).locks
  pub told : answer ≡ (decide old.side.home old.side.locks p ask).answer

-- a home decides nothing, or a fresh call
pub data HomeStep (g : Given) (n : NodeState) (what : What) (incoming : Incoming) (s : Stepped) : Type 0 where
  apart : ((p : ProcName) → last_of p n.side.served ≤ last_of p s.node.side.served) → IsSameHome n s.node → IsNoDecision s.note → HomeStep g n what incoming s
  decides : (from index : ℕ) (m : Message) (ask : Ask) (answer : Answer) → what ≡ Take from index → incoming ≡ Incoming.Frame m → ask_of m.body ≡ Some ask → ((p : ProcName) → last_of p n.side.served ≤ last_of p s.node.side.served)
      → last_of (caller_of m) n.side.served < m.number → last_of (caller_of m) s.node.side.served ≡ m.number → s.note ≡ Note.Decided (caller_of m) m.number ask answer → IsDecisionOn n s.node (caller_of m) ask answer → HomeStep g n what incoming s

module _ (g : Given) (n : NodeState) where
  end-no : (stage : Stage) (p : ProcName) (phase : ℕ) (o : BegunOp) (reply : Reply) → IsNoDecision (end_note stage p phase o reply)
  end-no Stage.Starts p phase o reply = tt
  end-no Stage.Resumes p phase o reply = tt
  end-no (Stage.Settles k) p phase o reply = tt

  open-no : (stage : Stage) (p : ProcName) (o : BegunOp) → IsNoDecision (open_note stage p o)
  open-no Stage.Starts p o = tt
  open-no Stage.Resumes p o = tt
  open-no (Stage.Settles k) p o = tt

  module _ (what : What) (incoming : Incoming) where
    turned-home : (p : ℕ) (o : BegunOp) (stage : Stage) (d : DeskState) (turn : Turn) (dropped : List (ObjectName × ℕ)) → HomeStep g n what incoming (dropping dropped (turned g (record n { desk = d }) p o stage turn))
    turned-home p o stage d (Turn.Ends reply) dropped = apart (λ p. omega arith) (refl, refl) (end-no stage _ _ o reply)
    turned-home p o stage d (Turn.Asks home ask) dropped = apart (λ p. omega arith) (refl, refl) (open-no stage _ o)
    turned-home p o stage d (Turn.Waits u k) dropped = apart (λ p. omega arith) (refl, refl) (open-no stage _ o)

    moved-home : (p : ℕ) (o : BegunOp) (stage : Stage) (m : Moved) → HomeStep g n what incoming (moved g n p o stage m)
    moved-home p o stage m = turned-home p o stage m.desk m.turn m.dropped

  phase-home : (b : Bool) (x : NodeState) → x.side ≡ n.side → IsSameHome n (in_next_phase b x)
  phase-home b x same = let e = next-side b x ∙ same in (ap (λ side. side.home) e, ap (λ side. side.locks) e)

  phase-last : (b : Bool) (x : NodeState) → x.side ≡ n.side → (p : ProcName) → last_of p n.side.served ≤ last_of p (in_next_phase b x).side.served
  phase-last b x same p = let e = ap (λ side. last_of p side.served) (next-side b x ∙ same) in omega (arith, e)

  module _ (m : Message) (ask : Ask) (how : Looked) (same : how ≡ looked m.number (last_of (caller_of m) n.side.served)) where
    as-looked : serve_of n.side (caller_of m) m.number ask ≡ serve_as how n.side (caller_of m) m.number ask
    as-looked = ap (λ h. serve_as h n.side (caller_of m) m.number ask) (sym same)

  served-more : (m : Message) (ask : Ask) (s : Stepped) → s.node.side ≡ (serve_of n.side (caller_of m) m.number ask).side → (p : ProcName) → last_of p n.side.served ≤ last_of p s.node.side.served
  served-more m ask s side p = let e = ap (λ x. last_of p x.served) side in let f = serve-last n.side (caller_of m) m.number ask p in omega (arith, e, f)

  served-home : (from index : ℕ) (m : Message) (ask : Ask) (answer : Answer) → ask_of m.body ≡ Some ask → (serve_of n.side (caller_of m) m.number ask).answer ≡ Some answer
      → (how : Looked) → how ≡ looked m.number (last_of (caller_of m) n.side.served) → (s : Stepped)
      → s.node.side ≡ (serve_of n.side (caller_of m) m.number ask).side → s.note ≡ served_note how (caller_of m) m.number ask answer → HomeStep g n (Take from index) (Incoming.Frame m) s
  served-home from index m ask answer asks is Fresh same s side note =
      let at = as-looked m ask Fresh same in
      decides from index m ask answer refl refl asks
      (served-more m ask s side)
      (fresh-above m.number (last_of (caller_of m) n.side.served) (sym same))
      (ap (λ x. last_of (caller_of m) x.served) side ∙ ap (λ v. last_of (caller_of m) v.side.served) at ∙ decided-last n.side (caller_of m) m.number ask)
      note
      (record {
        home = ap (λ x. x.home) side ∙ ap (λ v. v.side.home) at;
        locks = ap (λ x. x.locks) side ∙ ap (λ v. v.side.locks) at;
        told = ap (λ (o : Option Answer). unwrap_or o answer) (sym is ∙ ap (λ v. v.answer) at);
      })
  served-home from index m ask answer asks is Again same s side note =
      let at = as-looked m ask Again same in
      apart (served-more m ask s side) (ap (λ x. x.home) side ∙ ap (λ v. v.side.home) at, ap (λ x. x.locks) side ∙ ap (λ v. v.side.locks) at) (subst IsNoDecision (sym note) tt)
  served-home from index m ask answer asks is Old same s side note =
      let at = as-looked m ask Old same in
      apart (served-more m ask s side) (ap (λ x. x.home) side ∙ ap (λ v. v.side.home) at, ap (λ x. x.locks) side ∙ ap (λ v. v.side.locks) at) (subst IsNoDecision (sym note) tt)

  unanswered-home : (m : Message) (ask : Ask) → (serve_of n.side (caller_of m) m.number ask).answer ≡ None → (how : Looked) → how ≡ looked m.number (last_of (caller_of m) n.side.served)
      → IsSameHome n (record n { side = (serve_of n.side (caller_of m) m.number ask).side })
  unanswered-home m ask is Fresh same = absurd (let e = sym is ∙ ap (λ v. v.answer) (as-looked m ask Fresh same) in cc)
  unanswered-home m ask is Again same = let at = as-looked m ask Again same in (ap (λ v. v.side.home) at, ap (λ v. v.side.locks) at)
  unanswered-home m ask is Old same = let at = as-looked m ask Old same in (ap (λ v. v.side.home) at, ap (λ v. v.side.locks) at)

  pub did-home : (what : What) (incoming : Incoming) (s : Stepped) → Did g n what incoming s → HomeStep g n what incoming s
  did-home what incoming s (paused p has none is) = apart (λ p. omega arith) (refl, refl) tt
  did-home what incoming s (finished p has none is) = apart (λ p. omega arith) (refl, refl) tt
  did-home what incoming s (began p op to has none is may) = moved-home _ _ p (begun_at g n op) Stage.Starts to
  did-home what incoming s (resumed p o u k accessed to has is come goes may) = moved-home _ _ p o Stage.Resumes to
  did-home what incoming s (served from index m ask answer sender receiver asks is) = served-home from index m ask answer asks is (looked m.number (last_of (caller_of m) n.side.served)) refl _ refl refl
  did-home what incoming s (passed_over from index m ask sender receiver asks is) =
      apart (λ p. serve-last n.side (caller_of m) m.number ask p) (unanswered-home m ask is (looked m.number (last_of (caller_of m) n.side.served)) refl) tt
  did-home what incoming s (heard from index m o c said to sender receiver asks is same fits may) = moved-home _ _ m.proc o (stage_of m.number said) to
  did-home what incoming s (ignored from index m sender receiver asks) = apart (λ p. omega arith) (refl, refl) tt
  did-home what incoming s (resent p from to index number tick o c has is same answer) = apart (λ p. omega arith) (refl, refl) tt
  did-home what incoming s (gave_up p from to index number tick o c into has is same answer fails) = moved-home _ _ p o (Stage.Settles c.waiting.number) into
  did-home what incoming s (got_ready phase may) = let x = record n { ready = true } in apart (phase-last (x.ready && others_marked g x) x refl) (phase-home (x.ready && others_marked g x) x refl) tt
  did-home what incoming s (marked from phase tick may) = let x = record n { marks = (from, phase) ∷ n.marks } in apart (phase-last (x.ready && others_marked g x) x refl) (phase-home (x.ready && others_marked g x) x refl) tt

same-home : (o : Option Asked) (a b : ℕ) (x y : Ask) → AsksThis o a x → AsksThis o b y → a ≡ b
same-home None a b x y is other = absurd is
same-home (Some c) a b x y is other = sym is.0 ∙ other.0

-- a fresh call is none that was decided before
other-than : (w : World) (n : ℕ) (p : ProcName) (number : ℕ) (asked : Ask) → last_of p (w.nodes n).side.served < number → IsCallAt (w.calls p.node p.number) number n asked → (x : Place) (note : Note) → IsDecided w x note → IsOther p number note
other-than w n p number asked above call x Note.Nothing is = tt
other-than w n p number asked above call x (Note.Began q op) is = tt
other-than w n p number asked above call x (Note.Did q phase op reply) is = tt
other-than w n p number asked above call x (Note.Ended t) is = tt
other-than w n p number asked above call x (Note.Decided q k ask answer) is = λ same_p same_k.
    let at_x : IsCallAt (w.calls p.node p.number) number x.node ask = subst (λ r. IsCallAt (w.calls r.node r.number) number x.node ask) same_p (subst (λ j. IsCallAt (w.calls q.node q.number) j x.node ask) same_k is.1) in
    let home : x.node ≡ n = same-home (numbered number (w.calls p.node p.number)) x.node n ask asked at_x call in
    let most : number ≤ last_of p (w.nodes n).side.served =
    subst (λ a. number ≤ last_of p (w.nodes a).side.served) home (subst (λ r. number ≤ last_of r (w.nodes x.node).side.served) same_p (subst (λ j. j ≤ last_of q (w.nodes x.node).side.served) same_k is.0)) in
    absurd (omega (arith, above, most))

decided-later : (old new : World) → Grows old.calls new.calls → ((a : ℕ) (p : ProcName) → last_of p (old.nodes a).side.served ≤ last_of p (new.nodes a).side.served) → (x : Place) (note : Note) → IsDecided old x note → IsDecided new x note
decided-later old new grows more x Note.Nothing is = tt
decided-later old new grows more x (Note.Began q op) is = tt
decided-later old new grows more x (Note.Did q phase op reply) is = tt
decided-later old new grows more x (Note.Ended t) is = tt
decided-later old new grows more x (Note.Decided q k ask answer) is = (let a = is.0 in let b = more x.node q in omega (arith, a, b), grows q.node q.number k x.node ask is.1)

none-decided : (w : World) (x : Place) (note : Note) → IsNoDecision note → IsDecided w x note
none-decided w x Note.Nothing is = tt
none-decided w x (Note.Began q op) is = tt
none-decided w x (Note.Did q phase op reply) is = tt
none-decided w x (Note.Ended t) is = tt
none-decided w x (Note.Decided q k ask answer) is = absurd is

none-first : (note : Note) (older : List Noted) → IsNoDecision note → IsFirst note older
none-first Note.Nothing older is = tt
none-first (Note.Began q op) older is = tt
none-first (Note.Did q phase op reply) older is = tt
none-first (Note.Ended t) older is = tt
none-first (Note.Decided q k ask answer) older is = absurd is

any-calls-grow : (w : World) (n : ℕ) (made : Option (ℕ × Asked)) → Grows w.calls (calls_after w n made)
any-calls-grow w n None a q k to body is = is
any-calls-grow w n (Some made) a q k to body is = calls-grow w n made.0 made.1 a q k to body is

abbrev message_in : Incoming → Message → Message
message_in (Incoming.Frame m) other = m
message_in incoming other = other

-- a frame that is taken is one on the link
taken-on : (P : Message → Type 0) (o : Option Message) (m : Message) → IfSome o P → taken o ≡ Some (Incoming.Frame m) → P m
taken-on P None m is same = absurd (cc)
taken-on P (Some k) m is same = subst P (ap (λ (i : Option Incoming). message_in (unwrap_or i Incoming.Nothing) m) same) is

-- the caller of a request on a link
caller-is : (m : Message) (from : ℕ) → m.from ≡ from → is_request m.body ≡ true → caller_of m ≡ record { node = from; number = m.proc }
caller-is m from sender request = ap (λ b. let p : ProcName = record { node = if b then m.from else m.to; number = m.proc } in p) request ∙ ap (λ n. let p : ProcName = record { node = n; number = m.proc } in p) sender

module _ (old : World) (are : AreCalls old) (decided : AreDecisions old) (g : Given) (c : Choice) (step : Stepped) (n : NodeState) (same : n.side ≡ (old.nodes c.node).side) (incoming : Incoming) (comes : incoming_of old c.node c.what ≡ Some incoming) where
  abbrev after : World
  after = world_with old (place_at c step) c.what step

  grown : Grows old.calls after.calls
  grown = any-calls-grow old c.node step.call

  more-served : ((p : ProcName) → last_of p n.side.served ≤ last_of p step.node.side.served) → (a : ℕ) (p : ProcName) → last_of p (old.nodes a).side.served ≤ last_of p (after.nodes a).side.served
  more-served more a p = elim (cases_eq a c.node) [
    | inl here ↦
        let e = ap (λ x. last_of p x.side.served) (put-same old.nodes c.node a step.node here) in
        let f = ap (λ b. last_of p (old.nodes b).side.served) here in
        let h = ap (λ x. last_of p x.served) same in
        let k = more p in
        omega (arith, e, f, h, k)
    | inr away ↦ let e = ap (λ x. last_of p x.side.served) (put-other old.nodes c.node a step.node away) in omega (arith, e)
  ]

  later : ((p : ProcName) → last_of p n.side.served ≤ last_of p step.node.side.served) → EachOf (λ (m : Noted). IsDecided after m.place m.note) old.trace
  later more = EachOf-more (λ (m : Noted). IsDecided old m.place m.note) (λ (m : Noted). IsDecided after m.place m.note) old.trace (λ m was. decided-later old after grown (more-served more) m.place m.note was) decided.each

  step-decisions : HomeStep g n c.what incoming step → AreDecisions after
  step-decisions (apart more stays none) = record { each = (none-decided after (place_at c step) step.note none, later more); once = (none-first step.note old.trace none, decided.once) }
  step-decisions (decides from index m ask answer takes frame asks more above now note decision) = record { each = (subst (IsDecided after (place_at c step)) (sym note) new_one, later more); once = (subst (λ x. IsFirst x old.trace) (sym note) first, decided.once) }
    where
      on_link : IsOnLink old.calls from c.node m
      on_link = taken-on (IsOnLink old.calls from c.node) (numbered index (old.frames from c.node)) m (numbered-each (IsOnLink old.calls from c.node) index (old.frames from c.node) (are.frames from c.node))
          (subst (λ i. taken (numbered index (old.frames from c.node)) ≡ Some i) frame (subst (λ w. incoming_of old c.node w ≡ Some incoming) takes comes))

      call : IsCallAt (old.calls (caller_of m).node (caller_of m).number) m.number c.node ask
      call = subst (λ p. IsCallAt (old.calls p.node p.number) m.number c.node ask) (sym (caller-is m from on_link.sender (request-is m.body ask asks)))
          (on_link.call ask asks)

      new_one : IsDecided after (place_at c step) (Note.Decided (caller_of m) m.number ask answer)
      new_one = (let e = ap (λ x. last_of (caller_of m) x.side.served) (put-same old.nodes c.node c.node step.node refl) in omega (arith, e, now), grown (caller_of m).node (caller_of m).number m.number c.node ask call)

      below : last_of (caller_of m) (old.nodes c.node).side.served < m.number
      below = let e = ap (λ x. last_of (caller_of m) x.served) same in omega (arith, e, above)

      first : IsFirst (Note.Decided (caller_of m) m.number ask answer) old.trace
      first = EachOf-more (λ (k : Noted). IsDecided old k.place k.note) (λ (k : Noted). IsOther (caller_of m) m.number k.note) old.trace (λ k was. other-than old c.node (caller_of m) m.number ask below call k.place k.note was) decided.each

abbrev Both : World → Type 0
Both w = AreCalls w × AreDecisions w

both-later : (s : Setup) → HasProcs s → (old : World) (c : Choice) (new : World) → IsNext s old c new → Both old → Both new
both-later s procs old c new is both =
    let g = given s c.node in
    let done = step_of-did g (old.nodes c.node) c.what is.incoming c.dropped is.step is.steps in
    let n = ticked (old.nodes c.node) is.incoming in (
      calls-later s procs old c new is both.0,
      subst AreDecisions (sym is.world) (step-decisions old both.0 both.1 g c is.step n refl is.incoming is.comes (did-home g n c.what is.incoming is.step done)),
    )

-- in every run
pub decisions-are : (s : Setup) → HasProcs s → (cs : List Choice) (w : World) → world_after s cs ≡ Some w → AreDecisions w
decisions-are s procs cs w e = (every-run s Both (calls-first s, record { each = tt; once = tt }) (both-later s procs) cs w e).1
