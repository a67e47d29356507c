-- No frame is of a call above the last one of its process, so a call that is open no more is never open again.
use Rattle.std.proofs.Common.{◌≡◌, ℕ, ◌≤◌, Bool, true, cond, List, Option, Some, None, IfSome, inl, inr, refl, sym, ap, subst, ◌∙◌, arith}
use Rattle.std.specs.Prelude.{◌==◌, not, ◌&&◌}
use Rattle.std.proofs.lemmas.Bool.{cases_eq}
use Rattle.uid_names.proofs.Passed.{left-true, right-true, equal}
use Rattle.dom_history.specs.declared.event.What.{What}
use Rattle.dom_history.specs.declared.event.What.TheVariants.{Notice}
use Rattle.dom_history.specs.declared.plan.FateRow.{FateRow}
use Rattle.ring_messages.specs.Bodies.{Ask, Answer, ask_of, body_of_ask}
use Rattle.ring_messages.specs.Frames.{Message, caller_of}
use Rattle.ring_messages.proofs.Asking.{asks-request, answers-no-request, asked-seen, request-is}
use Rattle.fault_handler.specs.Invariant.{IsProc}
use Rattle.fault_handler.specs.Outcomes.{Turn, Moved}
use Rattle.page_server.specs.Serving.{reply_to}
use Rattle.node_runs.specs.Setups.{Setup, Given, IsSetup, given}
use Rattle.node_runs.specs.NodeStates.{Asked, Await, BegunOp, OpenOp, ProcState, NodeState, proc_of, is_ended}
use Rattle.node_runs.specs.Incomings.{Incoming, has_program, enabled, may_notice, is_call}
use Rattle.node_runs.specs.Outcomes.{Stepped, Stage, request, turned, moved}
use Rattle.node_runs.specs.Doings.{begun_at, stage_of, noticed_call, ticked}
use Rattle.node_runs.specs.Dones.{Did, asking, paused, finished, began, resumed, served, passed_over, heard, ignored, resent, gave_up, got_ready, marked}
use Rattle.node_runs.specs.Agreements.{Agrees}
use Rattle.node_runs.specs.NodesKeep.{IsNodeOf, IsTimely}
use Rattle.node_runs.specs.Runs.{World, first_world, put, frames_after}
use Rattle.node_runs.specs.CallsKeep.{EachOf}
use Rattle.node_runs.proofs.SettingUp.{given-procs, setup-gives}
use Rattle.node_runs.proofs.Receiving.{EachOf-more, incoming-is}
use Rattle.node_runs.proofs.Calls.{put-same, put-other, frames-one}
use Rattle.node_runs.proofs.CallSteps.{IsReply, IsNoCall, IsUnasking, CallStep, silent, asked, again, IsFrameProc, did-calls}
use Rattle.world_runs.specs.Turns.{after_turns}
use Rattle.world_runs.proofs.TimelyTurns.{IsTimelyTurn, every-timely}
use Rattle.world_runs.proofs.Numbering.{AreNumbered, first-numbered, later-numbered, did, kept-node, node-is}

-- a frame is of a call that its process made
abbrev pub IsOfPast : (ℕ → NodeState) → Message → Type 0
IsOfPast nodes m = m.number ≤ (proc_of (nodes (caller_of m).node) m.proc).last

abbrev pub IsFramePast : (ℕ → NodeState) → Incoming → Type 0
IsFramePast nodes (Incoming.Frame m) = IsProc m.proc × IsOfPast nodes m
IsFramePast nodes incoming = Unit {0}

no-reply : (ask : Ask) → ask_of (body_of_ask ask) ≡ None → ⊥
no-reply ask none = let own = asked-seen ask in absurd (let e = sym none ∙ own in cc)

-- a reply that an event sends is of the call of the request that it serves
module _ (nodes : ℕ → NodeState) (g : Given) (n : NodeState) where
  turned-replies : (p : ℕ) (o : BegunOp) (stage : Stage) (turn : Turn) → IsReply g (turned g n p o stage turn).frame → IfSome (turned g n p o stage turn).frame (IsOfPast nodes)
  turned-replies p o stage (Turn.Ends reply) is = tt
  turned-replies p o stage (Turn.Asks home ask) is = absurd (no-reply ask is.2)
  turned-replies p o stage (Turn.Waits u k) is = tt

moved-replies : (nodes : ℕ → NodeState) (g : Given) (n : NodeState) (p : ℕ) (o : BegunOp) (stage : Stage) (m : Moved) → IsReply g (moved g n p o stage m).frame → IfSome (moved g n p o stage m).frame (IsOfPast nodes)
moved-replies nodes g n p o stage m is = turned-replies nodes g (record n { desk = m.desk }) p o stage m.turn is

-- the caller of a request that came, and of its reply
request-caller : (m : Message) (ask : Ask) → ask_of m.body ≡ Some ask → (caller_of m).node ≡ m.from
request-caller m ask asks = ap (λ (b : Bool). cond b m.from m.to) (request-is m.body ask asks)

reply-caller : (m : Message) (tick : ℕ) (answer : Answer) → (caller_of (reply_to m tick answer)).node ≡ m.from
reply-caller m tick answer = ap (λ (b : Bool). cond b m.to m.from) (answers-no-request answer)

did-replies : (nodes : ℕ → NodeState) (g : Given) (n : NodeState) (what : What) (incoming : Incoming) (s : Stepped) → IsFramePast nodes incoming → Did g n what incoming s → IsReply g s.frame → IfSome s.frame (IsOfPast nodes)
did-replies nodes g n what incoming s past (paused p has none is) reply = tt
did-replies nodes g n what incoming s past (finished p has none is) reply = tt
did-replies nodes g n what incoming s past (began p op to has none is may) reply = moved-replies nodes g n p (begun_at g n op) Stage.Starts to reply
did-replies nodes g n what incoming s past (resumed p o u k accessed to has is come goes may) reply = moved-replies nodes g n p o Stage.Resumes to reply
did-replies nodes g n what incoming s past (served from index m ask answer sender receiver asks is) reply =
    subst (λ k. m.number ≤ (proc_of (nodes k) m.proc).last) (request-caller m ask asks ∙ sym (reply-caller m n.tick answer)) past.1
did-replies nodes g n what incoming s past (passed_over from index m ask sender receiver asks is) reply = tt
did-replies nodes g n what incoming s past (heard from index m o c said to sender receiver asks is same fits may) reply = moved-replies nodes g n m.proc o (stage_of m.number said) to reply
did-replies nodes g n what incoming s past (ignored from index m sender receiver asks) reply = tt
did-replies nodes g n what incoming s past (resent p from to index number tick o c has is same answer) reply = absurd (no-reply c.ask reply.2)
did-replies nodes g n what incoming s past (gave_up p from to index number tick o c into has is same answer fails) reply = moved-replies nodes g n p o (Stage.Settles c.waiting.number) into reply
did-replies nodes g n what incoming s past (got_ready phase may) reply = tt
did-replies nodes g n what incoming s past (marked from phase tick may) reply = tt

-- numbers of calls never fall
lasts : (g : Given) (n : NodeState) (s : Stepped) → CallStep g n s → (p : ℕ) → IsProc p → (proc_of n p).last ≤ (proc_of s.node p).last
lasts g n s (silent none reply stay four) p proc = let e = (stay p proc).last in omega (arith, e)
lasts g n s (asked q o c other next call frame last now others four) p proc = elim (cases_eq p q) [
  | inl same ↦ subst (λ r. (proc_of n r).last ≤ (proc_of s.node r).last) (sym same) (omega (arith, next, last))
  | inr differs ↦ (let e = ap (λ (x : ProcState). x.last) (others p proc differs) in omega (arith, e))
]
lasts g n s (again q o c other was none frame last now others four) p proc = elim (cases_eq p q) [
  | inl same ↦ subst (λ r. (proc_of n r).last ≤ (proc_of s.node r).last) (sym same) (omega (arith, last))
  | inr differs ↦ (let e = ap (λ (x : ProcState). x.last) (others p proc differs) in omega (arith, e))
]

-- a call that is open after an event was open before it, if it was made before
may-open : (number : ℕ) (o : Option OpenOp) → IsUnasking o → may_notice number o ≡ true → ⊥
may-open number None none may = absurd (cc)
may-open number (Some o) none may = by_await o.awaits none may
  where
    by_await : (a : Await) → IsNoCall a → is_call number a ≡ true → ⊥
    by_await (Await.Answer c) none may = none
    by_await (Await.Page u k) none may = absurd (cc)

still-open : (g : Given) (n : NodeState) (s : Stepped) → CallStep g n s → (p number : ℕ) → IsProc p → number ≤ (proc_of n p).last
    → may_notice number (proc_of s.node p).doing ≡ true → may_notice number (proc_of n p).doing ≡ true
still-open g n s (silent none reply stay four) p number proc past may = elim (stay p proc).doing [
  | inl same ↦ ap (may_notice number) (sym same) ∙ may
  | inr unasking ↦ absurd (may-open number (proc_of s.node p).doing unasking may)
]
still-open g n s (asked q o c other next call frame last now others four) p number proc past may = elim (cases_eq p q) [
  | inl same ↦
      absurd (let h : (number == c.waiting.number) ≡ true = sym (ap (may_notice number) (ap (λ r. (proc_of s.node r).doing) same ∙ now)) ∙ may in
      let e = equal number c.waiting.number h in let l = ap (λ r. (proc_of n r).last) same in omega (arith, e, next, past, l))
  | inr differs ↦ ap (λ (x : ProcState). may_notice number x.doing) (sym (others p proc differs)) ∙ may
]
still-open g n s (again q o c other was none frame last now others four) p number proc past may = elim (cases_eq p q) [
  | inl same ↦
      ap (may_notice number) (ap (λ r. (proc_of n r).doing) same ∙ was)
      ∙ (sym (ap (may_notice number) (ap (λ r. (proc_of s.node r).doing) same ∙ now)) ∙ may)
  | inr differs ↦ ap (λ (x : ProcState). may_notice number x.doing) (sym (others p proc differs)) ∙ may
]

-- in worlds of turns
pub record AreOld (s : Setup) (w : World) : Type 0 where
  pub numbered : AreNumbered s w
  pub frames : (from to : ℕ) → EachOf (λ m. IsProc m.proc × IsOfPast w.nodes m) (w.frames from to)

module _ (s : Setup) (setup : IsSetup s) (plan : List FateRow) where
  module _ (old new : World) (turn : IsTimelyTurn s plan old new) (before : AreOld s old) where
    abbrev n : ℕ
    n = turn.is.act.node

    abbrev ticked_node : NodeState
    ticked_node = ticked (old.nodes n) turn.is.incoming

    own-node : IsNodeOf (given s n) (old.nodes n)
    own-node = kept-node s setup plan old new turn before.numbered

    receives-past : IsFramePast old.nodes turn.is.incoming
    receives-past =
        incoming-is (IsFramePast old.nodes) tt (λ number tick. tt) (λ tick. tt) (λ m. IsProc m.proc × IsOfPast old.nodes m) (λ m is. is)
        old n (λ from. before.frames from n) turn.is.act.what turn.is.incoming turn.is.receives

    receives-proc : IsFrameProc turn.is.incoming
    receives-proc =
        incoming-is IsFrameProc tt (λ number tick. tt) (λ tick. tt) (λ m. IsProc m.proc × IsOfPast old.nodes m) (λ m is. is.0)
        old n (λ from. before.frames from n) turn.is.act.what turn.is.incoming turn.is.receives

    own-did : Did (given s n) ticked_node turn.is.act.what turn.is.incoming turn.is.step
    own-did = did s setup plan old new turn before.numbered

    pub calls : CallStep (given s n) ticked_node turn.is.step
    calls = did-calls (given s n) ticked_node own-node.four (given-procs (given s n) (setup-gives s setup n turn.is.node).programs) turn.is.act.what turn.is.incoming turn.is.step receives-proc own-did

    after : (k : ℕ) → new.nodes k ≡ put old.nodes n turn.is.step.node k
    after = node-is s setup plan old new turn before.numbered

    lasts-stay : (k p : ℕ) → IsProc p → (proc_of (old.nodes k) p).last ≤ (proc_of (new.nodes k) p).last
    lasts-stay k p proc = elim (cases_eq k n) [
      | inl same ↦
          (let e = ap (λ (x : NodeState). (proc_of x p).last) (after k ∙ put-same old.nodes n k turn.is.step.node same) in
          let f = ap (λ i. (proc_of (old.nodes i) p).last) same in
          let l = lasts (given s n) ticked_node turn.is.step calls p proc in omega (arith, e, f, l))
      | inr differs ↦ (let e = ap (λ (x : NodeState). (proc_of x p).last) (after k ∙ put-other old.nodes n k turn.is.step.node differs) in omega (arith, e))
    ]

    past-stays : (m : Message) → IsProc m.proc × IsOfPast old.nodes m → IsProc m.proc × IsOfPast new.nodes m
    past-stays m (proc, past) = (proc, let l = lasts-stay (caller_of m).node m.proc proc in omega (arith, past, l))

    here-last : (p : ℕ) → (proc_of (new.nodes n) p).last ≡ (proc_of turn.is.step.node p).last
    here-last p = ap (λ (x : NodeState). (proc_of x p).last) (after n ∙ put-same old.nodes n n turn.is.step.node refl)

    -- a request is of the open call
    request-past : (p : ℕ) (c : Asked) → c.waiting.number ≤ (proc_of turn.is.step.node p).last → IsOfPast new.nodes (request (given s n) ticked_node p c)
    request-past p c past =
        subst (λ k. c.waiting.number ≤ (proc_of (new.nodes k) p).last) (sym (ap (λ (b : Bool). cond b n c.home) (asks-request c.ask)))
        (let e = here-last p in omega (arith, e, past))

    open-number : (p : ℕ) → IsProc p → (o : BegunOp) (c : Asked) → (proc_of (old.nodes n) p).doing ≡ asking o c → c.waiting.number ≡ (proc_of (old.nodes n) p).last
    open-number p proc o c doing =
        let agrees : Agrees (old.nodes n).desk p (proc_of (old.nodes n) p).last (asking o c) = subst (Agrees (old.nodes n).desk p (proc_of (old.nodes n) p).last) doing (own-node.agrees p proc) in
        (agrees.1.1).number

    frame-past : CallStep (given s n) ticked_node turn.is.step → IfSome turn.is.step.frame (λ m. IsProc m.proc × IsOfPast new.nodes m)
    frame-past (silent none reply stay four) = by_frame turn.is.step.frame reply (did-replies old.nodes (given s n) ticked_node turn.is.act.what turn.is.incoming turn.is.step receives-past own-did reply)
      where
        by_frame : (f : Option Message) → IsReply (given s n) f → IfSome f (IsOfPast old.nodes) → IfSome f (λ m. IsProc m.proc × IsOfPast new.nodes m)
        by_frame None reply past = tt
        by_frame (Some m) reply past = past-stays m (reply.1, past)
    frame-past (asked p o c proc next call frame last now others four) =
        subst (λ (f : Option Message). IfSome f (λ m. IsProc m.proc × IsOfPast new.nodes m)) (sym frame) (proc, request-past p c (omega (arith, last)))
    frame-past (again p o c proc was none frame last now others four) =
        subst (λ (f : Option Message). IfSome f (λ m. IsProc m.proc × IsOfPast new.nodes m)) (sym frame)
        (proc, request-past p (noticed_call c) (let e = open-number p proc o c was in omega (arith, e, last)))

    frames-past : (o : Option Message) → IfSome o (λ m. IsProc m.proc × IsOfPast new.nodes m) → (from to : ℕ) → EachOf (λ m. IsProc m.proc × IsOfPast new.nodes m) (frames_after old n o from to)
    frames-past None past = λ from to. EachOf-more (λ m. IsProc m.proc × IsOfPast old.nodes m) (λ m. IsProc m.proc × IsOfPast new.nodes m) (old.frames from to) past-stays (before.frames from to)
    frames-past (Some m) past =
        frames-one old n m (λ from to x. IsProc x.proc × IsOfPast new.nodes x) past
        (λ from to. EachOf-more (λ x. IsProc x.proc × IsOfPast old.nodes x) (λ x. IsProc x.proc × IsOfPast new.nodes x) (old.frames from to) past-stays (before.frames from to))

    pub later-old : AreOld s new
    later-old = record {
      numbered = later-numbered s setup plan old new turn before.numbered;
      frames = λ from to.
          subst (λ (xs : List Message). EachOf (λ m. IsProc m.proc × IsOfPast new.nodes m) xs) (sym (ap (λ (w : World). w.frames from to) turn.is.world))
          (frames-past turn.is.step.frame (frame-past calls) from to);
    }

    -- the notice of a frame that is enabled after a turn was enabled before it
    pub notice-was : (k p a b i number tick : ℕ) → IsProc p → number ≤ (proc_of (old.nodes k) p).last
        → enabled (given s k) (new.nodes k) (Notice p a b i) (Incoming.Gone number tick) ≡ true → enabled (given s k) (old.nodes k) (Notice p a b i) (Incoming.Gone number tick) ≡ true
    notice-was k p a b i number tick proc past may = elim (cases_eq k n) [
      | inr differs ↦ ap (λ (x : NodeState). enabled (given s k) x (Notice p a b i) (Incoming.Gone number tick)) (sym (after k ∙ put-other old.nodes n k turn.is.step.node differs)) ∙ may
      | inl same ↦ subst (λ j. enabled (given s j) (old.nodes j) (Notice p a b i) (Incoming.Gone number tick) ≡ true) (sym same) (here-was
          (subst (λ j. number ≤ (proc_of (old.nodes j) p).last) same past)
          (ap (λ (x : NodeState). enabled (given s n) x (Notice p a b i) (Incoming.Gone number tick)) (sym (after n ∙ put-same old.nodes n n turn.is.step.node refl))
          ∙ subst (λ j. enabled (given s j) (new.nodes j) (Notice p a b i) (Incoming.Gone number tick) ≡ true) same may))
    ]
      where
        here-was : number ≤ (proc_of (old.nodes n) p).last → enabled (given s n) turn.is.step.node (Notice p a b i) (Incoming.Gone number tick) ≡ true → enabled (given s n) (old.nodes n) (Notice p a b i) (Incoming.Gone number tick) ≡ true
        here-was past may =
            let live = left-true (not (is_ended (given s n) (old.nodes n))) _ turn.is.may in
            let both = right-true (not (is_ended (given s n) turn.is.step.node)) (has_program (given s n) p && may_notice number (proc_of turn.is.step.node p).doing) may in
            let has = left-true (has_program (given s n) p) _ both in
            let opened = still-open (given s n) ticked_node turn.is.step calls p number proc past (right-true (has_program (given s n) p) _ both) in
            ap (λ c. c && (has_program (given s n) p && may_notice number (proc_of (old.nodes n) p).doing)) live
            ∙ ap (λ c. c && may_notice number (proc_of (old.nodes n) p).doing) has
            ∙ opened

  pub first-old : AreOld s (first_world s)
  first-old = record { numbered = first-numbered s setup plan; frames = λ from to. tt }

  pub turns-old : (cs : List ℕ) (w : World) → after_turns s plan cs ≡ Some w → IsTimely w → AreOld s w
  turns-old = every-timely s setup plan (AreOld s) first-old later-old
