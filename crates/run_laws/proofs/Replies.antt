-- In every run each reply on a link has its decision.
use Rattle.std.proofs.Common.{◌≡◌, ℕ, true, List, [], ◌∷◌, Option, Some, None, inl, inr, refl, sym, ap, subst, ◌∙◌}
use Rattle.std.specs.Prelude.{IfSome, if◌then◌else◌, ◌&&◌, unwrap_or}
use Rattle.std.proofs.lemmas.Bool.{cases_eq}
use Rattle.std.proofs.lemmas.Option.{same_Some}
use Rattle.uid_names.proofs.ListLemmas.{by_cases}
use Rattle.uid_names.specs.Names.{ProcName, ObjectName, same_proc}
use Rattle.uid_names.proofs.Orders.{same_proc_is}
use Rattle.dom_history.specs.declared.event.What.{What}
use Rattle.call_once.specs.declared.served.Looked.{Looked}
use Rattle.call_once.specs.declared.served.Looked.TheVariants.{Fresh, Again, Old}
use Rattle.call_once.specs.Calls.{Call, call_of, body_in, number_in, last_of, looked, with_call}
use Rattle.call_once.proofs.KeptCalls.{call_of-with_call}
use Rattle.call_once.proofs.LookedNumbers.{again-same}
use Rattle.ring_messages.specs.Bodies.{Ask, Answer, ask_of, is_request}
use Rattle.ring_messages.proofs.Asking.{asked-body, asked-seen, asks-request}
use Rattle.ring_messages.specs.Frames.{Message, caller_of}
use Rattle.page_server.specs.Decisions.{decide}
use Rattle.page_server.specs.Serving.{serve_as, serve_of, reply_to}
use Rattle.fault_handler.specs.Desks.{DeskState}
use Rattle.fault_handler.specs.Outcomes.{Turn, Moved}
use Rattle.node_runs.specs.Setups.{Setup, Given, given}
use Rattle.node_runs.specs.NodeStates.{BegunOp, NodeState, proc_of}
use Rattle.node_runs.specs.Incomings.{Incoming}
use Rattle.node_runs.specs.Notes.{Note}
use Rattle.node_runs.specs.Outcomes.{Stepped, Stage, request, next_call, turned, dropping, moved}
use Rattle.node_runs.specs.Doings.{ticked, begun_at, stage_of, noticed_call, served_note, others_marked}
use Rattle.node_runs.specs.Dones.{Did, paused, finished, began, resumed, served, passed_over, heard, ignored, resent, gave_up, got_ready, marked}
use Rattle.node_runs.specs.Runs.{World, Choice, frames_after, world_with, world_after, Noted}
use Rattle.node_runs.specs.CallsKeep.{EachOf}
use Rattle.node_runs.proofs.Doing.{step_of-did}
use Rattle.node_runs.proofs.Sides.{next-side}
use Rattle.node_runs.proofs.Worlds.{IsNext, place_at, every-run}
use Rattle.node_runs.proofs.Receiving.{EachOf-more}
use Rattle.node_runs.proofs.Calls.{put-same, put-other, frames-one}
use Rattle.run_laws.specs.DecidedReplies.{proc_at, IsDecisionOf, WasDecided, IsAnswerOf, WasAnswered, IsReplyOf, AreReplies}

-- the caller of a request
pub caller-at : (m : Message) (ask : Ask) → ask_of m.body ≡ Some ask → caller_of m ≡ proc_at m.from m.proc
caller-at m ask asks = ap (λ b. proc_at (if b then m.from else m.to) m.proc) (ap is_request (asked-body m.body ask asks) ∙ asks-request ask)

-- the caller of a request is decided now, or was before
pub data Answering (n : NodeState) (s : Stepped) (m : Message) (answer : Answer) : Type 0 where
  kept_again : s.node.side ≡ n.side → (call : Call Answer) → call_of (caller_of m) n.side.served ≡ Some call → call.number ≡ m.number → call.body ≡ answer → Answering n s m answer
  newly : (ask : Ask) → s.note ≡ Note.Decided (caller_of m) m.number ask answer
      → s.node.side.served ≡ with_call (record { proc = caller_of m; number = m.number; body = answer }) n.side.served → Answering n s m answer

-- no frame or one that asks is sent; a request is answered
pub data ReplyStep (n : NodeState) (s : Stepped) : Type 0 where
  mute : s.node.side ≡ n.side → s.frame ≡ None → ReplyStep n s
  sends : (m : Message) (ask : Ask) → s.node.side ≡ n.side → s.frame ≡ Some m → ask_of m.body ≡ Some ask → ReplyStep n s
  answers : (m : Message) (ask : Ask) (answer : Answer) → ask_of m.body ≡ Some ask → s.frame ≡ Some (reply_to m n.tick answer) → Answering n s m answer → ReplyStep n s

module _ (g : Given) (n : NodeState) where
  module _ (m : Message) (ask : Ask) (answer : Answer) (s : Stepped) (is : (serve_of n.side (caller_of m) m.number ask).answer ≡ Some answer) (side : s.node.side ≡ (serve_of n.side (caller_of m) m.number ask).side) where
    -- an answer that is kept is that of a call
    from_kept : (o : Option (Call Answer)) → call_of (caller_of m) n.side.served ≡ o → body_in o ≡ Some answer → m.number ≡ last_of (caller_of m) n.side.served → s.node.side ≡ n.side → Answering n s m answer
    from_kept None found body number same = absurd (cc)
    from_kept (Some call) found body number same = kept_again same call found (sym (number ∙ ap number_in found)) (same_Some call.body answer body)

    served-by : (how : Looked) → how ≡ looked m.number (last_of (caller_of m) n.side.served) → s.note ≡ served_note how (caller_of m) m.number ask answer → Answering n s m answer
    served-by Fresh same note =
        let at : serve_of n.side (caller_of m) m.number ask ≡ serve_as Fresh n.side (caller_of m) m.number ask = ap (λ h. serve_as h n.side (caller_of m) m.number ask) (sym same) in
        let told : answer ≡ (decide n.side.home n.side.locks (caller_of m) ask).answer = ap (λ (o : Option Answer). unwrap_or o answer) (sym is ∙ ap (λ v. v.answer) at) in
        newly ask note
        (ap (λ x. x.served) side ∙ ap (λ v. v.side.served) at
        ∙ ap (λ (a : Answer). with_call (record { proc = caller_of m; number = m.number; body = a }) n.side.served) (sym told))
    served-by Again same note =
        let at : serve_of n.side (caller_of m) m.number ask ≡ serve_as Again n.side (caller_of m) m.number ask = ap (λ h. serve_as h n.side (caller_of m) m.number ask) (sym same) in
        from_kept (call_of (caller_of m) n.side.served) refl (sym (ap (λ v. v.answer) at) ∙ is) (again-same m.number (last_of (caller_of m) n.side.served) (sym same)) (side ∙ ap (λ v. v.side) at)
    served-by Old same note =
        let at : serve_of n.side (caller_of m) m.number ask ≡ serve_as Old n.side (caller_of m) m.number ask = ap (λ h. serve_as h n.side (caller_of m) m.number ask) (sym same) in
        absurd (let e = sym is ∙ ap (λ v. v.answer) at in cc)

  -- a request that is passed over changes nothing
  unanswered : (m : Message) (ask : Ask) → (serve_of n.side (caller_of m) m.number ask).answer ≡ None → (how : Looked) → how ≡ looked m.number (last_of (caller_of m) n.side.served) → (serve_of n.side (caller_of m) m.number ask).side ≡ n.side
  unanswered m ask is Fresh same = absurd (let e = sym is ∙ ap (λ h. (serve_as h n.side (caller_of m) m.number ask).answer) (sym same) in cc)
  unanswered m ask is Again same = ap (λ h. (serve_as h n.side (caller_of m) m.number ask).side) (sym same)
  unanswered m ask is Old same = ap (λ h. (serve_as h n.side (caller_of m) m.number ask).side) (sym same)

  turned-reply : (p : ℕ) (o : BegunOp) (stage : Stage) (d : DeskState) (turn : Turn) (dropped : List (ObjectName × ℕ)) → ReplyStep n (dropping dropped (turned g (record n { desk = d }) p o stage turn))
  turned-reply p o stage d (Turn.Ends reply) dropped = mute refl refl
  turned-reply p o stage d (Turn.Asks home ask) dropped = sends (request g (record n { desk = d }) p (next_call (proc_of n p) home ask)) ask refl refl (asked-seen ask)
  turned-reply p o stage d (Turn.Waits u k) dropped = mute refl refl

  moved-reply : (p : ℕ) (o : BegunOp) (stage : Stage) (m : Moved) → ReplyStep n (moved g n p o stage m)
  moved-reply p o stage m = turned-reply p o stage m.desk m.turn m.dropped

  pub did-reply : (what : What) (incoming : Incoming) (s : Stepped) → Did g n what incoming s → ReplyStep n s
  did-reply what incoming s (paused p has none is) = mute refl refl
  did-reply what incoming s (finished p has none is) = mute refl refl
  did-reply what incoming s (began p op to has none is may) = moved-reply p (begun_at g n op) Stage.Starts to
  did-reply what incoming s (resumed p o u k accessed to has is come goes may) = moved-reply p o Stage.Resumes to
  did-reply what incoming s (served from index m ask answer sender receiver asks is) =
      answers m ask answer asks refl (served-by m ask answer _ is refl (looked m.number (last_of (caller_of m) n.side.served)) refl refl)
  did-reply what incoming s (passed_over from index m ask sender receiver asks is) = mute (unanswered m ask is (looked m.number (last_of (caller_of m) n.side.served)) refl) refl
  did-reply what incoming s (heard from index m o c said to sender receiver asks is same fits may) = moved-reply m.proc o (stage_of m.number said) to
  did-reply what incoming s (ignored from index m sender receiver asks) = mute refl refl
  did-reply what incoming s (resent p from to index number tick o c has is same answer) = sends (request g n p (noticed_call c)) c.ask refl refl (asked-seen c.ask)
  did-reply what incoming s (gave_up p from to index number tick o c into has is same answer fails) = moved-reply p o (Stage.Settles c.waiting.number) into
  did-reply what incoming s (got_ready phase may) = let x = record n { ready = true } in mute (next-side (x.ready && others_marked g x) x) refl
  did-reply what incoming s (marked from phase tick may) = let x = record n { marks = (from, phase) ∷ n.marks } in mute (next-side (x.ready && others_marked g x) x) refl

module _ (old : World) (replies : AreReplies old) (c : Choice) (step : Stepped) (n : NodeState) (side : n.side ≡ (old.nodes c.node).side) where
  abbrev after : World
  after = world_with old (place_at c step) c.what step

  abbrev Kept : ℕ → Option (Call Answer) → ProcName → Type 0
  Kept a o p = IfSome o (λ call. WasAnswered after.trace a p call.number call.body)

  lift-frames : (from to : ℕ) → EachOf (IsReplyOf after.trace from to) (old.frames from to)
  lift-frames from to = EachOf-more (IsReplyOf old.trace from to) (IsReplyOf after.trace from to) (old.frames from to) (λ m is none. let was = is none in (was.0, was.1, inr was.2)) (replies.frames from to)

  lift-kept : (a : ℕ) (p : ProcName) (o : Option (Call Answer)) → IfSome o (λ call. WasAnswered old.trace a p call.number call.body) → Kept a o p
  lift-kept a p None is = tt
  lift-kept a p (Some call) is = inr is

  abbrev KeptAt : ℕ → NodeState → Type 0
  KeptAt a x = (p : ProcName) → Kept a (call_of p x.side.served) p

  kept-old : (a : ℕ) → KeptAt a (old.nodes a)
  kept-old a p = lift-kept a p (call_of p (old.nodes a).side.served) (replies.kept a p)

  kept-here : KeptAt c.node n
  kept-here p = subst (λ x. Kept c.node (call_of p x.served) p) (sym side) (kept-old c.node p)

  kept-all : KeptAt c.node step.node → (a : ℕ) → KeptAt a (after.nodes a)
  kept-all here a = elim (cases_eq a c.node) [
    | inl same ↦ subst (λ b. KeptAt b (after.nodes b)) (sym same) (subst (KeptAt c.node) (sym (put-same old.nodes c.node c.node step.node refl)) here)
    | inr away ↦ subst (KeptAt a) (sym (put-other old.nodes c.node a step.node away)) (kept-old a)
  ]

  kept-same : step.node.side ≡ n.side → (a : ℕ) → KeptAt a (after.nodes a)
  kept-same same = kept-all (λ p. subst (λ x. Kept c.node (call_of p x.served) p) (sym same) (kept-here p))

  answer-kept : (m : Message) (answer : Answer) → Answering n step m answer → KeptAt c.node step.node
  answer-kept m answer (kept_again same call found number body) p = subst (λ x. Kept c.node (call_of p x.served) p) (sym same) (kept-here p)
  answer-kept m answer (newly ask note served_now) p =
      let new : Call Answer = record { proc = caller_of m; number = m.number; body = answer } in
      let found : call_of p step.node.side.served ≡ (if same_proc (caller_of m) p then Some new else call_of p n.side.served) = ap (call_of p) served_now ∙ call_of-with_call new n.side.served p in
      subst (λ o. Kept c.node o p) (sym found)
      (by_cases (same_proc (caller_of m) p) (Kept c.node (if same_proc (caller_of m) p then Some new else call_of p n.side.served) p)
      (λ h. subst (λ b. Kept c.node (if b then Some new else call_of p n.side.served) p) (sym h) (inl (refl, subst (IsAnswerOf p m.number answer) (sym note) (same_proc_is (caller_of m) p h, refl, refl))))
      (λ h. subst (λ b. Kept c.node (if b then Some new else call_of p n.side.served) p) (sym h) (kept-here p)))

  answer-decided : (m : Message) (ask : Ask) (answer : Answer) → ask_of m.body ≡ Some ask → Answering n step m answer → WasAnswered after.trace c.node (proc_at m.from m.proc) m.number answer
  answer-decided m ask answer asks (kept_again same call found number body) =
      let at_old : Kept c.node (call_of (caller_of m) n.side.served) (caller_of m) = kept-here (caller_of m) in
      let now : WasAnswered after.trace c.node (caller_of m) call.number call.body = subst (λ o. Kept c.node o (caller_of m)) found at_old in
      subst (λ p. WasAnswered after.trace c.node p m.number answer) (caller-at m ask asks)
      (subst (λ a. WasAnswered after.trace c.node (caller_of m) m.number a) body (subst (λ k. WasAnswered after.trace c.node (caller_of m) k call.body) number now))
  answer-decided m ask answer asks (newly asked note served_now) = inl (refl, subst (IsAnswerOf (proc_at m.from m.proc) m.number answer) (sym note) (caller-at m ask asks, refl, refl))

  with-frame : (f : Option Message) → step.frame ≡ f → ((from to : ℕ) → EachOf (IsReplyOf after.trace from to) (frames_after old c.node f from to)) → (from to : ℕ) → EachOf (IsReplyOf after.trace from to) (after.frames from to)
  with-frame f frame all from to = subst (λ x. EachOf (IsReplyOf after.trace from to) (frames_after old c.node x from to)) (sym frame) (all from to)

  step-replies : ReplyStep n step → AreReplies after
  step-replies (mute same frame) = record { kept = kept-same same; frames = with-frame None frame lift-frames }
  step-replies (sends m ask same frame asks) = record {
    kept = kept-same same;
    frames = with-frame (Some m) frame (frames-one old c.node m (IsReplyOf after.trace) (λ none. absurd (let e : Some ask ≡ None = sym asks ∙ none in cc)) lift-frames);
  }
  step-replies (answers m ask answer asks frame how) = record {
    kept = kept-all (answer-kept m answer how);
    frames = with-frame (Some (reply_to m n.tick answer)) frame (frames-one old c.node (reply_to m n.tick answer) (IsReplyOf after.trace) (λ none. (answer, refl, answer-decided m ask answer asks how)) lift-frames);
  }

module _ (s : Setup) where
  replies-later : (old : World) (c : Choice) (new : World) → IsNext s old c new → AreReplies old → AreReplies new
  replies-later old c new is replies =
      let g = given s c.node in
      let n = ticked (old.nodes c.node) is.incoming in
      subst AreReplies (sym is.world)
      (step-replies old replies c is.step n refl (did-reply g n c.what is.incoming is.step (step_of-did g (old.nodes c.node) c.what is.incoming c.dropped is.step is.steps)))

  -- in every run
  pub replies-are : (cs : List Choice) (w : World) → world_after s cs ≡ Some w → AreReplies w
  replies-are = every-run s AreReplies (record { kept = λ n p. tt; frames = λ from to. tt }) replies-later

answer-decides : (home : ℕ) (p : ProcName) (number : ℕ) (answer : Answer) (note : Note) → IsAnswerOf p number answer note → IsDecisionOf p number note
answer-decides home p number answer Note.Nothing is = absurd is
answer-decides home p number answer (Note.Began q op) is = absurd is
answer-decides home p number answer (Note.Did q phase op reply) is = absurd is
answer-decides home p number answer (Note.Ended t) is = absurd is
answer-decides home p number answer (Note.Decided q k ask given) is = (is.0, is.1)

-- a call that was answered was decided
pub answered-decided : (home : ℕ) (p : ProcName) (number : ℕ) (answer : Answer) (notes : List Noted) → WasAnswered notes home p number answer → WasDecided notes p number
answered-decided home p number answer [] some = absurd some
answered-decided home p number answer (m ∷ older) (inl is) = inl (answer-decides home p number answer m.note is.1)
answered-decided home p number answer (m ∷ older) (inr some) = inr (answered-decided home p number answer older some)
