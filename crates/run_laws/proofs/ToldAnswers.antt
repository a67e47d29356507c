-- In every run what a process was told of a call is what its home decided, or a link fault.
use Rattle.std.proofs.Common.{◌≡◌, ℕ, Bool, List, ◌++◌, Option, Some, None, inl, inr, sym, ap, subst, ◌∙◌}
use Rattle.std.proofs.lemmas.Option.{same_Some}
use Rattle.uid_names.specs.Names.{ObjectName, ProcName}
use Rattle.dom_history.specs.declared.op.Op.{Op}
use Rattle.dom_history.specs.declared.op.Op.TheVariants as ops
use Rattle.dom_history.specs.Histories.{SomeOf}
use Rattle.ring_messages.specs.Bodies.{Ask, Answer, ask_of, answer_of, body_of_answer}
use Rattle.ring_messages.specs.Frames.{Message}
use Rattle.ring_messages.proofs.Asking.{answers-back, answers-ask-nothing}
use Rattle.fault_handler.specs.declared.open_call.OpenCall.{OpenCall}
use Rattle.fault_handler.specs.declared.open_call.OpenCall.TheVariants as calls
use Rattle.fault_handler.specs.declared.transits.Transit.{Transit}
use Rattle.fault_handler.specs.declared.tasks.Task.{Task}
use Rattle.fault_handler.specs.Desks.{DeskState, open_call_of, task_of, moving_of}
use Rattle.fault_handler.specs.Invariant.{IsProc}
use Rattle.fault_handler.specs.Next.{IsCallOf, IsRequest, IsRequestOf}
use Rattle.node_runs.specs.Setups.{Setup, IsSetup, Given}
use Rattle.node_runs.specs.NodeStates.{Asked, OpenOp, NodeState, proc_of}
use Rattle.node_runs.specs.Incomings.{Incoming}
use Rattle.node_runs.specs.Notes.{Told, Note}
use Rattle.node_runs.specs.Doings.{ticked}
use Rattle.node_runs.specs.Agreements.{IsCallOpen, IsCalling, Agrees}
use Rattle.node_runs.specs.NodesKeep.{IsTimely}
use Rattle.node_runs.specs.Runs.{World, Noted, Choice, calls_after, world_after}
use Rattle.node_runs.specs.RunHistories.{settled_op, told_by, all_told}
use Rattle.node_runs.specs.CallsKeep.{IsCallAt, IsOnLink, IsOpenAt, EachOf}
use Rattle.node_runs.proofs.Receiving.{EachOf-more, incoming-is}
use Rattle.node_runs.proofs.Calls.{Grows, calls-grow}
use Rattle.node_runs.proofs.CallSteps.{IsFrameProc, CallStep, silent, asked, again, did-calls}
use Rattle.node_runs.proofs.SettingUp.{setup-gives, setup-procs}
use Rattle.run_laws.specs.Progress.{IsSettling}
use Rattle.run_laws.specs.DecidedReplies.{proc_at, IsAnswerOf, IsAnswerAt, IsReplyOf}
use Rattle.run_laws.specs.LastCalls.{IsOpenNumber}
use Rattle.run_laws.proofs.Walks.{SomeOf-more}
use Rattle.run_laws.proofs.HearingRuns.{IsKeptNext, every-kept-run, event, event-did, event-incoming}
use Rattle.run_laws.specs.DeskSteps.{Takes}
use Rattle.run_laws.specs.AskedHomes.{IsOpAtHome, IsOpenAtHome, AreOpenAtHomes}
use Rattle.run_laws.specs.ToldAnswers.{TellsReply, IsSettled, IsEnded, IsAtDesk, IsToldBy, IsTold, AreTold}
use Rattle.run_laws.proofs.AskedHomes.{opens-at-homes}
use Rattle.run_laws.proofs.EndedOps.{step-ended}

-- a call that settles an operation is of that operation
abbrev IsOwnAsk : ℕ → Op → Ask → Type 0
IsOwnAsk home op ask = IsSettling ask → settled_op home ask ≡ Some op

module _ (home : ℕ) (moving : Option Transit) where
  lock-own : (u : ObjectName) (m : _) (ask : Ask) → IsRequestOf moving (calls.Lock u m) ask → IsOwnAsk home (ops.Lock u m) ask
  lock-own u m (Ask.Lock v n) is = λ settles. ap (λ (z : ObjectName × _). Some (ops.Lock z.0 z.1)) (let e : (v, n) ≡ (u, m) = ap (λ w. (w, n)) is.0 ∙ ap (λ k. (u, k)) is.1 in e)
  lock-own u m (Ask.PageIn v k) is = absurd is
  lock-own u m (Ask.PageOut v k grant base bytes) is = absurd is
  lock-own u m (Ask.AttrOut v n grant base) is = absurd is
  lock-own u m (Ask.Unlock v) is = absurd is
  lock-own u m (Ask.Remove v) is = absurd is
  lock-own u m (Ask.Make kind room) is = absurd is
  lock-own u m (Ask.ListLocks after) is = absurd is

  unlock-own : (u : ObjectName) (ask : Ask) → IsRequestOf moving (calls.Unlock u) ask → IsOwnAsk home (ops.Unlock u) ask
  unlock-own u (Ask.Unlock v) is = λ settles. ap (λ w. Some (ops.Unlock w)) is
  unlock-own u (Ask.PageIn v k) is = absurd is
  unlock-own u (Ask.PageOut v k grant base bytes) is = absurd is
  unlock-own u (Ask.AttrOut v n grant base) is = absurd is
  unlock-own u (Ask.Lock v m) is = absurd is
  unlock-own u (Ask.Remove v) is = absurd is
  unlock-own u (Ask.Make kind room) is = absurd is
  unlock-own u (Ask.ListLocks after) is = absurd is

  remove-own : (u : ObjectName) (ask : Ask) → IsRequestOf moving (calls.Remove u) ask → IsOwnAsk home (ops.Delete u) ask
  remove-own u (Ask.Remove v) is = λ settles. ap (λ w. Some (ops.Delete w)) is
  remove-own u (Ask.PageIn v k) is = absurd is
  remove-own u (Ask.PageOut v k grant base bytes) is = absurd is
  remove-own u (Ask.AttrOut v n grant base) is = absurd is
  remove-own u (Ask.Lock v m) is = absurd is
  remove-own u (Ask.Unlock v) is = absurd is
  remove-own u (Ask.Make kind room) is = absurd is
  remove-own u (Ask.ListLocks after) is = absurd is

  -- a page or a length settles nothing
  part-own : (op : Op) (call : OpenCall) (ask : Ask) → (IsSettling ask → ⊥) → IsOwnAsk home op ask
  part-own op call ask part = λ settles. absurd (part settles)

  access-part : (ask : Ask) → IsRequestOf moving calls.Access ask → IsSettling ask → ⊥
  access-part (Ask.PageIn v k) is settles = settles
  access-part (Ask.PageOut v k grant base bytes) is settles = settles
  access-part (Ask.AttrOut v n grant base) is settles = settles
  access-part (Ask.Lock v m) is settles = is
  access-part (Ask.Unlock v) is settles = is
  access-part (Ask.Remove v) is settles = is
  access-part (Ask.Make kind room) is settles = is
  access-part (Ask.ListLocks after) is settles = is

  page-part : (u : ObjectName) (k : ℕ) (delete : Bool) (ask : Ask) → IsRequestOf moving (calls.PageOut u k delete) ask → IsSettling ask → ⊥
  page-part u k delete (Ask.PageOut v j grant base bytes) is settles = settles
  page-part u k delete (Ask.PageIn v j) is settles = settles
  page-part u k delete (Ask.AttrOut v n grant base) is settles = settles
  page-part u k delete (Ask.Lock v m) is settles = is
  page-part u k delete (Ask.Unlock v) is settles = is
  page-part u k delete (Ask.Remove v) is settles = is
  page-part u k delete (Ask.Make kind room) is settles = is
  page-part u k delete (Ask.ListLocks after) is settles = is

  length-part : (u : ObjectName) (n : ℕ) (delete : Bool) (ask : Ask) → IsRequestOf moving (calls.AttrOut u n delete) ask → IsSettling ask → ⊥
  length-part u n delete (Ask.AttrOut v m grant base) is settles = settles
  length-part u n delete (Ask.PageIn v j) is settles = settles
  length-part u n delete (Ask.PageOut v j grant base bytes) is settles = settles
  length-part u n delete (Ask.Lock v m) is settles = is
  length-part u n delete (Ask.Unlock v) is settles = is
  length-part u n delete (Ask.Remove v) is settles = is
  length-part u n delete (Ask.Make kind room) is settles = is
  length-part u n delete (Ask.ListLocks after) is settles = is

  call-own : (op : Op) (task : Option Task) (o : Option OpenCall) (ask : Ask) → IsCallOf op task o → IsRequest moving o ask → IsOwnAsk home op ask
  call-own op task None ask of request = absurd request
  call-own op task (Some calls.Access) ask of request = λ settles. absurd (access-part ask request settles)
  call-own op task (Some (calls.Lock u m)) ask of request = subst (λ x. IsOwnAsk home x ask) (sym of) (lock-own u m ask request)
  call-own op task (Some (calls.PageOut u k delete)) ask of request = λ settles. absurd (page-part u k delete ask request settles)
  call-own op task (Some (calls.AttrOut u n delete)) ask of request = λ settles. absurd (length-part u n delete ask request settles)
  call-own op task (Some (calls.Unlock u)) ask of request = subst (λ x. IsOwnAsk home x ask) (sym of) (unlock-own u ask request)
  call-own op task (Some (calls.Remove u)) ask of request = subst (λ x. IsOwnAsk home x ask) (sym of) (remove-own u ask request)

open-own : (d : DeskState) (p : ℕ) (op : Op) (home : ℕ) (ask : Ask) → IsCallOpen d p op ask → IsOwnAsk home op ask
open-own d p op home ask is = call-own home (moving_of d p) op (task_of d p) (open_call_of d p) ask is.opened is.request

pub calling-own : (d : DeskState) (p : ℕ) (op : Op) (home : ℕ) (ask : Ask) → IsOpAtHome op home → IsCalling d p op ask → IsOwnAsk home op ask
calling-own d p (ops.New to kind room) home ask at is = λ settles. ap (settled_op home) is.1 ∙ ap (λ h. Some (ops.New h kind room)) at
calling-own d p (ops.List to after) home ask at is = λ settles. ap (settled_op home) is.1 ∙ ap (λ h. Some (ops.List h after)) at
calling-own d p (ops.Lock u m) home ask at is = open-own d p (ops.Lock u m) home ask is
calling-own d p (ops.Unlock u) home ask at is = open-own d p (ops.Unlock u) home ask is
calling-own d p (ops.Delete u) home ask at is = open-own d p (ops.Delete u) home ask is
calling-own d p (ops.Load spot count) home ask at is = open-own d p (ops.Load spot count) home ask is
calling-own d p (ops.Store spot bytes) home ask at is = open-own d p (ops.Store spot bytes) home ask is
calling-own d p (ops.Length u) home ask at is = open-own d p (ops.Length u) home ask is
calling-own d p (ops.Map u) home ask at is = open-own d p (ops.Map u) home ask is
calling-own d p (ops.Unmap u) home ask at is = open-own d p (ops.Unmap u) home ask is

same-answer : (x y : Answer) → body_of_answer x ≡ body_of_answer y → x ≡ y
same-answer x y same = same_Some x y (sym (answers-back x) ∙ (ap answer_of same ∙ answers-back y))

-- what a frame that is taken answers was decided
module _ (s : Setup) (old : World) (c : Choice) (new : World) (next : IsKeptNext s old c new) where
  abbrev WasGiven : ℕ → ℕ → Answer → Type 0
  WasGiven p number x = SomeOf (λ (j : Noted). IsAnswerOf (proc_at c.node p) number x j.note) old.trace

  abbrev IsGiven_answer : Message → Type 0
  IsGiven_answer m = ask_of m.body ≡ None → (x : Answer) × (m.body ≡ body_of_answer x) × WasGiven m.proc m.number x

  abbrev IsGivenIn : Incoming → Type 0
  IsGivenIn (Incoming.Frame m) = IsGiven_answer m
  IsGivenIn incoming = Unit {0}

  given-in : IsGivenIn next.is.incoming
  given-in = incoming-is IsGivenIn tt (λ number tick. tt) (λ tick. tt) IsGiven_answer (λ m is. is) old c.node
      (λ from. EachOf-more (IsReplyOf old.trace from c.node) IsGiven_answer (old.frames from c.node)
      (λ m is none. let was = is none in (was.0, was.1, SomeOf-more (IsAnswerAt from (proc_at c.node m.proc) m.number was.0) (λ (j : Noted). IsAnswerOf (proc_at c.node m.proc) m.number was.0 j.note) old.trace (λ j at. at.1) was.2))
      (next.replies.frames from c.node)) c.what next.is.incoming next.is.comes

  pub taken-decided : (p : ℕ) (doing : Option OpenOp) (x : Answer) → (takes : Takes next.is.incoming p doing x) → WasGiven p takes.frame.number x
  taken-decided p doing x takes =
      let got = (subst IsGivenIn takes.received given-in) (ap ask_of takes.body ∙ answers-ask-nothing x) in
      let same : got.0 ≡ x = same-answer got.0 x (sym got.1 ∙ takes.body) in
      subst (λ q. WasGiven q takes.frame.number x) takes.proc (subst (λ y. WasGiven takes.frame.proc takes.frame.number y) same got.2)

-- the decision tells of the operation
tells-by : (t : Told) (p : ProcName) (x : Answer) → p ≡ t.proc → TellsReply t.op t.reply x → (note : Note) → IsAnswerOf p t.number x note → IsToldBy t note
tells-by t p x named tells Note.Nothing is = absurd is
tells-by t p x named tells (Note.Began q op) is = absurd is
tells-by t p x named tells (Note.Did q phase op reply) is = absurd is
tells-by t p x named tells (Note.Ended u) is = absurd is
tells-by t p x named tells (Note.Decided q k ask answer) is = (is.0 ∙ named, is.1, subst (TellsReply t.op t.reply) (sym is.2) tells)

ended-desk : (g : Given) (n : NodeState) (incoming : Incoming) (note : Note) → IsEnded g n incoming note → IsAtDesk note
ended-desk g n incoming Note.Nothing is = tt
ended-desk g n incoming (Note.Began q op) is = tt
ended-desk g n incoming (Note.Did q phase op reply) is = is
ended-desk g n incoming (Note.Ended t) is = tt
ended-desk g n incoming (Note.Decided q k ask answer) is = tt

module _ (s : Setup) (setup : IsSetup s) (old : World) (c : Choice) (new : World) (next : IsKeptNext s old c new) (at : AreOpenAtHomes (old.nodes c.node)) (told : AreTold old) where
  open event s old c new next use {g, step, after}

  abbrev m : NodeState
  m = ticked (old.nodes c.node) next.is.incoming

  abbrev calls_now : ℕ → ℕ → List Asked
  calls_now = calls_after old c.node step.call

  abbrev IsToldNow : Told → Type 0
  IsToldNow t = IsTold after t

  calls-step : CallStep g m step
  calls-step = did-calls g m (next.calls.four c.node) (setup-procs s setup c.node) c.what next.is.incoming step
      (incoming-is IsFrameProc tt (λ i tick. tt) (λ tick. tt) (λ x. IsProc x.proc) (λ x is. is) old c.node
      (λ from. EachOf-more (IsOnLink old.calls from c.node) (λ (x : Message). IsProc x.proc) (old.frames from c.node) (λ x is. is.proc) (next.calls.frames from c.node)) c.what next.is.incoming next.is.comes)
      (event-did s old c new next)

  grows : Grows old.calls calls_now
  grows = elim calls-step [
    | silent none reply stay four ↦ subst (λ o. Grows old.calls (calls_after old c.node o)) (sym none) (λ a p k to ask is. is)
    | again p o k owner was none frame last now others four ↦ subst (λ x. Grows old.calls (calls_after old c.node x)) (sym none) (λ a q i to ask is. is)
    | asked p o k owner number made frame last now others four ↦ subst (λ x. Grows old.calls (calls_after old c.node x)) (sym made) (calls-grow old c.node p k)
  ]

  ended : IsEnded g m next.is.incoming step.note
  ended = step-ended g (old.nodes c.node) c.what next.is.incoming c.dropped step (setup-gives s setup c.node next.is.node) (next.kept.nodes c.node next.is.node)
      (event-incoming s old c new next) next.is.steps

  told-still : (t : Told) → IsTold old t → IsToldNow t
  told-still t was = record { home = was.home; ask = was.ask; call = grows t.proc.node t.proc.number t.number was.home was.ask was.call; op = was.op; by = elim was.by [ inl fault ↦ inl fault | inr some ↦ inr (inr some) ] }

  settled-now : (t : Told) → IsSettled g m next.is.incoming t → IsToldNow t
  settled-now t is =
      let call : IsCallAt (old.calls c.node is.proc) is.call.waiting.number is.call.home is.call.ask = subst (IsOpenAt (old.calls c.node is.proc)) is.doing (next.calls.opened c.node is.proc is.owner) in
      let own : IsCallAt (old.calls t.proc.node t.proc.number) t.number is.call.home is.call.ask =
      subst (λ (q : ProcName). IsCallAt (old.calls q.node q.number) t.number is.call.home is.call.ask) (sym is.named) (subst (λ k. IsCallAt (old.calls c.node is.proc) k is.call.home is.call.ask) (sym is.number) call) in
      let agrees = subst (Agrees m.desk is.proc (proc_of m is.proc).last) is.doing ((next.kept.nodes c.node next.is.node).agrees is.proc is.owner) in
      let home : IsOpAtHome t.op is.call.home = (subst IsOpenAtHome is.doing (at is.proc is.owner)).1 in
      record {
        home = is.call.home;
        ask = is.call.ask;
        call = grows t.proc.node t.proc.number t.number is.call.home is.call.ask own;
        op = calling-own m.desk is.proc t.op is.call.home is.call.ask home agrees.1.0;
        by = elim is.by [
          | inl fault ↦ inl fault
          | inr answered ↦
              (let number : answered.1.frame.number ≡ t.number = sym (subst (IsOpenNumber answered.1.frame.number) is.doing answered.1.number) ∙ sym is.number in
              let some = subst (λ k. SomeOf (λ (j : Noted). IsAnswerOf (proc_at c.node is.proc) k answered.0 j.note) old.trace) number (taken-decided s old c new next is.proc (proc_of m is.proc).doing answered.0 answered.1) in
              inr (inr (SomeOf-more (λ (j : Noted). IsAnswerOf (proc_at c.node is.proc) t.number answered.0 j.note) (λ (j : Noted). IsToldBy t j.note) old.trace (λ j by. tells-by t (proc_at c.node is.proc) answered.0 (sym is.named) answered.2 j.note by) some)))
        ];
      }

  told-new : (note : Note) → IsEnded g m next.is.incoming note → EachOf IsToldNow (told_by note ++ all_told old.trace)
  told-new note is = by note is
    where
      rest : EachOf IsToldNow (all_told old.trace)
      rest = EachOf-more (IsTold old) IsToldNow (all_told old.trace) told-still told.told

      by : (note : Note) → IsEnded g m next.is.incoming note → EachOf IsToldNow (told_by note ++ all_told old.trace)
      by Note.Nothing is = rest
      by (Note.Began q op) is = rest
      by (Note.Did q phase op reply) is = rest
      by (Note.Ended t) is = (settled-now t is, rest)
      by (Note.Decided q k ask answer) is = rest

  told-later : AreTold new
  told-later = subst AreTold (sym next.is.world) (record { desks = (ended-desk g m next.is.incoming step.note ended, told.desks); told = told-new step.note ended })

-- in every run
pub told-are : (s : Setup) → IsSetup s → (cs : List Choice) (w : World) → world_after s cs ≡ Some w → IsTimely w → AreTold w
told-are s setup = every-kept-run s setup (setup-procs s setup) AreTold (record { desks = tt; told = tt })
    (λ cs old c new e timely next told. told-later s setup old c new next (opens-at-homes s setup cs old e timely c.node next.is.node) told)
