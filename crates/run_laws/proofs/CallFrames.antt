-- What a frame of an open call is: its request on the way to its home, or a reply from there that the call can be given.
use Rattle.std.proofs.Common.{◌≡◌, ℕ, true, List, [], ◌∷◌, Option, Some, None, inl, inr, refl, sym, ap, subst, ◌∙◌}
use Rattle.uid_names.specs.Names.{ProcName}
use Rattle.uid_names.specs.declared.ids.Place.{Place}
use Rattle.dom_history.specs.Objects.{is_node}
use Rattle.ring_messages.specs.Bodies.{Ask, Answer, ask_of, body_of_answer}
use Rattle.ring_messages.specs.Frames.{Message}
use Rattle.fault_handler.specs.Invariant.{IsProc}
use Rattle.node_runs.specs.Setups.{Setup, IsSetup}
use Rattle.node_runs.specs.NodeStates.{Asked, BegunOp, proc_of}
use Rattle.node_runs.specs.Notes.{Note}
use Rattle.node_runs.specs.Dones.{asking}
use Rattle.node_runs.specs.DecidedCalls.{IsDecided}
use Rattle.node_runs.specs.NodesKeep.{IsTimely}
use Rattle.node_runs.specs.Runs.{Noted, World, Choice, numbered, world_after}
use Rattle.node_runs.specs.CallsKeep.{AsksThis, IsCallAt, IsOnLink, EachOf, IsOpenAt, AreCalls}
use Rattle.node_runs.proofs.Calls.{calls-are}
use Rattle.node_runs.proofs.Decisions.{decisions-are}
use Rattle.node_runs.proofs.Receiving.{numbered-each}
use Rattle.node_runs.proofs.SettingUp.{setup-procs}
use Rattle.run_laws.specs.DecidedReplies.{proc_at, IsAnswerAt, WasAnswered, IsReplyOf}
use Rattle.run_laws.proofs.Replies.{replies-are, caller-at}
use Rattle.run_laws.specs.FittingAnswers.{CanAnswer, IsFittingNote}
use Rattle.run_laws.proofs.Fitting.{answers-fit}
use Rattle.run_laws.specs.OpenDecisions.{IsRight, IsRightNote, IsOpenRight}
use Rattle.run_laws.proofs.OpenDecisions.{right-are}
use Rattle.run_laws.specs.FramesOfCalls.{IsOfCall}
use Rattle.run_laws.proofs.Callers.{answered-is}
use Rattle.run_laws.proofs.FirstWaiting.{if-some}

-- a frame on this link, of a call of a process of this node
pub data IsFrameOf (n : ℕ) (c : Asked) (from to : ℕ) (m : Message) : Type 0 where
  requests : from ≡ n → to ≡ c.home → ask_of m.body ≡ Some c.ask → IsFrameOf n c from to m
  replies : (answer : Answer) → to ≡ n → from ≡ c.home → ask_of m.body ≡ None → m.body ≡ body_of_answer answer → CanAnswer c.ask answer → IsRight c.ask answer → IsFrameOf n c from to m

-- an answer of this home to the call of this number
record IsGiven (w : World) (p : ProcName) (number home : ℕ) (answer : Answer) : Type 0 where
  pub ask : Ask
  pub call : IsCallAt (w.calls p.node p.number) number home ask
  pub can : CanAnswer ask answer
  pub right : IsRight ask answer

module _ (w : World) (p : ProcName) (number home : ℕ) (answer : Answer) where
  by-note : (x : Place) (note : Note) → IsAnswerAt home p number answer (record { place = x; note = note }) → IsDecided w x note → IsFittingNote note → IsRightNote p number note → IsGiven w p number home answer
  by-note x Note.Nothing is decided fits right = absurd is.1
  by-note x (Note.Began q op) is decided fits right = absurd is.1
  by-note x (Note.Did q phase op reply) is decided fits right = absurd is.1
  by-note x (Note.Ended t) is decided fits right = absurd is.1
  by-note x (Note.Decided q k ask given) (here, (whose, which, same)) decided fits right = record {
    ask = ask;
    call =
        subst (λ (r : ProcName). IsCallAt (w.calls r.node r.number) number home ask) whose
        (subst (λ i. IsCallAt (w.calls q.node q.number) i home ask) which (subst (λ a. IsCallAt (w.calls q.node q.number) k a ask) here decided.1));
    can = subst (CanAnswer ask) same fits;
    right = subst (IsRight ask) same (right whose which);
  }

  in-trace : (notes : List Noted) → WasAnswered notes home p number answer → EachOf (λ (j : Noted). IsDecided w j.place j.note) notes → EachOf (λ (j : Noted). IsFittingNote j.note) notes
      → EachOf (λ (j : Noted). IsRightNote p number j.note) notes → IsGiven w p number home answer
  in-trace [] some decided fits right = absurd some
  in-trace (j ∷ older) (inl is) decided fits right = by-note j.place j.note is decided.0 fits.0 right.0
  in-trace (j ∷ older) (inr some) decided fits right = in-trace older some decided.1 fits.1 right.1

-- a call asks one thing of one home
one-call : (o : Option Asked) (a b : ℕ) (x y : Ask) → AsksThis o a x → AsksThis o b y → (a ≡ b) × (x ≡ y)
one-call None a b x y is other = absurd is
one-call (Some c) a b x y is other = (sym is.0 ∙ other.0, sym is.1 ∙ other.1)

module _ (s : Setup) (setup : IsSetup s) (cs : List Choice) (w : World) (e : world_after s cs ≡ Some w) (timely : IsTimely w) (n p : ℕ) (node : is_node s.opening n ≡ true) (proc : IsProc p)
    (o : BegunOp) (c : Asked) (doing : (proc_of (w.nodes n) p).doing ≡ asking o c) where
  calls : AreCalls w
  calls = calls-are s (setup-procs s setup) cs w e

  own : IsCallAt (w.calls n p) c.waiting.number c.home c.ask
  own = subst (IsOpenAt (w.calls n p)) doing (calls.opened n p proc)

  right : EachOf (λ (j : Noted). IsRightNote (proc_at n p) c.waiting.number j.note) w.trace
  right = subst (IsOpenRight (proc_at n p) w.trace) doing (right-are s setup cs w e timely n p node proc)

  module _ (from to index : ℕ) (m : Message) (found : numbered index (w.frames from to) ≡ Some m) (call : IsOfCall (proc_at n p) c.waiting.number (Some m)) where
    on-link : IsOnLink w.calls from to m
    on-link = if-some (IsOnLink w.calls from to) (numbered index (w.frames from to)) m (numbered-each (IsOnLink w.calls from to) index (w.frames from to) (calls.frames from to)) found

    request-is : (ask : Ask) → ask_of m.body ≡ Some ask → IsFrameOf n c from to m
    request-is ask asks =
        let caller = sym (caller-at m ask asks) ∙ call.0 in
        let sender : from ≡ n = sym on-link.sender ∙ ap (λ (q : ProcName). q.node) caller in
        let made = on-link.call ask asks in
        let here = subst (λ i. IsCallAt (w.calls n i) m.number to ask) (ap (λ (q : ProcName). q.number) caller) (subst (λ a. IsCallAt (w.calls a m.proc) m.number to ask) sender made) in
        let same = one-call (numbered c.waiting.number (w.calls n p)) to c.home ask c.ask (subst (λ k. IsCallAt (w.calls n p) k to ask) call.1 here) own in
        requests sender same.0 (asks ∙ ap (λ (a : Ask). Some a) same.1)

    reply-is : ask_of m.body ≡ None → IsFrameOf n c from to m
    reply-is asks =
        let told = if-some (IsReplyOf w.trace from to) (numbered index (w.frames from to)) m
        (numbered-each (IsReplyOf w.trace from to) index (w.frames from to) ((replies-are s cs w e).frames from to)) found asks in
        let answer = told.0 in
        let caller = sym (answered-is m answer told.1) ∙ call.0 in
        let receiver : to ≡ n = sym on-link.receiver ∙ ap (λ (q : ProcName). q.node) caller in
        let whose : proc_at to m.proc ≡ proc_at n p = ap (λ a. proc_at a m.proc) receiver ∙ ap (λ i. proc_at n i) (ap (λ (q : ProcName). q.number) caller) in
        let answered = subst (λ (q : ProcName). WasAnswered w.trace from q m.number answer) whose told.2 in
        let given = in-trace w (proc_at n p) c.waiting.number from answer w.trace (subst (λ k. WasAnswered w.trace from (proc_at n p) k answer) call.1 answered)
        (decisions-are s (setup-procs s setup) cs w e).each (answers-fit s (setup-procs s setup) cs w e).decided right in
        let same = one-call (numbered c.waiting.number (w.calls n p)) from c.home given.ask c.ask given.call own in
        replies answer receiver same.0 asks told.1 (subst (λ (a : Ask). CanAnswer a answer) same.1 given.can) (subst (λ (a : Ask). IsRight a answer) same.1 given.right)

    pub frame-of : IsFrameOf n c from to m
    frame-of = by (ask_of m.body) refl
      where
        by : (a : Option Ask) → ask_of m.body ≡ a → IsFrameOf n c from to m
        by None asks = reply-is asks
        by (Some ask) asks = request-is ask asks
