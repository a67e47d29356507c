-- What an event sends of an open call: it sends a frame of it, or leaves it as it was.
use Rattle.std.proofs.Common.{◌≡◌, ℕ, true, List, length, Option, Some, None, inl, inr, refl, sym, ap, subst, ◌∙◌}
use Rattle.std.specs.Prelude.{◌⊎◌, is_some}
use Rattle.std.proofs.lemmas.Bool.{cases_eq, eq-eqb}
use Rattle.std.proofs.lemmas.Option.{same_Some}
use Rattle.world_runs.proofs.Faults.{call-same}
use Rattle.uid_names.specs.Names.{ObjectName}
use Rattle.dom_history.specs.declared.event.What.{What}
use Rattle.dom_history.specs.declared.event.What.TheVariants.{Take, Notice}
use Rattle.ring_messages.specs.Bodies.{Ask, Answer, ask_of}
use Rattle.ring_messages.specs.Frames.{Message, caller_of}
use Rattle.page_server.specs.Serving.{serve_of}
use Rattle.fault_handler.specs.Desks.{DeskState}
use Rattle.fault_handler.specs.Invariant.{IsProc}
use Rattle.fault_handler.specs.Outcomes.{Turn}
use Rattle.fault_handler.proofs.Fours.{at-put_same}
use Rattle.node_runs.specs.Setups.{Given}
use Rattle.node_runs.specs.NodeStates.{Asked, Await, BegunOp, OpenOp, ProcState, NodeState, first_proc, proc_of}
use Rattle.node_runs.specs.Incomings.{Incoming}
use Rattle.node_runs.specs.Operations.{Said, said_of, answered}
use Rattle.node_runs.specs.Outcomes.{Stepped, Stage, request, next_call, turned}
use Rattle.node_runs.specs.Doings.{Doing, noticed_call, stage_of, hears_said, hears_if, hears, takes, ticked}
use Rattle.node_runs.specs.Dones.{Did, asking, paused, finished, began, resumed, served, passed_over, heard, ignored, resent, gave_up, got_ready, marked}
use Rattle.node_runs.specs.Steps.{step_of}
use Rattle.node_runs.proofs.Stepping.{Leaves, step_of-is}
use Rattle.node_runs.proofs.CallSteps.{IsUnasking, CallStep, silent, asked, again}
use Rattle.run_laws.specs.DecidedReplies.{proc_at}
use Rattle.run_laws.specs.FramesOfCalls.{IsOfCall}
use Rattle.run_laws.proofs.Callers.{request-caller, reply-caller}

-- the frame that is sent is of the call that the process has open then
abbrev pub SendsOpen : Given → ℕ → Stepped → Type 0
SendsOpen g p s = (o : BegunOp) (c : Asked) → (proc_of s.node p).doing ≡ asking o c → IsOfCall (proc_at g.number p) c.waiting.number s.frame

abbrev awaited_call : Await → Option Asked
awaited_call (Await.Answer c) = Some c
awaited_call (Await.Page u k) = None

abbrev open_call : Option OpenOp → Option Asked
open_call None = None
open_call (Some o) = awaited_call o.awaits

unasked : (o : BegunOp) (c : Asked) (x : Option OpenOp) → IsUnasking x → x ≡ asking o c → ⊥
unasked o c x is e = subst IsUnasking e is

module _ (g : Given) (n : NodeState) (four : length n.procs ≡ 4) where
  module _ (p : ℕ) (proc : IsProc p) (o : BegunOp) (stage : Stage) (d : DeskState) where
    unasking : (turn : Turn) (x : Option OpenOp) → (proc_of (turned g (record n { desk = d }) p o stage turn).node p).doing ≡ x → IsUnasking x → SendsOpen g p (turned g (record n { desk = d }) p o stage turn)
    unasking turn x left is q c now = absurd (unasked q c x is (sym left ∙ now))

    asks-now : (home : ℕ) (ask : Ask) → (proc_of (turned g (record n { desk = d }) p o stage (Turn.Asks home ask)).node p).doing ≡ asking o (next_call (proc_of n p) home ask)
    asks-now home ask = ap (λ (q : ProcState). q.doing) (at-put_same n.procs p _ first_proc four proc)

    turned-sends : (turn : Turn) → SendsOpen g p (turned g (record n { desk = d }) p o stage turn)
    turned-sends (Turn.Ends reply) = unasking (Turn.Ends reply) None (ap (λ (q : ProcState). q.doing) (at-put_same n.procs p _ first_proc four proc)) tt
    turned-sends (Turn.Asks home ask) = λ q c now.
        subst (λ (x : Asked). IsOfCall (proc_at g.number p) x.waiting.number (Some (request g (record n { desk = d }) p (next_call (proc_of n p) home ask))))
        (call-same o q (next_call (proc_of n p) home ask) c (sym (asks-now home ask) ∙ now))
        (request-caller g (record n { desk = d }) p (next_call (proc_of n p) home ask), refl)
    turned-sends (Turn.Waits u k) = unasking (Turn.Waits u k) (Some (record { began = o; awaits = Await.Page u k })) (ap (λ (q : ProcState). q.doing) (at-put_same n.procs p _ first_proc four proc)) tt

  -- at the notice of a call its frame is sent again, or another call's, or no call is open
  abbrev pub TellsOf : What → Stepped → Type 0
  TellsOf (Notice p from to index) s = IsProc p → SendsOpen g p s
  TellsOf what s = Unit {0}

  resent-sends : (p : ℕ) (o : BegunOp) (c : Asked) (s : Stepped) → (proc_of s.node p).doing ≡ asking o (noticed_call c) → s.frame ≡ Some (request g n p (noticed_call c)) → SendsOpen g p s
  resent-sends p o c s now frame q d then =
      subst (λ (x : Asked). IsOfCall (proc_at g.number p) x.waiting.number s.frame) (call-same o q (noticed_call c) d (sym now ∙ then))
      (subst (IsOfCall (proc_at g.number p) c.waiting.number) (sym frame) (request-caller g n p (noticed_call c), refl))

  pub did-tells : (what : What) (incoming : Incoming) (s : Stepped) → Did g n what incoming s → TellsOf what s
  did-tells what incoming s (paused p has none is) = tt
  did-tells what incoming s (finished p has none is) = tt
  did-tells what incoming s (began p op to has none is may) = tt
  did-tells what incoming s (resumed p o u k accessed to has is come goes may) = tt
  did-tells what incoming s (served from index m ask answer sender receiver asks is) = tt
  did-tells what incoming s (passed_over from index m ask sender receiver asks is) = tt
  did-tells what incoming s (heard from index m o c said to sender receiver asks is same fits may) = tt
  did-tells what incoming s (ignored from index m sender receiver asks) = tt
  did-tells what incoming s (resent p from to index number tick o c has is same answer) = λ proc. resent-sends p o c s (ap (λ (q : ProcState). q.doing) (at-put_same n.procs p _ first_proc four proc)) refl
  did-tells what incoming s (gave_up p from to index number tick o c into has is same answer fails) = λ proc. turned-sends p proc o (Stage.Settles c.waiting.number) into.desk into.turn
  did-tells what incoming s (got_ready phase may) = tt
  did-tells what incoming s (marked from phase tick may) = tt

  -- a request that is not too old is answered
  abbrev pub AnswersIt : Incoming → Stepped → Type 0
  AnswersIt (Incoming.Frame m) s = (ask : Ask) → ask_of m.body ≡ Some ask → is_some (serve_of n.side (caller_of m) m.number ask).answer ≡ true → IsOfCall (caller_of m) m.number s.frame
  AnswersIt incoming s = Unit {0}

  no-answer : (o : Option Answer) → o ≡ None → is_some o ≡ true → ⊥
  no-answer None e some = absurd (cc)
  no-answer (Some a) e some = absurd (cc)

  both-ways : (o : Option Ask) (ask : Ask) → o ≡ None → o ≡ Some ask → ⊥
  both-ways o ask none some = absurd (cc)

  pub did-answers : (what : What) (incoming : Incoming) (s : Stepped) → Did g n what incoming s → AnswersIt incoming s
  did-answers what incoming s (paused p has none is) = tt
  did-answers what incoming s (finished p has none is) = tt
  did-answers what incoming s (began p op to has none is may) = tt
  did-answers what incoming s (resumed p o u k accessed to has is come goes may) = tt
  did-answers what incoming s (served from index m ask answer sender receiver asks is) = λ other also some. (reply-caller m n.tick ask answer asks, refl)
  did-answers what incoming s (passed_over from index m ask sender receiver asks is) = λ other also some.
      absurd (no-answer (serve_of n.side (caller_of m) m.number ask).answer is
      (subst (λ (a : Ask). is_some (serve_of n.side (caller_of m) m.number a).answer ≡ true) (same_Some other ask (sym also ∙ asks)) some))
  did-answers what incoming s (heard from index m o c said to sender receiver asks is same fits may) = λ other also some. absurd (both-ways (ask_of m.body) other asks also)
  did-answers what incoming s (ignored from index m sender receiver asks) = λ other also some. absurd (both-ways (ask_of m.body) other asks also)
  did-answers what incoming s (resent p from to index number tick o c has is same answer) = tt
  did-answers what incoming s (gave_up p from to index number tick o c into has is same answer fails) = tt
  did-answers what incoming s (got_ready phase may) = tt
  did-answers what incoming s (marked from phase tick may) = tt

  -- else a call that is open then is one whose frame is sent, or was open before
  pub sent-or-same : (s : Stepped) → CallStep g n s → (p : ℕ) → IsProc p → (o : BegunOp) (c : Asked) → (proc_of s.node p).doing ≡ asking o c
      → IsOfCall (proc_at g.number p) c.waiting.number s.frame ⊎ ((proc_of n p).doing ≡ asking o c)
  sent-or-same s (silent none reply stay fours) p proc o c now = elim (stay p proc).doing [
    | inl same ↦ inr (sym same ∙ now)
    | inr free ↦ absurd (unasked o c (proc_of s.node p).doing free now)
  ]
  sent-or-same s (asked q o2 d other next call frame last then rest fours) p proc o c now = elim (cases_eq p q) [
    | inl same ↦ inl (subst (λ (x : Asked). IsOfCall (proc_at g.number p) x.waiting.number s.frame) (call-same o2 o d c (sym then ∙ subst (λ i. (proc_of s.node i).doing ≡ asking o c) same now))
        (subst (IsOfCall (proc_at g.number p) d.waiting.number) (sym frame) (subst (λ i. caller_of (request g n q d) ≡ proc_at g.number i) (sym same) (request-caller g n q d), refl)))
    | inr differs ↦ inr (ap (λ (x : ProcState). x.doing) (sym (rest p proc differs)) ∙ now)
  ]
  sent-or-same s (again q o2 d other was none frame last then rest fours) p proc o c now = elim (cases_eq p q) [
    | inl same ↦ inl (subst (λ i. IsOfCall (proc_at g.number i) c.waiting.number s.frame) (sym same) (resent-sends q o2 d s then frame o c (subst (λ i. (proc_of s.node i).doing ≡ asking o c) same now)))
    | inr differs ↦ inr (ap (λ (x : ProcState). x.doing) (sym (rest p proc differs)) ∙ now)
  ]

-- a reply to the open call that fits ends that call: what is sent then is of the next one
module _ (g : Given) (n : NodeState) (four : length n.procs ≡ 4) (from index : ℕ) (m : Message) (dropped : List (ObjectName × ℕ)) (s : Stepped)
    (steps : step_of g n (Take from index) (Incoming.Frame m) dropped ≡ Some s) where
  pub reply-sends : IsProc m.proc → ask_of m.body ≡ None → (o : BegunOp) (c : Asked) → (proc_of n m.proc).doing ≡ asking o c → m.number ≡ c.waiting.number
      → (said : Said) → said_of n.desk m.proc o.op m.body ≡ Some said → SendsOpen g m.proc s
  reply-sends proc asks o c doing number said fits =
      let x = ticked n (Incoming.Frame m) in
      let is = step_of-is g n (Take from index) (Incoming.Frame m) dropped s steps in
      let event : is.event ≡ Doing.Moves m.proc o (stage_of m.number said) (answered n.desk m.proc said) =
      sym (same_Some (takes x m (ask_of m.body)) is.event is.comes) ∙ ap (takes x m) asks ∙ ap (hears x m) doing
      ∙ ap (λ b. hears_if b x m o) (eq-eqb m.number c.waiting.number number) ∙ ap (hears_said x m o) fits in
      let left : Leaves g x (Doing.Moves m.proc o (stage_of m.number said) (answered n.desk m.proc said)) s = subst (λ (e : Doing). Leaves g x e s) event is.leaves in
      subst (SendsOpen g m.proc) (sym left.2) (turned-sends g x four m.proc proc o (stage_of m.number said) left.0.desk left.0.turn)
