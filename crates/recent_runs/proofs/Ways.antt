-- How an event of a node comes out: what is done at once drops nothing, and where its desk moves it has room, or what is known where room has to
-- be made.
use Rattle.std.proofs.Common.{◌≡◌, ℕ, Bool, true, false, List, [], Option, Some, None, refl, sym, ap, subst, ◌∙◌}
use Rattle.std.specs.Prelude.{◌==◌}
use Rattle.std.specs.Option.{option_map}
use Rattle.std.proofs.lemmas.Option.{same_Some}
use Rattle.uid_names.proofs.Passed.{equal}
use Rattle.dom_history.specs.declared.op.Want.TheVariants.{Do, Phase, Done}
use Rattle.dom_history.specs.declared.event.What.{What}
use Rattle.dom_history.specs.Ranges.{IsOp, IsWant}
use Rattle.call_once.specs.Calls.{looked, last_of}
use Rattle.call_once.specs.declared.served.Looked.{Looked}
use Rattle.ring_messages.specs.Bodies.{Ask, Answer, ask_of}
use Rattle.ring_messages.specs.Frames.{Message, caller_of}
use Rattle.ring_messages.specs.Ranges.{IsBody}
use Rattle.page_server.specs.Serving.{serve_of}
use Rattle.fault_handler.specs.Desks.{DeskState}
use Rattle.fault_handler.specs.Invariant.{IsProc}
use Rattle.node_runs.specs.Setups.{Given, IsGiven}
use Rattle.node_runs.specs.NodeStates.{Asked, Await, BegunOp, OpenOp, NodeState, proc_of}
use Rattle.node_runs.specs.Operations.{Said, said_of}
use Rattle.node_runs.specs.Incomings.{Incoming}
use Rattle.node_runs.specs.Outcomes.{Stage, Stepped}
use Rattle.node_runs.specs.Doings.{Doing, begins, goes_on, replies, serves, hears_said, hears_if, hears_at, hears, takes, gives_up, noticed_call, resends, notices_as, notices, event_of, ticked}
use Rattle.node_runs.specs.Dones.{Did, paused, finished, began, resumed, served, passed_over, heard, ignored, resent, gave_up, got_ready, marked, asking, waiting}
use Rattle.node_runs.specs.Steps.{step_of}
use Rattle.node_runs.specs.Agreements.{Agrees}
use Rattle.node_runs.specs.SentFrames.{IsFrame, IsIncoming}
use Rattle.node_runs.specs.NodesKeep.{IsNodeOf}
use Rattle.node_runs.proofs.SettingUp.{given-procs}
use Rattle.node_runs.proofs.Stepping.{IsStep}
use Rattle.node_runs.proofs.Doing.{step_of-did}
use Rattle.node_runs.proofs.Nodes.{node-with}
use Rattle.run_laws.specs.LastCalls.{IsOpenNumber}
use Rattle.run_laws.proofs.DeskSteps.{gave_up-turn}
use Rattle.recent_runs.specs.Uses.{PageName}
use Rattle.recent_runs.proofs.Rooming.{IsRoomy, settled-roomy, begun-roomy, gone_on-roomy, answered-roomy}

abbrev pub HasWay : DeskState → Doing → Type 0
HasWay old (Doing.Does s) = s.effects.dropped ≡ []
HasWay old (Doing.Moves p o stage accessed) = IsRoomy old p accessed

-- the event is such a one, and has a way to come out
abbrev pub Happens : DeskState → Option Doing → Type 0
Happens old found = (event : Doing) × (found ≡ Some event) × HasWay old event

-- a reply to a request drops nothing
replies-drop : (n : NodeState) (m : Message) (ask : Ask) (how : Looked) (answer : Option Answer) → (replies n m ask how answer).effects.dropped ≡ []
replies-drop n m ask how None = refl
replies-drop n m ask how (Some answer) = refl

module _ (g : Given) (given : IsGiven g) (n : NodeState) (is : IsNodeOf g n) where
  agrees-as : (p : ℕ) → IsProc p → (o : Option OpenOp) → (proc_of n p).doing ≡ o → Agrees n.desk p (proc_of n p).last o
  agrees-as p proc o same = subst (Agrees n.desk p (proc_of n p).last) same (is.agrees p proc)

  -- a reply is taken, whether it fits or not
  module _ (m : Message) (frame : IsFrame m) (receiver : m.to ≡ g.number) where
    caller : IsProc m.proc
    caller = (frame.range.proc_low, frame.range.proc_high)

    range : IsBody n.desk.node m.body
    range = subst (λ a. IsBody a m.body) (receiver ∙ sym is.own.node) frame.range.body

    hears_said-way : (o : BegunOp) (c : Asked) (said : Option Said) → (m.number == c.waiting.number) ≡ true → (proc_of n m.proc).doing ≡ asking o c → Agrees n.desk m.proc (proc_of n m.proc).last (asking o c) → said_of n.desk m.proc o.op m.body ≡ said
        → HasWay n.desk (hears_said n m o said)
    hears_said-way o c None same doing agrees says = refl
    hears_said-way o c (Some said) same doing agrees says =
        answered-roomy n.desk m.proc is.desk caller g.opening (Incoming.Frame m) (proc_of n m.proc).doing o.op c.ask m said refl refl
        (subst (IsOpenNumber m.number) (sym doing) (sym (equal m.number c.waiting.number same))) agrees.1.0 range says

    hears_if-way : (b : Bool) (o : BegunOp) (c : Asked) → (m.number == c.waiting.number) ≡ b → (proc_of n m.proc).doing ≡ asking o c → Agrees n.desk m.proc (proc_of n m.proc).last (asking o c) → HasWay n.desk (hears_if b n m o)
    hears_if-way false o c same doing agrees = refl
    hears_if-way true o c same doing agrees = hears_said-way o c (said_of n.desk m.proc o.op m.body) same doing agrees refl

    hears_at-way : (o : BegunOp) (a : Await) → (proc_of n m.proc).doing ≡ Some (record { began = o; awaits = a }) → Agrees n.desk m.proc (proc_of n m.proc).last (Some (record { began = o; awaits = a })) → HasWay n.desk (hears_at n m o a)
    hears_at-way o (Await.Answer c) doing agrees = hears_if-way (m.number == c.waiting.number) o c refl doing agrees
    hears_at-way o (Await.Page u k) doing agrees = refl

    hears-way : (o : Option OpenOp) → (proc_of n m.proc).doing ≡ o → HasWay n.desk (hears n m o)
    hears-way None doing = refl
    hears-way (Some o) doing = hears_at-way o.began o.awaits doing (agrees-as m.proc caller (Some o) doing)

    takes-happens : ask_of m.body ≡ None → Happens n.desk (Some (takes n m (ask_of m.body)))
    takes-happens asks = (hears n m (proc_of n m.proc).doing, ap (λ a. Some (takes n m a)) asks, hears-way (proc_of n m.proc).doing refl)

  -- a request is answered, or passed over
  serves-happens : (m : Message) (ask : Ask) → ask_of m.body ≡ Some ask → Happens n.desk (Some (takes n m (ask_of m.body)))
  serves-happens m ask asks =
      let served = serve_of n.side (caller_of m) m.number ask in (
        Doing.Does (serves n m ask),
        ap (λ a. Some (takes n m a)) asks,
        replies-drop (record n { side = served.side }) m ask (looked m.number (last_of (caller_of m) n.side.served)) served.answer,
      )

  pub did-happens : (what : What) (incoming : Incoming) (s : Stepped) → IsIncoming incoming → Did g n what incoming s → Happens n.desk (event_of g n what incoming)
  did-happens what incoming s frame (paused p has none want) = (begins g n p Phase, ap (λ w. Some (begins g n p w)) want, refl)
  did-happens what incoming s frame (finished p has none want) = (begins g n p Done, ap (λ w. Some (begins g n p w)) want, refl)
  did-happens what incoming s frame (began p op to has none want way) =
      let proc = given-procs g given.programs p has in
      let range : IsOp op = subst IsWant want (given.wants p (proc_of n p).heard (is.followed p proc).fitting (is.followed p proc).named) in
      (begins g n p (Do op), ap (λ w. Some (begins g n p w)) want, begun-roomy n.desk p is.desk proc g.opening op (agrees-as p proc None none) range)
  did-happens what incoming s frame (resumed p o u k accessed to has doing come goes way) =
      let proc = given-procs g given.programs p has in
      let agrees = agrees-as p proc (waiting o u k) doing in
      (Doing.Moves p o Stage.Resumes accessed, ap (goes_on n p) doing ∙ ap (λ a. option_map (Doing.Moves p o Stage.Resumes) a) goes, gone_on-roomy n.desk p is.desk proc o.op accessed agrees.1.idle goes)
  did-happens what incoming s frame (served from index m ask answer sender receiver asks answers) = serves-happens m ask asks
  did-happens what incoming s frame (passed_over from index m ask sender receiver asks none) = serves-happens m ask asks
  did-happens what incoming s frame (heard from index m o c said to sender receiver asks doing same says way) = takes-happens m frame receiver asks
  did-happens what incoming s frame (ignored from index m sender receiver asks) = takes-happens m frame receiver asks
  did-happens what incoming s frame (resent p from to index number tick o c has doing same answer) =
      (Doing.Does (resends g n p o (noticed_call c)), ap (notices g n p) doing ∙ ap (notices_as g n p o (noticed_call c)) answer, refl)
  did-happens what incoming s frame (gave_up p from to index number tick o c into has doing same answer fails) =
      let proc = given-procs g given.programs p has in
      let agrees = agrees-as p proc (asking o c) doing in
      let turn = gave_up-turn g.opening Incoming.Nothing (proc_of n p).doing n.desk p is.desk proc c.waiting.number o.op c.ask into agrees.1.0 fails in (
        gives_up n p o c.waiting.number into,
        ap (notices g n p) doing ∙ ap (notices_as g n p o (noticed_call c)) answer ∙ ap (λ x. option_map (gives_up n p o c.waiting.number) x) fails,
        settled-roomy g.opening Incoming.Nothing (proc_of n p).doing c.waiting.number n.desk p o.op into turn,
      )
  did-happens what incoming s frame (got_ready phase may) = (Doing.Does _, refl, refl)
  did-happens what incoming s frame (marked from phase tick may) = (Doing.Does _, refl, refl)

-- so of each step
pub step-happens : (g : Given) (n : NodeState) (what : What) (incoming : Incoming) (dropped : List PageName) (s : Stepped) → IsGiven g → IsNodeOf g n → IsIncoming incoming → (step : IsStep g n what incoming dropped s) → step_of g n what incoming dropped ≡ Some s → HasWay n.desk step.event
step-happens g n what incoming dropped s given is frame step e =
    let later = node-with g n (ticked n incoming) is refl refl is.side is.home is.within.side in
    let found = did-happens g given (ticked n incoming) later what incoming s frame (step_of-did g n what incoming dropped s e) in
    subst (HasWay n.desk) (same_Some found.0 step.event (sym found.1 ∙ step.comes)) found.2
