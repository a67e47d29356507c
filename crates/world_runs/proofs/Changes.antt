-- What an event makes of the calls of processes, with what tells of link faults.
use Rattle.std.proofs.Common.{◌≡◌, ◌≢◌, ℕ, ◌+◌, Bool, true, false, [], ◌∷◌, Option, Some, None, inl, inr, refl, sym, ap, subst, ◌∙◌}
use Rattle.std.specs.Prelude.{◌&&◌}
use Rattle.std.proofs.lemmas.Bool.{cases_eq}
use Rattle.dom_history.specs.declared.event.What.{What}
use Rattle.dom_history.specs.declared.event.What.TheVariants.{Begin, Go, Take, Notice, Ready, Mark}
use Rattle.dom_history.specs.declared.op.Op.{Op}
use Rattle.dom_history.specs.declared.op.Want.TheVariants.{Do}
use Rattle.dom_history.specs.Ranges.{IsWant}
use Rattle.fault_handler.specs.Accesses.{Accessed}
use Rattle.node_runs.specs.Rooms.{MayMove}
use Rattle.call_once.specs.Notices.{noticed}
use Rattle.call_once.specs.declared.asking.Noticed.TheVariants.{GiveUp}
use Rattle.call_once.specs.declared.served.Looked.{Looked}
use Rattle.call_once.specs.declared.served.Looked.TheVariants.{Fresh, Again, Old}
use Rattle.call_once.specs.Calls.{looked, last_of}
use Rattle.ring_messages.specs.Bodies.{Ask, Answer}
use Rattle.ring_messages.specs.Frames.{Message, caller_of}
use Rattle.ring_messages.specs.Ranges.{IsBody}
use Rattle.uid_names.specs.Names.{ProcName, ObjectName}
use Rattle.uid_names.proofs.Passed.{equal}
use Rattle.fault_handler.specs.Desks.{DeskState, at, put_at}
use Rattle.fault_handler.specs.Invariant.{IsProc}
use Rattle.fault_handler.specs.Outcomes.{Turn, Moved}
use Rattle.fault_handler.proofs.Fours.{at-put_same, at-put_other}
use Rattle.node_runs.specs.Setups.{Given, IsGiven}
use Rattle.node_runs.specs.NodeStates.{Asked, BegunOp, OpenOp, ProcState, NodeState, first_proc, proc_of, name_of}
use Rattle.node_runs.specs.Incomings.{Incoming, has_program}
use Rattle.node_runs.specs.Outcomes.{Stepped, Stage, turned, moved}
use Rattle.node_runs.specs.Operations.{begun, gone_on, Said, said_of, answered}
use Rattle.node_runs.specs.Doings.{begun_at, stage_of, noticed_call, served_note, in_next_phase, others_marked}
use Rattle.node_runs.specs.Dones.{Did, asking, waiting, paused, finished, began, resumed, served, passed_over, heard, ignored, resent, gave_up, got_ready, marked}
use Rattle.node_runs.specs.Agreements.{Agrees}
use Rattle.node_runs.specs.NodesKeep.{IsNodeOf}
use Rattle.node_runs.specs.SentFrames.{IsFrame, IsIncoming}
use Rattle.node_runs.specs.RunHistories.{is_fault}
use Rattle.node_runs.proofs.CallSteps.{IsUnasking}
use Rattle.node_runs.proofs.MakingRoom.{always-may}
use Rattle.world_runs.specs.Faults.{CallName, call_if, fault_by, IsFaultlessNote}
use Rattle.world_runs.proofs.Faultless.{IsFaultlessTurn, IsFaultless, begun-faultless, gone_on-faultless, answered-faultless}

-- a process's call is open no more, or it makes its next one
pub data Left (old new : ProcState) : Type 0 where
  idle : new.last ≡ old.last → IsUnasking new.doing → Left old new
  asks : (o : BegunOp) (c : Asked) → new.doing ≡ asking o c → c.waiting.number ≡ old.last + 1 → c.waiting.notices ≡ 0 → new.last ≡ c.waiting.number → Left old new

-- or nothing becomes of its calls
pub data Change (old new : ProcState) : Type 0 where
  same : new.last ≡ old.last → new.doing ≡ old.doing → Change old new
  left : Left old new → Change old new

-- an event that is no notice
abbrev pub IsNoNotice : What → Type 0
IsNoNotice (Notice p from to index) = ⊥
IsNoNotice what = Unit {0}

abbrev pub call_at : Given → ℕ → ℕ → CallName
call_at g p number = record { proc = name_of g p; number = number }

-- an event: no notice; a notice at which the call's frame is sent again; the last notice of a call
pub data Kind (g : Given) (n : NodeState) (s : Stepped) : What → Incoming → Type 0 where
  plain : (what : What) (incoming : Incoming) → IsNoNotice what → ((q : ℕ) → IsProc q → Change (proc_of n q) (proc_of s.node q)) → fault_by s.note ≡ [] → Kind g n s what incoming
  sends : (p from to index number tick : ℕ) (o : BegunOp) (c : Asked) → IsProc p → (proc_of n p).doing ≡ asking o c → number ≡ c.waiting.number
      → (proc_of s.node p).last ≡ (proc_of n p).last → (proc_of s.node p).doing ≡ asking o (noticed_call c) → ((q : ℕ) → IsProc q → q ≢ p → proc_of s.node q ≡ proc_of n q) → fault_by s.note ≡ []
      → Kind g n s (Notice p from to index) (Incoming.Gone number tick)
  gives : (p from to index number tick : ℕ) (o : BegunOp) (c : Asked) (fault : Bool) → IsProc p → (proc_of n p).doing ≡ asking o c → number ≡ c.waiting.number → noticed (c.waiting.notices + 1) ≡ GiveUp
      → Left (proc_of n p) (proc_of s.node p)
      → ((q : ℕ) → IsProc q → q ≢ p → proc_of s.node q ≡ proc_of n q) → fault_by s.note ≡ call_if fault (call_at g p c.waiting.number)
      → Kind g n s (Notice p from to index) (Incoming.Gone number tick)

module _ (g : Given) (given_is : IsGiven g) (n : NodeState) (is : IsNodeOf g n) (procs : (p : ℕ) → has_program g p ≡ true → IsProc p) where
  module _ (p : ℕ) (proc : IsProc p) (new : ProcState) where
    own : proc_of (record n { procs = put_at n.procs p new }) p ≡ new
    own = at-put_same n.procs p new first_proc is.four proc

    others : (q : ℕ) → IsProc q → q ≢ p → proc_of (record n { procs = put_at n.procs p new }) q ≡ proc_of n q
    others q other differs = at-put_other n.procs p q new first_proc proc other differs

    each : Change (proc_of n p) new → (q : ℕ) → IsProc q → Change (proc_of n q) (proc_of (record n { procs = put_at n.procs p new }) q)
    each here q other = elim (cases_eq q p) [
      | inl equals ↦ subst (λ r. Change (proc_of n r) (proc_of (record n { procs = put_at n.procs p new }) r)) (sym equals) (subst (Change (proc_of n p)) (sym own) here)
      | inr differs ↦ subst (Change (proc_of n q)) (sym (others q other differs)) (same refl refl)
    ]

  stays : (q : ProcState) → Change q q
  stays q = same refl refl

  -- what the desk's outcome makes of a process's calls
  turned-left : (p : ℕ) → IsProc p → (o : BegunOp) (stage : Stage) (d : DeskState) (turn : Turn) → Left (proc_of n p) (proc_of (turned g (record n { desk = d }) p o stage turn).node p)
  turned-left p proc o stage d (Turn.Ends reply) = subst (Left (proc_of n p)) (sym (own p proc _)) (idle refl tt)
  turned-left p proc o stage d (Turn.Asks home ask) = subst (Left (proc_of n p)) (sym (own p proc _)) (asks o _ refl refl refl refl)
  turned-left p proc o stage d (Turn.Waits u k) = subst (Left (proc_of n p)) (sym (own p proc _)) (idle refl tt)

  turned-others : (p : ℕ) → IsProc p → (o : BegunOp) (stage : Stage) (d : DeskState) (turn : Turn) → (q : ℕ) → IsProc q → q ≢ p → proc_of (turned g (record n { desk = d }) p o stage turn).node q ≡ proc_of n q
  turned-others p proc o stage d (Turn.Ends reply) = others p proc _
  turned-others p proc o stage d (Turn.Asks home ask) = others p proc _
  turned-others p proc o stage d (Turn.Waits u k) = others p proc _

  moved-each : (p : ℕ) → IsProc p → (o : BegunOp) (stage : Stage) (m : Moved) → (q : ℕ) → IsProc q → Change (proc_of n q) (proc_of (moved g n p o stage m).node q)
  moved-each p proc o stage m q other = elim (cases_eq q p) [
    | inl equals ↦ subst (λ r. Change (proc_of n r) (proc_of (moved g n p o stage m).node r)) (sym equals) (left (turned-left p proc o stage m.desk m.turn))
    | inr differs ↦ subst (Change (proc_of n q)) (sym (turned-others p proc o stage m.desk m.turn q other differs)) (same refl refl)
  ]

  -- what is left for the history
  settles-fault : (b : Bool) (c : CallName) → b ≡ false → call_if b c ≡ []
  settles-fault b c h = ap (λ x. call_if x c) h

  turned-fault : (p : ℕ) (o : BegunOp) (stage : Stage) (d : DeskState) (turn : Turn) → IsFaultlessTurn turn → fault_by (turned g (record n { desk = d }) p o stage turn).note ≡ []
  turned-fault p o Stage.Starts d (Turn.Ends reply) none = refl
  turned-fault p o Stage.Resumes d (Turn.Ends reply) none = refl
  turned-fault p o (Stage.Settles number) d (Turn.Ends reply) none = settles-fault (is_fault reply) _ none
  turned-fault p o Stage.Starts d (Turn.Asks home ask) none = refl
  turned-fault p o Stage.Resumes d (Turn.Asks home ask) none = refl
  turned-fault p o (Stage.Settles number) d (Turn.Asks home ask) none = refl
  turned-fault p o Stage.Starts d (Turn.Waits u k) none = refl
  turned-fault p o Stage.Resumes d (Turn.Waits u k) none = refl
  turned-fault p o (Stage.Settles number) d (Turn.Waits u k) none = refl

  given-up-fault : (p : ℕ) (o : BegunOp) (number : ℕ) (d : DeskState) (turn : Turn) → (b : Bool) × (fault_by (turned g (record n { desk = d }) p o (Stage.Settles number) turn).note ≡ call_if b (call_at g p number))
  given-up-fault p o number d (Turn.Ends reply) = (is_fault reply, refl)
  given-up-fault p o number d (Turn.Asks home ask) = (false, refl)
  given-up-fault p o number d (Turn.Waits u k) = (false, refl)

  -- no reply but at a call that is given up is a link fault's
  turned-note : (p : ℕ) (o : BegunOp) (stage : Stage) (d : DeskState) (turn : Turn) → IsFaultlessTurn turn → IsFaultlessNote (turned g (record n { desk = d }) p o stage turn).note
  turned-note p o Stage.Starts d (Turn.Ends reply) none = none
  turned-note p o Stage.Resumes d (Turn.Ends reply) none = none
  turned-note p o (Stage.Settles number) d (Turn.Ends reply) none = tt
  turned-note p o Stage.Starts d (Turn.Asks home ask) none = tt
  turned-note p o Stage.Resumes d (Turn.Asks home ask) none = tt
  turned-note p o (Stage.Settles number) d (Turn.Asks home ask) none = tt
  turned-note p o Stage.Starts d (Turn.Waits u k) none = tt
  turned-note p o Stage.Resumes d (Turn.Waits u k) none = tt
  turned-note p o (Stage.Settles number) d (Turn.Waits u k) none = tt

  settled-note : (p : ℕ) (o : BegunOp) (number : ℕ) (d : DeskState) (turn : Turn) → IsFaultlessNote (turned g (record n { desk = d }) p o (Stage.Settles number) turn).note
  settled-note p o number d (Turn.Ends reply) = tt
  settled-note p o number d (Turn.Asks home ask) = tt
  settled-note p o number d (Turn.Waits u k) = tt

  -- the turns at which no call is given up
  agrees-at : (p : ℕ) → IsProc p → (doing : Option OpenOp) → (proc_of n p).doing ≡ doing → Agrees n.desk p (proc_of n p).last doing
  agrees-at p proc doing e = subst (Agrees n.desk p (proc_of n p).last) e (is.agrees p proc)

  served-fault : (how : Looked) (p : ProcName) (number : ℕ) (ask : Ask) (answer : Answer) → fault_by (served_note how p number ask answer) ≡ []
  served-fault Fresh p number ask answer = refl
  served-fault Again p number ask answer = refl
  served-fault Old p number ask answer = refl

  served-faultless : (how : Looked) (p : ProcName) (number : ℕ) (ask : Ask) (answer : Answer) → IsFaultlessNote (served_note how p number ask answer)
  served-faultless Fresh p number ask answer = tt
  served-faultless Again p number ask answer = tt
  served-faultless Old p number ask answer = tt

  next-each : (b : Bool) (x : NodeState) → x.procs ≡ n.procs → (q : ℕ) → Change (proc_of n q) (proc_of (in_next_phase b x) q)
  next-each true x e q = subst (Change (proc_of n q)) (sym (ap (λ ps. at ps q first_proc) e)) (same refl refl)
  next-each false x e q = subst (Change (proc_of n q)) (sym (ap (λ ps. at ps q first_proc) e)) (same refl refl)

  faultless-begun : (p : ℕ) (op : Op) (to : Moved) → IsProc p → (proc_of n p).doing ≡ None → g.asks p (proc_of n p).heard ≡ Do op → MayMove p (begun g.opening n.desk p op) to → IsFaultless to
  faultless-begun p op to proc none wants may =
      always-may p IsFaultless (begun g.opening n.desk p op) to
      (begun-faultless n.desk p is.desk proc g.opening op (agrees-at p proc None none) (subst IsWant wants (given_is.wants p (proc_of n p).heard (is.followed p proc).fitting (is.followed p proc).named))) may

  faultless-resumed : (p : ℕ) (o : BegunOp) (u : ObjectName) (k : ℕ) (accessed : Accessed) (to : Moved) → IsProc p → (proc_of n p).doing ≡ waiting o u k → gone_on n.desk p o.op ≡ Some accessed → MayMove p accessed to → IsFaultless to
  faultless-resumed p o u k accessed to proc doing goes may =
      let agrees = agrees-at p proc (waiting o u k) doing in
      always-may p IsFaultless accessed to (gone_on-faultless n.desk p is.desk proc o.op agrees.0 agrees.1.idle accessed goes) may

  faultless-heard : (m : Message) (o : BegunOp) (c : Asked) (said : Said) (to : Moved) → IsFrame m → m.to ≡ g.number → (proc_of n m.proc).doing ≡ asking o c → said_of n.desk m.proc o.op m.body ≡ Some said
      → MayMove m.proc (answered n.desk m.proc said) to → IsFaultless to
  faultless-heard m o c said to frame receiver doing says may =
      let proc : IsProc m.proc = (frame.range.proc_low, frame.range.proc_high) in
      let agrees = agrees-at m.proc proc (asking o c) doing in
      let range : IsBody n.desk.node m.body = subst (λ a. IsBody a m.body) (receiver ∙ sym is.own.node) frame.range.body in
      always-may m.proc IsFaultless (answered n.desk m.proc said) to (answered-faultless n.desk m.proc is.desk proc o.op c.ask m.body said agrees.1.0 range says) may

  pub did-kind : (what : What) (incoming : Incoming) (s : Stepped) → IsIncoming incoming → Did g n what incoming s → Kind g n s what incoming
  did-kind what incoming s frame (paused p has none wants) = plain (Begin p) Incoming.Nothing tt (each p (procs p has) _ (same refl refl)) refl
  did-kind what incoming s frame (finished p has none wants) = plain (Begin p) Incoming.Nothing tt (each p (procs p has) _ (same refl refl)) refl
  did-kind what incoming s frame (began p op to has none wants may) =
      plain (Begin p) Incoming.Nothing tt (moved-each p (procs p has) (begun_at g n op) Stage.Starts to)
      (turned-fault p (begun_at g n op) Stage.Starts to.desk to.turn (faultless-begun p op to (procs p has) none wants may))
  did-kind what incoming s frame (resumed p o u k accessed to has doing come goes may) =
      plain (Go p) Incoming.Nothing tt (moved-each p (procs p has) o Stage.Resumes to) (turned-fault p o Stage.Resumes to.desk to.turn (faultless-resumed p o u k accessed to (procs p has) doing goes may))
  did-kind what incoming s frame (served from index m ask answer sender receiver asked serves) =
      plain (Take from index) (Incoming.Frame m) tt (λ q proc. stays (proc_of n q)) (served-fault (looked m.number (last_of (caller_of m) n.side.served)) (caller_of m) m.number ask answer)
  did-kind what incoming s frame (passed_over from index m ask sender receiver asked serves) = plain (Take from index) (Incoming.Frame m) tt (λ q proc. stays (proc_of n q)) refl
  did-kind what incoming s frame (heard from index m o c said to sender receiver asked doing equals says may) =
      plain (Take from index) (Incoming.Frame m) tt (moved-each m.proc (frame.range.proc_low, frame.range.proc_high) o (stage_of m.number said) to)
      (turned-fault m.proc o (stage_of m.number said) to.desk to.turn (faultless-heard m o c said to frame receiver doing says may))
  did-kind what incoming s frame (ignored from index m sender receiver asked) = plain (Take from index) (Incoming.Frame m) tt (λ q proc. stays (proc_of n q)) refl
  did-kind what incoming s frame (resent p from to index number tick o c has doing equals answer) =
      sends p from to index number tick o c (procs p has) doing (equal number c.waiting.number equals)
      (ap (λ (q : ProcState). q.last) (own p (procs p has) _)) (ap (λ (q : ProcState). q.doing) (own p (procs p has) _)) (others p (procs p has) _) refl
  did-kind what incoming s frame (gave_up p from to index number tick o c into has doing equals answer fails) =
      let found = given-up-fault p o c.waiting.number into.desk into.turn in
      gives p from to index number tick o c found.0 (procs p has) doing (equal number c.waiting.number equals) answer
      (turned-left p (procs p has) o (Stage.Settles c.waiting.number) into.desk into.turn) (turned-others p (procs p has) o (Stage.Settles c.waiting.number) into.desk into.turn) found.1
  did-kind what incoming s frame (got_ready phase may) =
      let x = record n { ready = true } in plain (Ready phase) Incoming.Nothing tt (λ q proc. next-each (x.ready && others_marked g x) x refl q) refl
  did-kind what incoming s frame (marked from phase tick may) =
      let x = record n { marks = (from, phase) ∷ n.marks } in plain (Mark from phase) (Incoming.Mark tick) tt (λ q proc. next-each (x.ready && others_marked g x) x refl q) refl

  pub did-note : (what : What) (incoming : Incoming) (s : Stepped) → IsIncoming incoming → Did g n what incoming s → IsFaultlessNote s.note
  did-note what incoming s frame (paused p has none wants) = tt
  did-note what incoming s frame (finished p has none wants) = tt
  did-note what incoming s frame (began p op to has none wants may) = turned-note p (begun_at g n op) Stage.Starts to.desk to.turn (faultless-begun p op to (procs p has) none wants may)
  did-note what incoming s frame (resumed p o u k accessed to has doing come goes may) = turned-note p o Stage.Resumes to.desk to.turn (faultless-resumed p o u k accessed to (procs p has) doing goes may)
  did-note what incoming s frame (served from index m ask answer sender receiver asked serves) = served-faultless (looked m.number (last_of (caller_of m) n.side.served)) (caller_of m) m.number ask answer
  did-note what incoming s frame (passed_over from index m ask sender receiver asked serves) = tt
  did-note what incoming s frame (heard from index m o c said to sender receiver asked doing equals says may) =
      turned-note m.proc o (stage_of m.number said) to.desk to.turn (faultless-heard m o c said to frame receiver doing says may)
  did-note what incoming s frame (ignored from index m sender receiver asked) = tt
  did-note what incoming s frame (resent p from to index number tick o c has doing equals answer) = tt
  did-note what incoming s frame (gave_up p from to index number tick o c into has doing equals answer fails) = settled-note p o c.waiting.number into.desk into.turn
  did-note what incoming s frame (got_ready phase may) = tt
  did-note what incoming s frame (marked from phase tick may) = tt
