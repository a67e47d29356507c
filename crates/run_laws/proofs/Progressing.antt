-- How the processes of a node come on at each kind of event.
use Rattle.std.proofs.Common.{◌≡◌, ℕ, true, List, ◌∷◌, length, Some, None, ◌⊎◌, inl, inr, refl, sym, ap, subst, ◌∙◌}
use Rattle.std.specs.Prelude.{◌&&◌}
use Rattle.uid_names.specs.Names.{ObjectName}
use Rattle.uid_names.proofs.Passed.{equal}
use Rattle.dom_history.specs.declared.op.Op.{Op}
use Rattle.dom_history.specs.declared.op.Reply.{Reply}
use Rattle.dom_history.specs.declared.op.Want.TheVariants.{Do}
use Rattle.dom_history.specs.declared.event.What.{What}
use Rattle.call_once.specs.declared.served.Looked.{Looked}
use Rattle.call_once.specs.declared.served.Looked.TheVariants.{Fresh, Again, Old}
use Rattle.call_once.specs.Calls.{looked, last_of}
use Rattle.ring_messages.specs.Bodies.{Ask, Answer, ask_of}
use Rattle.ring_messages.specs.Frames.{Message, caller_of}
use Rattle.fault_handler.specs.Desks.{DeskState, at, put_at}
use Rattle.fault_handler.specs.Outcomes.{Turn, Moved}
use Rattle.fault_handler.specs.Invariant.{IsProc}
use Rattle.fault_handler.proofs.Fours.{at-put_same, at-put_other}
use Rattle.lock_validate.specs.Answers.{answer_came_of}
use Rattle.node_runs.specs.Setups.{Given}
use Rattle.node_runs.specs.NodeStates.{Asked, Await, BegunOp, OpenOp, ProcState, NodeState, first_proc, proc_of, name_of}
use Rattle.node_runs.specs.Operations.{Said, answered}
use Rattle.node_runs.specs.Incomings.{Incoming, has_program}
use Rattle.node_runs.specs.Notes.{Note}
use Rattle.node_runs.specs.Outcomes.{Stepped, Stage, next_call, turned, dropping, moved}
use Rattle.node_runs.specs.Doings.{begun_at, stage_of, served_note, others_marked}
use Rattle.node_runs.specs.Dones.{Did, asking, paused, finished, began, resumed, served, passed_over, heard, ignored, resent, gave_up, got_ready, marked}
use Rattle.node_runs.specs.Rooms.{MayMove}
use Rattle.node_runs.specs.Agreements.{Agrees}
use Rattle.node_runs.specs.Following.{IsWanted}
use Rattle.node_runs.specs.RunHistories.{is_fault}
use Rattle.node_runs.proofs.CallSteps.{IsFrameProc}
use Rattle.node_runs.proofs.Ticks.{next-procs}
use Rattle.run_laws.specs.Progress.{IsSettling, IsAnswered, IsPart, IsPartDoing, Progress, opens, goes_on, again, did, told, pauses, is_done, IsApart, ProcStep, rests, comes}
use Rattle.run_laws.proofs.Settling.{IsFaultTurn, SettlesOr, MaySettle, said-settles, failed-fault}

-- how an operation that ends is told of
abbrev TellsTurn : Incoming → ℕ → Asked → Turn → Type 0
TellsTurn incoming p c (Turn.Ends reply) = (is_fault reply ≡ true) ⊎ IsAnswered incoming p c
TellsTurn incoming p c (Turn.Asks home ask) = IsSettling c.ask → ⊥
TellsTurn incoming p c (Turn.Waits u k) = IsSettling c.ask → ⊥

fault-tells : (incoming : Incoming) (p : ℕ) (c : Asked) (turn : Turn) → IsFaultTurn turn → TellsTurn incoming p c turn
fault-tells incoming p c (Turn.Ends reply) is = inl is
fault-tells incoming p c (Turn.Asks home ask) is = absurd is
fault-tells incoming p c (Turn.Waits u k) is = absurd is

answer-tells : (m : Message) (p : ℕ) (c : Asked) (turn : Turn) → ask_of m.body ≡ None → m.proc ≡ p → m.number ≡ c.waiting.number → SettlesOr c.ask turn → TellsTurn (Incoming.Frame m) p c turn
answer-tells m p c (Turn.Ends reply) none proc number is = inr (record { frame = m; received = refl; replies = none; proc = proc; number = number; settling = is })
answer-tells m p c (Turn.Asks home ask) none proc number is = is
answer-tells m p c (Turn.Waits u k) none proc number is = is

module _ (g : Given) (n : NodeState) (four : length n.procs ≡ 4) (incoming : Incoming) where
  step-by : (s : Stepped) (p : ℕ) (proc : IsProc p) (new : ProcState) → s.node.procs ≡ put_at n.procs p new → Progress (g.asks p) (name_of g p) n.tick incoming (proc_of n p) new s.note → ProcStep g n incoming s
  step-by s p proc new procs progress =
      comes p proc (λ q other differs. ap (λ ps. at ps q first_proc) procs ∙ at-put_other n.procs p q new first_proc proc other differs)
      (subst (λ (x : ProcState). Progress (g.asks p) (name_of g p) n.tick incoming (proc_of n p) x s.note) (sym (ap (λ ps. at ps p first_proc) procs ∙ at-put_same n.procs p new first_proc four proc)) progress)

  module _ (p : ℕ) (proc : IsProc p) where
    ends-new : (reply : Reply) → ProcState
    ends-new reply = record (proc_of n p) { doing = None; heard = Some reply ∷ (proc_of n p).heard }

    starts : (op : Op) → (proc_of n p).doing ≡ None → g.asks p (proc_of n p).heard ≡ Do op → (d : DeskState) (turn : Turn) (dropped : List (ObjectName × ℕ))
        → ProcStep g n incoming (dropping dropped (turned g (record n { desk = d }) p (begun_at g n op) Stage.Starts turn))
    starts op none asks d (Turn.Ends reply) dropped = step-by _ p proc _ refl (did op reply (subst IsPartDoing (sym none) tt) asks (record { doing = refl; last = refl; heard = refl; phase = refl }) refl)
    starts op none asks d (Turn.Asks home ask) dropped = step-by _ p proc _ refl (opens op (Await.Answer (next_call (proc_of n p) home ask)) asks none refl (refl, refl) (record { heard = refl; phase = refl }) refl)
    starts op none asks d (Turn.Waits u k) dropped = step-by _ p proc _ refl (opens op (Await.Page u k) asks none refl refl (record { heard = refl; phase = refl }) refl)

    resumes : (o : BegunOp) (a : Await) → IsPart a → (proc_of n p).doing ≡ Some (record { began = o; awaits = a }) → g.asks p (proc_of n p).heard ≡ Do o.op → (d : DeskState) (turn : Turn) (dropped : List (ObjectName × ℕ))
        → ProcStep g n incoming (dropping dropped (turned g (record n { desk = d }) p o Stage.Resumes turn))
    resumes o a part is asks d (Turn.Ends reply) dropped = step-by _ p proc _ refl (did o.op reply (subst IsPartDoing (sym is) part) asks (record { doing = refl; last = refl; heard = refl; phase = refl }) refl)
    resumes o a part is asks d (Turn.Asks home ask) dropped = step-by _ p proc _ refl (goes_on o a (Await.Answer (next_call (proc_of n p) home ask)) part is refl (refl, refl) (record { heard = refl; phase = refl }) refl)
    resumes o a part is asks d (Turn.Waits u k) dropped = step-by _ p proc _ refl (goes_on o a (Await.Page u k) part is refl refl (record { heard = refl; phase = refl }) refl)

    settles : (o : BegunOp) (c : Asked) (number : ℕ) → number ≡ c.waiting.number → (proc_of n p).doing ≡ asking o c → g.asks p (proc_of n p).heard ≡ Do o.op → (d : DeskState) (turn : Turn) (dropped : List (ObjectName × ℕ))
        → TellsTurn incoming p c turn → ProcStep g n incoming (dropping dropped (turned g (record n { desk = d }) p o (Stage.Settles number) turn))
    settles o c number same is asks d (Turn.Ends reply) dropped tells =
        step-by _ p proc _ refl (told o c reply asks is (record { doing = refl; last = refl; heard = refl; phase = refl })
        (ap (λ k. Note.Ended (record { proc = name_of g p; phase = (proc_of n p).phase; op = o.op; begun = o.begun; number = k; reply = reply })) same) tells)
    settles o c number same is asks d (Turn.Asks home ask) dropped tells =
        step-by _ p proc _ refl (goes_on o (Await.Answer c) (Await.Answer (next_call (proc_of n p) home ask)) tells is refl (refl, refl) (record { heard = refl; phase = refl }) refl)
    settles o c number same is asks d (Turn.Waits u k) dropped tells = step-by _ p proc _ refl (goes_on o (Await.Answer c) (Await.Page u k) tells is refl refl (record { heard = refl; phase = refl }) refl)

  served-apart : (how : Looked) (m : Message) (ask : Ask) (answer : Answer) → IsApart (served_note how (caller_of m) m.number ask answer)
  served-apart Fresh m ask answer = tt
  served-apart Again m ask answer = tt
  served-apart Old m ask answer = tt

-- an answer that is heard
heard-step : (g : Given) (n : NodeState) (four : length n.procs ≡ 4) (m : Message) (proc : IsProc m.proc) (o : BegunOp) (c : Asked) → ask_of m.body ≡ None → (proc_of n m.proc).doing ≡ asking o c → m.number ≡ c.waiting.number → g.asks m.proc (proc_of n m.proc).heard ≡ Do o.op
    → (said : Said) (to : Moved) → MaySettle n.desk m.proc c.ask said → MayMove m.proc (answered n.desk m.proc said) to → ProcStep g n (Incoming.Frame m) (moved g n m.proc o (stage_of m.number said) to)
heard-step g n four m proc o c none is number asks (Said.Replies reply) to may moves =
    settles g n four (Incoming.Frame m) m.proc proc o c m.number number is asks to.desk to.turn to.dropped
    (subst (λ (x : Moved). TellsTurn (Incoming.Frame m) m.proc c x.turn) (sym moves) (answer-tells m m.proc c (Turn.Ends reply) none refl number may))
heard-step g n four m proc o c none is number asks (Said.ToAccess answer) to may moves = resumes g n four (Incoming.Frame m) m.proc proc o (Await.Answer c) may is asks to.desk to.turn to.dropped
heard-step g n four m proc o c none is number asks (Said.ToLock answer) to may moves =
    settles g n four (Incoming.Frame m) m.proc proc o c m.number number is asks to.desk to.turn to.dropped
    (subst (λ (x : Moved). TellsTurn (Incoming.Frame m) m.proc c x.turn) (sym moves) (answer-tells m m.proc c (answer_came_of n.desk m.proc answer).turn none refl number may))

module _ (g : Given) (n : NodeState) (four : length n.procs ≡ 4) (procs : (p : ℕ) → has_program g p ≡ true → IsProc p) (agrees : (p : ℕ) → IsProc p → Agrees n.desk p (proc_of n p).last (proc_of n p).doing)
    (wanted : (p : ℕ) → IsProc p → IsWanted (g.asks p (proc_of n p).heard) (proc_of n p).doing) where
  wants : (p : ℕ) → IsProc p → (o : OpenOp) → (proc_of n p).doing ≡ Some o → g.asks p (proc_of n p).heard ≡ Do o.began.op
  wants p proc o is = subst (IsWanted (g.asks p (proc_of n p).heard)) is (wanted p proc)

  pub did-progress : (what : What) (incoming : Incoming) (s : Stepped) → IsFrameProc incoming → Did g n what incoming s → ProcStep g n incoming s
  did-progress what incoming s frame (paused p has none is) = step-by g n four incoming _ p (procs p has) _ refl (pauses none is none refl refl refl refl)
  did-progress what incoming s frame (finished p has none is) = step-by g n four incoming _ p (procs p has) _ refl (is_done none is none refl refl refl)
  did-progress what incoming s frame (began p op to has none is may) = starts g n four incoming p (procs p has) op none is to.desk to.turn to.dropped
  did-progress what incoming s frame (resumed p o u k accessed to has is come goes may) = resumes g n four incoming p (procs p has) o (Await.Page u k) tt is (wants p (procs p has) _ is) to.desk to.turn to.dropped
  did-progress what incoming s frame (served from index m ask answer sender receiver asks is) = rests (λ q. refl) (served-apart g n four incoming (looked m.number (last_of (caller_of m) n.side.served)) m ask answer)
  did-progress what incoming s frame (passed_over from index m ask sender receiver asks is) = rests (λ q. refl) tt
  did-progress what incoming s frame (heard from index m o c said to sender receiver asks is same fits may) =
      let agreed = subst (Agrees n.desk m.proc (proc_of n m.proc).last) is (agrees m.proc frame) in
      heard-step g n four m frame o c asks is (equal m.number c.waiting.number same) (wants m.proc frame _ is) said to (said-settles n.desk m.proc c.ask o.op m.body said fits agreed.1.0) may
  did-progress what incoming s frame (ignored from index m sender receiver asks) = rests (λ q. refl) tt
  did-progress what incoming s frame (resent p from to index number tick o c has is same answer) = step-by g n four incoming _ p (procs p has) _ refl (again o c is refl refl (record { heard = refl; phase = refl }) refl)
  did-progress what incoming s frame (gave_up p from to index number tick o c into has is same answer fails) =
      settles g n four incoming p (procs p has) o c c.waiting.number refl is (wants p (procs p has) _ is) into.desk into.turn into.dropped (fault-tells incoming p c into.turn (failed-fault n.desk p o.op into fails))
  did-progress what incoming s frame (got_ready phase may) = let x = record n { ready = true } in rests (λ q. ap (λ ps. at ps q first_proc) (next-procs (x.ready && others_marked g x) x)) tt
  did-progress what incoming s frame (marked from phase tick may) = let x = record n { marks = (from, phase) ∷ n.marks } in rests (λ q. ap (λ ps. at ps q first_proc) (next-procs (x.ready && others_marked g x) x)) tt
