-- What an event does to the calls of its node's processes.
use Rattle.uid_names.specs.Names.{ObjectName}
use Rattle.std.proofs.Common.{◌≡◌, ◌≢◌, ℕ, ◌+◌, Bool, true, List, ◌∷◌, length, Option, Some, None, ◌⊎◌, inl, inr, refl, sym, ap, subst, ◌∙◌}
use Rattle.dom_history.specs.declared.event.What.{What}
use Rattle.ring_messages.specs.Bodies.{Answer, ask_of}
use Rattle.ring_messages.specs.Frames.{Message}
use Rattle.ring_messages.proofs.Asking.{answers-ask-nothing}
use Rattle.std.specs.Prelude.{◌&&◌}
use Rattle.std.proofs.lemmas.Bool.{cases_eq}
use Rattle.fault_handler.specs.Desks.{DeskState, at, put_at}
use Rattle.fault_handler.specs.Outcomes.{Turn, Moved}
use Rattle.fault_handler.specs.Invariant.{IsProc}
use Rattle.fault_handler.proofs.Fours.{at-put_same, at-put_other, length-put}
use Rattle.node_runs.specs.Setups.{Given}
use Rattle.node_runs.specs.NodeStates.{Asked, Await, BegunOp, OpenOp, ProcState, NodeState, first_proc, proc_of}
use Rattle.node_runs.specs.Incomings.{Incoming, has_program}
use Rattle.node_runs.specs.SentFrames.{IsIncoming}
use Rattle.node_runs.specs.Outcomes.{Stepped, Stage, request, next_call, turned, dropping, moved}
use Rattle.node_runs.specs.Doings.{begun_at, stage_of, noticed_call, in_next_phase, others_marked}
use Rattle.node_runs.specs.Dones.{Did, asking, paused, finished, began, resumed, served, passed_over, heard, ignored, resent, gave_up, got_ready, marked}
use Rattle.node_runs.proofs.Ticks.{next-procs}

-- a frame that answers
abbrev pub IsReply : Given → Option Message → Type 0
IsReply g None = Unit {0}
IsReply g (Some m) = (m.from ≡ g.number) × IsProc m.proc × (ask_of m.body ≡ None)

abbrev pub IsNoCall : Await → Type 0
IsNoCall (Await.Answer c) = ⊥
IsNoCall (Await.Page u k) = Unit {0}

abbrev pub IsUnasking : Option OpenOp → Type 0
IsUnasking None = Unit {0}
IsUnasking (Some o) = IsNoCall o.awaits

-- a process makes no new call, and its open one is the same, or open no more
pub record Stays (old new : ProcState) : Type 0 where
  pub last : new.last ≡ old.last
  pub doing : (new.doing ≡ old.doing) ⊎ IsUnasking new.doing

-- no call is made; one is made; the frame of the open one is sent again
pub data CallStep (g : Given) (n : NodeState) (s : Stepped) : Type 0 where
  silent : s.call ≡ None → IsReply g s.frame → ((p : ℕ) → IsProc p → Stays (proc_of n p) (proc_of s.node p)) → length s.node.procs ≡ 4 → CallStep g n s
  asked : (p : ℕ) (o : BegunOp) (c : Asked) → IsProc p → c.waiting.number ≡ (proc_of n p).last + 1 → s.call ≡ Some (p, c) → s.frame ≡ Some (request g n p c)
      → (proc_of s.node p).last ≡ c.waiting.number → (proc_of s.node p).doing ≡ asking o c → ((q : ℕ) → IsProc q → q ≢ p → proc_of s.node q ≡ proc_of n q) → length s.node.procs ≡ 4 → CallStep g n s
  again : (p : ℕ) (o : BegunOp) (c : Asked) → IsProc p → (proc_of n p).doing ≡ asking o c → s.call ≡ None → s.frame ≡ Some (request g n p (noticed_call c))
      → (proc_of s.node p).last ≡ (proc_of n p).last → (proc_of s.node p).doing ≡ asking o (noticed_call c) → ((q : ℕ) → IsProc q → q ≢ p → proc_of s.node q ≡ proc_of n q) → length s.node.procs ≡ 4 → CallStep g n s

stays : (q : ProcState) → Stays q q
stays q = record { last = refl; doing = inl refl }

-- what is received, if it is a frame, is of a process
abbrev pub IsFrameProc : Incoming → Type 0
IsFrameProc (Incoming.Frame m) = IsProc m.proc
IsFrameProc incoming = Unit {0}

-- one as nodes send them is
pub frame-proc : (i : Incoming) → IsIncoming i → IsFrameProc i
frame-proc Incoming.Nothing is = tt
frame-proc (Incoming.Frame m) is = (is.range.proc_low, is.range.proc_high)
frame-proc (Incoming.Gone number tick) is = tt
frame-proc (Incoming.Mark tick) is = tt

module _ (g : Given) (n : NodeState) (four : length n.procs ≡ 4) where
  module _ (p : ℕ) (proc : IsProc p) (new : ProcState) where
    own : proc_of (record n { procs = put_at n.procs p new }) p ≡ new
    own = at-put_same n.procs p new first_proc four proc

    others : (q : ℕ) → IsProc q → q ≢ p → proc_of (record n { procs = put_at n.procs p new }) q ≡ proc_of n q
    others q other differs = at-put_other n.procs p q new first_proc proc other differs

    all-stay : Stays (proc_of n p) new → (q : ℕ) → IsProc q → Stays (proc_of n q) (proc_of (record n { procs = put_at n.procs p new }) q)
    all-stay here q other = elim (cases_eq q p) [
      | inl same ↦ subst (λ r. Stays (proc_of n r) (proc_of (record n { procs = put_at n.procs p new }) r)) (sym same) (subst (Stays (proc_of n p)) (sym own) here)
      | inr differs ↦ subst (Stays (proc_of n q)) (sym (others q other differs)) (stays (proc_of n q))
    ]

  turned-calls : (p : ℕ) → IsProc p → (o : BegunOp) (stage : Stage) (d : DeskState) (turn : Turn) → CallStep g n (turned g (record n { desk = d }) p o stage turn)
  turned-calls p proc o stage d (Turn.Ends reply) = silent refl tt (all-stay p proc _ (record { last = refl; doing = inr tt })) (length-put n.procs p _ four)
  turned-calls p proc o stage d (Turn.Asks home ask) =
      asked p o (next_call (proc_of n p) home ask) proc refl refl refl (ap (λ q. q.last) (own p proc _)) (ap (λ q. q.doing) (own p proc _)) (others p proc _) (length-put n.procs p _ four)
  turned-calls p proc o stage d (Turn.Waits u k) = silent refl tt (all-stay p proc _ (record { last = refl; doing = inr tt })) (length-put n.procs p _ four)

  -- which pages are dropped says nothing of calls
  dropping-calls : (s : Stepped) (dropped : List (ObjectName × ℕ)) → CallStep g n s → CallStep g n (dropping dropped s)
  dropping-calls s dropped (silent none reply stay fours) = silent none reply stay fours
  dropping-calls s dropped (asked p o c proc next call frame last now rest fours) = asked p o c proc next call frame last now rest fours
  dropping-calls s dropped (again p o c proc was none frame last now rest fours) = again p o c proc was none frame last now rest fours

  moved-calls : (p : ℕ) → IsProc p → (o : BegunOp) (stage : Stage) (m : Moved) → CallStep g n (moved g n p o stage m)
  moved-calls p proc o stage m = dropping-calls (turned g (record n { desk = m.desk }) p o stage m.turn) m.dropped (turned-calls p proc o stage m.desk m.turn)

  phase-calls : (b : Bool) (x : NodeState) → x.procs ≡ n.procs → (q : ℕ) → Stays (proc_of n q) (proc_of (in_next_phase b x) q)
  phase-calls b x same q = let e = ap (λ ps. at ps q first_proc) (next-procs b x ∙ same) in subst (Stays (proc_of n q)) (sym e) (stays (proc_of n q))

  phase-four : (b : Bool) (x : NodeState) → x.procs ≡ n.procs → length (in_next_phase b x).procs ≡ 4
  phase-four b x same = ap (λ ps. length ps) (next-procs b x ∙ same) ∙ four

  pub did-calls : (procs : (p : ℕ) → has_program g p ≡ true → IsProc p) (what : What) (incoming : Incoming) (s : Stepped) → IsFrameProc incoming → Did g n what incoming s → CallStep g n s
  did-calls procs what incoming s frame (paused p has none is) = silent refl tt (all-stay p (procs p has) _ (record { last = refl; doing = inl refl })) (length-put n.procs p _ four)
  did-calls procs what incoming s frame (finished p has none is) = silent refl tt (all-stay p (procs p has) _ (record { last = refl; doing = inl refl })) (length-put n.procs p _ four)
  did-calls procs what incoming s frame (began p op to has none is may) = moved-calls p (procs p has) (begun_at g n op) Stage.Starts to
  did-calls procs what incoming s frame (resumed p o u k accessed to has is come goes may) = moved-calls p (procs p has) o Stage.Resumes to
  did-calls procs what incoming s frame (served from index m ask answer sender receiver asks is) = silent refl (receiver, frame, answers-ask-nothing answer) (λ p proc. stays (proc_of n p)) four
  did-calls procs what incoming s frame (passed_over from index m ask sender receiver asks is) = silent refl tt (λ p proc. stays (proc_of n p)) four
  did-calls procs what incoming s frame (heard from index m o c said to sender receiver asks is same fits may) = moved-calls m.proc frame o (stage_of m.number said) to
  did-calls procs what incoming s frame (ignored from index m sender receiver asks) = silent refl tt (λ p proc. stays (proc_of n p)) four
  did-calls procs what incoming s frame (resent p from to index number tick o c has is same answer) =
      again p o c (procs p has) is refl refl (ap (λ q. q.last) (own p (procs p has) _)) (ap (λ q. q.doing) (own p (procs p has) _)) (others p (procs p has) _) (length-put n.procs p _ four)
  did-calls procs what incoming s frame (gave_up p from to index number tick o c into has is same answer fails) = moved-calls p (procs p has) o (Stage.Settles c.waiting.number) into
  did-calls procs what incoming s frame (got_ready phase may) =
      let x = record n { ready = true } in silent refl tt (λ p proc. phase-calls (x.ready && others_marked g x) x refl p) (phase-four (x.ready && others_marked g x) x refl)
  did-calls procs what incoming s frame (marked from phase tick may) =
      let x = record n { marks = (from, phase) ∷ n.marks } in silent refl tt (λ p proc. phase-calls (x.ready && others_marked g x) x refl p) (phase-four (x.ready && others_marked g x) x refl)
