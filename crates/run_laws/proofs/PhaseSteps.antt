-- What each kind of event does to the phases of its node and of its processes.
use Rattle.std.proofs.Common.{◌≡◌, ℕ, ◌≤◌, ◌<◌, Bool, true, false, List, [], ◌∷◌, length, Some, inl, inr, refl, sym, ap, subst, ◌∙◌, arith}
use Rattle.std.specs.Prelude.{◌==◌, ◌&&◌, ◌||◌, not, is_none}
use Rattle.std.specs.List.{list_all}
use Rattle.std.proofs.lemmas.Bool.{cases_eq, not-true}
use Rattle.std.proofs.lemmas.Bool.Decides.{nat_tests}
use Rattle.uid_names.proofs.ListLemmas.{list_all-one}
use Rattle.uid_names.proofs.Passed.{left-true, right-true, equal}
use Rattle.dom_history.specs.declared.event.What.{What}
use Rattle.dom_history.specs.declared.event.What.TheVariants.{Ready, Mark}
use Rattle.fault_handler.specs.Desks.{at, put_at}
use Rattle.fault_handler.specs.Outcomes.{Turn, Moved}
use Rattle.fault_handler.specs.Invariant.{IsProc}
use Rattle.fault_handler.proofs.Fours.{at-put_same, at-put_other}
use Rattle.node_runs.specs.Setups.{Given}
use Rattle.node_runs.specs.NodeStates.{BegunOp, OpenOp, ProcState, NodeState, first_proc, proc_of, is_at_end, is_ended}
use Rattle.node_runs.specs.Incomings.{Incoming, has_program, may_happen}
use Rattle.node_runs.specs.Notes.{Note}
use Rattle.node_runs.specs.Outcomes.{Stepped, Stage, moved}
use Rattle.node_runs.specs.Doings.{begun_at, stage_of, in_next_phase, others_marked, after_marks}
use Rattle.node_runs.specs.Dones.{Did, paused, finished, began, resumed, served, passed_over, heard, ignored, resent, gave_up, got_ready, marked}
use Rattle.node_runs.specs.Runs.{World, marks_after}
use Rattle.node_runs.proofs.CallSteps.{IsFrameProc}

-- nothing of it; its mark was sent; another's was taken
pub data NodePhase (g : Given) (n : NodeState) (what : What) (incoming : Incoming) (s : Stepped) : Type 0 where
  same : s.node.phase ≡ n.phase → s.node.ready ≡ n.ready → s.node.marks ≡ n.marks → ((w : World) (k tick : ℕ) → marks_after w k tick what ≡ w.marks) → NodePhase g n what incoming s
  readied : (phase : ℕ) → what ≡ Ready phase → phase ≡ n.phase → ((p : ℕ) → has_program g p ≡ true → n.phase < (proc_of n p).phase) → s.node ≡ after_marks g (record n { ready = true }) → s.note ≡ Note.Nothing → NodePhase g n what incoming s
  took : (from phase tick : ℕ) → what ≡ Mark from phase → incoming ≡ Incoming.Mark tick → s.node ≡ after_marks g (record n { marks = (from, phase) ∷ n.marks }) → s.note ≡ Note.Nothing → NodePhase g n what incoming s

module _ (g : Given) (n : NodeState) (what : What) (incoming : Incoming) where
  turned-node : (s : Stepped) → ((w : World) (k tick : ℕ) → marks_after w k tick what ≡ w.marks) → (p : ℕ) (o : BegunOp) (stage : Stage) (m : Moved) → s ≡ moved g n p o stage m → NodePhase g n what incoming s
  turned-node s marks p o stage m is = by m.turn is
    where
      by : (turn : Turn) → s ≡ moved g n p o stage (record m { turn = turn }) → NodePhase g n what incoming s
      by (Turn.Ends reply) e = same (ap (λ (x : Stepped). x.node.phase) e) (ap (λ (x : Stepped). x.node.ready) e) (ap (λ (x : Stepped). x.node.marks) e) marks
      by (Turn.Asks home ask) e = same (ap (λ (x : Stepped). x.node.phase) e) (ap (λ (x : Stepped). x.node.ready) e) (ap (λ (x : Stepped). x.node.marks) e) marks
      by (Turn.Waits u k) e = same (ap (λ (x : Stepped). x.node.phase) e) (ap (λ (x : Stepped). x.node.ready) e) (ap (λ (x : Stepped). x.node.marks) e) marks

pub did-node : (g : Given) (n : NodeState) (what : What) (incoming : Incoming) (s : Stepped) → may_happen g n what incoming ≡ true → Did g n what incoming s → NodePhase g n what incoming s
did-node g n what incoming s may (paused p has none is) = same refl refl refl (λ w k tick. refl)
did-node g n what incoming s may (finished p has none is) = same refl refl refl (λ w k tick. refl)
did-node g n what incoming s may (began p op to has none is moves) = turned-node g n what incoming s (λ w k tick. refl) p (begun_at g n op) Stage.Starts to refl
did-node g n what incoming s may (resumed p o u page accessed to has is come goes moves) = turned-node g n what incoming s (λ w k tick. refl) p o Stage.Resumes to refl
did-node g n what incoming s may (served from index m ask answer sender receiver asks is) = same refl refl refl (λ w k tick. refl)
did-node g n what incoming s may (passed_over from index m ask sender receiver asks is) = same refl refl refl (λ w k tick. refl)
did-node g n what incoming s may (heard from index m o c said to sender receiver asks is number fits moves) = turned-node g n what incoming s (λ w k tick. refl) m.proc o (stage_of m.number said) to refl
did-node g n what incoming s may (ignored from index m sender receiver asks) = same refl refl refl (λ w k tick. refl)
did-node g n what incoming s may (resent p from to index number tick o c has is number_is answer) = same refl refl refl (λ w k tick. refl)
did-node g n what incoming s may (gave_up p from to index number tick o c into has is number_is answer fails) = turned-node g n what incoming s (λ w k tick. refl) p o (Stage.Settles c.waiting.number) into refl
did-node g n what incoming s may (got_ready phase happens) =
    readied phase refl (equal phase n.phase (left-true (phase == n.phase) _ happens))
    (λ p has. let e = list_all-one (is_at_end n) g.programs p (right-true (not n.ready) (list_all (is_at_end n) g.programs) (right-true (phase == n.phase) (not n.ready && list_all (is_at_end n) g.programs) happens)) has in grind (arith, nat_tests, e))
    refl refl
did-node g n what incoming s may (marked from phase tick happens) = took from phase tick refl refl refl refl

-- a process does nothing; it goes on with its operation; it begins one, or comes to the end of a phase
pub data ProcPhase (g : Given) (n : NodeState) (q : ℕ) (new : ProcState) : Type 0 where
  stays : new ≡ proc_of n q → ProcPhase g n q new
  works : (o : OpenOp) → (proc_of n q).doing ≡ Some o → new.phase ≡ (proc_of n q).phase → ProcPhase g n q new
  begins : has_program g q ≡ true → (proc_of n q).phase ≤ n.phase → n.phase ≤ g.phases → (proc_of n q).phase ≤ new.phase → ProcPhase g n q new

module _ (g : Given) (n : NodeState) (four : length n.procs ≡ 4) where
  -- one process is another, the others stay
  put-each : (p : ℕ) → IsProc p → (new : ProcState) → ProcPhase g n p new → (procs : List ProcState) → procs ≡ put_at n.procs p new → (q : ℕ) → IsProc q → ProcPhase g n q (at procs q first_proc)
  put-each p proc new here procs is q other = elim (cases_eq q p) [
    | inl there ↦ subst (λ r. ProcPhase g n r (at procs r first_proc)) (sym there) (subst (ProcPhase g n p) (sym (ap (λ ps. at ps p first_proc) is ∙ at-put_same n.procs p new first_proc four proc)) here)
    | inr beside ↦ stays (ap (λ ps. at ps q first_proc) is ∙ at-put_other n.procs p q new first_proc proc other beside)
  ]

  turned-each : (p : ℕ) → IsProc p → (o : BegunOp) (stage : Stage) (m : Moved) → ((new : ProcState) → new.phase ≡ (proc_of n p).phase → ProcPhase g n p new) → (q : ℕ) → IsProc q → ProcPhase g n q (proc_of (moved g n p o stage m).node q)
  turned-each p proc o stage m here = by m.turn
    where
      by : (turn : Turn) → (q : ℕ) → IsProc q → ProcPhase g n q (proc_of (moved g n p o stage (record m { turn = turn })).node q)
      by (Turn.Ends reply) = put-each p proc _ (here _ refl) _ refl
      by (Turn.Asks home ask) = put-each p proc _ (here _ refl) _ refl
      by (Turn.Waits u k) = put-each p proc _ (here _ refl) _ refl

  next-procs : (b : Bool) (x : NodeState) → (in_next_phase b x).procs ≡ x.procs
  next-procs true x = refl
  next-procs false x = refl

  pub did-procs : ((p : ℕ) → has_program g p ≡ true → IsProc p) → is_ended g n ≡ false → (what : What) (incoming : Incoming) (s : Stepped) → IsFrameProc incoming → may_happen g n what incoming ≡ true → Did g n what incoming s
      → (q : ℕ) → IsProc q → ProcPhase g n q (proc_of s.node q)
  did-procs procs alive what incoming s frame may (paused p has none is) = put-each p (procs p has) _ (begins has (begin-phase may) (begin-least) (omega arith)) _ refl
    where
      begin-least : n.phase ≤ g.phases
      begin-least = grind (arith, nat_tests, alive)

      begin-phase : may_happen g n what incoming ≡ true → (proc_of n p).phase ≤ n.phase
      begin-phase h = let e = not-true (is_at_end n p) (right-true (is_none (proc_of n p).doing) (not (is_at_end n p)) (right-true (has_program g p) _ h)) in grind (arith, nat_tests, e)
  did-procs procs alive what incoming s frame may (finished p has none is) = put-each p (procs p has) _ (begins has begin-phase begin-least (omega (arith, begin-phase, begin-least))) _ refl
    where
      begin-least : n.phase ≤ g.phases
      begin-least = grind (arith, nat_tests, alive)

      begin-phase : (proc_of n p).phase ≤ n.phase
      begin-phase = let e = not-true (is_at_end n p) (right-true (is_none (proc_of n p).doing) (not (is_at_end n p)) (right-true (has_program g p) _ may)) in grind (arith, nat_tests, e)
  did-procs procs alive what incoming s frame may (began p op to has none is moves) = turned-each p (procs p has) (begun_at g n op) Stage.Starts to (λ new same. begins has begin-phase begin-least (omega (arith, same)))
    where
      begin-least : n.phase ≤ g.phases
      begin-least = grind (arith, nat_tests, alive)

      begin-phase : (proc_of n p).phase ≤ n.phase
      begin-phase = let e = not-true (is_at_end n p) (right-true (is_none (proc_of n p).doing) (not (is_at_end n p)) (right-true (has_program g p) _ may)) in grind (arith, nat_tests, e)
  did-procs procs alive what incoming s frame may (resumed p o u page accessed to has is come goes moves) = turned-each p (procs p has) o Stage.Resumes to (λ new same. works _ is same)
  did-procs procs alive what incoming s frame may (served from index m ask answer sender receiver asks is) = λ q other. stays refl
  did-procs procs alive what incoming s frame may (passed_over from index m ask sender receiver asks is) = λ q other. stays refl
  did-procs procs alive what incoming s frame may (heard from index m o c said to sender receiver asks is number fits moves) = turned-each m.proc frame o (stage_of m.number said) to (λ new same. works _ is same)
  did-procs procs alive what incoming s frame may (ignored from index m sender receiver asks) = λ q other. stays refl
  did-procs procs alive what incoming s frame may (resent p from to index number tick o c has is number_is answer) = put-each p (procs p has) _ (works _ is refl) _ refl
  did-procs procs alive what incoming s frame may (gave_up p from to index number tick o c into has is number_is answer fails) = turned-each p (procs p has) o (Stage.Settles c.waiting.number) into (λ new same. works _ is same)
  did-procs procs alive what incoming s frame may (got_ready phase happens) = let x = record n { ready = true } in λ q other. stays (ap (λ ps. at ps q first_proc) (next-procs (x.ready && others_marked g x) x))
  did-procs procs alive what incoming s frame may (marked from phase tick happens) = let x = record n { marks = (from, phase) ∷ n.marks } in λ q other. stays (ap (λ ps. at ps q first_proc) (next-procs (x.ready && others_marked g x) x))
