-- What each event does to the marks that its node took, and that no node has taken all marks of a phase and stays in it.
use Rattle.std.proofs.Common.{◌≡◌, ℕ, ◌≤◌, Bool, true, false, ◌∷◌, refl, sym, subst, arith}
use Rattle.std.specs.Prelude.{◌==◌, ◌&&◌, not}
use Rattle.std.proofs.lemmas.Bool.{not-true}
use Rattle.uid_names.proofs.Passed.{right-true}
use Rattle.dom_history.specs.declared.event.What.{What}
use Rattle.dom_history.specs.declared.event.What.TheVariants.{Mark}
use Rattle.fault_handler.specs.Outcomes.{Turn, Moved}
use Rattle.node_runs.specs.Setups.{Given}
use Rattle.node_runs.specs.NodeStates.{BegunOp, NodeState, is_marked}
use Rattle.node_runs.specs.Incomings.{Incoming, may_happen}
use Rattle.node_runs.specs.Outcomes.{Stepped, Stage, moved}
use Rattle.node_runs.specs.Doings.{begun_at, stage_of, in_next_phase, others_marked, after_marks}
use Rattle.node_runs.specs.Dones.{Did, paused, finished, began, resumed, served, passed_over, heard, ignored, resent, gave_up, got_ready, marked}
use Rattle.run_laws.proofs.PhaseSteps.{NodePhase, same, readied, took, did-node}

-- the event takes the mark, which was not taken before, or none
abbrev pub MarksNow : NodeState → What → NodeState → Type 0
MarksNow n (Mark from phase) m = (m.marks ≡ (from, phase) ∷ n.marks) × (is_marked n from phase ≡ false)
MarksNow n _ m = m.marks ≡ n.marks

-- its phase is a phase, and something of it is still to come
abbrev pub IsUnderWay : Given → NodeState → Type 0
IsUnderWay g x = (1 ≤ x.phase) × ((x.ready && others_marked g x) ≡ false)

module _ (g : Given) (n : NodeState) where
  turned-marks : (p : ℕ) (o : BegunOp) (stage : Stage) (m : Moved) → (moved g n p o stage m).node.marks ≡ n.marks
  turned-marks p o stage m = by m.turn
    where
      by : (turn : Turn) → (moved g n p o stage (record m { turn = turn })).node.marks ≡ n.marks
      by (Turn.Ends reply) = refl
      by (Turn.Asks home ask) = refl
      by (Turn.Waits u k) = refl

  next-marks : (b : Bool) (x : NodeState) → (in_next_phase b x).marks ≡ x.marks
  next-marks true x = refl
  next-marks false x = refl

  pub did-marks : (what : What) (incoming : Incoming) (s : Stepped) → Did g n what incoming s → MarksNow n what s.node
  did-marks what incoming s (paused p has none is) = refl
  did-marks what incoming s (finished p has none is) = refl
  did-marks what incoming s (began p op to has none is moves) = turned-marks p (begun_at g n op) Stage.Starts to
  did-marks what incoming s (resumed p o u page accessed to has is come goes moves) = turned-marks p o Stage.Resumes to
  did-marks what incoming s (served from index m ask answer sender receiver asks is) = refl
  did-marks what incoming s (passed_over from index m ask sender receiver asks is) = refl
  did-marks what incoming s (heard from index m o c said to sender receiver asks is number fits moves) = turned-marks m.proc o (stage_of m.number said) to
  did-marks what incoming s (ignored from index m sender receiver asks) = refl
  did-marks what incoming s (resent p from to index number tick o c has is number_is answer) = refl
  did-marks what incoming s (gave_up p from to index number tick o c into has is number_is answer fails) = turned-marks p o (Stage.Settles c.waiting.number) into
  did-marks what incoming s (got_ready phase happens) = let x = record n { ready = true } in next-marks (x.ready && others_marked g x) x
  did-marks what incoming s (marked from phase tick happens) =
      let x = record n { marks = (from, phase) ∷ n.marks } in (
        next-marks (x.ready && others_marked g x) x,
        not-true (is_marked n from phase) (right-true (not (from == g.number)) (not (is_marked n from phase)) happens),
      )

  next-under_way : (b : Bool) (x : NodeState) → (x.ready && others_marked g x) ≡ b → 1 ≤ x.phase → IsUnderWay g (in_next_phase b x)
  next-under_way true x is low = (omega (arith, low), refl)
  next-under_way false x is low = (low, is)

  pub did-under_way : (what : What) (incoming : Incoming) (s : Stepped) → may_happen g n what incoming ≡ true → Did g n what incoming s → IsUnderWay g n → IsUnderWay g s.node
  did-under_way what incoming s may did under = by (did-node g n what incoming s may did)
    where
      after : (x : NodeState) → s.node ≡ after_marks g x → 1 ≤ x.phase → IsUnderWay g s.node
      after x is low = subst (IsUnderWay g) (sym is) (next-under_way (x.ready && others_marked g x) x refl low)

      by : NodePhase g n what incoming s → IsUnderWay g s.node
      by (same phase ready marks all) = (
        (let e = phase in let l = under.0 in omega (arith, e, l)),
        subst (λ b. (b && others_marked g s.node) ≡ false) (sym ready)
            (others phase marks),
      )
        where
          others : s.node.phase ≡ n.phase → s.node.marks ≡ n.marks → (n.ready && others_marked g s.node) ≡ false
          others phase marks = subst (λ k. (n.ready && others_marked g (record n { phase = k; marks = s.node.marks })) ≡ false) (sym phase)
              (subst (λ ms. (n.ready && others_marked g (record n { marks = ms })) ≡ false) (sym marks) under.1)
      by (readied phase event here past is note) = after (record n { ready = true }) is under.0
      by (took from phase tick event comes is note) = after (record n { marks = (from, phase) ∷ n.marks }) is under.0
