-- A node sends the mark of a phase once.
use Rattle.std.proofs.Common.{◌≡◌, ℕ, ◌<◌, Bool, true, false, cond, List, ◌∷◌, Some, inl, inr, refl, sym, subst, arith}
use Rattle.std.specs.Prelude.{◌⊎◌, ◌==◌, ◌&&◌, find}
use Rattle.std.proofs.lemmas.Bool.{cases_eq, not-true}
use Rattle.uid_names.proofs.ListLemmas.{by_cases}
use Rattle.uid_names.specs.Names.{ObjectName}
use Rattle.uid_names.proofs.Passed.{left-true, right-true, equal}
use Rattle.dom_history.specs.declared.event.What.{What}
use Rattle.dom_history.specs.declared.event.What.TheVariants.{Begin, Go, Take, Notice, Ready, Mark}
use Rattle.fault_handler.specs.Outcomes.{Turn, Moved}
use Rattle.node_runs.specs.Setups.{Setup, Given, given}
use Rattle.node_runs.specs.NodeStates.{BegunOp, NodeState}
use Rattle.node_runs.specs.Incomings.{Incoming}
use Rattle.node_runs.specs.Outcomes.{Stepped, Stage, turned, moved}
use Rattle.node_runs.specs.Doings.{begun_at, stage_of, ticked, in_next_phase}
use Rattle.node_runs.specs.Dones.{Did, paused, finished, began, resumed, served, passed_over, heard, ignored, resent, gave_up, got_ready, marked}
use Rattle.node_runs.specs.Steps.{step_of}
use Rattle.node_runs.specs.Runs.{World, SentMark, Choice, put, mark_of, marks_after, world_after}
use Rattle.node_runs.proofs.Doing.{step_of-did}
use Rattle.node_runs.proofs.Calls.{put-same, put-other}
use Rattle.node_runs.proofs.Worlds.{IsNext, every-run}

-- the node sent the mark of the phase
abbrev pub HasSent : NodeState → ℕ → Type 0
HasSent n phase = (phase < n.phase) ⊎ ((phase ≡ n.phase) × (n.ready ≡ true))

next-sent : (b : Bool) (n : NodeState) (phase : ℕ) → HasSent n phase → HasSent (in_next_phase b n) phase
next-sent true n phase (inl below) = inl (omega arith)
next-sent true n phase (inr (same, ready)) = inl (omega arith)
next-sent false n phase has = has

turned-marks : (g : Given) (n : NodeState) (p : ℕ) (o : BegunOp) (stage : Stage) (turn : Turn) (phase : ℕ) → HasSent n phase → HasSent (turned g n p o stage turn).node phase
turned-marks g n p o stage (Turn.Ends reply) phase has = has
turned-marks g n p o stage (Turn.Asks home ask) phase has = has
turned-marks g n p o stage (Turn.Waits u k) phase has = has

moved-marks : (g : Given) (n : NodeState) (p : ℕ) (o : BegunOp) (stage : Stage) (m : Moved) (phase : ℕ) → HasSent n phase → HasSent (moved g n p o stage m).node phase
moved-marks g n p o stage m phase has = turned-marks g (record n { desk = m.desk }) p o stage m.turn phase has

ready-sent : (n : NodeState) (phase : ℕ) → HasSent n phase → HasSent (record n { ready = true }) phase
ready-sent n phase (inl below) = inl below
ready-sent n phase (inr (same, ready)) = inr (same, refl)

pub did-marks : (g : Given) (n : NodeState) (what : What) (incoming : Incoming) (s : Stepped) → Did g n what incoming s → (phase : ℕ) → HasSent n phase → HasSent s.node phase
did-marks g n what incoming s (paused p has none is) phase sent = sent
did-marks g n what incoming s (finished p has none is) phase sent = sent
did-marks g n what incoming s (began p op to has none is may) phase sent = moved-marks g n p (begun_at g n op) Stage.Starts to phase sent
did-marks g n what incoming s (resumed p o u k accessed to has is come goes may) phase sent = moved-marks g n p o Stage.Resumes to phase sent
did-marks g n what incoming s (served from index m ask answer sender receiver asks is) phase sent = sent
did-marks g n what incoming s (passed_over from index m ask sender receiver asks is) phase sent = sent
did-marks g n what incoming s (heard from index m o c said to sender receiver asks is same fits may) phase sent = moved-marks g n m.proc o (stage_of m.number said) to phase sent
did-marks g n what incoming s (ignored from index m sender receiver asks) phase sent = sent
did-marks g n what incoming s (resent p from to index number tick o c has is same answer) phase sent = sent
did-marks g n what incoming s (gave_up p from to index number tick o c into has is same answer fails) phase sent = moved-marks g n p o (Stage.Settles c.waiting.number) into phase sent
did-marks g n what incoming s (got_ready at may) phase sent = next-sent _ (record n { ready = true }) phase (ready-sent n phase sent)
did-marks g n what incoming s (marked from at tick may) phase sent = next-sent _ (record n { marks = (from, at) ∷ n.marks }) phase sent

-- an event that sends a mark
abbrev pub IsMarking : NodeState → What → Stepped → Type 0
IsMarking n (Ready phase) s = HasSent s.node phase × (HasSent n phase → ⊥)
IsMarking n _ s = Unit {0}

unsent : (n : NodeState) (phase : ℕ) → (phase == n.phase) ≡ true → n.ready ≡ false → HasSent n phase → ⊥
unsent n phase same idle (inl below) = let e = equal phase n.phase same in omega arith
unsent n phase same idle (inr (also, ready)) = absurd (cc)

did-marking : (g : Given) (n : NodeState) (what : What) (incoming : Incoming) (s : Stepped) → Did g n what incoming s → IsMarking n what s
did-marking g n what incoming s (paused p has none is) = tt
did-marking g n what incoming s (finished p has none is) = tt
did-marking g n what incoming s (began p op to has none is may) = tt
did-marking g n what incoming s (resumed p o u k accessed to has is come goes may) = tt
did-marking g n what incoming s (served from index m ask answer sender receiver asks is) = tt
did-marking g n what incoming s (passed_over from index m ask sender receiver asks is) = tt
did-marking g n what incoming s (heard from index m o c said to sender receiver asks is same fits may) = tt
did-marking g n what incoming s (ignored from index m sender receiver asks) = tt
did-marking g n what incoming s (resent p from to index number tick o c has is same answer) = tt
did-marking g n what incoming s (gave_up p from to index number tick o c into has is same answer fails) = tt
did-marking g n what incoming s (got_ready phase may) =
    let same = left-true _ _ may in
    let idle = not-true n.ready (left-true _ _ (right-true (phase == n.phase) _ may)) in
    (next-sent _ (record n { ready = true }) phase (inr (equal phase n.phase same, refl)), unsent n phase same idle)
did-marking g n what incoming s (marked from phase tick may) = tt

pub step-marking : (g : Given) (n : NodeState) (what : What) (incoming : Incoming) (dropped : List (ObjectName × ℕ)) (s : Stepped) → step_of g n what incoming dropped ≡ Some s → IsMarking n what s
step-marking g n what incoming dropped s e = unticked what (did-marking g (ticked n incoming) what incoming s (step_of-did g n what incoming dropped s e))
  where
    unticked : (what : What) → IsMarking (ticked n incoming) what s → IsMarking n what s
    unticked (Begin p) is = is
    unticked (Go p) is = is
    unticked (Take a k) is = is
    unticked (Notice p a b k) is = is
    unticked (Ready k) is = is
    unticked (Mark a k) is = is

-- each mark that was sent is one that its node sent
pub record AreMarked (w : World) : Type 0 where
  pub sent : (from phase : ℕ) (m : SentMark) → mark_of w from phase ≡ Some m → HasSent (w.nodes from) phase

module _ (s : Setup) (old : World) (c : Choice) (new : World) (is : IsNext s old c new) where
  did : Did (given s c.node) (ticked (old.nodes c.node) is.incoming) c.what is.incoming is.step
  did = step_of-did (given s c.node) (old.nodes c.node) c.what is.incoming c.dropped is.step is.steps

  pub marks-stay : (from phase : ℕ) → HasSent (old.nodes from) phase → HasSent (put old.nodes c.node is.step.node from) phase
  marks-stay from phase has = elim (cases_eq from c.node) [
    | inl here ↦
        subst (λ (n : NodeState). HasSent n phase) (sym (put-same old.nodes c.node from is.step.node here))
        (did-marks (given s c.node) (ticked (old.nodes c.node) is.incoming) c.what is.incoming is.step did phase (subst (λ n. HasSent (old.nodes n) phase) here has))
    | inr away ↦ subst (λ (n : NodeState). HasSent n phase) (sym (put-other old.nodes c.node from is.step.node away)) has
  ]

  pub marking : IsMarking (ticked (old.nodes c.node) is.incoming) c.what is.step
  marking = did-marking (given s c.node) (ticked (old.nodes c.node) is.incoming) c.what is.incoming is.step did

  here-sent : (phase k : ℕ) (from : ℕ) → (c.node == from) ≡ true → (k == phase) ≡ true → HasSent is.step.node k → HasSent (put old.nodes c.node is.step.node from) phase
  here-sent phase k from same also has =
      subst (λ n. HasSent n phase) (sym (put-same old.nodes c.node from is.step.node (sym (equal c.node from same)))) (subst (HasSent is.step.node) (equal k phase also) has)

  -- a mark that is found after the event was found before it, or is the event's
  after-event : AreMarked old → (tick : ℕ) (what : What) → IsMarking (ticked (old.nodes c.node) is.incoming) what is.step
      → (from phase : ℕ) (m : SentMark) → find (λ x. (x.node == from) && (x.phase == phase)) (marks_after old c.node tick what) ≡ Some m → HasSent (put old.nodes c.node is.step.node from) phase
  after-event are tick (Begin p) how from phase m found = marks-stay from phase (are.sent from phase m found)
  after-event are tick (Go p) how from phase m found = marks-stay from phase (are.sent from phase m found)
  after-event are tick (Take a k) how from phase m found = marks-stay from phase (are.sent from phase m found)
  after-event are tick (Notice p a b k) how from phase m found = marks-stay from phase (are.sent from phase m found)
  after-event are tick (Mark a k) how from phase m found = marks-stay from phase (are.sent from phase m found)
  after-event are tick (Ready k) how from phase m found =
      by_cases ((c.node == from) && (k == phase)) (HasSent (put old.nodes c.node is.step.node from) phase)
      (λ h. here-sent phase k from (left-true _ _ h) (right-true (c.node == from) _ h) how.0)
      (λ h. marks-stay from phase (are.sent from phase m (subst (λ b. cond b (Some (record { node = c.node; phase = k; tick = tick })) (mark_of old from phase) ≡ Some m) h found)))

  pub marks-kept : AreMarked old → AreMarked new
  marks-kept are = subst AreMarked (sym is.world) (record { sent = after-event are is.step.node.tick c.what marking })

pub marks-are : (s : Setup) (cs : List Choice) (w : World) → world_after s cs ≡ Some w → AreMarked w
marks-are s = every-run s AreMarked (record { sent = λ from phase m found. absurd (cc) }) (λ old c new is are. marks-kept s old c new is are)
