-- Where no event is enabled and no call is open, all nodes have ended.
use Rattle.std.proofs.Common.{◌≡◌, ◌≢◌, ℕ, zero, suc, ◌+◌, ◌<◌, ◌≤◌, Bool, true, false, cond, List, [], ◌∷◌, map, Option, Some, None, inl, inr, refl, sym, ap, subst, ◌∙◌, arith}
use Rattle.std.specs.Prelude.{◌==◌, ◌&&◌, ◌||◌, ◌^◌, nat_le, nat_lt, not, is_none, find}
use Rattle.std.specs.List.{list_any, list_all}
use Rattle.std.proofs.lemmas.Bool.{cases_eq, eq-eqb, ne_eqb, and_from}
use Rattle.std.proofs.lemmas.Bool.Decides.{nat_tests}
use Rattle.uid_names.proofs.ListLemmas.{by_cases}
use Rattle.dom_history.specs.declared.event.What.{What}
use Rattle.dom_history.specs.declared.event.What.TheVariants.{Begin, Go, Ready}
use Rattle.dom_history.specs.declared.plan.FateRow.{FateRow}
use Rattle.dom_history.specs.Histories.{SomeOf}
use Rattle.dom_history.specs.Objects.{is_node}
use Rattle.fault_handler.specs.Conditions.{IsIdle}
use Rattle.fault_handler.specs.Invariant.{IsProc}
use Rattle.node_runs.specs.Setups.{Setup, IsSetup, given}
use Rattle.node_runs.specs.NodeStates.{Await, OpenOp, NodeState, proc_of, is_at_end, is_marked, is_ended}
use Rattle.node_runs.specs.Incomings.{Incoming, may_happen, has_program, has_come, may_go}
use Rattle.node_runs.specs.Doings.{node_numbers, others_marked}
use Rattle.node_runs.specs.NodesKeep.{IsTimely}
use Rattle.node_runs.specs.Runs.{World, SentMark, HasEnded, choice_of, incoming_of, mark_of}
use Rattle.node_runs.proofs.SettingUp.{setup-procs}
use Rattle.run_laws.specs.Phases.{IsMarkBelow, IsNodeInPhase, AreInPhase}
use Rattle.run_laws.proofs.InPhases.{in_phases-are}
use Rattle.world_runs.specs.ByPlace.{by_place}
use Rattle.world_runs.specs.Turns.{coming_to, enabled_events, after_turns}
use Rattle.world_runs.proofs.Among.{Among}
use Rattle.world_runs.proofs.Happening.{nodes-kept}
use Rattle.world_runs.proofs.Merging.{Merged, turns-merge}
use Rattle.run_laws.specs.OpenAsks.{IsAnswerAwaited, HasCall, HasNoCall}
use Rattle.world_runs.proofs.MarkCounts.{marks_of}
use Rattle.run_laws.proofs.LinkMarks.{was_sent, AreLinkMarks, turns-link-marks}
use Rattle.run_laws.proofs.FirstWaiting.{marks-parts, enable}
use Rattle.run_laws.proofs.Stuck.{true-false, never, start-comes, ready-comes, nothing-waits}
use Rattle.run_laws.proofs.Waits.{idle-without, none-in-transit}

number-low : (a : ℕ) → Among a node_numbers → 1 ≤ a
number-low zero is = absurd (none is)
  where
    none : Among 0 node_numbers → ⊥
    none (inl e) = cc
    none (inr (inl e)) = cc
    none (inr (inr (inl e))) = cc
    none (inr (inr (inr (inl e)))) = cc
    none (inr (inr (inr (inr (inl e))))) = cc
    none (inr (inr (inr (inr (inr (inl e)))))) = cc
    none (inr (inr (inr (inr (inr (inr (inl e))))))) = cc
    none (inr (inr (inr (inr (inr (inr (inr (inl e)))))))) = cc
    none (inr (inr (inr (inr (inr (inr (inr (inr is)))))))) = is
number-low (suc a) is = omega arith

all-among : (test : ℕ → Bool) (ps : List ℕ) → ((p : ℕ) → Among p ps → test p ≡ true) → list_all test ps ≡ true
all-among test [] each = refl
all-among test (p ∷ ps) each = and_from (test p) (list_all test ps) (each p (inl refl)) (all-among test ps (λ q is. each q (inr is)))

among-any : (ps : List ℕ) (p : ℕ) → Among p ps → list_any (λ q. q == p) ps ≡ true
among-any [] p is = absurd is
among-any (q ∷ ps) p (inl e) = ap (λ b. b || list_any (λ r. r == p) ps) (eq-eqb q p (sym e))
among-any (q ∷ ps) p (inr is) =
    by_cases (q == p) (list_any (λ r. r == p) (q ∷ ps) ≡ true)
    (λ h. ap (λ b. b || list_any (λ r. r == p) ps) h)
    (λ h. ap (λ b. b || list_any (λ r. r == p) ps) h ∙ among-any ps p is)

-- a mark that was sent is found
found-some : (tick from k : ℕ) (marks : List SentMark) → SomeOf (IsMarkBelow tick from k) marks → (m : SentMark) × (find (λ m. (m.node == from) && (m.phase == k)) marks ≡ Some m)
found-some tick from k [] some = absurd some
found-some tick from k (m ∷ older) some =
    by_cases ((m.node == from) && (m.phase == k)) ((x : SentMark) × (find (λ m. (m.node == from) && (m.phase == k)) (m ∷ older) ≡ Some x))
    (λ h. (m, ap (λ b. cond b (Some m) (find (λ m. (m.node == from) && (m.phase == k)) older)) h))
    (λ h. elim some [
      | inl is ↦ absurd (true-false ((m.node == from) && (m.phase == k)) (and_from (m.node == from) (m.phase == k) (eq-eqb m.node from is.0) (eq-eqb m.phase k is.1)) h)
      | inr more ↦ (let found = found-some tick from k older more in (found.0, ap (λ b. cond b (Some m) (find (λ m. (m.node == from) && (m.phase == k)) older)) h ∙ found.1))
    ])

taken-all : (was : Bool) → 1 ≡ cond was 1 0 + 0 → was ≡ true
taken-all true e = refl
taken-all false e = absurd (omega (arith, e))

module _ (s : Setup) (setup : IsSetup s) (plan : List FateRow) (cs : List ℕ) (w : World) (e : after_turns s plan cs ≡ Some w) (timely : IsTimely w)
    (none : enabled_events s plan w ≡ []) (no_call : HasNoCall s w) where
  merged : Merged s w
  merged = (turns-merge s setup plan cs w e).merged timely

  in_phases : AreInPhase s merged.world
  in_phases = in_phases-are s setup (map choice_of (by_place w.done)) merged.world merged.run (λ n. subst (λ (x : NodeState). x.tick ≤ 2 ^ 40) (merged.like.nodes n) (timely n))

  in_phase : (n : ℕ) → is_node s.opening n ≡ true → IsNodeInPhase s merged.world.marks n (w.nodes n)
  in_phase n node = subst (IsNodeInPhase s merged.world.marks n) (sym (merged.like.nodes n)) (in_phases.nodes n node)

  marks : AreLinkMarks s w
  marks = turns-link-marks s setup plan cs w e timely

  module _ (n : ℕ) (node : is_node s.opening n ≡ true) (alive : is_ended (given s n) (w.nodes n) ≡ false) where
    abbrev x : NodeState
    x = w.nodes n

    enables : (what : What) (incoming : Incoming) → Among what (coming_to plan w n) → incoming_of w n what ≡ Some incoming → may_happen (given s n) x what incoming ≡ true → ⊥
    enables what incoming comes received may = never s setup plan w none n node alive what comes (enable s setup plan cs w e timely n alive what incoming received may)

    -- no page is on its way
    idle : (p : ℕ) → IsProc p → IsIdle x.desk p
    idle p proc =
        let is = nodes-kept s setup w merged timely n node in
        idle-without x.desk p (proc_of x p).last (proc_of x p).doing (is.agrees p proc) (no_call n node p proc)

    -- each program is at the end of the phase
    program-ends : (p : ℕ) → has_program (given s n) p ≡ true → is_at_end x p ≡ true
    program-ends p has = by (proc_of x p).doing refl
      where
        proc : IsProc p
        proc = setup-procs s setup n p has

        of_await : (o : OpenOp) → (proc_of x p).doing ≡ Some o → (a : Await) → o.awaits ≡ a → is_at_end x p ≡ true
        of_await o is (Await.Answer c) awaits = absurd (no_call n node p proc (subst HasCall (sym is) (subst IsAnswerAwaited (sym awaits) tt)))
        of_await o is (Await.Page u k) awaits =
            absurd (enables (Go p) Incoming.Nothing (start-comes s setup plan w none n node alive p proc (Go p) (inr (inl refl))) refl
            (and_from (has_program (given s n) p) (may_go x.desk (proc_of x p).doing) has
            (ap (may_go x.desk) is ∙ ap (has_come x.desk) awaits ∙ ap (λ b. not b) (none-in-transit x.desk idle u k))))

        by : (o : Option OpenOp) → (proc_of x p).doing ≡ o → is_at_end x p ≡ true
        by None is =
            by_cases (is_at_end x p) (is_at_end x p ≡ true) (λ h. h)
            (λ h. absurd (enables (Begin p) Incoming.Nothing (start-comes s setup plan w none n node alive p proc (Begin p) (inl refl)) refl
            (and_from (has_program (given s n) p) (is_none (proc_of x p).doing && not (is_at_end x p)) has
            (and_from (is_none (proc_of x p).doing) (not (is_at_end x p)) (ap (λ (o : Option OpenOp). is_none o) is) (ap (λ b. not b) h)))))
        by (Some o) is = of_await o is o.awaits refl

    -- and its mark was sent
    is-ready : x.ready ≡ true
    is-ready =
        by_cases x.ready (x.ready ≡ true) (λ h. h)
        (λ h. absurd (enables (Ready x.phase) Incoming.Nothing (ready-comes s setup plan w none n node alive) refl
        (and_from (x.phase == x.phase) (not x.ready && list_all (is_at_end x) (given s n).programs) (eq-eqb x.phase x.phase refl)
        (and_from (not x.ready) (list_all (is_at_end x) (given s n).programs) (ap (λ b. not b) h)
        (all-among (is_at_end x) (given s n).programs (λ p is. program-ends p (among-any (given s n).programs p is)))))))

    -- each mark that another sent was taken
    mark-taken : (from k : ℕ) → Among from node_numbers → from ≢ n → (m : SentMark) → mark_of w from k ≡ Some m → is_marked x from k ≡ true
    mark-taken from k number other m found =
        let parts = marks-parts s setup plan cs w e timely from n k in
        let empty = ap (marks_of k) (nothing-waits s setup plan w none n node alive cs e timely from number) in
        let one : was_sent from n (mark_of w from k) ≡ 1 = ap (λ b. cond b 0 (cond (is_none (mark_of w from k)) 0 1)) (ne_eqb from n other) ∙ ap {B = ℕ} (λ (o : Option SentMark). cond (is_none o) 0 1) found in
        taken-all (is_marked x from k) (omega (arith, parts, empty, one))

  -- what a node that is not behind has sent
  sent-by-now : (k : ℕ) → 1 ≤ k → k ≤ s.phases → (a : ℕ) → is_node s.opening a ≡ true → k ≤ (w.nodes a).phase → (m : SentMark) × (mark_of w a k ≡ Some m)
  sent-by-now k low high a node past =
      let is = in_phase a node in
      let some = elim (cases_eq (w.nodes a).phase k) as (λ c. SomeOf (IsMarkBelow ((w.nodes a).tick + 1) a k) merged.world.marks) [
        | inl now ↦ subst (λ i. SomeOf (IsMarkBelow ((w.nodes a).tick + 1) a i) merged.world.marks) now (is.ready (is-ready a node (let h : nat_lt s.phases (w.nodes a).phase ≡ false = grind (arith, nat_tests, now, high) in h)))
        | inr later ↦ is.behind a k node low (omega (arith, past, later))
      ] in
      let found = found-some ((w.nodes a).tick + 1) a k merged.world.marks some in
      (found.0, merged.like.marks a k ∙ found.1)

  -- where all nodes are past a phase, all are past the next
  module _ (k : ℕ) (high : suc k ≤ s.phases) (past : (a : ℕ) → is_node s.opening a ≡ true → suc k ≤ (w.nodes a).phase) (n : ℕ) (node : is_node s.opening n ≡ true) where
    abbrev y : NodeState
    y = w.nodes n

    module _ (now : y.phase ≡ suc k) where
      still : is_ended (given s n) y ≡ false
      still = let h : nat_lt s.phases y.phase ≡ false = grind (arith, nat_tests, now, high) in h

      other-taken : (a : ℕ) → Among a node_numbers → nat_le a s.opening.nodes ≡ true → a ≢ n → is_marked y a y.phase ≡ true
      other-taken a number within other =
          let low = number-low a number in
          let first : nat_le 1 a ≡ true = grind (arith, nat_tests, low) in
          let node_a = and_from (nat_le 1 a) (nat_le a s.opening.nodes) first within in
          let found = sent-by-now (suc k) (omega arith) high a node_a (past a node_a) in
          subst (λ i. is_marked y a i ≡ true) (sym now) (mark-taken n node still a (suc k) number other found.0 found.1)

      one-taken : (a : ℕ) → Among a node_numbers → (not (nat_le a s.opening.nodes) || ((a == n) || is_marked y a y.phase)) ≡ true
      one-taken a number =
          by_cases (nat_le a s.opening.nodes) ((not (nat_le a s.opening.nodes) || ((a == n) || is_marked y a y.phase)) ≡ true)
          (λ within. ap (λ b. not b || ((a == n) || is_marked y a y.phase)) within ∙ (elim (cases_eq a n) [
            | inl same ↦ ap (λ b. b || is_marked y a y.phase) (eq-eqb a n same)
            | inr other ↦ ap (λ b. b || is_marked y a y.phase) (ne_eqb a n other) ∙ other-taken a number within other
          ]))
          (λ beyond. ap (λ b. not b || ((a == n) || is_marked y a y.phase)) beyond)

      all-taken : others_marked (given s n) y ≡ true
      all-taken = all-among (λ a. not (nat_le a s.opening.nodes) || ((a == n) || is_marked y a y.phase)) node_numbers one-taken

      not-now : ⊥
      not-now = true-false (y.ready && others_marked (given s n) y) (and_from y.ready (others_marked (given s n) y) (is-ready n node still) all-taken) (marks.under_way n).1

    next-past : suc k < y.phase
    next-past = elim (cases_eq y.phase (suc k)) [
      | inr later ↦ (let h = past n node in omega (arith, h, later))
      | inl now ↦ absurd (not-now now)
    ]

  all-past : (k : ℕ) → k ≤ s.phases → (n : ℕ) → is_node s.opening n ≡ true → k < (w.nodes n).phase
  all-past zero high n node = let h = (marks.under_way n).0 in omega (arith, h)
  all-past (suc k) high n node = next-past k high (λ a is. all-past k (omega (arith, high)) a is) n node

  pub all-ended : HasEnded s w
  all-ended n node = let past = all-past s.phases (omega arith) n node in let h : nat_lt s.phases (w.nodes n).phase ≡ true = grind (arith, nat_tests, past) in h
