-- Marks that were sent stay sent, and a node comes to its next phase once all marks of its phase were sent.
use Rattle.std.proofs.Common.{◌≡◌, ◌≢◌, ℕ, zero, suc, ◌+◌, ◌≤◌, Bool, true, false, List, [], ◌∷◌, Option, Some, None, inl, inr, refl, sym, subst, arith}
use Rattle.std.specs.Prelude.{◌==◌, ◌&&◌, ◌||◌, not, nat_le}
use Rattle.std.specs.List.{list_any}
use Rattle.std.proofs.lemmas.Bool.{cases_eq}
use Rattle.std.proofs.lemmas.Bool.Decides.{nat_tests}
use Rattle.uid_names.proofs.ListLemmas.{by_cases, list_all-one}
use Rattle.uid_names.specs.Openings.{Start}
use Rattle.uid_names.proofs.Passed.{left-true, right-true, equal}
use Rattle.dom_history.specs.Objects.{is_node}
use Rattle.dom_history.specs.Histories.{SomeOf}
use Rattle.node_runs.specs.Setups.{Setup, given}
use Rattle.node_runs.specs.NodeStates.{OpenOp, NodeState, is_marked}
use Rattle.node_runs.specs.Doings.{node_numbers, others_marked, in_next_phase}
use Rattle.node_runs.specs.Runs.{SentMark}
use Rattle.node_runs.specs.CallsKeep.{EachOf}
use Rattle.run_laws.proofs.Walks.{SomeOf-more}
use Rattle.run_laws.specs.Phases.{IsMarkBelow, AreMarkedBelow, IsOpenInPhase}

-- each mark that was sent below a tick is still there
abbrev pub Grows : List SentMark → List SentMark → Type 0
Grows old new = (tick node phase : ℕ) → SomeOf (IsMarkBelow tick node phase) old → SomeOf (IsMarkBelow tick node phase) new

pub mark-later : (low high node phase : ℕ) → low ≤ high → (marks : List SentMark) → SomeOf (IsMarkBelow low node phase) marks → SomeOf (IsMarkBelow high node phase) marks
mark-later low high node phase up marks some = SomeOf-more (IsMarkBelow low node phase) (IsMarkBelow high node phase) marks (λ m is. (is.0, is.1, (let e = is.2 in omega (arith, e, up)))) some

pub marked-later : (opening : Start) (old new : List SentMark) → Grows old new → (low high phase : ℕ) → low ≤ high → AreMarkedBelow opening old low phase → AreMarkedBelow opening new high phase
marked-later opening old new grows low high phase up behind node k is least below = mark-later low high node k up new (grows low node k (behind node k is least below))

pub open-later : (s : Setup) (old new : List SentMark) → Grows old new → (n p phase : ℕ) (o : Option OpenOp) → IsOpenInPhase s old n p phase o → IsOpenInPhase s new n p phase o
open-later s old new grows n p phase None is = tt
open-later s old new grows n p phase (Some o) is = (is.0, is.1, marked-later s.opening old new grows o.began.begun.tick o.began.begun.tick phase (omega arith) is.2)

-- the nodes that there can be
is-number : (a : ℕ) → 1 ≤ a → a ≤ 8 → list_any (λ q. q == a) node_numbers ≡ true
is-number zero low high = absurd (let h : 1 ≤ 0 = low in omega (arith, h))
is-number (suc zero) low high = refl
is-number (suc (suc zero)) low high = refl
is-number (suc (suc (suc zero))) low high = refl
is-number (suc (suc (suc (suc zero)))) low high = refl
is-number (suc (suc (suc (suc (suc zero))))) low high = refl
is-number (suc (suc (suc (suc (suc (suc zero)))))) low high = refl
is-number (suc (suc (suc (suc (suc (suc (suc zero))))))) low high = refl
is-number (suc (suc (suc (suc (suc (suc (suc (suc zero)))))))) low high = refl
is-number (suc (suc (suc (suc (suc (suc (suc (suc (suc a))))))))) low high = absurd (let h : suc (suc (suc (suc (suc (suc (suc (suc (suc a)))))))) ≤ 8 = high in omega (arith, h))

module _ (s : Setup) (few : s.opening.nodes ≤ 8) (marks : List SentMark) (n : ℕ) (x : NodeState)
    (taken : EachOf (λ (m : ℕ × ℕ). SomeOf (IsMarkBelow (x.tick + 1) m.0 m.1) marks) x.marks) where
  -- a mark that was taken was sent
  taken-sent : (from phase : ℕ) (taken_marks : List (ℕ × ℕ)) → EachOf (λ (m : ℕ × ℕ). SomeOf (IsMarkBelow (x.tick + 1) m.0 m.1) marks) taken_marks → list_any (λ m. (m.0 == from) && (m.1 == phase)) taken_marks ≡ true
      → SomeOf (IsMarkBelow (x.tick + 1) from phase) marks
  taken-sent from phase [] each any = absurd (cc)
  taken-sent from phase (m ∷ older) each any =
      by_cases ((m.0 == from) && (m.1 == phase)) (SomeOf (IsMarkBelow (x.tick + 1) from phase) marks)
      (λ e. subst (λ a. SomeOf (IsMarkBelow (x.tick + 1) a phase) marks) (equal m.0 from (left-true (m.0 == from) (m.1 == phase) e))
      (subst (λ k. SomeOf (IsMarkBelow (x.tick + 1) m.0 k) marks) (equal m.1 phase (right-true (m.0 == from) (m.1 == phase) e)) each.0))
      (λ e. taken-sent from phase older each.1 (subst (λ b. (b || list_any (λ k. (k.0 == from) && (k.1 == phase)) older) ≡ true) e any))

  -- once all others' marks of the phase were taken, each was sent
  other-sent : others_marked (given s n) x ≡ true → (a : ℕ) → is_node s.opening a ≡ true → a ≢ n → SomeOf (IsMarkBelow (x.tick + 1) a x.phase) marks
  other-sent all a node other =
      let low : 1 ≤ a = grind (arith, nat_tests, node) in
      let high : a ≤ s.opening.nodes = grind (arith, nat_tests, node) in
      let at = list_all-one (λ m. not (nat_le m s.opening.nodes) || ((m == n) || is_marked x m x.phase)) node_numbers a all (is-number a low (omega (arith, high, few))) in
      let within : nat_le a s.opening.nodes ≡ true = grind (arith, nat_tests, high) in
      let beside : (a == n) ≡ false = grind (arith, nat_tests, other) in
      taken-sent a x.phase x.marks taken (subst (λ b. (b || is_marked x a x.phase) ≡ true) beside (subst (λ b. (not b || ((a == n) || is_marked x a x.phase)) ≡ true) within at))

  module _ (behind : AreMarkedBelow s.opening marks (x.tick + 1) x.phase) (ready : x.ready ≡ true → SomeOf (IsMarkBelow (x.tick + 1) n x.phase) marks) where
    pub next-behind : (b : Bool) → (x.ready && others_marked (given s n) x) ≡ b → AreMarkedBelow s.opening marks ((in_next_phase b x).tick + 1) (in_next_phase b x).phase
    next-behind false e a k node low below = behind a k node low below
    next-behind true e a k node low below = elim (cases_eq k x.phase) [
      | inr earlier ↦ behind a k node low (omega (arith, below, earlier))
      | inl now ↦ subst (λ i. SomeOf (IsMarkBelow (x.tick + 1) a i) marks) (sym now) (elim (cases_eq a n) [
        | inl here ↦ subst (λ b. SomeOf (IsMarkBelow (x.tick + 1) b x.phase) marks) (sym here) (ready (left-true x.ready (others_marked (given s n) x) e))
        | inr away ↦ other-sent (right-true x.ready (others_marked (given s n) x) e) a node away
      ])
    ]

    pub next-taken : (b : Bool) → EachOf (λ (m : ℕ × ℕ). SomeOf (IsMarkBelow ((in_next_phase b x).tick + 1) m.0 m.1) marks) (in_next_phase b x).marks
    next-taken false = taken
    next-taken true = taken

    pub next-ready : (b : Bool) → (in_next_phase b x).ready ≡ true → SomeOf (IsMarkBelow ((in_next_phase b x).tick + 1) n (in_next_phase b x).phase) marks
    next-ready false is = ready is
    next-ready true is = absurd (cc)
