-- A node comes to the end of its phase, or takes a mark.
use Rattle.std.proofs.Common.{◌≡◌, ℕ, Bool, true, false, List, refl, ap, subst}
use Rattle.std.specs.Prelude.{◌==◌, nat_le, not, ◌&&◌, ◌||◌}
use Rattle.node_runs.specs.Setups.{Given}
use Rattle.node_runs.specs.NodeStates.{NodeState}
use Rattle.node_runs.specs.Doings.{node_numbers, others_marked, in_next_phase, after_marks}
use Rattle.node_runs.specs.Alikes.{AreAlike}
use Rattle.node_runs.proofs.AlikeProcs.{all-same}
use Rattle.node_runs.proofs.Ticks.{next-procs}
use Rattle.node_core.specs.Marks.{is_taken}

-- no process changes
pub after-procs : (g : Given) (n : NodeState) → (after_marks g n).procs ≡ n.procs
after-procs g n = next-procs (n.ready && others_marked g n) n

module _ (g : Given) (n : NodeState) (ns ms : List (ℕ × ℕ)) (same : (from phase : ℕ) → is_taken ns from phase ≡ is_taken ms from phase) where
  next-alike : (b : Bool) → AreAlike (in_next_phase b (record n { marks = ns })) (in_next_phase b (record n { marks = ms }))
  next-alike true = record { side = refl; desk = refl; procs = λ p. record { doing = refl; last = refl; phase = refl }; many = refl; emitted = refl; tick = refl; phase = refl; ready = refl; marks = same }
  next-alike false = record { side = refl; desk = refl; procs = λ p. record { doing = refl; last = refl; phase = refl }; many = refl; emitted = refl; tick = refl; phase = refl; ready = refl; marks = same }

  others-alike : others_marked g (record n { marks = ns }) ≡ others_marked g (record n { marks = ms })
  others-alike = all-same _ _ (λ m. ap (λ b. not (nat_le m g.opening.nodes) || ((m == g.number) || b)) (same m n.phase)) node_numbers

  -- marks that are taken alike lead to nodes that are alike
  pub after-alike : AreAlike (after_marks g (record n { marks = ns })) (after_marks g (record n { marks = ms }))
  after-alike =
      subst (λ b. AreAlike (after_marks g (record n { marks = ns })) (in_next_phase (n.ready && b) (record n { marks = ms }))) others-alike (next-alike (n.ready && others_marked g (record n { marks = ns })))
