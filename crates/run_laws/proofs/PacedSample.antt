-- The programs of the sample are paced, and its run ends.
use Rattle.std.proofs.Common.{◌≡◌, ℕ, zero, suc, Bool, true, false, [], length, Some, refl, sym, ap, ◌∙◌}
use Rattle.uid_names.proofs.ListLemmas.{by_cases}
use Rattle.uid_names.proofs.Orders.{same_proc_is}
use Rattle.uid_names.specs.Names.{same_proc}
use Rattle.dom_history.specs.declared.op.Want.TheVariants.{Phase, Done}
use Rattle.dom_history.specs.Follows.{Heard}
use Rattle.node_runs.specs.Runs.{IsRun}
use Rattle.node_runs.specs.FirstRun as one
use Rattle.run_laws.specs.Paced.{is_driven, ArePaced}
use Rattle.run_laws.specs.PacedSample.{wants_if, setup, has_ended_after}

never-phase : (k : ℕ) → one.nth_or_done one.wants k ≡ Phase → ⊥
never-phase zero e = absurd (cc)
never-phase (suc zero) e = absurd (cc)
never-phase (suc (suc zero)) e = absurd (cc)
never-phase (suc (suc (suc zero))) e = absurd (cc)
never-phase (suc (suc (suc (suc zero)))) e = absurd (cc)
never-phase (suc (suc (suc (suc (suc k))))) e = absurd (cc)

no-phase : (b : Bool) (heard : Heard) → wants_if b heard ≡ Phase → ⊥
no-phase true heard e = never-phase (length heard) e
no-phase false heard e = absurd (cc)

driven-one : is_driven setup one.p ≡ true
driven-one = refl

pub sample-paced : ArePaced setup
sample-paced = record {
  phases = λ p told heard phase reaches asks. absurd (no-phase (same_proc p one.p) heard asks);
  absent = λ p none. by_cases (same_proc p one.p) (wants_if (same_proc p one.p) [] ≡ Done)
      (λ h. absurd (let e : true ≡ false = sym driven-one ∙ (ap (is_driven setup) (sym (same_proc_is p one.p h)) ∙ none) in cc))
      (λ h. ap (λ b. wants_if b []) h);
}

pub sample-runs : IsRun setup one.events
sample-runs = refl

pub sample-ends : has_ended_after 1 one.events ≡ Some true
sample-ends = refl
