-- Numbers that are those of an account.
use Rattle.std.proofs.Common.{◌≡◌, ℕ, List, sym, subst}
use Rattle.dom_history.specs.declared.plan.FateRow.{FateRow}
use Rattle.dom_history.specs.Events.{Happening}
use Rattle.run_laws.specs.AccountsOfRuns.{AccountsFor}

pub accounts-same : (plan : List FateRow) (happened : List Happening) (faults told gone f t g : ℕ) → f ≡ faults → t ≡ told → g ≡ gone → AccountsFor plan happened faults told gone → AccountsFor plan happened f t g
accounts-same plan happened faults told gone f t g same_faults same_told same_gone is =
    subst (λ (i : ℕ). AccountsFor plan happened i t g) (sym same_faults)
    (subst (λ (i : ℕ). AccountsFor plan happened faults i g) (sym same_told)
    (subst (λ (i : ℕ). AccountsFor plan happened faults told i) (sym same_gone) is))
