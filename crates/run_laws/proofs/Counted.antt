-- As many notices as events that are one.
use Rattle.std.proofs.Common.{◌≡◌, ◌∙◌, ℕ, Bool, suc, List, [], ◌∷◌, ◌++◌, length, refl, sym, ap}
use Rattle.std.specs.Prelude.{count_by, filter, if◌then◌else◌}
use Rattle.std.proofs.lemmas.List.Sums.{length-filter}
use Rattle.dom_history.specs.declared.event.What.{What}
use Rattle.dom_history.specs.declared.event.What.TheVariants.{Begin, Go, Take, Notice, Ready, Mark}
use Rattle.dom_history.specs.Events.{Happening}
use Rattle.node_runs.specs.Deliveries.{noticed_by, noticed_in}
use Rattle.run_laws.specs.LinkFaults.{notices}
use Rattle.run_laws.specs.Accounts.{is_notice}

abbrev told : Happening → Bool
told e = is_notice e.what

one-more : (what : What) (e : Happening) (es : List Happening) → length (filter told es) ≡ length (noticed_in es)
    → length (if is_notice what then e ∷ filter told es else filter told es) ≡ length (noticed_by what ++ noticed_in es)
one-more (Begin p) e es same = same
one-more (Go p) e es same = same
one-more (Take from index) e es same = same
one-more (Notice p from to index) e es same = ap suc same
one-more (Ready phase) e es same = same
one-more (Mark from phase) e es same = same

filtered : (es : List Happening) → length (filter told es) ≡ length (noticed_in es)
filtered [] = refl
filtered (e ∷ es) = one-more e.what e es (filtered es)

pub notices-counted : (es : List Happening) → count_by (λ e. is_notice e.what) es ≡ notices es
notices-counted es = sym (length-filter told es) ∙ filtered es
