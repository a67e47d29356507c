-- What holds of each of a list.
use Rattle.std.proofs.Common.{Bool, List, [], ◌∷◌, ◌++◌}
use Rattle.std.specs.Prelude.{filter}
use Rattle.uid_names.proofs.ListLemmas.{by_cases}
use Rattle.node_runs.specs.CallsKeep.{EachOf}

module _ {A : Type 0} (P : A → Type 0) where
  pub each-push : (xs : List A) (y : A) → EachOf P xs → P y → EachOf P (xs ++ y ∷ [])
  each-push [] y each is = (is, tt)
  each-push (x ∷ xs) y each is = (each.0, each-push xs y each.1 is)

  pub each-filter : (test : A → Bool) (xs : List A) → EachOf P xs → EachOf P (filter test xs)
  each-filter test [] each = tt
  each-filter test (x ∷ xs) each = by_cases (test x) (EachOf P (filter test (x ∷ xs))) (λ h. rw h (each.0, each-filter test xs each.1)) (λ h. rw h (each-filter test xs each.1))
