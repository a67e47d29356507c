-- The lane of a node that has a name.
use Rattle.std.proofs.Common.{ℕ, ◌-◌, ◌<◌, List, length, subst, inl, inr}
use Rattle.std.specs.Prelude.{IsSome}
use Rattle.std.proofs.lemmas.Option.{slice_get_cases}
use Rattle.journal_text.specs.Lines.{IsNamed}

-- it is one of the lanes
pub named_bound : (names : List (List ℕ)) (n : ℕ) → IsNamed names n → n - 1 < length names
named_bound names n is = elim (slice_get_cases names (n - 1)).1 [ inl h ↦ h.1 | inr h ↦ let no = subst (λ o. IsSome o) h.1 is in absurd (cc) ]
