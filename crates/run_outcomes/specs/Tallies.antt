-- What a tally of outcomes holds, and what it becomes with one number more.
use Rattle.std.specs.Prelude.{ℕ, ◌+◌, ◌<◌, ◌≡◌, ◌==◌, ◌&&◌, ◌||◌, nat_lt, min, Bool, true, false, cond, Some, slice_get, List, [], ◌∷◌, ◌++◌, length}
use Rattle.std.specs.List.{list_any, sum_by}
use Rattle.run_outcomes.specs.declared.outcome.OutcomeRow.{OutcomeRow}
use Rattle.run_outcomes.specs.declared.tally.KeptOutcome.{KeptOutcome}
use Rattle.run_outcomes.specs.declared.tally.TheConstants.{KEPT_OUTCOMES}
use Rattle.run_outcomes.specs.Outcomes.{same_outcome}

-- the outcomes that are kept, in the order in which they were first met; how many numbers gave one that is not kept; and how many numbers there are
pub record Tallied : Type 0 where
  pub rows : List KeptOutcome
  pub rest : ℕ
  pub added : ℕ

abbrev pub empty_tally : Tallied
empty_tally = record { rows = []; rest = 0; added = 0 }

-- an outcome that one number gave
abbrev pub fresh_row : ℕ → List OutcomeRow → KeptOutcome
fresh_row number outcome = record { outcome = outcome; count = 1; lowest = number }

-- one number more gave this outcome
abbrev pub noted : ℕ → KeptOutcome → KeptOutcome
noted number row = record { outcome = row.outcome; count = row.count + 1; lowest = min number row.lowest }

-- the first row of this outcome has one number more
abbrev pub noted_in : ℕ → List OutcomeRow → List KeptOutcome → List KeptOutcome
noted_in number outcome [] = []
noted_in number outcome (row ∷ rows) = cond (same_outcome row.outcome outcome) (noted number row ∷ rows) (row ∷ noted_in number outcome rows)

-- whether this outcome has a row
abbrev pub is_kept : List OutcomeRow → List KeptOutcome → Bool
is_kept outcome rows = list_any (λ row. same_outcome row.outcome outcome) rows

-- a number is added, whose outcome is kept, or is not and there is room for it, or there is not
abbrev pub tallied_by : Bool → Bool → ℕ → List OutcomeRow → Tallied → Tallied
tallied_by true room number outcome t = record { rows = noted_in number outcome t.rows; rest = t.rest; added = t.added + 1 }
tallied_by false true number outcome t = record { rows = t.rows ++ fresh_row number outcome ∷ []; rest = t.rest; added = t.added + 1 }
tallied_by false false number outcome t = record { rows = t.rows; rest = t.rest + 1; added = t.added + 1 }

abbrev pub tallied : ℕ → List OutcomeRow → Tallied → Tallied
tallied number outcome t = tallied_by (is_kept outcome t.rows) (nat_lt (length t.rows) KEPT_OUTCOMES) number outcome t

-- a row of another tally: as many numbers more gave its outcome
abbrev pub with_more : KeptOutcome → KeptOutcome → KeptOutcome
with_more more row = record { outcome = row.outcome; count = row.count + more.count; lowest = min more.lowest row.lowest }

-- the first row of that outcome has as many numbers more
abbrev pub more_in : KeptOutcome → List KeptOutcome → List KeptOutcome
more_in more [] = []
more_in more (row ∷ rows) = cond (same_outcome row.outcome more.outcome) (with_more more row ∷ rows) (row ∷ more_in more rows)

-- the numbers of a row are added, whose outcome is kept, or is not and there is room for it, or there is not
abbrev pub row_tallied_by : Bool → Bool → KeptOutcome → Tallied → Tallied
row_tallied_by true room more t = record { rows = more_in more t.rows; rest = t.rest; added = t.added + more.count }
row_tallied_by false true more t = record { rows = t.rows ++ more ∷ []; rest = t.rest; added = t.added + more.count }
row_tallied_by false false more t = record { rows = t.rows; rest = t.rest + more.count; added = t.added + more.count }

abbrev pub row_tallied : KeptOutcome → Tallied → Tallied
row_tallied more t = row_tallied_by (is_kept more.outcome t.rows) (nat_lt (length t.rows) KEPT_OUTCOMES) more t

-- so are those of each of these rows, one after another
abbrev pub rows_tallied : List KeptOutcome → Tallied → Tallied
rows_tallied [] t = t
rows_tallied (more ∷ rows) t = rows_tallied rows (row_tallied more t)

-- how many numbers gave the outcomes of these rows
abbrev pub counts_of : List KeptOutcome → ℕ
counts_of rows = sum_by (λ row. row.count) rows

-- whether more numbers gave an outcome than another, or as many and a lower one
abbrev pub is_commoner : KeptOutcome → KeptOutcome → Bool
is_commoner row other = nat_lt other.count row.count || ((row.count == other.count) && nat_lt row.lowest other.lowest)

-- at this place stands an outcome, and no other is commoner
pub record IsCommonest (rows : List KeptOutcome) (at : ℕ) : Type 0 where
  pub within : at < length rows
  pub commonest : (i : ℕ) (row other : KeptOutcome) → slice_get rows at ≡ Some row → slice_get rows i ≡ Some other → is_commoner other row ≡ false
