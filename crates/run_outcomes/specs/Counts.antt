-- What a tally says of all that was added: which outcomes were met, how many numbers gave each, and the lowest.
use Rattle.std.specs.Prelude.{ℕ, min, Bool, true, false, not, List, [], ◌∷◌, ◌++◌, length, take, map, filter, count_by}
use Rattle.std.specs.List.{list_any}
use Rattle.run_outcomes.specs.declared.outcome.OutcomeRow.{OutcomeRow}
use Rattle.run_outcomes.specs.declared.tally.KeptOutcome.{KeptOutcome}
use Rattle.run_outcomes.specs.declared.tally.TheConstants.{KEPT_OUTCOMES}
use Rattle.run_outcomes.specs.Outcomes.{same_outcome}
use Rattle.run_outcomes.specs.Tallies.{Tallied}

-- a number, and the outcome that it gave
pub record Gave : Type 0 where
  pub number : ℕ
  pub outcome : List OutcomeRow

-- whether this outcome is among these
abbrev pub is_among : List OutcomeRow → List (List OutcomeRow) → Bool
is_among outcome seen = list_any (λ o. same_outcome o outcome) seen

-- an outcome that was not met stands behind those that were
abbrev pub with_met : Bool → List OutcomeRow → List (List OutcomeRow) → List (List OutcomeRow)
with_met true outcome seen = seen
with_met false outcome seen = seen ++ outcome ∷ []

-- the outcomes that were met, each once, in the order in which they were; what was added last stands first
abbrev pub met : List Gave → List (List OutcomeRow)
met [] = []
met (g ∷ past) = with_met (is_among g.outcome (met past)) g.outcome (met past)

-- those that are kept
abbrev pub kept : List Gave → List (List OutcomeRow)
kept given = take KEPT_OUTCOMES (met given)

-- the numbers that gave an outcome
abbrev pub numbers_of : List OutcomeRow → List Gave → List ℕ
numbers_of outcome given = map (λ g. g.number) (filter (λ g. same_outcome outcome g.outcome) given)

-- the least of numbers
abbrev pub least : List ℕ → ℕ
least [] = 0
least (n ∷ []) = n
least (n ∷ (m ∷ ns)) = min n (least (m ∷ ns))

-- the row of an outcome: how many numbers gave it, and the lowest of them
abbrev pub row_of : List Gave → List OutcomeRow → KeptOutcome
row_of given outcome = record { outcome = outcome; count = length (numbers_of outcome given); lowest = least (numbers_of outcome given) }

-- how many numbers gave an outcome that is not among these
abbrev pub count_beside : List (List OutcomeRow) → List Gave → ℕ
count_beside seen given = count_by (λ g. not (is_among g.outcome seen)) given

-- the tally of all that was added
abbrev pub tally_of : List Gave → Tallied
tally_of given = record { rows = map (row_of given) (kept given); rest = count_beside (kept given) given; added = length given }
