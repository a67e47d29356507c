-- What is told of the runs of many numbers.
use Rattle.std.specs.Prelude.{ℕ, ◌==◌, ◌≡◌, if◌then◌else◌, Bool, true, false, nat_lt, Option, Some, None, List, [], ◌∷◌, ◌++◌, codes, decimal, slice_get}
use Rattle.std.specs.List.{flat_map}
use Rattle.node_texts.specs.Texts.{process_text}
use Rattle.run_outcomes.specs.declared.tally.KeptOutcome.{KeptOutcome}
use Rattle.run_outcomes.specs.declared.difference.Difference.{Difference}
use Rattle.run_outcomes.specs.Tallies.{IsCommonest}
use Rattle.run_outcomes.specs.Differing.{outcome_differences}
use Rattle.explored_counts.specs.declared.seen.Missed.{Missed}
use Rattle.explored_counts.specs.declared.seen.Explored.{Explored}

-- an answer, or that there is none
abbrev pub answer_text : Option (List ℕ) → List ℕ
answer_text None = codes "no answer"
answer_text (Some text) = text

-- a command, the answer that most numbers gave, and the one that these gave
abbrev pub difference_line : List (List ℕ) → Difference → List ℕ
difference_line names d = codes "  " ++ process_text names d.proc ++ codes " " ++ decimal d.index ++ codes " " ++ answer_text d.first ++ codes " => " ++ answer_text d.second ++ codes "\n"

abbrev pub difference_lines : List (List ℕ) → List Difference → List ℕ
difference_lines names ds = flat_map (difference_line names) ds

-- how many of all numbers
abbrev pub share_text : ℕ → ℕ → List ℕ
share_text count total = decimal count ++ codes " of " ++ decimal total

-- the same, and the lowest of them
abbrev pub count_text : ℕ → ℕ → ℕ → List ℕ
count_text count total lowest = share_text count total ++ codes ", lowest " ++ decimal lowest

-- what marks the commonest outcome
abbrev pub mark : Bool → List ℕ
mark true = codes ", the commonest"
mark false = []

-- an outcome: how many numbers gave it, the lowest of them, and in which answers it differs from the commonest
abbrev pub outcome_text : List (List ℕ) → ℕ → KeptOutcome → KeptOutcome → List ℕ
outcome_text names total common row =
    count_text row.count total row.lowest ++ mark (row.lowest == common.lowest) ++ codes "\n" ++ difference_lines names (outcome_differences common.outcome row.outcome)

abbrev pub outcome_texts : List (List ℕ) → ℕ → KeptOutcome → List KeptOutcome → List ℕ
outcome_texts names total common rows = flat_map (outcome_text names total common) rows

-- each outcome in the order in which they were first met, beside the commonest
pub record AreTold (names : List (List ℕ)) (total : ℕ) (rows : List KeptOutcome) (text : List ℕ) : Type 0 where
  pub at : ℕ
  pub common : KeptOutcome
  pub commonest : IsCommonest rows at
  pub stands : slice_get rows at ≡ Some common
  pub told : text ≡ outcome_texts names total common rows

-- the outcomes, if there are any
abbrev pub IsOutcomesText : List (List ℕ) → ℕ → List KeptOutcome → List ℕ → Type 0
IsOutcomesText names total [] text = text ≡ []
IsOutcomesText names total (row ∷ rows) text = AreTold names total (row ∷ rows) text

-- the numbers that gave outcomes that are not kept
abbrev pub rest_text : ℕ → ℕ → List ℕ
rest_text rest total = if nat_lt 0 rest then share_text rest total ++ codes ", each with another outcome than these\n" else []

-- the numbers that gave no answers, for one cause
abbrev pub missed_text : List ℕ → ℕ → Option Missed → List ℕ
missed_text why total None = []
missed_text why total (Some m) = count_text m.count total m.lowest ++ why ++ codes "\n"

-- whether all numbers gave one outcome
abbrev pub is_one : List KeptOutcome → ℕ → Bool
is_one [] total = false
is_one (row ∷ []) total = row.count == total
is_one (row ∷ (other ∷ rows)) total = false

-- all outcomes, and then the numbers that gave others or none
pub record IsListed (names : List (List ℕ)) (e : Explored) (total : ℕ) (text : List ℕ) : Type 0 where
  pub outcomes : List ℕ
  pub are : IsOutcomesText names total e.tally.rows outcomes
  pub told : text ≡ outcomes ++ rest_text e.tally.rest total ++ missed_text (codes ", a node came to the last tick") total e.last_tick ++ missed_text (codes ", no memory") total e.no_memory

abbrev pub IsToldBy : Bool → List (List ℕ) → Explored → ℕ → List ℕ → Type 0
IsToldBy true names e total text = text ≡ codes "the same in all " ++ decimal total ++ codes "\n"
IsToldBy false names e total text = IsListed names e total text

-- what is told: that all gave the same, or all outcomes
abbrev pub IsTold : List (List ℕ) → Explored → ℕ → List ℕ → Type 0
IsTold names e total text = IsToldBy (is_one e.tally.rows total) names e total text
