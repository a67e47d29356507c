-- Where two runs part, and which commands they answer otherwise.
use Rattle.std.specs.Prelude.{ℕ, ◌≡◌, ◌≢◌, Bool, true, false, Option, Some, None, List, [], ◌∷◌, bytes_eq, take, slice_get}
use Rattle.dom_history.specs.Events.{Happening}
use Rattle.event_views.specs.declared.command.CommandView.{CommandView}
use Rattle.event_views.specs.declared.differing.AnswerDiff.{AnswerDiff}

-- the events before a place are the same, and there another one stands, or in one of the two none does; or all are the same
abbrev pub IsParting : List Happening → List Happening → Option ℕ → Type 0
IsParting es fs None = es ≡ fs
IsParting es fs (Some n) = (take n es ≡ take n fs) × (slice_get es n ≢ slice_get fs n)

abbrev pub same_answer : Option (List ℕ) → Option (List ℕ) → Bool
same_answer None None = true
same_answer None (Some b) = false
same_answer (Some a) None = false
same_answer (Some a) (Some b) = bytes_eq a b

abbrev pub unless_same : Bool → AnswerDiff → List AnswerDiff → List AnswerDiff
unless_same true diff diffs = diffs
unless_same false diff diffs = diff ∷ diffs

-- the commands that are answered otherwise, with both answers, where the commands of two runs of one script go side by side
abbrev pub answer_diffs : List CommandView → List CommandView → List AnswerDiff
answer_diffs [] ds = []
answer_diffs (c ∷ cs) [] = []
answer_diffs (c ∷ cs) (d ∷ ds) = unless_same (same_answer c.answer d.answer) (record { name = c.name; first = c.answer; second = d.answer }) (answer_diffs cs ds)
