-- A home decides the calls of a process by rising numbers.
use Rattle.std.specs.Prelude.{◌≡◌, ℕ, ◌<◌, List, [], ◌∷◌}
use Rattle.uid_names.specs.Names.{ProcName}
use Rattle.uid_names.specs.declared.ids.Place.{Place}
use Rattle.node_runs.specs.Notes.{Note}
use Rattle.node_runs.specs.Runs.{Noted}
use Rattle.node_runs.specs.CallsKeep.{EachOf}

-- a decision on a call of the process is on one of a smaller number
abbrev pub IsDecidedBelow : ProcName → ℕ → Note → Type 0
IsDecidedBelow p number (Note.Decided q k ask answer) = q ≡ p → k < number
IsDecidedBelow p number note = Unit {0}

-- each that the same home decided before is
abbrev pub IsDecidedAbove : Place → Note → List Noted → Type 0
IsDecidedAbove x (Note.Decided p number ask answer) older = EachOf (λ (j : Noted). j.place.node ≡ x.node → IsDecidedBelow p number j.note) older
IsDecidedAbove x note older = Unit {0}

abbrev pub AreDecisionsRising : List Noted → Type 0
AreDecisionsRising [] = Unit {0}
AreDecisionsRising (m ∷ older) = IsDecidedAbove m.place m.note older × AreDecisionsRising older
