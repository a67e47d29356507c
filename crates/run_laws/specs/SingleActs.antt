-- An operation acts once.
use Rattle.std.specs.Prelude.{◌≡◌, ◌<◌, List, [], ◌∷◌}
use Rattle.uid_names.specs.Names.{ProcName}
use Rattle.uid_names.specs.declared.ids.Place.{Place}
use Rattle.dom_history.specs.Histories.{Item, Answered, Acted}
use Rattle.node_runs.specs.Notes.{Told}
use Rattle.node_runs.specs.CallsKeep.{EachOf}

-- an operation ended after another of its process: it began later, and its last call has a greater number
abbrev pub IsToldLater : Told → Told → Type 0
IsToldLater t u = u.proc ≡ t.proc → (u.begun.tick < t.begun.tick) × (u.number < t.number)

-- each is later than those before it
abbrev pub AreToldRising : List Told → Type 0
AreToldRising [] = Unit {0}
AreToldRising (t ∷ older) = EachOf (IsToldLater t) older × AreToldRising older

-- an act of the operation that the process began there
abbrev pub IsActOf : ProcName → Place → Item → Type 0
IsActOf p begun (Answered e) = ⊥
IsActOf p begun (Acted a) = (a.deed.proc ≡ p) × (a.begun ≡ begun)

-- none before is an act of the same operation
abbrev pub IsOnlyAct : Item → List Item → Type 0
IsOnlyAct (Answered e) older = Unit {0}
IsOnlyAct (Acted a) older = EachOf (λ i. IsActOf a.deed.proc a.begun i → ⊥) older

abbrev pub AreSingleActs : List Item → Type 0
AreSingleActs [] = Unit {0}
AreSingleActs (i ∷ older) = IsOnlyAct i older × AreSingleActs older
