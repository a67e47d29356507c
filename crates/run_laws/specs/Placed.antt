-- Where operations begin, are decided and end.
use Rattle.std.specs.Prelude.{◌≡◌, ℕ, true, ◌⊎◌, List, [], ◌∷◌}
use Rattle.uid_names.specs.Names.{ProcName}
use Rattle.uid_names.specs.declared.ids.Place.{Place}
use Rattle.dom_history.specs.declared.op.Op.{Op}
use Rattle.dom_history.specs.Histories.{SomeOf, place_lt}
use Rattle.node_runs.specs.Notes.{Told, Note}
use Rattle.node_runs.specs.Runs.{Noted}
use Rattle.node_runs.specs.CallsKeep.{EachOf}
use Rattle.node_runs.specs.RunHistories.{is_fault}
use Rattle.run_laws.specs.Progress.{IsSettling}
use Rattle.run_laws.specs.DecidedReplies.{IsDecisionOf}

-- a decision on the call of this number that settles its operation
abbrev pub IsSettledBy : ProcName → ℕ → Note → Type 0
IsSettledBy p number (Note.Decided q k ask answer) = (q ≡ p) × (k ≡ number) × IsSettling ask
IsSettledBy p number note = ⊥

-- the notes rise: each stands above those before it
abbrev pub AreRisingNotes : List Noted → Type 0
AreRisingNotes [] = Unit {0}
AreRisingNotes (m ∷ older) = EachOf (λ (j : Noted). place_lt j.place m.place ≡ true) older × AreRisingNotes older

-- the operation began there
abbrev pub IsBegin : ProcName → Op → Place → Noted → Type 0
IsBegin p op begun j = (j.place ≡ begun) × (j.note ≡ Note.Began p op)

-- a decision on a call that stands behind the Begin of its operation
abbrev pub IsDecidedBehind : ProcName → ℕ → Place → Noted → Type 0
IsDecidedBehind p number begun j = IsSettledBy p number j.note × (place_lt begun j.place ≡ true)

-- an operation ends: before that it began, and was decided behind that by the home that its last call asked, unless a link
-- fault ended it; and each decision on that call stands behind the Begin
pub record IsEndOf (older : List Noted) (t : Told) : Type 0 where
  pub began : SomeOf (IsBegin t.proc t.op t.begun) older
  pub decided : (is_fault t.reply ≡ true) ⊎ SomeOf (IsDecidedBehind t.proc t.number t.begun) older
  pub behind : EachOf (λ (j : Noted). IsDecisionOf t.proc t.number j.note → place_lt t.begun j.place ≡ true) older

abbrev pub IsPlaced : Note → List Noted → Type 0
IsPlaced (Note.Ended t) older = IsEndOf older t
IsPlaced note older = Unit {0}

-- each end of the run is so
abbrev pub AreEndsPlaced : List Noted → Type 0
AreEndsPlaced [] = Unit {0}
AreEndsPlaced (m ∷ older) = IsPlaced m.note older × AreEndsPlaced older
