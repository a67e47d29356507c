-- What the process of an open operation was told since the operation began.
use Rattle.std.specs.Prelude.{ℕ, ◌≡◌, List, ◌∷◌, ◌++◌, IsTrue, All}
use Rattle.uid_names.specs.Openings.{Start}
use Rattle.uid_names.specs.declared.ids.Place.{Place}
use Rattle.dom_history.specs.declared.op.Reply.{Reply}
use Rattle.dom_history.specs.Histories.{Item, Answered, Pending, entries, place_of, place_lt}
use Rattle.history_moves.specs.HistoryMoves.{entry_of, told_to}
use Rattle.history_moves.specs.Answering.{StandsOpen}

-- the operation began before this place
abbrev pub BeganBefore : Pending → Place → Type 0
BeganBefore o x = IsTrue (place_lt o.begun x)

-- it holds of each open operation, and of the items behind its Begin and the older ones
abbrev pub SinceBegin : (Pending → List Item → List Item → Type 0) → Type 0
SinceBegin P =
    (opening : Start) → (left right : List Pending) → (o : Pending) → (behind old : List Item) → StandsOpen opening (behind ++ old) left o right
    → All (λ i. BeganBefore o (place_of i)) behind → P o behind old

-- the reply that answers o is what its process was told last, wherever its entry stands before these items
abbrev pub IsToldLast : Pending → List Item → List Item → Type 0
IsToldLast o behind old =
    (x : Place) → (phase : ℕ) → (reply : Reply) → (before : List Item) → entries old ≡ entries before
    → told_to o (behind ++ Answered (entry_of o x phase reply) ∷ before) ≡ record { proc = o.proc; op = o.op; reply = reply } ∷ told_to o (behind ++ old)
