-- An open operation that is answered by an entry at an earlier place.
use Rattle.std.specs.Prelude.{ℕ, ◌≡◌, ◌⊎◌, List, ◌∷◌, ◌++◌}
use Rattle.uid_names.specs.Openings.{Start}
use Rattle.uid_names.specs.declared.ids.Place.{Place}
use Rattle.dom_history.specs.declared.op.Reply.{Reply}
use Rattle.dom_history.specs.declared.op.Reply.TheVariants.{Kept, Doubt, LinkFault}
use Rattle.dom_history.specs.declared.op.Entry.{Entry}
use Rattle.dom_history.specs.Histories.{Item, Answered, Acted, Pending}
use Rattle.dom_history.specs.Legal.{IsLegal}
use Rattle.history_moves.specs.Asking.{MayAsk}
use Rattle.history_moves.specs.HistoryMoves.{history, entry_of, act_of, told_to, MayPutIn}

-- o stands open here in a legal history
abbrev pub StandsOpen : Start → List Item → List Pending → Pending → List Pending → Type 0
StandsOpen opening items left o right = IsLegal opening (history items (left ++ o ∷ right))

-- the history is legal with the entry between these items, and these operations open
abbrev pub IsLegalWith : Start → List Pending → Entry → List Item → List Item → Type 0
IsLegalWith opening others e behind before = IsLegal opening (history (behind ++ Answered e ∷ before) others)

-- it holds of each open operation, and of each entry that answers it, where the history is legal before and after
abbrev pub AtEachAnswer : (Start → List Pending → Pending → Entry → List Item → List Item → Type 0) → Type 0
AtEachAnswer P =
    (opening : Start) → (left right : List Pending) → (o : Pending) → (x : Place) → (phase : ℕ) → (reply : Reply) → (behind before : List Item)
    → StandsOpen opening (behind ++ before) left o right → IsLegalWith opening (left ++ right) (entry_of o x phase reply) behind before
    → P opening (left ++ right) o (entry_of o x phase reply) behind before

-- a link fault says one of these
abbrev pub IsByLinkFault : Reply → Type 0
IsByLinkFault reply = (reply ≡ Kept) ⊎ ((reply ≡ Doubt) ⊎ (reply ≡ LinkFault))

-- where the history is legal before and after o is told what its home did, its process might ask that of its home
abbrev pub MightAskIfTold : Start → List Pending → List Pending → Pending → Type 0
MightAskIfTold opening left right o =
    (y : Place) → (phase : ℕ) → (reply : Reply) → (behind before : List Item) → StandsOpen opening (behind ++ Acted (act_of o y reply) ∷ before) left o right
    → IsLegalWith opening (left ++ right) (entry_of o y phase reply) behind before → MayAsk (told_to o before) o.op

-- with an entry that may be put in to answer o the history is legal
abbrev pub IsLegalIfPutIn : Start → List Pending → List Pending → Pending → Type 0
IsLegalIfPutIn opening left right o =
    (x : Place) → (phase : ℕ) → (reply : Reply) → (before behind : List Item) → StandsOpen opening (behind ++ before) left o right
    → MayPutIn opening behind before (left ++ right) o (entry_of o x phase reply) → IsLegalWith opening (left ++ right) (entry_of o x phase reply) behind before
