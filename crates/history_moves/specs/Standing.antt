-- What may be answered and done where a history stands.
use Rattle.std.specs.Prelude.{List, ◌∷◌, ◌++◌}
use Rattle.uid_names.specs.Openings.{Start}
use Rattle.uid_names.specs.declared.ids.Place.{Place}
use Rattle.dom_history.specs.declared.op.Reply.{Reply}
use Rattle.dom_history.specs.declared.op.Entry.{Entry}
use Rattle.dom_history.specs.StoreEffects.{store_effects}
use Rattle.dom_history.specs.Histories.{Item, Act, Pending, History, deeds, before_op}
use Rattle.dom_history.specs.Legal.{IsAllowed, MayAct}
use Rattle.history_moves.specs.Asking.{MayAsk}
use Rattle.history_moves.specs.HistoryMoves.{history, act_of, told_to, IsEnd}
use Rattle.history_moves.specs.Answering.{StandsOpen}

-- by what it was told in these items, the process of o may ask its home
abbrev pub MayAskNow : List Item → Pending → Type 0
MayAskNow items o = MayAsk (told_to o items) o.op

-- the reply may answer o after these items
abbrev pub MayAnswer : Start → List Item → Pending → Reply → Type 0
MayAnswer opening items o reply = IsAllowed (before_op opening items o.proc) o.proc o.op reply

-- the entry may follow these items
abbrev pub MayFollow : Start → List Item → Entry → Type 0
MayFollow opening items e = IsAllowed (before_op opening items e.proc) e.proc e.op e.reply

-- by what these items did, the home may act so
abbrev pub MayActNow : Start → List Item → Act → Type 0
MayActNow opening items a = MayAct opening (store_effects (deeds items)) a.deed.proc a.deed.op a.deed.reply

-- all that the history has stands, or began, before the place
abbrev pub IsEndOf : History → Place → Type 0
IsEndOf h x = IsEnd x h.items h.open_ops

-- it holds of each legal history, and of each open operation with an act that may be its
abbrev pub AtEachOpen : (Start → History → Pending → Act → Type 0) → Type 0
AtEachOpen P =
    (opening : Start) → (left right : List Pending) → (o : Pending) → (items : List Item) → (y : Place) → (reply : Reply) → StandsOpen opening items left o right
    → P opening (history items (left ++ o ∷ right)) o (act_of o y reply)
