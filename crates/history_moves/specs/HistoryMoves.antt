-- How a history changes as a run goes on. Lists of items have the newest first: what stands behind a place in time
-- comes first in the list.
use Rattle.std.specs.Prelude.{ℕ, ◌≡◌, not, ◌⊎◌, List, [], ◌∷◌, ◌++◌, IsTrue, All}
use Rattle.uid_names.specs.Openings.{Start}
use Rattle.uid_names.specs.declared.ids.Place.{Place}
use Rattle.dom_history.specs.declared.op.Op.{Op}
use Rattle.dom_history.specs.declared.op.Op.TheVariants.{New, Lock, Unlock, Delete}
use Rattle.dom_history.specs.declared.op.Reply.{Reply}
use Rattle.dom_history.specs.declared.op.Reply.TheVariants.{Kept, Doubt, LinkFault}
use Rattle.dom_history.specs.declared.op.Entry.{Entry}
use Rattle.dom_history.specs.declared.deed.Deed.{Deed}
use Rattle.dom_history.specs.StoreEffects.{StoreEffect, store_effect, own}
use Rattle.dom_history.specs.Histories.{Item, Answered, Acted, Act, Pending, History, place_of, place_lt, IsRising, entries, told, before_op}
use Rattle.dom_history.specs.Legal.{IsAllowed, IsLegalAct, MayEnd, with_entry, IsOpenOp, IsEarlier, IsElsewhere, IsBefore, IsIdle, home_of}
use Rattle.history_moves.specs.Asking.{MayAsk}

-- these items, with these operations open
abbrev pub history : List Item → List Pending → History
history items pending = record { items = items; open_ops = pending }

-- the entry that answers an open operation
abbrev pub entry_of : Pending → Place → ℕ → Reply → Entry
entry_of o x phase reply = record { place = x; proc = o.proc; phase = phase; op = o.op; reply = reply }

-- the act of an open operation
abbrev pub act_of : Pending → Place → Reply → Act
act_of o x reply = record { place = x; begun = o.begun; deed = record { proc = o.proc; op = o.op; reply = reply } }

-- what the process of an open operation was told
abbrev pub told_to : Pending → List Item → List Deed
told_to o items = own o.proc (told (entries items))

-- the item is an act of this operation
abbrev pub IsActOf : Pending → Item → Type 0
IsActOf o (Answered e) = ⊥
IsActOf o (Acted a) = IsOpenOp a o

abbrev pub IsNoActOf : Pending → Item → Type 0
IsNoActOf o i = IsActOf o i → ⊥

-- the history with an act at its end
abbrev pub with_act : Act → History → History
with_act a h = history (Acted a ∷ h.items) h.open_ops

-- an act may be put at the end of a history that is legal without it
pub record MayEndAct (opening : Start) (h : History) (a : Act) : Type 0 where
  pub legal : IsLegalAct opening h.open_ops h.items a
  pub above : All (λ i. IsTrue (place_lt (place_of i) a.place)) h.items
  pub apart : All (λ o. IsElsewhere o a.place) h.open_ops

-- an operation that changes its home
abbrev pub IsChange : Op → Type 0
IsChange (New home kind room) = Unit {0}
IsChange (Lock u m) = Unit {0}
IsChange (Unlock u) = Unit {0}
IsChange (Delete u) = Unit {0}
IsChange _ = ⊥

-- an operation may begin, beside others that are open
pub record MayPend (items : List Item) (others : List Pending) (o : Pending) : Type 0 where
  pub idle : IsIdle o.proc others
  pub apart : All (λ q. IsElsewhere q o.begun) others
  pub elsewhere : All (λ i. IsElsewhere o (place_of i)) items
  pub last : All (IsBefore o) items

-- all that there is stands, or began, before a place
pub record IsEnd (x : Place) (items : List Item) (pending : List Pending) : Type 0 where
  pub items_below : All (λ i. IsTrue (place_lt (place_of i) x)) items
  pub begun_below : All (λ o. IsTrue (place_lt o.begun x)) pending

-- the open operation may be answered at the end, with whatever it does. No act of it stands
pub record MayFinish (opening : Start) (items : List Item) (others : List Pending) (o : Pending) (x : Place) (reply : Reply) : Type 0 where
  pub allowed : IsAllowed (before_op opening items o.proc) o.proc o.op reply
  pub end : IsEnd x items others
  pub no_act : All (IsNoActOf o) items

-- where an act of the open operation stands behind, the entry says that the home may have acted
abbrev pub IsStillIts : Pending → Entry → Item → Type 0
IsStillIts o e i = IsActOf o i → (e.place ≡ o.begun) × ((e.reply ≡ Doubt) ⊎ (e.reply ≡ LinkFault))

-- what the entry's home decided for its process and stands behind it is of a later operation
abbrev pub IsLaterAct : Start → Entry → Item → Type 0
IsLaterAct opening e (Answered f) = Unit {0}
IsLaterAct opening e (Acted a) = IsEarlier opening a (Answered e)

-- no act for the process of the open operation at its home
abbrev pub IsNoneAtHome : Pending → Item → Type 0
IsNoneAtHome o (Answered f) = Unit {0}
IsNoneAtHome o (Acted a) = a.deed.proc ≡ o.proc → home_of a.deed.op ≡ home_of o.op → ⊥

-- an entry without effects may answer the open operation at an earlier place
pub record MayPutIn (opening : Start) (behind before : List Item) (others : List Pending) (o : Pending) (e : Entry) : Type 0 where
  pub no_effect : store_effect e.proc e.op e.reply ≡ []
  pub allowed : IsAllowed (before_op opening before e.proc) e.proc e.op e.reply
  pub rising : IsRising (behind ++ Answered e ∷ before)
  pub not_before : IsTrue (not (place_lt e.place o.begun))
  pub apart : All (λ q. IsElsewhere q e.place) others
  pub acts_behind : All (IsStillIts o e) behind
  pub acts_before : All (IsNoActOf o) before
  pub in_order : All (IsLaterAct opening e) behind

-- a link fault may end the open operation, at the place of its Begin. After Kept no act of it stands
pub record MayFault (opening : Start) (behind before : List Item) (o : Pending) (phase : ℕ) (reply : Reply) : Type 0 where
  pub fault : (reply ≡ Kept) ⊎ ((reply ≡ Doubt) ⊎ (reply ≡ LinkFault))
  pub allowed : IsAllowed (before_op opening before o.proc) o.proc o.op reply
  pub rising : IsRising (behind ++ Answered (entry_of o o.begun phase reply) ∷ before)
  pub kept : reply ≡ Kept → All (IsNoActOf o) behind

-- the process may be told what its home said at an earlier place, where that changed nothing
pub record MayHear (opening : Start) (behind before : List Item) (others : List Pending) (o : Pending) (e : Entry) : Type 0 where
  pub no_effect : store_effect e.proc e.op e.reply ≡ []
  pub allowed : IsAllowed (before_op opening before e.proc) e.proc e.op e.reply
  pub rising : IsRising (behind ++ Answered e ∷ before)
  pub begun_before : IsTrue (place_lt o.begun e.place)
  pub apart : All (λ q. IsElsewhere q e.place) others
  pub no_act_behind : All (IsNoneAtHome o) behind
  pub no_act_before : All (IsNoActOf o) before

-- how a history changes, from one event of a run to the next
pub data HistoryMoves (opening : Start) : History → History → Type 0 where
  begins : (items : List Item) (left right : List Pending) (o : Pending) → MayPend items (left ++ right) o → HistoryMoves opening (history items (left ++ right)) (history items (left ++ o ∷ right))
  does : (h : History) (e : Entry) → MayEnd opening h e → HistoryMoves opening h (with_entry e h)
  finishes : (items : List Item) (left right : List Pending) (o : Pending) (x : Place) (phase : ℕ) (reply : Reply) → MayFinish opening items (left ++ right) o x reply
      → HistoryMoves opening (history items (left ++ o ∷ right)) (history (Answered (entry_of o x phase reply) ∷ items) (left ++ right))
  acts : (h : History) (a : Act) → MayEndAct opening h a → HistoryMoves opening h (with_act a h)
  faults : (behind before : List Item) (left right : List Pending) (o : Pending) (phase : ℕ) (reply : Reply) → MayFault opening behind before o phase reply
      → HistoryMoves opening (history (behind ++ before) (left ++ o ∷ right)) (history (behind ++ Answered (entry_of o o.begun phase reply) ∷ before) (left ++ right))
  is_told : (behind before : List Item) (left right : List Pending) (o : Pending) (y : Place) (phase : ℕ) (reply : Reply) → MayAsk (told_to o before) o.op
      → HistoryMoves opening (history (behind ++ Acted (act_of o y reply) ∷ before) (left ++ o ∷ right)) (history (behind ++ Answered (entry_of o y phase reply) ∷ before) (left ++ right))
  hears : (behind before : List Item) (left right : List Pending) (o : Pending) (x : Place) (phase : ℕ) (reply : Reply) → MayHear opening behind before (left ++ right) o (entry_of o x phase reply)
      → HistoryMoves opening (history (behind ++ before) (left ++ o ∷ right)) (history (behind ++ Answered (entry_of o x phase reply) ∷ before) (left ++ right))

-- what a move adds to what was done
abbrev pub done_by : {opening : Start} {h new : History} → HistoryMoves opening h new → List StoreEffect
done_by (begins items left right o may) = []
done_by (does h e may) = store_effect e.proc e.op e.reply
done_by (finishes items left right o x phase reply may) = store_effect o.proc o.op reply
done_by (acts h a may) = store_effect a.deed.proc a.deed.op a.deed.reply
done_by (faults behind before left right o phase reply may) = []
done_by (is_told behind before left right o y phase reply may) = []
done_by (hears behind before left right o x phase reply may) = []
