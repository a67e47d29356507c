-- Which histories are those of one store.
use Rattle.std.specs.Prelude.{ℕ, ◌≡◌, Bool, true, false, ◌⊎◌, Option, Some, None, List, [], ◌∷◌, ◌++◌, IsTrue, All, AllPairs, Contains, not, nat_le, ◌&&◌}
use Rattle.uid_names.specs.Names.{ProcName, ObjectName, same_proc}
use Rattle.uid_names.specs.Openings.{Start}
use Rattle.uid_names.specs.declared.ids.Place.{Place}
use Rattle.dom_history.specs.declared.op.Op.{Op}
use Rattle.dom_history.specs.declared.op.Op.TheVariants.{New, Lock, Unlock, Delete, List as ListOp}
use Rattle.dom_history.specs.declared.op.Reply.{Reply}
use Rattle.dom_history.specs.declared.op.Reply.TheVariants.{Made, Fine, NoObject, Conflict, NoSpace, Locks, Doubt, LinkFault}
use Rattle.dom_history.specs.declared.op.Entry.{Entry}
use Rattle.dom_history.specs.declared.deed.Deed.{Deed}
use Rattle.dom_history.specs.StoreEffects.{StoreEffect, store_effects}
use Rattle.dom_history.specs.Objects.{is_node, is_present}
use Rattle.dom_history.specs.Locks.{holds, is_to_remove}
use Rattle.dom_history.specs.Replies.{Before, reply_of, link_faults, new_reply, home_lock_reply, unlock_state}
use Rattle.dom_history.specs.Histories.{Item, Answered, Acted, Act, Pending, History, deeds, before_op, SomeOf, place_of, deed_of, place_lt, same_place, IsRising}

-- the reply of one store, or one of a link fault in its place
abbrev pub IsAllowed : Before → ProcName → Op → Reply → Type 0
IsAllowed b p op reply = (reply ≡ reply_of b p op) ⊎ Contains (link_faults op (unlock_state op b.told) (reply_of b p op)) reply

-- what an act owes to what stands before it
abbrev pub MayAct : Start → List StoreEffect → ProcName → Op → Reply → Type 0
MayAct opening past p (New home kind room) reply = (u : ObjectName) × (reply ≡ Made u) × (new_reply (record { opening = opening; past = past; told = [] }) home room ≡ Made u)
MayAct opening past p (Lock u m) reply = (reply ≡ Fine) × (home_lock_reply opening past p u m ≡ Fine)
MayAct opening past p (Unlock u) reply = reply ≡ Fine
MayAct opening past p (Delete u) reply = (reply ≡ Fine) × IsTrue (is_present opening past u) × IsTrue (is_to_remove (holds p u past))
MayAct opening past p _ reply = ⊥

-- the home that an operation is for
abbrev pub home_of : Op → Option ℕ
home_of (New home kind room) = Some home
home_of (Lock u m) = Some u.home
home_of (Unlock u) = Some u.home
home_of (Delete u) = Some u.home
home_of (ListOp home after) = Some home
home_of _ = None

-- a reply that the home decides. Where a home is no node its operations are answered without it, and so is a New of
-- too great a room
abbrev pub is_of_home : Start → Op → Reply → Bool
is_of_home opening (New home kind room) NoSpace = is_node opening home && nat_le room opening.greatest
is_of_home opening (Lock u m) NoObject = is_node opening u.home
is_of_home opening (ListOp home after) (Locks rows more) = is_node opening home
is_of_home opening op (Made u) = true
is_of_home opening op Fine = true
is_of_home opening op (Conflict q m) = true
is_of_home opening op _ = false

-- the place that tells where an item stands among the operations of its process
abbrev pub begun_of : Item → Place
begun_of (Answered e) = e.place
begun_of (Acted a) = a.begun

-- the operation of i began before that of j
abbrev pub BeganEarlier : Item → Item → Type 0
BeganEarlier i j = IsTrue (place_lt (begun_of i) (begun_of j))

-- p was answered in doubt, or by a link fault, at this place
abbrev pub IsLeftOpen : Place → ProcName → Op → Item → Type 0
IsLeftOpen begun p op (Answered e) = (e.place ≡ begun) × (e.proc ≡ p) × (e.op ≡ op) × ((e.reply ≡ Doubt) ⊎ (e.reply ≡ LinkFault))
IsLeftOpen begun p op (Acted a) = ⊥

-- the open operation of an act
abbrev pub IsOpenOp : Act → Pending → Type 0
IsOpenOp a o = (o.begun ≡ a.begun) × (o.proc ≡ a.deed.proc) × (o.op ≡ a.deed.op)

-- an act belongs to an operation that was left open before it, or is open
abbrev pub Belongs : List Pending → List Item → Act → Type 0
Belongs pending past a =
    SomeOf (IsLeftOpen a.begun a.deed.proc a.deed.op) past
    ⊎ SomeOf (IsOpenOp a) pending

-- d was decided by the home of e, for the same process
abbrev pub IsAtHomeOf : Start → Deed → Deed → Type 0
IsAtHomeOf opening d e = (d.proc ≡ e.proc) × (home_of d.op ≡ home_of e.op) × IsTrue (is_of_home opening d.op d.reply)

-- where the home of an act decided an item for the same process, that item's operation is the earlier one
abbrev pub IsEarlier : Start → Act → Item → Type 0
IsEarlier opening a i = IsAtHomeOf opening (deed_of i) a.deed → IsTrue (place_lt (begun_of i) a.begun)

-- what a home decides for a process stands in the order of the operations
abbrev pub IsInOrder : Start → List Item → Act → Type 0
IsInOrder opening past a = All (IsEarlier opening a) past

pub record IsLegalAct (opening : Start) (pending : List Pending) (past : List Item) (a : Act) : Type 0 where
  pub may_act : MayAct opening (store_effects (deeds past)) a.deed.proc a.deed.op a.deed.reply
  pub belongs : Belongs pending past a
  pub begun_before : IsTrue (place_lt a.begun a.place)
  pub in_order : IsInOrder opening past a

-- one item, over what stands before it
abbrev pub IsLegalItem : Start → List Pending → List Item → Item → Type 0
IsLegalItem opening pending past (Answered e) = IsAllowed (before_op opening past e.proc) e.proc e.op e.reply
IsLegalItem opening pending past (Acted a) = IsLegalAct opening pending past a

-- each item is legal over what stands before it
abbrev pub AreLegal : Start → List Pending → List Item → Type 0
AreLegal opening pending [] = Unit {0}
AreLegal opening pending (i ∷ past) = IsLegalItem opening pending past i × AreLegal opening pending past

-- an open operation is its process's last: each entry of that process stands before its Begin
abbrev pub IsBefore : Pending → Item → Type 0
IsBefore o (Answered e) = IsTrue (same_proc e.proc o.proc) → IsTrue (place_lt e.place o.begun)
IsBefore o (Acted a) = Unit {0}

-- the open operation began at a place of its own
abbrev pub IsElsewhere : Pending → Place → Type 0
IsElsewhere o x = IsTrue (not (same_place o.begun x))

-- the history is one of one store
pub record IsLegal (opening : Start) (h : History) : Type 0 where
  pub rising : IsRising h.items
  pub one_open : AllPairs (λ o q. IsTrue (not (same_proc o.proc q.proc))) h.open_ops
  pub opens_apart : AllPairs (λ o q. IsElsewhere o q.begun) h.open_ops
  pub items_apart : All (λ o. All (λ i. IsElsewhere o (place_of i)) h.items) h.open_ops
  pub open_last : All (λ o. All (IsBefore o) h.items) h.open_ops
  pub legal : AreLegal opening h.open_ops h.items

-- one item of the history stands before the other; the newest is first
pub record StandsBefore (h : History) (i j : Item) : Type 0 where
  pub newer : List Item
  pub middle : List Item
  pub older : List Item
  pub stand : h.items ≡ newer ++ j ∷ (middle ++ i ∷ older)

-- an entry may be put at the end of a history that is legal without it
pub record MayEnd (opening : Start) (h : History) (e : Entry) : Type 0 where
  pub allowed : IsAllowed (before_op opening h.items e.proc) e.proc e.op e.reply
  pub above : All (λ i. IsTrue (place_lt (place_of i) e.place)) h.items
  pub apart : All (λ o. IsElsewhere o e.place) h.open_ops
  pub own_later : All (λ o. IsBefore o (Answered e)) h.open_ops

-- the process has nothing open
abbrev pub IsIdle : ProcName → List Pending → Type 0
IsIdle p pending = All (λ o. IsTrue (not (same_proc p o.proc))) pending

-- the history with an entry at its end
abbrev pub with_entry : Entry → History → History
with_entry e h = record { items = Answered e ∷ h.items; open_ops = h.open_ops }
