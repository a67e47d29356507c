-- A process that may ask is answered as its home says, or by a link fault.
use Rattle.std.proofs.Common.{◌≡◌, ◌∙◌, ◌<◌, ◌+◌, ℕ, Bool, true, false, List, [], ◌∷◌, length, refl, sym, arith, inr}
use Rattle.std.specs.Prelude.{Contains, Option, Some, None, not, nat_le, nat_lt, find, if◌then◌else◌}
use Rattle.std.proofs.lemmas.Bool.Decides.{nat_tests}
use Rattle.uid_names.specs.Names.{ProcName, ObjectName}
use Rattle.uid_names.specs.Openings.{Start}
use Rattle.uid_names.specs.Rows.{is_in_conflict}
use Rattle.uid_names.specs.declared.limits.TheConstants.{VOLUME_ROOM, PROCESS_LOCKS}
use Rattle.uid_names.specs.declared.lock_row.LockRow.{LockRow}
use Rattle.uid_names.specs.declared.mode.Mode.{Mode}
use Rattle.dom_history.specs.declared.op.Spot.{Spot}
use Rattle.dom_history.specs.declared.op.Op.{Op}
use Rattle.dom_history.specs.declared.op.Op.TheVariants.{New, Lock, Unlock, Delete, Load, Store, List as ListOp}
use Rattle.dom_history.specs.declared.op.Reply.{Reply}
use Rattle.dom_history.specs.declared.op.Reply.TheVariants.{Made, Fine, Bytes, NoSpace, NoObject, Kept, Doubt, LinkFault}
use Rattle.dom_history.specs.declared.deed.Deed.{Deed}
use Rattle.dom_history.specs.declared.deed.LockState.{LockState}
use Rattle.dom_history.specs.declared.deed.LockState.TheVariants.{Free, Held}
use Rattle.dom_history.specs.StoreEffects.{StoreEffect}
use Rattle.dom_history.specs.Objects.{is_node, is_present, greatest_counter, room_taken}
use Rattle.uid_names.specs.declared.mode.Mode.TheVariants.{Write}
use Rattle.dom_history.specs.Locks.{is_free, not_free, state, rows}
use Rattle.dom_history.specs.Legal.{IsAllowed, MayAct}
use Rattle.dom_history.specs.Replies.{Before, reply_of, link_faults, conflict_or_fine, may_write, may_delete}
use Rattle.history_moves.specs.Asking.{MayAsk, HomeSays, MayFail}

-- fewer than may be
few : (told : List Deed) → length (not_free told) < PROCESS_LOCKS → nat_le PROCESS_LOCKS (length (not_free told)) ≡ false
few told h = grind (arith, nat_tests, h)

-- Free is one state
free-is : (s : LockState) → is_free s ≡ true → s ≡ Free
free-is Free e = refl
free-is _ e = cc

-- and so is Held in Write
may_delete-is : (s : LockState) → may_delete s ≡ true → s ≡ Held Write
may_delete-is (Held Write) e = refl
may_delete-is _ e = cc

-- the home's word is the reply of one store
pub asked-reply : (opening : Start) (past : List StoreEffect) (told : List Deed) (p : ProcName) (op : Op) (reply : Reply) → MayAsk told op → HomeSays opening past p op reply
    → reply ≡ reply_of (record { opening = opening; past = past; told = told }) p op
asked-reply opening past told p (New home kind room) reply ask says = says
asked-reply opening past told p (Lock u m) reply ask says = rw (free-is (state u told) ask.0, few told ask.1) says
asked-reply opening past told p (Unlock u) reply ask says = rw ask says
asked-reply opening past told p (Delete u) reply ask says = rw (may_delete-is (state u told) ask) says
asked-reply opening past told p (ListOp home after) reply ask says = says
asked-reply opening past told p _ reply ask says = absurd ask

-- what acts is what the home says
pub acted-says : (opening : Start) (past : List StoreEffect) (p : ProcName) (op : Op) (reply : Reply) → MayAct opening past p op reply → HomeSays opening past p op reply
acted-says opening past p (New home kind room) reply (u, is, made) = is ∙ sym made
acted-says opening past p (Lock u m) reply may = may.0 ∙ sym may.1
acted-says opening past p (Unlock u) reply may = may
acted-says opening past p (Delete u) reply may = may.0
acted-says opening past p _ reply may = absurd may

-- the first of a list is in it
first : (r : Reply) (rs : List Reply) → Contains (r ∷ rs) r
first r rs = (0, omega arith, refl)

-- and the second
second : (q r : Reply) (rs : List Reply) → Contains (q ∷ r ∷ rs) r
second q r rs = (1, omega arith, refl)

-- made or not, a link fault may answer
new-fails : (op : Op) (s : LockState) (u : ObjectName) → Contains (link_faults op s NoSpace) LinkFault → Contains (link_faults op s (Made u)) LinkFault → (x y z : Bool)
    → Contains (link_faults op s (if x then NoSpace else (if y then NoSpace else (if z then NoSpace else Made u)))) LinkFault
new-fails op s u none made true y z = none
new-fails op s u none made false true z = none
new-fails op s u none made false false true = none
new-fails op s u none made false false false = made

-- and a lock, whatever the home says
lock-fails : (u : ObjectName) (m : Mode) (s : LockState) (b : Bool) (found : Option LockRow) → Contains (link_faults (Lock u m) s (if b then NoObject else conflict_or_fine found)) Doubt
lock-fails u m s true found = first Doubt []
lock-fails u m s false None = first Doubt []
lock-fails u m s false (Some row) = first Doubt []

unlock-fails : (b : Bool) → Contains (if b then Kept ∷ Doubt ∷ [] else Doubt ∷ []) Doubt
unlock-fails true = second Kept Doubt []
unlock-fails false = first Doubt []

-- where a process may ask, a link fault may answer
pub failed-allowed : (opening : Start) (past : List StoreEffect) (told : List Deed) (p : ProcName) (op : Op) (reply : Reply) → MayAsk told op → MayFail told op reply
    → IsAllowed (record { opening = opening; past = past; told = told }) p op reply
failed-allowed opening past told p (New home kind room) LinkFault ask fail = inr (
    new-fails (New home kind room) Free (record { counter = greatest_counter opening past home + 1; home = home }) (first LinkFault []) (first LinkFault [])
    (not (is_node opening home))
    (nat_lt opening.greatest room)
    (nat_lt VOLUME_ROOM (room_taken opening past home + room))
    )
failed-allowed opening past told p (Lock u m) Doubt ask fail = inr (rw (free-is (state u told) ask.0, few told ask.1) (lock-fails u m Free (not (is_present opening past u)) (find (is_in_conflict p u m) (rows u.home past))))
failed-allowed opening past told p (Unlock u) Kept ask fail = inr (rw (ask, fail) (first Kept (Doubt ∷ [])))
failed-allowed opening past told p (Unlock u) Doubt ask fail = inr (rw ask (unlock-fails (may_write (state u told))))
failed-allowed opening past told p (Delete u) Kept ask fail = inr (rw (may_delete-is (state u told) ask) (first Kept (Doubt ∷ [])))
failed-allowed opening past told p (Delete u) Doubt ask fail = inr (rw (may_delete-is (state u told) ask) (second Kept Doubt []))
failed-allowed opening past told p (ListOp home after) LinkFault ask fail = inr (first LinkFault [])
failed-allowed opening past told p _ _ ask fail = absurd fail

-- an access that one store would do, a link fault may answer
pub load-fails : (b : Before) (p : ProcName) (spot : Spot) (n : ℕ) (bytes : List ℕ) → reply_of b p (Load spot n) ≡ Bytes bytes → IsAllowed b p (Load spot n) LinkFault
load-fails b p spot n bytes e = inr (rw e (first LinkFault []))

pub store-fails : (b : Before) (p : ProcName) (spot : Spot) (bytes : List ℕ) → reply_of b p (Store spot bytes) ≡ Fine → IsAllowed b p (Store spot bytes) LinkFault
store-fails b p spot bytes e = inr (rw e (first LinkFault []))
