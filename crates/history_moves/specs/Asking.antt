-- What a process tests by itself before it asks the home, and what the home says.
use Rattle.std.specs.Prelude.{◌≡◌, ◌<◌, true, false, List, [], IsTrue, length}
use Rattle.uid_names.specs.Names.{ProcName}
use Rattle.uid_names.specs.Openings.{Start}
use Rattle.uid_names.specs.Rows.{rows_after}
use Rattle.uid_names.specs.declared.limits.TheConstants.{PROCESS_LOCKS}
use Rattle.dom_history.specs.declared.op.Op.{Op}
use Rattle.dom_history.specs.declared.op.Op.TheVariants.{New, Lock, Unlock, Delete, List as ListOp}
use Rattle.dom_history.specs.declared.op.Reply.{Reply}
use Rattle.dom_history.specs.declared.op.Reply.TheVariants.{Fine, Kept, Doubt, LinkFault}
use Rattle.dom_history.specs.declared.deed.Deed.{Deed}
use Rattle.dom_history.specs.StoreEffects.{StoreEffect}
use Rattle.dom_history.specs.Locks.{state, not_free, is_free, rows}
use Rattle.dom_history.specs.Replies.{new_reply, home_lock_reply, list_reply, may_write, may_delete}

-- by what a process was told, it may ask the home for this operation
abbrev pub MayAsk : List Deed → Op → Type 0
MayAsk told (New home kind room) = Unit {0}
MayAsk told (Lock u m) = (is_free (state u told) ≡ true) × (length (not_free told) < PROCESS_LOCKS)
MayAsk told (Unlock u) = is_free (state u told) ≡ false
MayAsk told (Delete u) = may_delete (state u told) ≡ true
MayAsk told (ListOp home after) = Unit {0}
MayAsk told _ = ⊥

-- what the home says to it, over the effects before
abbrev pub HomeSays : Start → List StoreEffect → ProcName → Op → Reply → Type 0
HomeSays opening past p (New home kind room) reply = reply ≡ new_reply (record { opening = opening; past = past; told = [] }) home room
HomeSays opening past p (Lock u m) reply = reply ≡ home_lock_reply opening past p u m
HomeSays opening past p (Unlock u) reply = reply ≡ Fine
HomeSays opening past p (Delete u) reply = reply ≡ Fine
HomeSays opening past p (ListOp home after) reply = reply ≡ list_reply (rows_after after (rows home past))
HomeSays opening past p _ reply = ⊥

-- what a link fault may answer to it
abbrev pub MayFail : List Deed → Op → Reply → Type 0
MayFail told (New home kind room) LinkFault = Unit {0}
MayFail told (Lock u m) Doubt = Unit {0}
MayFail told (Unlock u) Kept = IsTrue (may_write (state u told))
MayFail told (Unlock u) Doubt = Unit {0}
MayFail told (Delete u) Kept = Unit {0}
MayFail told (Delete u) Doubt = Unit {0}
MayFail told (ListOp home after) LinkFault = Unit {0}
MayFail told _ _ = ⊥
