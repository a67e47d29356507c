-- A plain run is its entries, each answered as one store answers it.
use Rattle.std.proofs.Common.{◌≡◌, Bool, true, false, List, [], ◌∷◌, refl, ap, inl, inr}
use Rattle.std.specs.Prelude.{All, if◌then◌else◌, map}
use Rattle.std.proofs.lemmas.List.Elements.{All-cons, All-nil, All-head, All-tail, All-contains}
use Rattle.uid_names.specs.Names.{ProcName}
use Rattle.uid_names.specs.Openings.{Start}
use Rattle.dom_history.specs.declared.op.Op.{Op}
use Rattle.dom_history.specs.declared.op.Op.TheVariants.{New, Lock, Unlock, Delete, Load, Store, List as ListOp}
use Rattle.dom_history.specs.declared.op.Reply.TheVariants.{Made, Fine, Bytes, Locks, Conflict, NoObject, NoSpace, Kept, Doubt, LinkFault}
use Rattle.dom_history.specs.declared.deed.LockState.{LockState}
use Rattle.dom_history.specs.declared.op.Reply.{Reply}
use Rattle.dom_history.specs.declared.op.Want.{Want}
use Rattle.dom_history.specs.Histories.{Item, Answered, Acted, Pending, History, told, entries}
use Rattle.dom_history.specs.Follows.{Heard}
use Rattle.dom_history.specs.Legal.{IsAllowed, AreLegal}
use Rattle.dom_history.specs.Replies.{Before, may_write, before_of, reply_of, link_faults, unlock_state}
use Rattle.dom_history.specs.Runs.{AreAnswered, IsEntry, IsFaultless}
use Rattle.dom_history.proofs.Items.{deeds-no_acts}
use Rattle.plain_store.specs.PlainRuns.{IsPlainRun, history_of}

-- the history has its entries and nothing more
items-no_acts : (items : List Item) → All IsEntry items → items ≡ map Answered (entries items)
items-no_acts [] h = refl
items-no_acts (Answered e ∷ past) h = ap (λ is. Answered e ∷ is) (items-no_acts past (All-tail IsEntry (Answered e) past h))
items-no_acts (Acted a ∷ past) h = absurd (All-head IsEntry (Acted a) past h)

-- one fault
one_faulty : (reply : Reply) → (IsFaultless reply → ⊥) → All (λ r. IsFaultless r → ⊥) (reply ∷ [])
one_faulty reply h = All-cons (λ r. IsFaultless r → ⊥) reply [] h (All-nil (λ r. IsFaultless r → ⊥))

-- Kept and Doubt are both faults
two_faulty : All (λ r. IsFaultless r → ⊥) (Kept ∷ Doubt ∷ [])
two_faulty = All-cons (λ r. IsFaultless r → ⊥) Kept (Doubt ∷ []) (λ h. h) (one_faulty Doubt (λ h. h))

-- those of an unlock, in either state
unlock_faulty : (b : Bool) → All (λ r. IsFaultless r → ⊥) (if b then Kept ∷ Doubt ∷ [] else Doubt ∷ [])
unlock_faulty true = two_faulty
unlock_faulty false = one_faulty Doubt (λ h. h)

-- none is none
none_faulty : All (λ r. IsFaultless r → ⊥) []
none_faulty = All-nil (λ r. IsFaultless r → ⊥)

-- what a link fault puts in place of a reply is a fault
link_faults-faulty : (op : Op) (s : LockState) (reply : Reply) → All (λ r. IsFaultless r → ⊥) (link_faults op s reply)
link_faults-faulty (New home kind room) s NoSpace = one_faulty LinkFault (λ h. h)
link_faults-faulty (New home kind room) s (Made u) = one_faulty LinkFault (λ h. h)
link_faults-faulty (Lock u m) s NoObject = one_faulty Doubt (λ h. h)
link_faults-faulty (Lock u m) s (Conflict q n) = one_faulty Doubt (λ h. h)
link_faults-faulty (Lock u m) s Fine = one_faulty Doubt (λ h. h)
link_faults-faulty (Unlock u) s Fine = unlock_faulty (may_write s)
link_faults-faulty (Delete u) s Fine = two_faulty
link_faults-faulty (Load spot n) s (Bytes bytes) = one_faulty LinkFault (λ h. h)
link_faults-faulty (Store spot bytes) s Fine = one_faulty LinkFault (λ h. h)
link_faults-faulty (ListOp home after) s (Locks rows more) = one_faulty LinkFault (λ h. h)
link_faults-faulty _ _ _ = none_faulty

-- a reply of no link fault is that of one store
pub reply_without_faults : (b : Before) (p : ProcName) (op : Op) (reply : Reply) → IsAllowed b p op reply → IsFaultless reply → reply ≡ reply_of b p op
reply_without_faults b p op reply (inl e) plain = e
reply_without_faults b p op reply (inr c) plain = absurd (All-contains (λ r. IsFaultless r → ⊥) (link_faults op (unlock_state op b.told) (reply_of b p op)) reply (link_faults-faulty op (unlock_state op b.told) (reply_of b p op)) c plain)

-- without acts and link faults, a legal history has the answers of one store
answered_from_legal : (opening : Start) (pending : List Pending) (items : List Item) → AreLegal opening pending items → All IsEntry items → All (λ e. IsFaultless e.reply) (entries items) → AreAnswered opening (told (entries items))
answered_from_legal opening pending [] legal h plain = tt
answered_from_legal opening pending (Answered e ∷ past) legal h plain =
    let no_acts = All-tail IsEntry (Answered e) past h in
    let allowed : IsAllowed (before_of opening (told (entries past)) e.proc) e.proc e.op e.reply = rw (deeds-no_acts past no_acts) at legal.0 in (
      reply_without_faults (before_of opening (told (entries past)) e.proc) e.proc e.op e.reply allowed (All-head (λ f. IsFaultless f.reply) e (entries past) plain),
      answered_from_legal opening pending past legal.1 no_acts (All-tail (λ f. IsFaultless f.reply) e (entries past) plain),
    )
answered_from_legal opening pending (Acted a ∷ past) legal h plain = absurd (All-head IsEntry (Acted a) past h)

-- a run as its entries tell it
history-entries : (h : History) → All IsEntry h.items → h.open_ops ≡ [] → h ≡ history_of (entries h.items)
history-entries h no_acts closed = rw (← items-no_acts h.items no_acts) (rw closed refl)

-- the entries of a plain run are answered as one store answers them
pub plain_run-answered : (opening : Start) (asks : ProcName → Heard → Want) (h : History) → IsPlainRun opening asks h → AreAnswered opening (told (entries h.items))
plain_run-answered opening asks h r = answered_from_legal opening h.open_ops h.items r.legal.legal r.no_acts r.no_faults

-- and are all of it
pub plain_run-entries : (opening : Start) (asks : ProcName → Heard → Want) (h : History) → IsPlainRun opening asks h → h ≡ history_of (entries h.items)
plain_run-entries opening asks h r = history-entries h r.no_acts r.ended.nothing_open
