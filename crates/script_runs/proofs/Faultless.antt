-- Where no frame is lost or late, the history of a run is its entries, each with the reply of one store.
use Rattle.std.proofs.Common.{◌≡◌, Bool, true, false, List, [], ◌∷◌, length, inl, inr, refl, sym, ap, subst, ◌∙◌, arith}
use Rattle.std.specs.Prelude.{◌⊎◌, All, filter, if◌then◌else◌}
use Rattle.std.specs.List.{AllByRecursion}
use Rattle.std.proofs.lemmas.List.Elements.{All-cons, All-nil, All-head, All-tail, All-contains, All-from_recursion}
use Rattle.uid_names.specs.Names.{ProcName}
use Rattle.uid_names.specs.Openings.{Start}
use Rattle.uid_names.specs.declared.ids.Place.{Place}
use Rattle.dom_history.specs.declared.op.Op.{Op}
use Rattle.dom_history.specs.declared.op.Op.TheVariants as ops
use Rattle.dom_history.specs.declared.op.Reply.{Reply}
use Rattle.dom_history.specs.declared.op.Reply.TheVariants as replies
use Rattle.dom_history.specs.declared.deed.LockState.{LockState}
use Rattle.dom_history.specs.Events.{Happening}
use Rattle.dom_history.specs.Histories.{Item, Answered, Acted, Pending, SomeOf, told, entries}
use Rattle.dom_history.specs.Legal.{IsAllowed, AreLegal, Belongs, IsLeftOpen}
use Rattle.dom_history.specs.Replies.{Before, before_of, may_write, reply_of, link_faults, unlock_state}
use Rattle.dom_history.specs.Runs.{AreAnswered, IsEntry}
use Rattle.dom_history.proofs.Items.{deeds-no_acts}
use Rattle.node_runs.specs.RunHistories.{is_fault}
use Rattle.node_runs.specs.CallsKeep.{EachOf}
use Rattle.run_laws.specs.LinkFaults.{fault_entries}
use Rattle.script_reader.specs.Scripts.{Content}
use Rattle.script_runs.specs.Histories.{IsFaultless, IsOfOneStore, IsWhole, script_history}

-- an item that is no entry with a link fault's reply
abbrev IsFaultlessItem : Item → Type 0
IsFaultlessItem (Answered e) = is_fault e.reply ≡ false
IsFaultlessItem (Acted a) = Unit {0}

none-answered : (items : List Item) → length (filter (λ e. is_fault e.reply) (entries items)) ≡ 0 → EachOf IsFaultlessItem items
none-answered [] none = tt
none-answered (Acted a ∷ past) none = (tt, none-answered past none)
none-answered (Answered e ∷ past) none = by (is_fault e.reply) refl none (λ rest. none-answered past rest)
  where
    by : (b : Bool) → is_fault e.reply ≡ b → length (if b then e ∷ filter (λ e. is_fault e.reply) (entries past) else filter (λ e. is_fault e.reply) (entries past)) ≡ 0
        → (length (filter (λ e. is_fault e.reply) (entries past)) ≡ 0 → EachOf IsFaultlessItem past) → EachOf IsFaultlessItem (Answered e ∷ past)
    by true is none rest = absurd (omega (arith, none))
    by false is none rest = (is, rest none)

-- what may stand in place of a reply is a link fault's
unlock-faults : (b : Bool) → AllByRecursion (λ r. is_fault r ≡ true) (if b then replies.Kept ∷ replies.Doubt ∷ [] else replies.Doubt ∷ [])
unlock-faults true = (refl, (refl, tt))
unlock-faults false = (refl, tt)

faults-are : (op : Op) (s : LockState) (reply : Reply) → AllByRecursion (λ r. is_fault r ≡ true) (link_faults op s reply)
faults-are (ops.New home kind room) s replies.NoSpace = (refl, tt)
faults-are (ops.New home kind room) s (replies.Made u) = (refl, tt)
faults-are (ops.Lock u m) s replies.NoObject = (refl, tt)
faults-are (ops.Lock u m) s (replies.Conflict q n) = (refl, tt)
faults-are (ops.Lock u m) s replies.Fine = (refl, tt)
faults-are (ops.Unlock u) s replies.Fine = unlock-faults (may_write s)
faults-are (ops.Delete u) s replies.Fine = (refl, (refl, tt))
faults-are (ops.Load spot n) s (replies.Bytes bytes) = (refl, tt)
faults-are (ops.Store spot bytes) s replies.Fine = (refl, tt)
faults-are (ops.List home after) s (replies.Locks rows more) = (refl, tt)
faults-are _ _ _ = tt

-- so any other reply is the store's
stores-reply : (b : Before) (p : ProcName) (op : Op) (reply : Reply) → IsAllowed b p op reply → is_fault reply ≡ false → reply ≡ reply_of b p op
stores-reply b p op reply (inl same) none = same
stores-reply b p op reply (inr among) none =
    let faults : List Reply = link_faults op (unlock_state op b.told) (reply_of b p op) in
    let fault = All-contains (λ r. is_fault r ≡ true) faults reply (All-from_recursion (λ r. is_fault r ≡ true) faults (faults-are op (unlock_state op b.told) (reply_of b p op))) among in
    absurd (let f : true ≡ false = sym fault ∙ none in cc)

-- an act stands on an operation that a link fault left open, or on one that is open still
none-left : (begun : Place) (p : ProcName) (op : Op) (past : List Item) → EachOf IsFaultlessItem past → SomeOf (IsLeftOpen begun p op) past → ⊥
none-left begun p op [] each some = some
none-left begun p op (Answered e ∷ past) each (inl is) = by is.3
  where
    by : (e.reply ≡ replies.Doubt) ⊎ (e.reply ≡ replies.LinkFault) → ⊥
    by (inl doubt) = absurd (let f : true ≡ false = sym (ap is_fault doubt) ∙ each.0 in cc)
    by (inr fault) = absurd (let f : true ≡ false = sym (ap is_fault fault) ∙ each.0 in cc)
none-left begun p op (Answered e ∷ past) each (inr some) = none-left begun p op past each.1 some
none-left begun p op (Acted a ∷ past) each (inl is) = is
none-left begun p op (Acted a ∷ past) each (inr some) = none-left begun p op past each.1 some

no-acts : (opening : Start) (items : List Item) → AreLegal opening [] items → EachOf IsFaultlessItem items → All IsEntry items
no-acts opening [] legal each = All-nil IsEntry
no-acts opening (Answered e ∷ past) legal each = All-cons IsEntry (Answered e) past tt (no-acts opening past legal.1 each.1)
no-acts opening (Acted a ∷ past) legal each = by legal.0.belongs
  where
    by : Belongs [] past a → All IsEntry (Acted a ∷ past)
    by (inl some) = absurd (none-left a.begun a.deed.proc a.deed.op past each.1 some)
    by (inr open_one) = absurd open_one

answered-all : (opening : Start) (pending : List Pending) (items : List Item) → AreLegal opening pending items → All IsEntry items → EachOf IsFaultlessItem items → AreAnswered opening (told (entries items))
answered-all opening pending [] legal is each = tt
answered-all opening pending (Answered e ∷ past) legal is each =
    let rest = All-tail IsEntry (Answered e) past is in
    let allowed : IsAllowed (before_of opening (told (entries past)) e.proc) e.proc e.op e.reply = rw (deeds-no_acts past rest) at legal.0 in
    (stores-reply (before_of opening (told (entries past)) e.proc) e.proc e.op e.reply allowed each.0, answered-all opening pending past legal.1 rest each.1)
answered-all opening pending (Acted a ∷ past) legal is each = absurd (All-head IsEntry (Acted a) past is)

-- no entry of the history was answered by a link fault
pub faultless-is : (s : Content) (events : List Happening) → length (fault_entries (script_history s events)) ≡ 0 → IsOfOneStore s events → IsWhole s events → IsFaultless s events
faultless-is s events none of_one whole =
    let each = none-answered (script_history s events).items none in
    let legal = subst (λ pending. AreLegal s.opening pending (script_history s events).items) whole.nothing_open of_one.legal in
    let only = no-acts s.opening (script_history s events).items legal each in
    record { no_acts = only; answered = answered-all s.opening [] (script_history s events).items legal only each }
