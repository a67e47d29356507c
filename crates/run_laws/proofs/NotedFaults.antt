-- The entries that link faults answered, by the notes of a run: one for each end of an operation by a link fault.
use Rattle.std.proofs.Common.{◌≡◌, ◌≢◌, ℕ, suc, ◌+◌, Bool, true, false, List, [], ◌∷◌, ◌++◌, length, Option, Some, None, inl, inr, refl, sym, ap, subst, ◌∙◌, length-append, arith}
use Rattle.std.specs.Prelude.{not, filter, if◌then◌else◌}
use Rattle.std.proofs.lemmas.List.Elements.{filter-append}
use Rattle.uid_names.proofs.ListLemmas.{by_cases}
use Rattle.uid_names.specs.declared.ids.Place.{Place}
use Rattle.dom_history.specs.declared.op.Entry.{Entry}
use Rattle.dom_history.specs.declared.op.Op.{Op}
use Rattle.dom_history.specs.Histories.{SomeOf, place_lt}
use Rattle.dom_history.proofs.Places.{place_lt-not_self}
use Rattle.node_runs.specs.Notes.{Told, Note}
use Rattle.node_runs.specs.Runs.{Noted}
use Rattle.node_runs.specs.RunHistories.{is_fault, settled_op, told_by, all_told, ended_by}
use Rattle.node_runs.specs.CallsKeep.{EachOf}
use Rattle.node_runs.proofs.Receiving.{EachOf-more}
use Rattle.world_runs.specs.Faults.{CallName, call_if, fault_by, faults_in, IsFaultlessNote}
use Rattle.world_runs.proofs.Telling.{one_if}
use Rattle.run_laws.specs.NotedEntries.{entry_of, entry_if, begun_entry, decided_entry, entries_at, noted_entries}
use Rattle.run_laws.specs.Placed.{IsBegin, IsPlaced, AreEndsPlaced, AreRisingNotes}
use Rattle.run_laws.specs.SingleActs.{AreToldRising}
use Rattle.run_laws.proofs.Slots.{IsSlot, IsNew, slot-of, off-slot, in-slot}
use Rattle.run_laws.proofs.OpEnds.{ends-begun, begun-apart, ended-none, rising-new}

-- those of entries that a link fault answered
abbrev pub by_fault : List Entry → List Entry
by_fault es = filter (λ (e : Entry). is_fault e.reply) es

abbrev faults : List Entry → ℕ
faults es = length (by_fault es)

faults-append : (xs ys : List Entry) → faults (xs ++ ys) ≡ faults xs + faults ys
faults-append xs ys = ap (λ (es : List Entry). length es) (filter-append (λ (e : Entry). is_fault e.reply) xs ys) ∙ length-append (by_fault xs) (by_fault ys)

one-entry : (e : Entry) → faults (e ∷ []) ≡ one_if (is_fault e.reply)
one-entry e = by (is_fault e.reply)
  where
    by : (b : Bool) → length (if b then e ∷ [] else []) ≡ one_if b
    by true = refl
    by false = refl

-- at a decision stands none
decided-none : (x : Place) (o : Option Op) (told : Option Told) → faults (decided_entry x o told) ≡ 0
decided-none x None told = refl
decided-none x (Some op) None = refl
decided-none x (Some op) (Some t) = by (is_fault t.reply) refl
  where
    by : (b : Bool) → is_fault t.reply ≡ b → faults (entry_if (not b) x t) ≡ 0
    by true is = refl
    by false is = one-entry (entry_of x t) ∙ ap one_if is

-- a new end of an operation
module _ (t : Told) (told : List Told) (is_new : IsNew t told) where
  -- by an answer adds none
  module _ (answered : is_fault t.reply ≡ false) where
    same-at : (x : Place) (note : Note) → faults (entries_at (t ∷ told) x note) ≡ faults (entries_at told x note)
    same-at x note = elim (slot-of t told is_new x note) [
      | inl slot ↦ ap faults slot.after ∙ (one-entry (entry_of x t) ∙ ap one_if answered) ∙ sym (ap faults slot.before)
      | inr same ↦ ap faults same
    ]

    same-noted : (notes : List Noted) → faults (noted_entries (t ∷ told) notes) ≡ faults (noted_entries told notes)
    same-noted [] = refl
    same-noted (m ∷ older) =
        let here = same-at m.place m.note in
        let rest = same-noted older in
        let new = faults-append (entries_at (t ∷ told) m.place m.note) (noted_entries (t ∷ told) older) in
        let old = faults-append (entries_at told m.place m.note) (noted_entries told older) in
        omega (arith, here, rest, new, old)

  -- by a link fault adds one, at its begin
  module _ (fault : is_fault t.reply ≡ true) where
    away : (x : Place) (note : Note) → x ≢ t.begun → IsSlot t x note → ⊥
    away x Note.Nothing differs is = is
    away x (Note.Began p op) differs is = differs is.1
    away x (Note.Did p phase op reply) differs is = is
    away x (Note.Ended u) differs is = is
    away x (Note.Decided p number ask answer) differs is = absurd (let e : true ≡ false = sym fault ∙ is.3 in cc)

    none-added : (notes : List Noted) → EachOf (λ (j : Noted). j.place ≢ t.begun) notes → noted_entries (t ∷ told) notes ≡ noted_entries told notes
    none-added [] apart = refl
    none-added (m ∷ older) apart =
        ap (λ xs. xs ++ noted_entries (t ∷ told) older) (off-slot t told is_new m.place m.note (away m.place m.note apart.0))
        ∙ ap (λ ys. entries_at told m.place m.note ++ ys) (none-added older apart.1)

    one-added : (notes : List Noted) → AreRisingNotes notes → SomeOf (IsBegin t.proc t.op t.begun) notes → faults (noted_entries (t ∷ told) notes) ≡ suc (faults (noted_entries told notes))
    one-added [] rising some = absurd some
    one-added (m ∷ older) rising (inl is) =
        let slot = in-slot t told is_new m.place m.note (subst (IsSlot t m.place) (sym is.1) (refl, is.0, fault)) in
        let below = EachOf-more (λ (j : Noted). place_lt j.place m.place ≡ true) (λ (j : Noted). j.place ≢ t.begun) older
        (λ j lt same. place_lt-not_self m.place (subst (λ y. place_lt y m.place ≡ true) (same ∙ sym is.0) lt)) rising.0 in
        let here = ap faults slot.after ∙ one-entry (entry_of m.place t) ∙ ap one_if fault in
        let was = ap faults slot.before in
        let rest = ap faults (none-added older below) in
        let new = faults-append (entries_at (t ∷ told) m.place m.note) (noted_entries (t ∷ told) older) in
        let old = faults-append (entries_at told m.place m.note) (noted_entries told older) in
        omega (arith, here, was, rest, new, old)
    one-added (m ∷ older) rising (inr some) =
        let here = ap faults (off-slot t told is_new m.place m.note (away m.place m.note (later older rising.0 some))) in
        let rest = one-added older rising.1 some in
        let new = faults-append (entries_at (t ∷ told) m.place m.note) (noted_entries (t ∷ told) older) in
        let old = faults-append (entries_at told m.place m.note) (noted_entries told older) in
        omega (arith, here, rest, new, old)
      where
        later : (notes : List Noted) → EachOf (λ (j : Noted). place_lt j.place m.place ≡ true) notes → SomeOf (IsBegin t.proc t.op t.begun) notes → m.place ≢ t.begun
        later [] below began same = began
        later (j ∷ notes) below (inl at) same = place_lt-not_self m.place (subst (λ y. place_lt y m.place ≡ true) (at.0 ∙ sym same) below.0)
        later (j ∷ notes) below (inr began) same = later notes below.1 began same

  ended-adds : (notes : List Noted) → AreRisingNotes notes → SomeOf (IsBegin t.proc t.op t.begun) notes → faults (noted_entries (t ∷ told) notes) ≡ one_if (is_fault t.reply) + faults (noted_entries told notes)
  ended-adds notes rising some = by_cases (is_fault t.reply) (faults (noted_entries (t ∷ told) notes) ≡ one_if (is_fault t.reply) + faults (noted_entries told notes))
      (λ fault. let one = ap one_if fault in let more = one-added fault notes rising some in omega (arith, one, more))
      (λ answered. let none = ap one_if answered in let same = same-noted answered notes in omega (arith, none, same))

call-count : (b : Bool) (c : CallName) → length (call_if b c) ≡ one_if b
call-count true c = refl
call-count false c = refl

-- as many entries as calls that link faults ended
pub as-many-entries : (notes : List Noted) → AreRisingNotes notes → AreEndsPlaced notes → AreToldRising (all_told notes) → EachOf (λ (m : Noted). IsFaultlessNote m.note) notes
    → length (by_fault (noted_entries (all_told notes) notes)) ≡ length (faults_in notes)
as-many-entries [] rising ends told desk = refl
as-many-entries (m ∷ older) rising ends told desk = by_note m.note ends.0 told desk.0 (λ before. as-many-entries older rising.1 ends.1 before desk.1)
  where
    apart : EachOf (λ (t : Told). t.begun ≢ m.place) (all_told older)
    apart = EachOf-more (λ (t : Told). SomeOf (λ (j : Noted). j.place ≡ t.begun) older) (λ (t : Told). t.begun ≢ m.place) (all_told older)
        (λ t some. begun-apart m.place older t
        (EachOf-more (λ (j : Noted). place_lt j.place m.place ≡ true) (λ (j : Noted). j.place ≢ m.place) older (λ j lt same. place_lt-not_self m.place (subst (λ y. place_lt y m.place ≡ true) same lt)) rising.0) some)
        (ends-begun older ends.1)

    by_note : (note : Note) → IsPlaced note older → AreToldRising (told_by note ++ all_told older) → IsFaultlessNote note
        → (AreToldRising (all_told older) → faults (noted_entries (all_told older) older) ≡ length (faults_in older))
        → faults (entries_at (told_by note ++ all_told older) m.place note ++ noted_entries (told_by note ++ all_told older) older) ≡ length (fault_by note ++ faults_in older)
    by_note Note.Nothing placed told_all none rest = rest told_all
    by_note (Note.Began p op) placed told_all none rest = ap (λ o. faults (begun_entry m.place o ++ noted_entries (all_told older) older)) (ended-none p m.place (all_told older) apart) ∙ rest told_all
    by_note (Note.Did p phase op reply) placed told_all none rest =
        let e : Entry = record { place = m.place; proc = p; phase = phase; op = op; reply = reply } in
        let here = one-entry e ∙ ap one_if none in
        let both = faults-append (e ∷ []) (noted_entries (all_told older) older) in
        let before = rest told_all in
        omega (arith, here, both, before)
    by_note (Note.Ended t) placed told_all none rest =
        let added = ended-adds t (all_told older) (rising-new t (all_told older) told_all.0) older rising.1 placed.began in
        let before = rest told_all.1 in
        let c : CallName = record { proc = t.proc; number = t.number } in
        let count = call-count (is_fault t.reply) c in
        let both = length-append (call_if (is_fault t.reply) c) (faults_in older) in
        omega (arith, added, before, count, both)
    by_note (Note.Decided p number ask answer) placed told_all none rest =
        let here = decided-none m.place (settled_op m.place.node ask) (ended_by p number (all_told older)) in
        let both = faults-append (decided_entry m.place (settled_op m.place.node ask) (ended_by p number (all_told older))) (noted_entries (all_told older) older) in
        let before = rest told_all in
        omega (arith, here, both, before)
