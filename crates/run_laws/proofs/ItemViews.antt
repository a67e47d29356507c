-- What the items of a run's history are: each is of one note, and of what was told or is open.
use Rattle.std.proofs.Common.{◌≡◌, ℕ, Bool, true, false, List, [], ◌∷◌, Option, Some, None, inl, inr, refl, sym, ap, subst, ◌∙◌}
use Rattle.std.proofs.lemmas.Bool.{eq-eqb}
use Rattle.std.specs.Prelude.{◌==◌, ◌&&◌, if◌then◌else◌}
use Rattle.uid_names.proofs.ListLemmas.{by_cases}
use Rattle.uid_names.proofs.Orders.{same_proc_is, same_proc-itself}
use Rattle.uid_names.specs.Names.{ProcName, same_proc}
use Rattle.uid_names.specs.declared.ids.Place.{Place}
use Rattle.uid_names.proofs.Passed.{left-true, right-true, equal}
use Rattle.dom_history.specs.declared.op.Op.{Op}
use Rattle.dom_history.specs.declared.op.Reply.{Reply}
use Rattle.dom_history.specs.Histories.{Item, Answered, Acted, SomeOf, same_place}
use Rattle.ring_messages.specs.Bodies.{Ask, Answer}
use Rattle.node_runs.specs.Setups.{Setup, IsSetup}
use Rattle.node_runs.specs.NodeStates.{OpenOp, proc_of}
use Rattle.node_runs.specs.Notes.{Told, Note}
use Rattle.node_runs.specs.NodesKeep.{IsTimely}
use Rattle.node_runs.specs.Runs.{World, Noted, Choice, world_after}
use Rattle.node_runs.specs.RunHistories.{is_fault, settled_op, change_reply, act_item, entry_at, all_told, fault_item, begun_item, told_item, open_item, settled_item, decided_item, doing_of, ended_at, ended_by, items_of, items_from}
use Rattle.node_runs.specs.CallsKeep.{EachOf}
use Rattle.node_runs.specs.DecidedCalls.{IsDecided}
use Rattle.node_runs.proofs.Receiving.{EachOf-more}
use Rattle.run_laws.specs.DecidedReplies.{proc_at}
use Rattle.run_laws.specs.LastCalls.{HasNumber, IsOpenNumber, IsOpenOrTold}
use Rattle.run_laws.specs.Progress.{IsSettling}
use Rattle.run_laws.proofs.Slots.{settles, place-is}
use Rattle.run_laws.proofs.Following.{EachOf-append}
use Rattle.run_laws.proofs.Lasting.{last-calls-are, calls-of-procs}
use Rattle.fault_handler.specs.Invariant.{IsProc}

abbrev pub IsAmong : Told → List Told → Type 0
IsAmong t ts = SomeOf (λ u. u ≡ t) ts

-- what is found of a call, or of a Begin, among those that ended operations
pub data FoundCall (p : ProcName) (number : ℕ) (ts : List Told) : Type 0 where
  found : (t : Told) → ended_by p number ts ≡ Some t → t.proc ≡ p → t.number ≡ number → IsAmong t ts → FoundCall p number ts
  absent : ended_by p number ts ≡ None → (SomeOf (λ (t : Told). (t.proc ≡ p) × (t.number ≡ number)) ts → ⊥) → FoundCall p number ts

pub found-call : (p : ProcName) (number : ℕ) (ts : List Told) → FoundCall p number ts
found-call p number [] = absent refl (λ none. none)
found-call p number (t ∷ ts) = by_cases (same_proc t.proc p && (t.number == number)) (FoundCall p number (t ∷ ts))
    (λ h. found t (ap (λ b. if b then Some t else ended_by p number ts) h) (same_proc_is t.proc p (left-true _ _ h)) (equal t.number number (right-true (same_proc t.proc p) _ h)) (inl refl))
    (λ h. elim (found-call p number ts) [
      | found u is named same some ↦ found u (ap (λ b. if b then Some t else ended_by p number ts) h ∙ is) named same (inr some)
      | absent is none ↦ absent (ap (λ b. if b then Some t else ended_by p number ts) h ∙ is) (λ some. elim some [
        | inl here ↦
            (let e : (same_proc t.proc p && (t.number == number)) ≡ true = ap (λ b. b && (t.number == number)) (subst (λ q. same_proc t.proc q ≡ true) here.0 (same_proc-itself t.proc)) ∙ eq-eqb t.number number here.1 in
            absurd (let f : true ≡ false = sym e ∙ h in cc))
        | inr there ↦ none there
      ])
    ])

pub data FoundPlace (p : ProcName) (x : Place) (ts : List Told) : Type 0 where
  found_at : (t : Told) → ended_at p x ts ≡ Some t → t.proc ≡ p → t.begun ≡ x → IsAmong t ts → FoundPlace p x ts
  none_at : ended_at p x ts ≡ None → FoundPlace p x ts

pub find-place : (p : ProcName) (x : Place) (ts : List Told) → FoundPlace p x ts
find-place p x [] = none_at refl
find-place p x (t ∷ ts) = by_cases (same_proc t.proc p && same_place t.begun x) (FoundPlace p x (t ∷ ts))
    (λ h. found_at t (ap (λ b. if b then Some t else ended_at p x ts) h) (same_proc_is t.proc p (left-true _ _ h)) (place-is t.begun x (right-true (same_proc t.proc p) _ h)) (inl refl))
    (λ h. elim (find-place p x ts) [
      | found_at u is named same some ↦ found_at u (ap (λ b. if b then Some t else ended_at p x ts) h ∙ is) named same (inr some)
      | none_at is ↦ none_at (ap (λ b. if b then Some t else ended_at p x ts) h ∙ is)
    ])

-- the item of a note
pub data IsItemAt (w : World) (j : Noted) : Item → Type 0 where
  did : (p : ProcName) (phase : ℕ) (op : Op) (reply : Reply) → j.note ≡ Note.Did p phase op reply → IsItemAt w j (Answered (record { place = j.place; proc = p; phase = phase; op = op; reply = reply }))
  faulted : (t : Told) (op : Op) → j.note ≡ Note.Began t.proc op → t.begun ≡ j.place → is_fault t.reply ≡ true → IsAmong t (all_told w.trace) → IsItemAt w j (entry_at j.place t)
  answered : (t : Told) (op : Op) (ask : Ask) (answer : Answer) → j.note ≡ Note.Decided t.proc t.number ask answer → settled_op j.place.node ask ≡ Some op → is_fault t.reply ≡ false → IsAmong t (all_told w.trace) → IsItemAt w j (entry_at j.place t)
  left_open : (t : Told) (op : Op) (ask : Ask) (answer : Answer) (reply : Reply) → j.note ≡ Note.Decided t.proc t.number ask answer → settled_op j.place.node ask ≡ Some op → change_reply answer ≡ Some reply → is_fault t.reply ≡ true → IsAmong t (all_told w.trace)
      → IsItemAt w j (Acted (record { place = j.place; begun = t.begun; deed = record { proc = t.proc; op = op; reply = reply } }))
  opened : (p : ProcName) (number : ℕ) (op : Op) (ask : Ask) (answer : Answer) (reply : Reply) (o : OpenOp) → j.note ≡ Note.Decided p number ask answer → settled_op j.place.node ask ≡ Some op → change_reply answer ≡ Some reply → doing_of w p ≡ Some o → HasNumber number o.awaits
      → IsItemAt w j (Acted (record { place = j.place; begun = o.began.begun; deed = record { proc = p; op = op; reply = reply } }))

module _ (s : Setup) (setup : IsSetup s) (cs : List Choice) (w : World) (e : world_after s cs ≡ Some w) (timely : IsTimely w) where
  abbrev so_far : List Told
  so_far = all_told w.trace

  abbrev Views : Noted → List Item → Type 0
  Views j items = EachOf (IsItemAt w j) items

  -- a call that was decided and settles an operation is open, or was told of
  pub decided-last : (x : Place) (p : ProcName) (number : ℕ) (ask : Ask) (answer : Answer) → IsSettling ask → IsDecided w x (Note.Decided p number ask answer) → IsProc p.number × IsOpenOrTold p number (proc_of (w.nodes p.node) p.number) so_far
  decided-last x p number ask answer settling decided =
      let proc = calls-of-procs s setup cs w e timely p.node p.number number x.node ask decided.1 in (
        proc,
        subst (λ q. IsOpenOrTold q number (proc_of (w.nodes p.node) p.number) so_far) (same_proc_is (proc_at p.node p.number) p (same_proc-itself p))
            (last-calls-are s setup cs w e timely p.node p.number proc number x.node ask decided.1 settling),
      )

  act-view : (j : Noted) (begun : Place) (p : ProcName) (op : Op) (o : Option Reply) → ((reply : Reply) → o ≡ Some reply → IsItemAt w j (Acted (record { place = j.place; begun = begun; deed = record { proc = p; op = op; reply = reply } })))
      → Views j (act_item j.place begun p op o)
  act-view j begun p op None view = tt
  act-view j begun p op (Some reply) view = (view reply refl, tt)

  begun-view : (j : Noted) (p : ProcName) (op : Op) → j.note ≡ Note.Began p op → Views j (begun_item j.place (ended_at p j.place so_far))
  begun-view j p op is = by (find-place p j.place so_far)
    where
      fault : (t : Told) → t.proc ≡ p → t.begun ≡ j.place → IsAmong t so_far → (b : Bool) → is_fault t.reply ≡ b → Views j (fault_item b j.place t)
      fault t named place among true is_true = (faulted t op (is ∙ ap (λ q. Note.Began q op) (sym named)) place is_true among, tt)
      fault t named place among false is_false = tt

      by : FoundPlace p j.place so_far → Views j (begun_item j.place (ended_at p j.place so_far))
      by (found_at t same named place among) = subst (λ o. Views j (begun_item j.place o)) (sym same) (fault t named place among (is_fault t.reply) refl)
      by (none_at same) = subst (λ o. Views j (begun_item j.place o)) (sym same) tt

  settled-view : (j : Noted) (p : ProcName) (number : ℕ) (ask : Ask) (answer : Answer) (op : Op) → j.note ≡ Note.Decided p number ask answer → settled_op j.place.node ask ≡ Some op → IsOpenOrTold p number (proc_of (w.nodes p.node) p.number) so_far
      → Views j (settled_item j.place p op answer (ended_by p number so_far) (doing_of w p))
  settled-view j p number ask answer op is of last = by (found-call p number so_far)
    where
      named_so : (t : Told) → t.proc ≡ p → t.number ≡ number → j.note ≡ Note.Decided t.proc t.number ask answer
      named_so t named same = subst (λ q. j.note ≡ Note.Decided q t.number ask answer) (sym named) (subst (λ k. j.note ≡ Note.Decided p k ask answer) (sym same) is)

      told : (t : Told) → t.proc ≡ p → t.number ≡ number → IsAmong t so_far → (b : Bool) → is_fault t.reply ≡ b → Views j (told_item b j.place op answer t)
      told t named same among true fault = act-view j t.begun t.proc op (change_reply answer) (λ reply change. left_open t op ask answer reply (named_so t named same) of change fault among)
      told t named same among false none = (answered t op ask answer (named_so t named same) of none among, tt)

      open_now : (o : Option OpenOp) → doing_of w p ≡ o → IsOpenNumber number o → Views j (open_item j.place p op answer o)
      open_now None doing has = tt
      open_now (Some o) doing has = act-view j o.began.begun p op (change_reply answer) (λ reply change. opened p number op ask answer reply o is of change doing has)

      by : FoundCall p number so_far → Views j (settled_item j.place p op answer (ended_by p number so_far) (doing_of w p))
      by (found t same named same_number among) = subst (λ o. Views j (settled_item j.place p op answer o (doing_of w p))) (sym same) (told t named same_number among (is_fault t.reply) refl)
      by (absent same none) = subst (λ o. Views j (settled_item j.place p op answer o (doing_of w p))) (sym same)
          (open_now (doing_of w p) refl (elim last [ inl here ↦ here | inr gone ↦ absurd (none gone) ]))

  note-view : (j : Noted) (note : Note) → j.note ≡ note → IsDecided w j.place note → Views j (items_of w so_far j.place note)
  note-view j Note.Nothing is decided = tt
  note-view j (Note.Began p op) is decided = begun-view j p op is
  note-view j (Note.Did p phase op reply) is decided = (did p phase op reply is, tt)
  note-view j (Note.Ended t) is decided = tt
  note-view j (Note.Decided p number ask answer) is decided = elim (settles j.place.node ask) [
    | inl none ↦ subst (λ o. Views j (decided_item j.place p o answer (ended_by p number so_far) (doing_of w p))) (sym none) tt
    | inr some ↦ subst (λ o. Views j (decided_item j.place p o answer (ended_by p number so_far) (doing_of w p))) (sym some.1.1)
        (settled-view j p number ask answer some.1.0 is some.1.1 (decided-last j.place p number ask answer some.0 decided).1)
  ]

  -- what holds of the item of each of these notes holds of each of their items
  pub each-item : (P : Item → Type 0) (notes : List Noted) → EachOf (λ (j : Noted). IsDecided w j.place j.note) notes → ((j : Noted) → SomeOf (λ i. i ≡ j) notes → (i : Item) → IsItemAt w j i → P i) → EachOf P (items_from w so_far notes)
  each-item P [] decided each = tt
  each-item P (j ∷ notes) decided each =
      EachOf-append P (items_of w so_far j.place j.note) (items_from w so_far notes) (EachOf-more (IsItemAt w j) P (items_of w so_far j.place j.note) (each j (inl refl)) (note-view j j.note refl decided.0))
      (each-item P notes decided.1 (λ i some. each i (inr some)))
