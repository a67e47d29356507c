-- Where the entry of an operation that was ended stands: at one note, and no other note's entries change.
use Rattle.std.proofs.Common.{◌≡◌, ℕ, true, false, List, [], ◌∷◌, Some, None, inl, inr, refl, sym, ap, subst, ◌∙◌}
use Rattle.std.specs.Prelude.{◌==◌, ◌&&◌, not, ◌⊎◌, if◌then◌else◌}
use Rattle.std.proofs.lemmas.Bool.{eq-eqb}
use Rattle.uid_names.proofs.ListLemmas.{by_cases}
use Rattle.uid_names.proofs.Orders.{same_proc_is, same_proc-itself}
use Rattle.uid_names.specs.Names.{ProcName, same_proc}
use Rattle.uid_names.specs.declared.ids.Place.{Place}
use Rattle.uid_names.proofs.Passed.{left-true, right-true, equal}
use Rattle.dom_history.specs.declared.op.Op.{Op}
use Rattle.dom_history.specs.Histories.{same_place}
use Rattle.dom_history.specs.Follows.{entries_of}
use Rattle.ring_messages.specs.Bodies.{Ask, Answer}
use Rattle.node_runs.specs.Notes.{Told, Note}
use Rattle.node_runs.specs.RunHistories.{is_fault, settled_op, ended_at, ended_by}
use Rattle.run_laws.specs.Progress.{IsSettling}
use Rattle.run_laws.specs.NotedEntries.{entry_of, entry_if, begun_entry, decided_entry, entries_at}

pub place-is : (x y : Place) → same_place x y ≡ true → x ≡ y
place-is x y h =
    let a = equal x.tick y.tick (left-true _ _ h) in
    let b = equal x.node y.node (right-true (x.tick == y.tick) _ h) in
    ap (λ k. let z : Place = record { tick = k; node = x.node } in z) a ∙ ap (λ k. let z : Place = record { tick = y.tick; node = k } in z) b

pub same_place-refl : (x : Place) → same_place x x ≡ true
same_place-refl x = ap (λ b. b && (x.node == x.node)) (eq-eqb x.tick x.tick refl) ∙ eq-eqb x.node x.node refl

pub settles : (home : ℕ) (ask : Ask) → (settled_op home ask ≡ None) ⊎ (IsSettling ask × ((op : Op) × (settled_op home ask ≡ Some op)))
settles home (Ask.PageIn u k) = inl refl
settles home (Ask.PageOut u k grant base bytes) = inl refl
settles home (Ask.AttrOut u n grant base) = inl refl
settles home (Ask.Lock u m) = inr (tt, (_, refl))
settles home (Ask.Unlock u) = inr (tt, (_, refl))
settles home (Ask.Remove u) = inr (tt, (_, refl))
settles home (Ask.Make kind room) = inr (tt, (_, refl))
settles home (Ask.ListLocks after) = inr (tt, (_, refl))

settling-op : (home : ℕ) (ask : Ask) → IsSettling ask → (op : Op) × (settled_op home ask ≡ Some op)
settling-op home (Ask.PageIn u k) is = absurd is
settling-op home (Ask.PageOut u k grant base bytes) is = absurd is
settling-op home (Ask.AttrOut u n grant base) is = absurd is
settling-op home (Ask.Lock u m) is = (_, refl)
settling-op home (Ask.Unlock u) is = (_, refl)
settling-op home (Ask.Remove u) is = (_, refl)
settling-op home (Ask.Make kind room) is = (_, refl)
settling-op home (Ask.ListLocks after) is = (_, refl)

-- the note at which the entry stands
abbrev pub IsSlot : Told → Place → Note → Type 0
IsSlot t x (Note.Began p op) = (p ≡ t.proc) × (x ≡ t.begun) × (is_fault t.reply ≡ true)
IsSlot t x (Note.Decided p number ask answer) = (p ≡ t.proc) × (number ≡ t.number) × IsSettling ask × (is_fault t.reply ≡ false)
IsSlot t x note = ⊥

-- of no operation that was told before did this one's place or call end
pub record IsNew (t : Told) (told : List Told) : Type 0 where
  pub by_place : ended_at t.proc t.begun told ≡ None
  pub by_number : ended_by t.proc t.number told ≡ None

pub record Slot (t : Told) (told : List Told) (x : Place) (note : Note) : Type 0 where
  pub is : IsSlot t x note
  pub before : entries_at told x note ≡ []
  pub after : entries_at (t ∷ told) x note ≡ entry_of x t ∷ []

module _ (t : Told) (told : List Told) (is_new : IsNew t told) where
  abbrev Either : Place → Note → Type 0
  Either x note = Slot t told x note ⊎ (entries_at (t ∷ told) x note ≡ entries_at told x note)

  begun-slot : (x : Place) (p : ProcName) (op : Op) → Either x (Note.Began p op)
  begun-slot x p op = by_cases (same_proc t.proc p && same_place t.begun x) (Either x (Note.Began p op))
      (λ h.
      let same_p = same_proc_is t.proc p (left-true _ _ h) in
      let same_x = place-is t.begun x (right-true (same_proc t.proc p) _ h) in
      let old : ended_at p x told ≡ None = subst (λ q. ended_at q x told ≡ None) same_p (subst (λ y. ended_at t.proc y told ≡ None) same_x is_new.by_place) in
      let new : ended_at p x (t ∷ told) ≡ Some t = ap (λ b. if b then Some t else ended_at p x told) h in
      by_cases (is_fault t.reply) (Either x (Note.Began p op))
      (λ f. inl (record { is = (sym same_p, sym same_x, f); before = ap (begun_entry x) old; after = ap (begun_entry x) new ∙ ap (λ b. entry_if b x t) f }))
      (λ f. inr (ap (begun_entry x) new ∙ ap (λ b. entry_if b x t) f ∙ sym (ap (begun_entry x) old))))
      (λ h. inr (ap (λ b. begun_entry x (if b then Some t else ended_at p x told)) h))

  decided-slot : (x : Place) (p : ProcName) (number : ℕ) (ask : Ask) (answer : Answer) → Either x (Note.Decided p number ask answer)
  decided-slot x p number ask answer = by_cases (same_proc t.proc p && (t.number == number)) (Either x (Note.Decided p number ask answer))
      (λ h.
      let same_p = same_proc_is t.proc p (left-true _ _ h) in
      let same_k = equal t.number number (right-true (same_proc t.proc p) _ h) in
      let old : ended_by p number told ≡ None = subst (λ q. ended_by q number told ≡ None) same_p (subst (λ k. ended_by t.proc k told ≡ None) same_k is_new.by_number) in
      let new : ended_by p number (t ∷ told) ≡ Some t = ap (λ b. if b then Some t else ended_by p number told) h in
      elim (settles x.node ask) [
        | inl none ↦ inr (ap (λ o. decided_entry x o (ended_by p number (t ∷ told))) none ∙ sym (ap (λ o. decided_entry x o (ended_by p number told)) none))
        | inr some ↦
            let op = some.1.0 in
            let was : entries_at told x (Note.Decided p number ask answer) ≡ [] = ap (λ o. decided_entry x o (ended_by p number told)) some.1.1 ∙ ap (decided_entry x (Some op)) old in
            let now : entries_at (t ∷ told) x (Note.Decided p number ask answer) ≡ entry_if (not (is_fault t.reply)) x t =
            ap (λ o. decided_entry x o (ended_by p number (t ∷ told))) some.1.1 ∙ ap (decided_entry x (Some op)) new in
            by_cases (is_fault t.reply) (Either x (Note.Decided p number ask answer))
            (λ f. inr (now ∙ ap (λ b. entry_if (not b) x t) f ∙ sym was))
            (λ f. inl (record { is = (sym same_p, sym same_k, some.0, f); before = was; after = now ∙ ap (λ b. entry_if (not b) x t) f }))
      ])
      (λ h. inr (ap (λ b. decided_entry x (settled_op x.node ask) (if b then Some t else ended_by p number told)) h))

  pub slot-of : (x : Place) (note : Note) → Either x note
  slot-of x Note.Nothing = inr refl
  slot-of x (Note.Began p op) = begun-slot x p op
  slot-of x (Note.Did p phase op reply) = inr refl
  slot-of x (Note.Ended u) = inr refl
  slot-of x (Note.Decided p number ask answer) = decided-slot x p number ask answer

  -- a note at which it does not stand has the same entries as before
  pub off-slot : (x : Place) (note : Note) → (IsSlot t x note → ⊥) → entries_at (t ∷ told) x note ≡ entries_at told x note
  off-slot x note not_slot = elim (slot-of x note) [ inl slot ↦ absurd (not_slot slot.is) | inr same ↦ same ]

  -- the entries of other processes are the same
  pub others-same : (q : ProcName) → same_proc t.proc q ≡ false → (x : Place) (note : Note) → entries_of q (entries_at (t ∷ told) x note) ≡ entries_of q (entries_at told x note)
  others-same q other x note = elim (slot-of x note) [
    | inl slot ↦ ap (entries_of q) slot.after ∙ ap (λ b. if b then entry_of x t ∷ [] else []) other ∙ sym (ap (entries_of q) slot.before)
    | inr same ↦ ap (entries_of q) same
  ]

  pub in-slot : (x : Place) (note : Note) → IsSlot t x note → Slot t told x note
  in-slot x Note.Nothing is = absurd is
  in-slot x (Note.Did p phase op reply) is = absurd is
  in-slot x (Note.Ended u) is = absurd is
  in-slot x (Note.Began p op) is =
      let h : (same_proc t.proc t.proc && same_place t.begun t.begun) ≡ true = ap (λ b. b && same_place t.begun t.begun) (same_proc-itself t.proc) ∙ same_place-refl t.begun in
      let new : ended_at t.proc t.begun (t ∷ told) ≡ Some t = ap (λ b. if b then Some t else ended_at t.proc t.begun told) h in
      record {
        is = is;
        before = ap (begun_entry x) (subst (λ q. ended_at q x told ≡ None) (sym is.0) (subst (λ y. ended_at t.proc y told ≡ None) (sym is.1) is_new.by_place));
        after = ap (begun_entry x) (subst (λ q. ended_at q x (t ∷ told) ≡ Some t) (sym is.0) (subst (λ y. ended_at t.proc y (t ∷ told) ≡ Some t) (sym is.1) new)) ∙ ap (λ b. entry_if b x t) is.2;
      }
  in-slot x (Note.Decided p number ask answer) is =
      let h : (same_proc t.proc t.proc && (t.number == t.number)) ≡ true = ap (λ b. b && (t.number == t.number)) (same_proc-itself t.proc) ∙ eq-eqb t.number t.number refl in
      let new : ended_by t.proc t.number (t ∷ told) ≡ Some t = ap (λ b. if b then Some t else ended_by t.proc t.number told) h in
      let old_here : ended_by p number told ≡ None = subst (λ q. ended_by q number told ≡ None) (sym is.0) (subst (λ k. ended_by t.proc k told ≡ None) (sym is.1) is_new.by_number) in
      let new_here : ended_by p number (t ∷ told) ≡ Some t = subst (λ q. ended_by q number (t ∷ told) ≡ Some t) (sym is.0) (subst (λ k. ended_by t.proc k (t ∷ told) ≡ Some t) (sym is.1) new) in
      let some = settling-op x.node ask is.2 in
      record {
        is = is;
        before = ap (λ o. decided_entry x o (ended_by p number told)) some.1 ∙ ap (decided_entry x (Some some.0)) old_here;
        after = ap (λ o. decided_entry x o (ended_by p number (t ∷ told))) some.1 ∙ ap (decided_entry x (Some some.0)) new_here ∙ ap (λ b. entry_if (not b) x t) is.3;
      }
