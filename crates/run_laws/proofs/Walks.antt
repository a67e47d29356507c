-- Once an operation is told of, its entry stands above all entries of its process.
use Rattle.std.proofs.Common.{◌≡◌, ◌≢◌, ℕ, true, false, List, [], ◌∷◌, ◌++◌, inl, inr, refl, sym, ap, subst, ◌∙◌}
use Rattle.std.specs.Prelude.{if◌then◌else◌}
use Rattle.std.proofs.lemmas.List.Elements.{filter-append}
use Rattle.uid_names.specs.Names.{ProcName, same_proc}
use Rattle.uid_names.specs.declared.ids.Place.{Place}
use Rattle.uid_names.proofs.Orders.{same_proc-itself}
use Rattle.dom_history.specs.declared.op.Entry.{Entry}
use Rattle.dom_history.specs.Histories.{SomeOf}
use Rattle.dom_history.specs.Follows.{entries_of}
use Rattle.node_runs.specs.NodeStates.{Await, BegunOp}
use Rattle.node_runs.specs.Notes.{Told, Note}
use Rattle.node_runs.specs.Runs.{Noted}
use Rattle.node_runs.specs.RunHistories.{is_fault}
use Rattle.node_runs.specs.CallsKeep.{EachOf}
use Rattle.node_runs.specs.DecidedCalls.{IsOther, IsFirst, AreDecidedOnce}
use Rattle.node_runs.proofs.Receiving.{EachOf-more}
use Rattle.run_laws.specs.NotedEntries.{entry_of, entries_at, noted_entries}
use Rattle.run_laws.specs.DecidedReplies.{IsDecisionOf}
use Rattle.run_laws.specs.Placed.{IsSettledBy}
use Rattle.run_laws.specs.Since.{IsUndecided, Since, here, later}
use Rattle.run_laws.proofs.Slots.{IsSlot, IsNew, off-slot, in-slot, others-same}

pub entries-append : (p : ProcName) (xs ys : List Entry) → entries_of p (xs ++ ys) ≡ entries_of p xs ++ entries_of p ys
entries-append p xs ys = filter-append (λ e. same_proc e.proc p) xs ys

pub settled-decides : (p : ProcName) (number : ℕ) (note : Note) → IsSettledBy p number note → IsDecisionOf p number note
settled-decides p number Note.Nothing is = absurd is
settled-decides p number (Note.Began q op) is = absurd is
settled-decides p number (Note.Did q phase op reply) is = absurd is
settled-decides p number (Note.Ended t) is = absurd is
settled-decides p number (Note.Decided q k ask answer) is = (is.0, is.1)

-- a call is not decided twice
pub first-other : (p : ProcName) (number : ℕ) (note : Note) (older : List Noted) → IsDecisionOf p number note → IsFirst note older → EachOf (λ (j : Noted). IsOther p number j.note) older
first-other p number Note.Nothing older is first = absurd is
first-other p number (Note.Began q op) older is first = absurd is
first-other p number (Note.Did q phase op reply) older is first = absurd is
first-other p number (Note.Ended t) older is first = absurd is
first-other p number (Note.Decided q k ask answer) older is first = subst (λ r. EachOf (λ (j : Noted). IsOther r number j.note) older) is.0 (subst (λ i. EachOf (λ (j : Noted). IsOther q i j.note) older) is.1 first)

pub other-not : (p : ProcName) (number : ℕ) (note : Note) → IsOther p number note → IsDecisionOf p number note → ⊥
other-not p number Note.Nothing other is = absurd is
other-not p number (Note.Began q op) other is = absurd is
other-not p number (Note.Did q phase op reply) other is = absurd is
other-not p number (Note.Ended t) other is = absurd is
other-not p number (Note.Decided q k ask answer) other is = other is.0 is.1

pub others-not : (p : ProcName) (number : ℕ) (notes : List Noted) → EachOf (λ (j : Noted). IsOther p number j.note) notes → SomeOf (λ (j : Noted). IsDecisionOf p number j.note) notes → ⊥
others-not p number [] each some = some
others-not p number (m ∷ older) each (inl is) = other-not p number m.note each.0 is
others-not p number (m ∷ older) each (inr some) = others-not p number older each.1 some

pub SomeOf-more : {A : Type 0} (P Q : A → Type 0) (xs : List A) → ((x : A) → P x → Q x) → SomeOf P xs → SomeOf Q xs
SomeOf-more P Q [] more some = some
SomeOf-more P Q (x ∷ xs) more (inl is) = inl (more x is)
SomeOf-more P Q (x ∷ xs) more (inr some) = inr (SomeOf-more P Q xs more some)

-- the new entry of a process stands on top of its others
pub record Inserted (p : ProcName) (t : Told) (told : List Told) (notes : List Noted) : Type 0 where
  pub place : Place
  pub same : entries_of p (noted_entries (t ∷ told) notes) ≡ entry_of place t ∷ entries_of p (noted_entries told notes)

module _ (t : Told) (told : List Told) (is_new : IsNew t told) where
  all-off : (notes : List Noted) → EachOf (λ (j : Noted). IsSlot t j.place j.note → ⊥) notes → noted_entries (t ∷ told) notes ≡ noted_entries told notes
  all-off [] off = refl
  all-off (m ∷ older) off = ap (λ xs. xs ++ noted_entries (t ∷ told) older) (off-slot t told is_new m.place m.note off.0) ∙ ap (λ ys. entries_at told m.place m.note ++ ys) (all-off older off.1)

  pub others-noted : (q : ProcName) → same_proc t.proc q ≡ false → (notes : List Noted) → entries_of q (noted_entries (t ∷ told) notes) ≡ entries_of q (noted_entries told notes)
  others-noted q other [] = refl
  others-noted q other (m ∷ older) =
      entries-append q (entries_at (t ∷ told) m.place m.note) (noted_entries (t ∷ told) older)
      ∙ ap (λ xs. xs ++ entries_of q (noted_entries (t ∷ told) older)) (others-same t told is_new q other m.place m.note)
      ∙ ap (λ ys. entries_of q (entries_at told m.place m.note) ++ ys) (others-noted q other older)
      ∙ sym (entries-append q (entries_at told m.place m.note) (noted_entries told older))

  pub since-others : (q : ProcName) → same_proc t.proc q ≡ false → (o : BegunOp) (a : Await) (notes : List Noted) → Since q o a told notes → Since q o a (t ∷ told) notes
  since-others q other o a [] is = elim is [ ]
  since-others q other o a (m ∷ older) (here place note apart none) = here place note apart none
  since-others q other o a (m ∷ older) (later place none since) = later place (others-same t told is_new q other m.place m.note ∙ none) (since-others q other o a older since)

  module _ (p : ProcName) (proc : t.proc ≡ p) (o : BegunOp) (a : Await) (begun : t.begun ≡ o.begun) (op : t.op ≡ o.op) where
    own : (x : Place) (rest : List Entry) → entries_of p (entry_of x t ∷ rest) ≡ entry_of x t ∷ entries_of p rest
    own x rest = ap (λ b. if b then entry_of x t ∷ entries_of p rest else entries_of p rest) (subst (λ q. same_proc t.proc q ≡ true) proc (same_proc-itself t.proc))

    -- above the note at which it stands nothing is of the process
    above : (m : Noted) (older : List Noted) → entries_of p (entries_at told m.place m.note) ≡ [] → (IsSlot t m.place m.note → ⊥) → Inserted p t told older → Inserted p t told (m ∷ older)
    above m older none off is = record {
      place = is.place;
      same = entries-append p (entries_at (t ∷ told) m.place m.note) (noted_entries (t ∷ told) older)
          ∙ ap (λ xs. xs ++ entries_of p (noted_entries (t ∷ told) older)) (ap (entries_of p) (off-slot t told is_new m.place m.note off) ∙ none)
          ∙ is.same
          ∙ ap (λ ys. entry_of is.place t ∷ ys) (sym (entries-append p (entries_at told m.place m.note) (noted_entries told older) ∙ ap (λ xs. xs ++ entries_of p (noted_entries told older)) none));
    }

    at-slot : (m : Noted) (older : List Noted) → IsSlot t m.place m.note → EachOf (λ (j : Noted). IsSlot t j.place j.note → ⊥) older → Inserted p t told (m ∷ older)
    at-slot m older is off =
        let slot = in-slot t told is_new m.place m.note is in
        record {
          place = m.place;
          same = ap (λ xs. entries_of p (xs ++ noted_entries (t ∷ told) older)) slot.after
              ∙ own m.place (noted_entries (t ∷ told) older)
              ∙ ap (λ ys. entry_of m.place t ∷ entries_of p ys) (all-off older off)
              ∙ ap (λ xs. entry_of m.place t ∷ entries_of p (xs ++ noted_entries told older)) (sym slot.before);
        }

    -- it was ended by a link fault: it stands where it began
    module _ (fault : is_fault t.reply ≡ true) where
      apart-off : (j : Noted) → j.place ≢ o.begun → IsSlot t j.place j.note → ⊥
      apart-off j differs is = by j.note is
        where
          by : (note : Note) → IsSlot t j.place note → ⊥
          by Note.Nothing is = is
          by (Note.Began q op) is = differs (is.1 ∙ begun)
          by (Note.Did q phase op reply) is = is
          by (Note.Ended u) is = is
          by (Note.Decided q k ask answer) is = absurd (let e : true ≡ false = sym fault ∙ is.3 in cc)

      pub walk-fault : (notes : List Noted) → Since p o a told notes → Inserted p t told notes
      walk-fault [] is = elim is [ ]
      walk-fault (m ∷ older) (here place note apart none) =
          at-slot m older (subst (IsSlot t m.place) (sym note) (sym proc, place ∙ sym begun, fault)) (EachOf-more (λ (j : Noted). j.place ≢ o.begun) (λ (j : Noted). IsSlot t j.place j.note → ⊥) older apart-off apart)
      walk-fault (m ∷ older) (later place none since) = above m older none (apart-off m place) (walk-fault older since)

    -- it was ended by an answer: it stands at the decision
    module _ (no_fault : is_fault t.reply ≡ false) where
      slot-decides : (note : Note) (x : Place) → IsSlot t x note → IsDecisionOf p t.number note
      slot-decides Note.Nothing x is = absurd is
      slot-decides (Note.Began q op) x is = absurd (let e : true ≡ false = sym is.2 ∙ no_fault in cc)
      slot-decides (Note.Did q phase op reply) x is = absurd is
      slot-decides (Note.Ended u) x is = absurd is
      slot-decides (Note.Decided q k ask answer) x is = (is.0 ∙ proc, is.1)

      settled-slot : (note : Note) (x : Place) → IsSettledBy p t.number note → IsSlot t x note
      settled-slot Note.Nothing x is = absurd is
      settled-slot (Note.Began q op) x is = absurd is
      settled-slot (Note.Did q phase op reply) x is = absurd is
      settled-slot (Note.Ended u) x is = absurd is
      settled-slot (Note.Decided q k ask answer) x is = (is.0 ∙ sym proc, is.1, is.2, no_fault)

      others-off : (notes : List Noted) → EachOf (λ (j : Noted). IsOther p t.number j.note) notes → EachOf (λ (j : Noted). IsSlot t j.place j.note → ⊥) notes
      others-off notes = EachOf-more (λ (j : Noted). IsOther p t.number j.note) (λ (j : Noted). IsSlot t j.place j.note → ⊥) notes (λ j other is. other-not p t.number j.note other (slot-decides j.note j.place is))

      began-none : (m : Noted) → m.note ≡ Note.Began p o.op → IsSettledBy p t.number m.note → ⊥
      began-none m note is = subst (IsSettledBy p t.number) note is

      pub walk-settled : (notes : List Noted) → ((note : Note) → IsUndecided p a note → IsOther p t.number note) → Since p o a told notes → AreDecidedOnce notes → SomeOf (λ (j : Noted). IsSettledBy p t.number j.note) notes → Inserted p t told notes
      walk-settled [] awaited since once some = elim since [ ]
      walk-settled (m ∷ older) awaited (here place note apart none) once (inl is) = absurd (began-none m note is)
      walk-settled (m ∷ older) awaited (here place note apart none) once (inr some) =
          absurd (others-not p t.number older (EachOf-more (λ (j : Noted). IsUndecided p a j.note) (λ (j : Noted). IsOther p t.number j.note) older (λ j is. awaited j.note is) none)
          (SomeOf-more (λ (j : Noted). IsSettledBy p t.number j.note) (λ (j : Noted). IsDecisionOf p t.number j.note) older (λ j is. settled-decides p t.number j.note is) some))
      walk-settled (m ∷ older) awaited (later place none since) once (inl is) =
          at-slot m older (settled-slot m.note m.place is) (others-off older (first-other p t.number m.note older (settled-decides p t.number m.note is) once.0))
      walk-settled (m ∷ older) awaited (later place none since) once (inr some) =
          above m older none
          (λ is. others-not p t.number older (first-other p t.number m.note older (slot-decides m.note m.place is) once.0)
          (SomeOf-more (λ (j : Noted). IsSettledBy p t.number j.note) (λ (j : Noted). IsDecisionOf p t.number j.note) older (λ j is. settled-decides p t.number j.note is) some))
          (walk-settled older awaited since once.1 some)

-- the process awaits another call, that was not decided yet, or a page
pub since-awaits : (p : ProcName) (o : BegunOp) (a b : Await) (told : List Told) (notes : List Noted) → EachOf (λ (j : Noted). IsUndecided p b j.note) notes → Since p o a told notes → Since p o b told notes
since-awaits p o a b told [] none is = elim is [ ]
since-awaits p o a b told (m ∷ older) none (here place note apart was) = here place note apart none.1
since-awaits p o a b told (m ∷ older) none (later place empty since) = later place empty (since-awaits p o a b told older none.1 since)

-- the same call is awaited
pub since-same : (p : ProcName) (o : BegunOp) (a b : Await) (told : List Told) (notes : List Noted) → ((note : Note) → IsUndecided p a note → IsUndecided p b note) → Since p o a told notes → Since p o b told notes
since-same p o a b told [] same is = elim is [ ]
since-same p o a b told (m ∷ older) same (here place note apart was) = here place note apart (EachOf-more (λ (j : Noted). IsUndecided p a j.note) (λ (j : Noted). IsUndecided p b j.note) older (λ j is. same j.note is) was)
since-same p o a b told (m ∷ older) same (later place empty since) = later place empty (since-same p o a b told older same since)
