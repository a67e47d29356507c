-- The ends of operations in a run: each began at a place of its own, before it ended.
use Rattle.std.proofs.Common.{◌≡◌, ◌≢◌, ◌<◌, false, List, [], ◌∷◌, None, inl, inr, sym, ap, ◌∙◌, arith}
use Rattle.std.specs.Prelude.{◌&&◌, All}
use Rattle.std.proofs.lemmas.List.Elements.{All-head, All-tail}
use Rattle.uid_names.proofs.ListLemmas.{by_cases}
use Rattle.uid_names.proofs.Passed.{right-true}
use Rattle.uid_names.specs.Names.{ProcName, same_proc}
use Rattle.uid_names.specs.declared.ids.Place.{Place}
use Rattle.dom_history.specs.Histories.{SomeOf, same_place}
use Rattle.node_runs.specs.Notes.{Told, Note}
use Rattle.node_runs.specs.Runs.{Noted}
use Rattle.node_runs.specs.RunHistories.{told_by, all_told, ended_at}
use Rattle.node_runs.specs.CallsKeep.{EachOf}
use Rattle.node_runs.proofs.EachOf.{EachOf-at}
use Rattle.node_runs.proofs.Receiving.{EachOf-more}
use Rattle.run_laws.specs.Placed.{IsBegin, IsPlaced, AreEndsPlaced}
use Rattle.run_laws.specs.SingleActs.{IsToldLater, AreToldRising}
use Rattle.run_laws.proofs.Following.{EachOf-append}
use Rattle.run_laws.proofs.Hearing.{find-none, place-none, number-none}
use Rattle.run_laws.proofs.Slots.{IsNew, place-is}
use Rattle.run_laws.proofs.Walks.{SomeOf-more}

-- what holds of all, by recursion
pub each-from : {A : Type 0} (P : A → Type 0) (xs : List A) → All P xs → EachOf P xs
each-from P [] all = tt
each-from P (x ∷ xs) all = (All-head P x xs all, each-from P xs (All-tail P x xs all))

-- an operation that ended began at one of the notes
abbrev BeganAt : List Noted → Told → Type 0
BeganAt notes t = SomeOf (λ (j : Noted). j.place ≡ t.begun) notes

pub ends-begun : (notes : List Noted) → AreEndsPlaced notes → EachOf (BeganAt notes) (all_told notes)
ends-begun [] ends = tt
ends-begun (m ∷ older) ends =
    EachOf-append (BeganAt (m ∷ older)) (told_by m.note) (all_told older) (by_note m.note ends.0)
    (EachOf-more (BeganAt older) (BeganAt (m ∷ older)) (all_told older) (λ t some. inr some) (ends-begun older ends.1))
  where
    by_note : (note : Note) → IsPlaced note older → EachOf (BeganAt (m ∷ older)) (told_by note)
    by_note Note.Nothing is = tt
    by_note (Note.Began p op) is = tt
    by_note (Note.Did p phase op reply) is = tt
    by_note (Note.Ended t) is = (inr (SomeOf-more (IsBegin t.proc t.op t.begun) (λ (j : Noted). j.place ≡ t.begun) older (λ j began. began.0) is.began), tt)
    by_note (Note.Decided p number ask answer) is = tt

-- one that began at none of these places began at none of these notes
pub begun-apart : (x : Place) (notes : List Noted) (t : Told) → EachOf (λ (j : Noted). j.place ≢ x) notes → BeganAt notes t → t.begun ≢ x
begun-apart x [] t apart some same = some
begun-apart x (j ∷ notes) t apart (inl at) same = apart.0 (at ∙ same)
begun-apart x (j ∷ notes) t apart (inr some) same = begun-apart x notes t apart.1 some same

-- where none began at a place, none is found there
pub ended-none : (p : ProcName) (x : Place) (told : List Told) → EachOf (λ (t : Told). t.begun ≢ x) told → ended_at p x told ≡ None
ended-none p x told apart =
    find-none (λ (t : Told). same_proc t.proc p && same_place t.begun x) told
    (EachOf-more (λ (t : Told). t.begun ≢ x) (λ (t : Told). (same_proc t.proc p && same_place t.begun x) ≡ false) told
    (λ t differs. by_cases (same_proc t.proc p && same_place t.begun x) ((same_proc t.proc p && same_place t.begun x) ≡ false)
    (λ h. absurd (differs (place-is t.begun x (right-true (same_proc t.proc p) _ h)))) (λ h. h)) apart)

-- the last end is a new one
pub rising-new : (t : Told) (told : List Told) → EachOf (IsToldLater t) told → IsNew t told
rising-new t told later = record {
  by_place = place-none t.proc t.begun told (EachOf-more (IsToldLater t) (λ (u : Told). u.proc ≡ t.proc → u.begun.tick < t.begun.tick) told (λ u is same. (is same).0) later);
  by_number = number-none t.proc t.number told (EachOf-more (IsToldLater t) (λ (u : Told). u.proc ≡ t.proc → u.number < t.number) told (λ u is same. (is same).1) later);
}

-- ends with one last call are one
pub one-end : (told : List Told) → AreToldRising told → (t u : Told) → SomeOf (λ x. x ≡ t) told → SomeOf (λ x. x ≡ u) told → t.proc ≡ u.proc → t.number ≡ u.number → t ≡ u
one-end [] rising t u some other proc number = absurd some
one-end (x ∷ older) rising t u (inl is) (inl at) proc number = sym is ∙ at
one-end (x ∷ older) rising t u (inl is) (inr other) proc number = absurd (
    let below = (EachOf-at (IsToldLater x) u older rising.0 other (sym proc ∙ ap (λ (y : Told). y.proc) (sym is))).1 in
    let last = ap (λ (y : Told). y.number) is in
    omega (arith, below, last, number))
one-end (x ∷ older) rising t u (inr some) (inl at) proc number = absurd (
    let below = (EachOf-at (IsToldLater x) t older rising.0 some (proc ∙ ap (λ (y : Told). y.proc) (sym at))).1 in
    let last = ap (λ (y : Told). y.number) at in
    omega (arith, below, last, number))
one-end (x ∷ older) rising t u (inr some) (inr other) proc number = one-end older rising.1 t u some other proc number
