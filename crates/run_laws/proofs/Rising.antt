-- The items of a run's history rise: each stands at the place of its note, and no place has two.
use Rattle.std.proofs.Common.{◌≡◌, Bool, true, false, List, [], ◌∷◌, ◌++◌, Option, Some, None, refl, sym, ap, subst, ◌∙◌}
use Rattle.std.specs.Prelude.{All, IsTrue}
use Rattle.std.specs.List.{AllByRecursion}
use Rattle.std.proofs.lemmas.List.Elements.{All-from_recursion}
use Rattle.uid_names.specs.Names.{ProcName}
use Rattle.uid_names.specs.declared.ids.Place.{Place}
use Rattle.dom_history.specs.declared.op.Op.{Op}
use Rattle.dom_history.specs.declared.op.Reply.{Reply}
use Rattle.dom_history.specs.Histories.{Item, place_of, place_lt, IsRising}
use Rattle.dom_history.proofs.Places.{place_lt-trans}
use Rattle.ring_messages.specs.Bodies.{Answer}
use Rattle.node_runs.specs.Setups.{Setup}
use Rattle.node_runs.specs.NodeStates.{OpenOp}
use Rattle.node_runs.specs.Notes.{Told, Note}
use Rattle.node_runs.specs.Runs.{Noted, World, Choice, is_above, world_after}
use Rattle.node_runs.specs.CallsKeep.{EachOf}
use Rattle.node_runs.specs.RunHistories.{is_fault, change_reply, act_item, fault_item, begun_item, told_item, open_item, decided_item, settled_op, ended_at, ended_by, doing_of, items_of, items_from, all_told, history_in}
use Rattle.node_runs.proofs.Receiving.{EachOf-more}
use Rattle.run_laws.specs.Placed.{AreRisingNotes}
use Rattle.node_runs.proofs.Worlds.{IsNext, place_at, every-run}

abbrev is_above_notes : Place → List Noted → Bool
is_above_notes x [] = true
is_above_notes x (m ∷ older) = place_lt m.place x

-- a note is at the place of each event
pub record AreAtEvents (w : World) : Type 0 where
  pub top : (x : Place) → is_above x w.done ≡ is_above_notes x w.trace
  pub rising : AreRisingNotes w.trace

above-all : (x : Place) (notes : List Noted) → AreRisingNotes notes → is_above_notes x notes ≡ true → EachOf (λ (j : Noted). place_lt j.place x ≡ true) notes
above-all x [] rising above = tt
above-all x (m ∷ older) rising above = (above, EachOf-more (λ (j : Noted). place_lt j.place m.place ≡ true) (λ (j : Noted). place_lt j.place x ≡ true) older (λ j is. place_lt-trans j.place m.place x is above) rising.0)

notes-later : (s : Setup) (old : World) (c : Choice) (new : World) → IsNext s old c new → AreAtEvents old → AreAtEvents new
notes-later s old c new is at = subst AreAtEvents (sym is.world) (record {
  top = λ x. refl;
  rising = (above-all (place_at c is.step) old.trace at.rising (sym (at.top (place_at c is.step)) ∙ is.above), at.rising);
})

pub notes-rise : (s : Setup) (cs : List Choice) (w : World) → world_after s cs ≡ Some w → AreAtEvents w
notes-rise s = every-run s AreAtEvents (record { top = λ x. refl; rising = tt }) (notes-later s)

-- a note adds one item at most, at its place
pub data Adds (x : Place) : List Item → Type 0 where
  nothing : Adds x []
  one : {i : Item} → place_of i ≡ x → Adds x (i ∷ [])

act-adds : (x begun : Place) (p : ProcName) (op : Op) (o : Option Reply) → Adds x (act_item x begun p op o)
act-adds x begun p op None = nothing
act-adds x begun p op (Some reply) = one refl

fault-adds : (b : Bool) (x : Place) (t : Told) → Adds x (fault_item b x t)
fault-adds true x t = one refl
fault-adds false x t = nothing

begun-adds : (x : Place) (o : Option Told) → Adds x (begun_item x o)
begun-adds x None = nothing
begun-adds x (Some t) = fault-adds (is_fault t.reply) x t

told-adds : (b : Bool) (x : Place) (op : Op) (answer : Answer) (t : Told) → Adds x (told_item b x op answer t)
told-adds true x op answer t = act-adds x t.begun t.proc op (change_reply answer)
told-adds false x op answer t = one refl

open-adds : (x : Place) (p : ProcName) (op : Op) (answer : Answer) (o : Option OpenOp) → Adds x (open_item x p op answer o)
open-adds x p op answer None = nothing
open-adds x p op answer (Some o) = act-adds x o.began.begun p op (change_reply answer)

decided-adds : (x : Place) (p : ProcName) (op : Option Op) (answer : Answer) (o : Option Told) (doing : Option OpenOp) → Adds x (decided_item x p op answer o doing)
decided-adds x p None answer o doing = nothing
decided-adds x p (Some op) answer None doing = open-adds x p op answer doing
decided-adds x p (Some op) answer (Some t) doing = told-adds (is_fault t.reply) x op answer t

pub note-adds : (w : World) (so_far : List Told) (x : Place) (note : Note) → Adds x (items_of w so_far x note)
note-adds w so_far x Note.Nothing = nothing
note-adds w so_far x (Note.Began p op) = begun-adds x (ended_at p x so_far)
note-adds w so_far x (Note.Did p phase op reply) = one refl
note-adds w so_far x (Note.Ended t) = nothing
note-adds w so_far x (Note.Decided p number ask answer) = decided-adds x p (settled_op x.node ask) answer (ended_by p number so_far) (doing_of w p)

module _ (w : World) (so_far : List Told) where
  more-below : (x y : Place) (items rest : List Item) → place_lt x y ≡ true → Adds x items → AllByRecursion (λ j. IsTrue (place_lt (place_of j) y)) rest → AllByRecursion (λ j. IsTrue (place_lt (place_of j) y)) (items ++ rest)
  more-below x y [] rest below nothing all = all
  more-below x y (i ∷ []) rest below (one at) all = (ap (λ z. place_lt z y) at ∙ below, all)
  more-below x y (i ∷ (j ∷ more)) rest below adds all = elim adds [ ]

  all-below : (y : Place) (notes : List Noted) → EachOf (λ (j : Noted). place_lt j.place y ≡ true) notes → AllByRecursion (λ j. IsTrue (place_lt (place_of j) y)) (items_from w so_far notes)
  all-below y [] each = tt
  all-below y (m ∷ older) each = more-below m.place y (items_of w so_far m.place m.note) (items_from w so_far older) each.0 (note-adds w so_far m.place m.note) (all-below y older each.1)

  on-top : (x : Place) (items rest : List Item) → Adds x items → AllByRecursion (λ j. IsTrue (place_lt (place_of j) x)) rest → IsRising rest → IsRising (items ++ rest)
  on-top x [] rest nothing all rising = rising
  on-top x (i ∷ []) rest (one at) all rising = (subst (λ y. All (λ j. IsTrue (place_lt (place_of j) y)) rest) (sym at) (All-from_recursion _ rest all), rising)
  on-top x (i ∷ (j ∷ more)) rest adds all rising = elim adds [ ]

  items-rise : (notes : List Noted) → AreRisingNotes notes → IsRising (items_from w so_far notes)
  items-rise [] rising = tt
  items-rise (m ∷ older) rising = on-top m.place (items_of w so_far m.place m.note) (items_from w so_far older) (note-adds w so_far m.place m.note) (all-below m.place older rising.0) (items-rise older rising.1)

-- in every run
pub history-rises : (s : Setup) (cs : List Choice) (w : World) → world_after s cs ≡ Some w → IsRising (history_in s w).items
history-rises s cs w e = items-rise w (all_told w.trace) w.trace (notes-rise s cs w e).rising
