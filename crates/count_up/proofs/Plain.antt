-- A history without link faults and open operations is its entries, each answered as one store answers it.
use Rattle.std.proofs.Common.{◌≡◌, List, [], ◌∷◌, refl, ap, subst, inl, inr}
use Rattle.std.specs.Prelude.{◌⊎◌, All}
use Rattle.std.proofs.lemmas.List.Elements.{All-head, All-tail}
use Rattle.uid_names.specs.Openings.{Start}
use Rattle.dom_history.specs.declared.op.Entry.{Entry}
use Rattle.dom_history.specs.Histories.{Item, Answered, Acted, Act, SomeOf, told, entries, deeds}
use Rattle.dom_history.specs.Legal.{IsAllowed, AreLegal, IsLeftOpen, IsOpenOp}
use Rattle.dom_history.specs.Replies.{before_of}
use Rattle.dom_history.specs.Runs.{AreAnswered, IsFaultless}
use Rattle.plain_store.proofs.PlainRuns.{reply_without_faults}

-- no operation was left open
not_left : (a : Act) (past : List Item) → All (λ e. IsFaultless e.reply) (entries past) → SomeOf (IsLeftOpen a.begun a.deed.proc a.deed.op) past → ⊥
not_left a [] plain some = some
not_left a (Answered e ∷ past) plain (inl (at, proc, op, inl doubt)) = subst IsFaultless doubt (All-head (λ (f : Entry). IsFaultless f.reply) e (entries past) plain)
not_left a (Answered e ∷ past) plain (inl (at, proc, op, inr fault)) = subst IsFaultless fault (All-head (λ (f : Entry). IsFaultless f.reply) e (entries past) plain)
not_left a (Answered e ∷ past) plain (inr some) = not_left a past (All-tail (λ (f : Entry). IsFaultless f.reply) e (entries past) plain) some
not_left a (Acted b ∷ past) plain (inl none) = none
not_left a (Acted b ∷ past) plain (inr some) = not_left a past plain some

record IsPlain (opening : Start) (items : List Item) : Type 0 where
  pub deeds_are : deeds items ≡ told (entries items)
  pub answered : AreAnswered opening (told (entries items))

plain_items : (opening : Start) (items : List Item) → AreLegal opening [] items → All (λ e. IsFaultless e.reply) (entries items) → IsPlain opening items
plain_items opening [] legal plain = record { deeds_are = refl; answered = tt }
plain_items opening (Answered e ∷ past) legal plain =
    let before = plain_items opening past legal.1 (All-tail (λ (f : Entry). IsFaultless f.reply) e (entries past) plain) in
    let allowed : IsAllowed (before_of opening (told (entries past)) e.proc) e.proc e.op e.reply = rw before.deeds_are at legal.0 in
    record {
      deeds_are = ap (λ ds. record { proc = e.proc; op = e.op; reply = e.reply } ∷ ds) before.deeds_are;
      answered = (reply_without_faults (before_of opening (told (entries past)) e.proc) e.proc e.op e.reply allowed (All-head (λ (f : Entry). IsFaultless f.reply) e (entries past) plain), before.answered);
    }
plain_items opening (Acted a ∷ past) legal plain = absurd (by_kind legal.0.belongs)
  where
    by_kind : SomeOf (IsLeftOpen a.begun a.deed.proc a.deed.op) past ⊎ SomeOf (IsOpenOp a) [] → ⊥
    by_kind (inl left) = not_left a past plain left
    by_kind (inr none) = none

pub plain_answered : (opening : Start) (items : List Item) → AreLegal opening [] items → All (λ e. IsFaultless e.reply) (entries items) → AreAnswered opening (told (entries items))
plain_answered opening items legal plain = (plain_items opening items legal plain).answered
