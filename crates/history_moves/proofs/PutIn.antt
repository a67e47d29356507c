-- An entry without effects answers an open operation at an earlier place.
use Rattle.std.proofs.Common.{◌≡◌, ◌∙◌, Bool, true, false, ℕ, List, [], ◌∷◌, ◌++◌, refl, arith, inl, inr}
use Rattle.std.specs.Prelude.{All, IsTrue, not}
use Rattle.std.proofs.lemmas.List.Elements.{All-cons, All-nil, All-head, All-tail, All-weaker}
use Rattle.std.proofs.lemmas.Bool.Decides.{nat_tests}
use Rattle.uid_names.specs.Names.{ProcName, same_proc}
use Rattle.uid_names.specs.Openings.{Start}
use Rattle.uid_names.specs.declared.ids.Place.{Place}
use Rattle.dom_history.specs.declared.op.Reply.{Reply}
use Rattle.dom_history.specs.declared.op.Entry.{Entry}
use Rattle.dom_history.specs.StoreEffects.{store_effect, own}
use Rattle.dom_history.specs.Histories.{Item, Answered, Acted, Act, Pending, place_of, place_lt, IsRising}
use Rattle.dom_history.specs.Legal.{AreLegal, IsLegal, Belongs, IsOpenOp, IsEarlier, IsElsewhere, IsBefore}
use Rattle.history_moves.specs.Behind.{IsAlikeBut, MayStay}
use Rattle.history_moves.specs.HistoryMoves.{history, entry_of, MayPutIn, IsStillIts, IsLaterAct}
use Rattle.history_moves.proofs.Behind.{legal-behind}
use Rattle.history_moves.proofs.Opens.{OfOthers, of_others-turned, Elsewhere, legal-without_open}
use Rattle.history_moves.proofs.Lists.{All-middle, All-without, AllPairs-without, AllPairs-middle, SomeOf-without, each-with}
use Rattle.history_moves.proofs.Places.{place_lt-through}

-- what is legal is so without what stands behind
pub legal-before : (opening : Start) (pending : List Pending) (behind before : List Item) → AreLegal opening pending (behind ++ before) → AreLegal opening pending before
legal-before opening pending [] before legal = legal
legal-before opening pending (i ∷ behind) before legal = legal-before opening pending behind before legal.1

-- others than a process
pub others-turned : (p q : ProcName) → same_proc q p ≡ false → same_proc p q ≡ false
others-turned p q other = grind (arith, nat_tests, other)

-- an entry behind an operation that is open still is of another process
pub other-behind : (o : Pending) (x : Place) (f : Entry) → IsTrue (not (place_lt x o.begun)) → IsTrue (place_lt x f.place) → IsBefore o (Answered f) → same_proc f.proc o.proc ≡ false
other-behind o x f after above last = by_test (same_proc f.proc o.proc) refl
  where
    by_test : (b : Bool) → same_proc f.proc o.proc ≡ b → b ≡ false
    by_test true own = let under : place_lt x o.begun ≡ true = place_lt-through x f.place o.begun above (last own) in let h = rw under at after in absurd cc
    by_test false own = refl

-- what is of another process needs not stand before an operation
pub vacuous : (o : Pending) (others : List Pending) (e : Entry) → e.proc ≡ o.proc → All (OfOthers o) others → All (λ q. IsBefore q (Answered e)) others
vacuous o others e is apart = All-weaker (OfOthers o) (λ q. IsBefore q (Answered e)) not_own others apart
  where
    not_own : (q : Pending) → OfOthers o q → IsBefore q (Answered e)
    not_own q other own = let h = rw (← is, own) at other in absurd cc

-- one entry more, without effects, is one past more of its process
pub alike-with : (e : Entry) (before : List Item) → store_effect e.proc e.op e.reply ≡ [] → IsAlikeBut e.proc before (Answered e ∷ before)
alike-with e before none = record {
  done = rw none refl;
  heard = λ q other. rw (others-turned e.proc q other) refl;
}

module _ (opening : Start) (left right : List Pending) (o : Pending) (x : Place) (phase : ℕ) (reply : Reply) (before : List Item) where
  -- an act behind has its operation still: the entry, where the operation was open
  still : (a : Act) → IsStillIts o (entry_of o x phase reply) (Acted a) → Belongs (left ++ o ∷ right) before a → Belongs (left ++ right) (Answered (entry_of o x phase reply) ∷ before) a
  still a its (inl left_open) = inl (inr left_open)
  still a its (inr is_open) = elim (SomeOf-without (IsOpenOp a) left o right is_open) [
    | inl it ↦ inl (inl ((its it).0 ∙ it.0, it.1, it.2, (its it).1))
    | inr other ↦ inr other
  ]

  -- what stands behind may stay
  stays : (behind : List Item) → IsTrue (not (place_lt x o.begun)) → IsRising (behind ++ Answered (entry_of o x phase reply) ∷ before) → All (IsBefore o) (behind ++ before)
      → All (IsStillIts o (entry_of o x phase reply)) behind → All (IsLaterAct opening (entry_of o x phase reply)) behind
      → All (MayStay opening o.proc (left ++ o ∷ right) (left ++ right) before (Answered (entry_of o x phase reply) ∷ before)) behind
  stays [] after rising last its later = All-nil (MayStay opening o.proc (left ++ o ∷ right) (left ++ right) before (Answered (entry_of o x phase reply) ∷ before))
  stays (i ∷ behind) after rising last its later =
      All-cons (MayStay opening o.proc (left ++ o ∷ right) (left ++ right) before (Answered (entry_of o x phase reply) ∷ before)) i behind
      (one i
      (All-middle (λ j. IsTrue (place_lt (place_of j) (place_of i))) behind (Answered (entry_of o x phase reply)) before rising.0)
      (All-head (IsBefore o) i (behind ++ before) last)
      (All-head (IsStillIts o (entry_of o x phase reply)) i behind its)
      (All-head (IsLaterAct opening (entry_of o x phase reply)) i behind later))
      (stays behind after rising.1
      (All-tail (IsBefore o) i (behind ++ before) last)
      (All-tail (IsStillIts o (entry_of o x phase reply)) i behind its)
      (All-tail (IsLaterAct opening (entry_of o x phase reply)) i behind later))
    where
      one : (i : Item) → IsTrue (place_lt x (place_of i)) → IsBefore o i → IsStillIts o (entry_of o x phase reply) i → IsLaterAct opening (entry_of o x phase reply) i
          → MayStay opening o.proc (left ++ o ∷ right) (left ++ right) before (Answered (entry_of o x phase reply) ∷ before) i
      one (Answered f) above own its later = other-behind o x f after above own
      one (Acted a) above own its later = (still a its, λ in_order. All-cons (IsEarlier opening a) (Answered (entry_of o x phase reply)) before later in_order)

  -- the history with the entry is legal
  pub legal-put_in : (behind : List Item) → IsLegal opening (history (behind ++ before) (left ++ o ∷ right)) → MayPutIn opening behind before (left ++ right) o (entry_of o x phase reply)
      → IsLegal opening (history (behind ++ Answered (entry_of o x phase reply) ∷ before) (left ++ right))
  legal-put_in behind l m =
      let others = AllPairs-middle OfOthers of_others-turned left o right l.one_open in
      record {
        rising = m.rising;
        one_open = AllPairs-without OfOthers left o right l.one_open;
        opens_apart = AllPairs-without Elsewhere left o right l.opens_apart;
        items_apart =
            each-with (λ q i. IsElsewhere q (place_of i)) (left ++ right) behind (Answered (entry_of o x phase reply)) before m.apart
            (All-without (λ q. All (λ i. IsElsewhere q (place_of i)) (behind ++ before)) left o right l.items_apart);
        open_last =
            each-with IsBefore (left ++ right) behind (Answered (entry_of o x phase reply)) before (vacuous o (left ++ right) (entry_of o x phase reply) refl others)
            (All-without (λ q. All (IsBefore q) (behind ++ before)) left o right l.open_last);
        legal =
            legal-behind o.proc before (Answered (entry_of o x phase reply) ∷ before) (alike-with (entry_of o x phase reply) before m.no_effect) opening (left ++ o ∷ right) (left ++ right) behind
            (stays behind m.not_before m.rising (All-middle (λ q. All (IsBefore q) (behind ++ before)) left o right l.open_last) m.acts_behind m.in_order)
            l.legal
            (m.allowed, legal-without_open opening left right o before m.acts_before (legal-before opening (left ++ o ∷ right) behind before l.legal));
      }
