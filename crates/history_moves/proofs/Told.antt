-- A process is told of a decision: the act at its home's place becomes its entry.
use Rattle.std.proofs.Common.{ℕ, List, [], ◌∷◌, ◌++◌, refl, sym, ap, inl, inr}
use Rattle.std.specs.Prelude.{All, IsTrue}
use Rattle.std.proofs.lemmas.List.Elements.{All-cons, All-nil, All-head, All-tail}
use Rattle.uid_names.specs.Openings.{Start}
use Rattle.uid_names.specs.declared.ids.Place.{Place}
use Rattle.dom_history.specs.declared.op.Reply.{Reply}
use Rattle.dom_history.specs.StoreEffects.{store_effects}
use Rattle.dom_history.specs.Histories.{Item, Answered, Acted, Act, Pending, deeds, place_of, place_lt, IsRising}
use Rattle.dom_history.specs.Legal.{AreLegal, IsLegal, IsLegalAct, Belongs, IsOpenOp, IsInOrder, IsEarlier, IsElsewhere, IsBefore, home_of, is_of_home}
use Rattle.dom_history.proofs.Items.{act_of_home}
use Rattle.history_moves.specs.Asking.{MayAsk}
use Rattle.history_moves.specs.Behind.{IsAlikeBut, MayStay}
use Rattle.history_moves.specs.HistoryMoves.{history, entry_of, act_of, told_to, IsNoActOf}
use Rattle.history_moves.proofs.Asking.{asked-reply, acted-says}
use Rattle.history_moves.proofs.Behind.{legal-behind}
use Rattle.history_moves.proofs.Lists.{All-middle, All-with, All-without, AllPairs-without, AllPairs-middle, SomeOf-without, each-with, each-without, each-middle}
use Rattle.history_moves.proofs.Owned.{owned}
use Rattle.history_moves.proofs.Opens.{OfOthers, of_others-turned, Elsewhere, legal-without_open}
use Rattle.history_moves.proofs.Places.{place_lt-both, place_lt-itself}
use Rattle.history_moves.proofs.PutIn.{legal-before, other-behind, vacuous, others-turned}
use Rattle.history_moves.proofs.Faults.{not-before_below}

module _ (opening : Start) (left right : List Pending) (o : Pending) (y : Place) (phase : ℕ) (reply : Reply) (before : List Item) where
  -- no other act before is of the operation
  lone-before : (items : List Item) → IsInOrder opening items (act_of o y reply) → AreLegal opening (left ++ o ∷ right) items → All (IsNoActOf o) items
  lone-before [] in_order legal = All-nil (IsNoActOf o)
  lone-before (Answered e ∷ items) in_order legal =
      All-cons (IsNoActOf o) (Answered e) items (λ it. it) (lone-before items (All-tail (IsEarlier opening (act_of o y reply)) (Answered e) items in_order) legal.1)
  lone-before (Acted b ∷ items) in_order legal =
      All-cons (IsNoActOf o) (Acted b) items not_it (lone-before items (All-tail (IsEarlier opening (act_of o y reply)) (Acted b) items in_order) legal.1)
    where
      not_it : IsNoActOf o (Acted b)
      not_it it =
          let home = act_of_home opening (store_effects (deeds items)) b.deed.proc b.deed.op b.deed.reply legal.0.may_act in
          let earlier : IsTrue (place_lt b.begun o.begun) = All-head (IsEarlier opening (act_of o y reply)) (Acted b) items in_order (sym it.1, ap home_of (sym it.2), home) in
          place_lt-itself o.begun (rw (← it.0) at earlier)

  module _ (others : All (OfOthers o) (left ++ right)) where
    -- an act behind may stay
    act-stays : (b : Act) (behind : List Item) → All (IsBefore o) (behind ++ Acted (act_of o y reply) ∷ before) → IsTrue (is_of_home opening o.op reply)
        → IsLegalAct opening (left ++ o ∷ right) (behind ++ Acted (act_of o y reply) ∷ before) b
        → MayStay opening o.proc (left ++ o ∷ right) (left ++ right) (Acted (act_of o y reply) ∷ before) (Answered (entry_of o y phase reply) ∷ before) (Acted b)
    act-stays b behind last home l = (still, λ in_order. All-cons (IsEarlier opening b) (Answered (entry_of o y phase reply)) before (ordered in_order) (All-tail (IsEarlier opening b) (Acted (act_of o y reply)) before in_order))
      where
        earlier : IsEarlier opening b (Acted (act_of o y reply))
        earlier = All-middle (IsEarlier opening b) behind (Acted (act_of o y reply)) before l.in_order

        still : Belongs (left ++ o ∷ right) (Acted (act_of o y reply) ∷ before) b → Belongs (left ++ right) (Answered (entry_of o y phase reply) ∷ before) b
        still (inl (inl it)) = absurd it
        still (inl (inr left_open)) = inl (inr left_open)
        still (inr is_open) = elim (SomeOf-without (IsOpenOp b) left o right is_open) [
          | inl it ↦ absurd (place_lt-itself o.begun (let h : IsTrue (place_lt o.begun b.begun) = earlier (it.1, ap home_of it.2, home) in rw (← it.0) at h))
          | inr other ↦ inr other
        ]

        ordered : IsInOrder opening (Acted (act_of o y reply) ∷ before) b → IsEarlier opening b (Answered (entry_of o y phase reply))
        ordered in_order same = elim (owned left right o others b (behind ++ Acted (act_of o y reply) ∷ before) last same.0 l.belongs) [
          | inl it ↦ absurd (place_lt-itself o.begun (rw (← it.0) at (earlier same)))
          | inr below ↦ absurd (place_lt-both o.begun b.begun (earlier same) below)
        ]

    -- all that stands behind may stay
    stays : (behind : List Item) → IsTrue (place_lt o.begun y) → IsTrue (is_of_home opening o.op reply) → IsRising (behind ++ Acted (act_of o y reply) ∷ before) → All (IsBefore o) (behind ++ Acted (act_of o y reply) ∷ before)
        → AreLegal opening (left ++ o ∷ right) (behind ++ Acted (act_of o y reply) ∷ before)
        → All (MayStay opening o.proc (left ++ o ∷ right) (left ++ right) (Acted (act_of o y reply) ∷ before) (Answered (entry_of o y phase reply) ∷ before)) behind
    stays [] after home rising last legal = All-nil (MayStay opening o.proc (left ++ o ∷ right) (left ++ right) (Acted (act_of o y reply) ∷ before) (Answered (entry_of o y phase reply) ∷ before))
    stays (i ∷ behind) after home rising last legal =
        All-cons (MayStay opening o.proc (left ++ o ∷ right) (left ++ right) (Acted (act_of o y reply) ∷ before) (Answered (entry_of o y phase reply) ∷ before)) i behind
        (one i legal
        (All-middle (λ j. IsTrue (place_lt (place_of j) (place_of i))) behind (Acted (act_of o y reply)) before rising.0)
        (All-head (IsBefore o) i (behind ++ Acted (act_of o y reply) ∷ before) last))
        (stays behind after home rising.1 tail legal.1)
      where
        tail : All (IsBefore o) (behind ++ Acted (act_of o y reply) ∷ before)
        tail = All-tail (IsBefore o) i (behind ++ Acted (act_of o y reply) ∷ before) last

        one : (i : Item) → AreLegal opening (left ++ o ∷ right) (i ∷ (behind ++ Acted (act_of o y reply) ∷ before)) → IsTrue (place_lt y (place_of i)) → IsBefore o i
            → MayStay opening o.proc (left ++ o ∷ right) (left ++ right) (Acted (act_of o y reply) ∷ before) (Answered (entry_of o y phase reply) ∷ before) i
        one (Answered f) legal above own = other-behind o y f (not-before_below o.begun y after) above own
        one (Acted b) legal above own = act-stays b behind tail home legal.0

  -- the same was done, and others were told the same
  pub alike-told : IsAlikeBut o.proc (Acted (act_of o y reply) ∷ before) (Answered (entry_of o y phase reply) ∷ before)
  alike-told = record {
    done = refl;
    heard = λ q other. rw (others-turned o.proc q other) refl;
  }

  -- places are the same
  rising-told : (behind : List Item) → IsRising (behind ++ Acted (act_of o y reply) ∷ before) → IsRising (behind ++ Answered (entry_of o y phase reply) ∷ before)
  rising-told [] rising = rising
  rising-told (i ∷ behind) rising = (
    All-with (λ j. IsTrue (place_lt (place_of j) (place_of i))) behind (Answered (entry_of o y phase reply)) before
        (All-middle (λ j. IsTrue (place_lt (place_of j) (place_of i))) behind (Acted (act_of o y reply)) before rising.0)
        (All-without (λ j. IsTrue (place_lt (place_of j) (place_of i))) behind (Acted (act_of o y reply)) before rising.0),
    rising-told behind rising.1,
  )

  -- the history with the entry in the place of the act is legal
  pub legal-told : (behind : List Item) → IsLegal opening (history (behind ++ Acted (act_of o y reply) ∷ before) (left ++ o ∷ right)) → MayAsk (told_to o before) o.op
      → IsLegal opening (history (behind ++ Answered (entry_of o y phase reply) ∷ before) (left ++ right))
  legal-told behind l ask =
      let others = AllPairs-middle OfOthers of_others-turned left o right l.one_open in
      let here = legal-before opening (left ++ o ∷ right) behind (Acted (act_of o y reply) ∷ before) l.legal in
      let last = All-middle (λ q. All (IsBefore q) (behind ++ Acted (act_of o y reply) ∷ before)) left o right l.open_last in
      let places = All-without (λ q. All (λ i. IsElsewhere q (place_of i)) (behind ++ Acted (act_of o y reply) ∷ before)) left o right l.items_apart in
      let lasts = All-without (λ q. All (IsBefore q) (behind ++ Acted (act_of o y reply) ∷ before)) left o right l.open_last in
      let home = act_of_home opening (store_effects (deeds before)) o.proc o.op reply here.0.may_act in
      record {
        rising = rising-told behind l.rising;
        one_open = AllPairs-without OfOthers left o right l.one_open;
        opens_apart = AllPairs-without Elsewhere left o right l.opens_apart;
        items_apart =
            each-with (λ q i. IsElsewhere q (place_of i)) (left ++ right) behind (Answered (entry_of o y phase reply)) before
            (each-middle (λ q i. IsElsewhere q (place_of i)) (left ++ right) behind (Acted (act_of o y reply)) before places)
            (each-without (λ q i. IsElsewhere q (place_of i)) (left ++ right) behind (Acted (act_of o y reply)) before places);
        open_last =
            each-with IsBefore (left ++ right) behind (Answered (entry_of o y phase reply)) before (vacuous o (left ++ right) (entry_of o y phase reply) refl others)
            (each-without IsBefore (left ++ right) behind (Acted (act_of o y reply)) before lasts);
        legal =
            legal-behind o.proc (Acted (act_of o y reply) ∷ before) (Answered (entry_of o y phase reply) ∷ before) alike-told opening (left ++ o ∷ right) (left ++ right) behind
            (stays others behind here.0.begun_before home l.rising last l.legal)
            l.legal (
              inl (asked-reply opening (store_effects (deeds before)) (told_to o before) o.proc o.op reply ask (acted-says opening (store_effects (deeds before)) o.proc o.op reply here.0.may_act)),
              legal-without_open opening left right o before (lone-before before here.0.in_order here.1) here.1,
            );
      }
