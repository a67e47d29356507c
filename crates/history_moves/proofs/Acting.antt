-- Acts and entries at the end of a history.
use Rattle.std.proofs.Common.{List, [], ◌∷◌, ◌++◌, ℕ, refl, sym, inl, inr}
use Rattle.std.specs.Prelude.{All, IsTrue, not}
use Rattle.std.proofs.lemmas.List.Elements.{All-nil, All-cons, All-head, All-tail, All-weaker}
use Rattle.uid_names.specs.Names.{ProcName, same_proc}
use Rattle.uid_names.specs.Openings.{Start}
use Rattle.uid_names.specs.declared.ids.Place.{Place}
use Rattle.uid_names.proofs.Orders.{same_proc-itself}
use Rattle.dom_history.specs.declared.op.Op.{Op}
use Rattle.dom_history.specs.declared.op.Op.TheVariants.{New, Lock, Unlock, Delete}
use Rattle.dom_history.specs.declared.op.Reply.{Reply}
use Rattle.dom_history.specs.declared.op.Entry.{Entry}
use Rattle.dom_history.specs.StoreEffects.{StoreEffect, store_effects}
use Rattle.dom_history.specs.Histories.{Item, Answered, Acted, Act, Pending, History, deeds, before_op, place_of, place_lt}
use Rattle.dom_history.specs.Legal.{AreLegal, IsLegal, IsAllowed, MayAct, MayEnd, Belongs, IsOpenOp, IsLeftOpen, IsInOrder, IsEarlier, IsElsewhere, IsBefore, IsIdle}
use Rattle.dom_history.proofs.Endings.{legal_with}
use Rattle.history_moves.specs.HistoryMoves.{history, entry_of, act_of, MayEndAct, MayFinish, IsEnd, IsNoActOf, IsChange}
use Rattle.history_moves.proofs.Owned.{owned}
use Rattle.history_moves.proofs.Opens.{OfOthers, of_others-turned, Elsewhere, legal-without_open}
use Rattle.history_moves.proofs.Lists.{All-middle, All-without, AllPairs-without, AllPairs-middle, SomeOf-right, SomeOf-gives}
use Rattle.history_moves.proofs.Places.{place_lt-apart}

-- an act may be put at the end where its operation and its order allow it
pub may_end-act : (opening : Start) (h : History) (a : Act) → IsEnd a.place h.items h.open_ops → MayAct opening (store_effects (deeds h.items)) a.deed.proc a.deed.op a.deed.reply → Belongs h.open_ops h.items a → IsInOrder opening h.items a → MayEndAct opening h a
may_end-act opening h a end may belongs in_order = record {
  legal = record {
    may_act = may;
    belongs = belongs;
    begun_before = begun belongs;
    in_order = in_order;
  };
  above = end.items_below;
  apart = All-weaker (λ o. IsTrue (place_lt o.begun a.place)) (λ o. IsElsewhere o a.place) (λ o below. place_lt-apart o.begun a.place below) h.open_ops end.begun_below;
}
  where
    at_entry : (i : Item) → IsTrue (place_lt (place_of i) a.place) → IsLeftOpen a.begun a.deed.proc a.deed.op i → IsTrue (place_lt a.begun a.place)
    at_entry (Answered f) below it = rw (← it.0) below
    at_entry (Acted b) below it = absurd it

    at_open : (o : Pending) → IsTrue (place_lt o.begun a.place) → IsOpenOp a o → IsTrue (place_lt a.begun a.place)
    at_open o below it = rw (← it.0) below

    begun : Belongs h.open_ops h.items a → IsTrue (place_lt a.begun a.place)
    begun (inl left_open) = SomeOf-gives (IsLeftOpen a.begun a.deed.proc a.deed.op) (λ i. IsTrue (place_lt (place_of i) a.place)) at_entry h.items end.items_below left_open
    begun (inr is_open) = SomeOf-gives (IsOpenOp a) (λ o. IsTrue (place_lt o.begun a.place)) at_open h.open_ops end.begun_below is_open

-- what acts is a change
acted-change : (opening : Start) (past : List StoreEffect) (p : ProcName) (op : Op) (reply : Reply) → MayAct opening past p op reply → IsChange op
acted-change opening past p (New home kind room) reply may = tt
acted-change opening past p (Lock u m) reply may = tt
acted-change opening past p (Unlock u) reply may = tt
acted-change opening past p (Delete u) reply may = tt
acted-change opening past p _ reply may = absurd may

-- an operation that is no change has no act
pub no-acts : (opening : Start) (pending : List Pending) (o : Pending) → (IsChange o.op → ⊥) → (items : List Item) → AreLegal opening pending items → All (IsNoActOf o) items
no-acts opening pending o no_change [] legal = All-nil (IsNoActOf o)
no-acts opening pending o no_change (Answered e ∷ items) legal = All-cons (IsNoActOf o) (Answered e) items (λ it. it) (no-acts opening pending o no_change items legal.1)
no-acts opening pending o no_change (Acted a ∷ items) legal = All-cons (IsNoActOf o) (Acted a) items not_it (no-acts opening pending o no_change items legal.1)
  where
    not_it : IsNoActOf o (Acted a)
    not_it it = no_change (rw it.2 (acted-change opening (store_effects (deeds items)) a.deed.proc a.deed.op a.deed.reply legal.0.may_act))

-- an entry may end the history where all stands before it and its process is idle
pub may_end-idle : (opening : Start) (h : History) (e : Entry) → IsEnd e.place h.items h.open_ops → IsIdle e.proc h.open_ops → IsAllowed (before_op opening h.items e.proc) e.proc e.op e.reply → MayEnd opening h e
may_end-idle opening h e end idle allowed = record {
  allowed = allowed;
  above = end.items_below;
  apart = All-weaker (λ o. IsTrue (place_lt o.begun e.place)) (λ o. IsElsewhere o e.place) (λ o below. place_lt-apart o.begun e.place below) h.open_ops end.begun_below;
  own_later = All-weaker (λ o. IsTrue (not (same_proc e.proc o.proc))) (λ o. IsBefore o (Answered e)) (λ o other own. let k = rw own at other in absurd cc) h.open_ops idle;
}

module _ (opening : Start) (left right : List Pending) (o : Pending) where
  -- what was decided for the process so far is of earlier operations
  open-in_order : (items : List Item) → All (OfOthers o) (left ++ right) → AreLegal opening (left ++ o ∷ right) items → All (IsBefore o) items → All (IsNoActOf o) items → (y : Place) (reply : Reply) → IsInOrder opening items (act_of o y reply)
  open-in_order [] others legal last none y reply = All-nil (IsEarlier opening (act_of o y reply))
  open-in_order (i ∷ items) others legal last none y reply =
      All-cons (IsEarlier opening (act_of o y reply)) i items (one i legal (All-head (IsBefore o) i items last) (All-head (IsNoActOf o) i items none))
      (open-in_order items others legal.1 rest (All-tail (IsNoActOf o) i items none) y reply)
    where
      rest : All (IsBefore o) items
      rest = All-tail (IsBefore o) i items last

      one : (i : Item) → AreLegal opening (left ++ o ∷ right) (i ∷ items) → IsBefore o i → IsNoActOf o i → IsEarlier opening (act_of o y reply) i
      one (Answered e) legal before none same = before (rw same.0 (same_proc-itself o.proc))
      one (Acted b) legal before none same = elim (owned left right o others b items rest (sym same.0) legal.0.belongs) [
        | inl it ↦ absurd (none it)
        | inr below ↦ below
      ]

  -- so a home may act for an open operation once
  pub may_end-open : (items : List Item) (y : Place) (reply : Reply) → IsLegal opening (history items (left ++ o ∷ right)) → IsEnd y items (left ++ o ∷ right) → MayAct opening (store_effects (deeds items)) o.proc o.op reply → All (IsNoActOf o) items
      → MayEndAct opening (history items (left ++ o ∷ right)) (act_of o y reply)
  may_end-open items y reply l end may none =
      may_end-act opening (history items (left ++ o ∷ right)) (act_of o y reply) end may (inr (SomeOf-right (IsOpenOp (act_of o y reply)) left (o ∷ right) (inl (refl, refl, refl))))
      (open-in_order items (AllPairs-middle OfOthers of_others-turned left o right l.one_open) l.legal (All-middle (λ q. All (IsBefore q) items) left o right l.open_last) none y reply)

  -- an operation of which no act stands need not be open
  legal-without : (items : List Item) → IsLegal opening (history items (left ++ o ∷ right)) → All (IsNoActOf o) items → IsLegal opening (history items (left ++ right))
  legal-without items l none = record {
    rising = l.rising;
    one_open = AllPairs-without OfOthers left o right l.one_open;
    opens_apart = AllPairs-without Elsewhere left o right l.opens_apart;
    items_apart = All-without (λ q. All (λ i. IsElsewhere q (place_of i)) items) left o right l.items_apart;
    open_last = All-without (λ q. All (IsBefore q) items) left o right l.open_last;
    legal = legal-without_open opening left right o items none l.legal;
  }

  -- and may be answered at the end, with what it does
  pub legal-finished : (items : List Item) (x : Place) (phase : ℕ) (reply : Reply) → IsLegal opening (history items (left ++ o ∷ right)) → MayFinish opening items (left ++ right) o x reply
      → IsLegal opening (history (Answered (entry_of o x phase reply) ∷ items) (left ++ right))
  legal-finished items x phase reply l m =
      legal_with opening (history items (left ++ right)) (entry_of o x phase reply)
      (legal-without items l m.no_act, may_end-idle opening (history items (left ++ right)) (entry_of o x phase reply) m.end (AllPairs-middle OfOthers of_others-turned left o right l.one_open) m.allowed)
