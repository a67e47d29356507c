-- A link fault ends an operation at its Begin; a process hears what its home refused or listed.
use Rattle.std.proofs.Common.{◌≡◌, Bool, true, false, ℕ, List, [], ◌∷◌, ◌++◌, refl, sym, ap, inl, inr}
use Rattle.std.specs.Prelude.{All, IsTrue, not, ◌⊎◌}
use Rattle.std.proofs.lemmas.List.Elements.{All-cons, All-nil, All-head, All-tail, All-weaker}
use Rattle.uid_names.specs.Names.{ProcName}
use Rattle.uid_names.specs.Openings.{Start}
use Rattle.uid_names.specs.declared.ids.Place.{Place}
use Rattle.dom_history.specs.declared.op.Op.{Op}
use Rattle.dom_history.specs.declared.op.Op.TheVariants.{New}
use Rattle.dom_history.specs.declared.op.Reply.{Reply}
use Rattle.dom_history.specs.declared.op.Reply.TheVariants.{Kept, Doubt, LinkFault}
use Rattle.dom_history.specs.StoreEffects.{store_effect}
use Rattle.dom_history.specs.Histories.{Item, Answered, Acted, Pending, place_of, place_lt, IsRising}
use Rattle.dom_history.specs.Legal.{AreLegal, IsLegal, IsElsewhere, home_of, is_of_home}
use Rattle.history_moves.specs.HistoryMoves.{history, entry_of, MayFault, MayHear, IsStillIts, IsNoActOf, IsNoneAtHome, IsLaterAct}
use Rattle.history_moves.proofs.Opens.{Elsewhere, elsewhere-turned}
use Rattle.history_moves.proofs.Lists.{AllPairs-middle}
use Rattle.history_moves.proofs.Places.{place_lt-both, place_lt-itself}
use Rattle.history_moves.proofs.PutIn.{legal-put_in, legal-before}

-- a reply of a link fault
abbrev IsFault : Reply → Type 0
IsFault reply = (reply ≡ Kept) ⊎ ((reply ≡ Doubt) ⊎ (reply ≡ LinkFault))

-- it changes nothing
pub fault-none : (p : ProcName) (op : Op) (reply : Reply) → IsFault reply → store_effect p op reply ≡ []
fault-none p op reply (inl e) = rw e (none op)
  where
    none : (op : Op) → store_effect p op Kept ≡ []
    none (New home kind room) = refl
    none _ = refl
fault-none p op reply (inr (inl e)) = rw e (none op)
  where
    none : (op : Op) → store_effect p op Doubt ≡ []
    none (New home kind room) = refl
    none _ = refl
fault-none p op reply (inr (inr e)) = rw e (none op)
  where
    none : (op : Op) → store_effect p op LinkFault ≡ []
    none (New home kind room) = refl
    none _ = refl

-- and comes from no home
fault-not_home : (opening : Start) (op : Op) (reply : Reply) → IsFault reply → is_of_home opening op reply ≡ false
fault-not_home opening op reply (inl e) = rw e (none op)
  where
    none : (op : Op) → is_of_home opening op Kept ≡ false
    none (New home kind room) = refl
    none _ = refl
fault-not_home opening op reply (inr (inl e)) = rw e (none op)
  where
    none : (op : Op) → is_of_home opening op Doubt ≡ false
    none (New home kind room) = refl
    none _ = refl
fault-not_home opening op reply (inr (inr e)) = rw e (none op)
  where
    none : (op : Op) → is_of_home opening op LinkFault ≡ false
    none (New home kind room) = refl
    none _ = refl

-- no place is before itself
not-before_itself : (x : Place) → IsTrue (not (place_lt x x))
not-before_itself x = by_test (place_lt x x) refl
  where
    by_test : (b : Bool) → place_lt x x ≡ b → not b ≡ true
    by_test true e = absurd (place_lt-itself x e)
    by_test false e = refl

-- a place above another is not before it
pub not-before_below : (x y : Place) → IsTrue (place_lt x y) → IsTrue (not (place_lt y x))
not-before_below x y below = by_test (place_lt y x) refl
  where
    by_test : (b : Bool) → place_lt y x ≡ b → not b ≡ true
    by_test true e = absurd (place_lt-both x y below e)
    by_test false e = refl

-- what stands before an item that is anywhere in a rising list
below-item : (behind : List Item) (i : Item) (before : List Item) → IsRising (behind ++ i ∷ before) → All (λ j. IsTrue (place_lt (place_of j) (place_of i))) before
below-item [] i before rising = rising.0
below-item (j ∷ behind) i before rising = below-item behind i before rising.1

module _ (opening : Start) (left right : List Pending) (o : Pending) where
  -- nothing acts before its operation began
  none-before : (before : List Item) → AreLegal opening (left ++ o ∷ right) before → All (λ i. IsTrue (place_lt (place_of i) o.begun)) before → All (IsNoActOf o) before
  none-before [] legal below = All-nil (IsNoActOf o)
  none-before (Answered e ∷ before) legal below =
      All-cons (IsNoActOf o) (Answered e) before (λ it. it) (none-before before legal.1 (All-tail (λ i. IsTrue (place_lt (place_of i) o.begun)) (Answered e) before below))
  none-before (Acted a ∷ before) legal below =
      All-cons (IsNoActOf o) (Acted a) before not_it (none-before before legal.1 (All-tail (λ i. IsTrue (place_lt (place_of i) o.begun)) (Acted a) before below))
    where
      not_it : IsNoActOf o (Acted a)
      not_it it = place_lt-both a.begun a.place legal.0.begun_before (rw (← it.0) (All-head (λ i. IsTrue (place_lt (place_of i) o.begun)) (Acted a) before below))

  module _ (phase : ℕ) (reply : Reply) (behind before : List Item) where
    -- what an act behind a link fault is
    after-fault : IsFault reply → (reply ≡ Kept → All (IsNoActOf o) behind) → All (IsStillIts o (entry_of o o.begun phase reply)) behind
    after-fault (inl e) none k d below = λ it. absurd (none e k d below it)
    after-fault (inr e) none k d below = λ it. (refl, e)

    -- a fault is of no home, so nothing is late behind it
    later-fault : IsFault reply → (i : Item) → IsLaterAct opening (entry_of o o.begun phase reply) i
    later-fault fault (Answered f) = tt
    later-fault fault (Acted a) = λ home. let e = rw (fault-not_home opening o.op reply fault) at home.2 in absurd cc

    -- a link fault ends an operation
    pub legal-faulted : IsLegal opening (history (behind ++ before) (left ++ o ∷ right)) → MayFault opening behind before o phase reply
        → IsLegal opening (history (behind ++ Answered (entry_of o o.begun phase reply) ∷ before) (left ++ right))
    legal-faulted l m = legal-put_in opening left right o o.begun phase reply before behind l (record {
      no_effect = fault-none o.proc o.op reply m.fault;
      allowed = m.allowed;
      rising = m.rising;
      not_before = not-before_itself o.begun;
      apart = All-weaker (Elsewhere o) (λ q. IsElsewhere q o.begun) (λ q h. elsewhere-turned o q h) (left ++ right) (AllPairs-middle Elsewhere elsewhere-turned left o right l.opens_apart);
      acts_behind = after-fault m.fault m.kept;
      acts_before =
          none-before before (legal-before opening (left ++ o ∷ right) behind before l.legal)
          (below-item behind (Answered (entry_of o o.begun phase reply)) before m.rising);
      in_order = λ k d below. later-fault m.fault _;
    })

    -- no act at the home is none of the operation
    none-of_it : (i : Item) → IsNoneAtHome o i → IsNoActOf o i
    none-of_it (Answered f) none = λ it. it
    none-of_it (Acted a) none = λ it. none (sym it.1) (ap home_of (sym it.2))

    -- and none that is late
    none-late : (x : Place) (i : Item) → IsNoneAtHome o i → IsLaterAct opening (entry_of o x phase reply) i
    none-late x (Answered f) none = tt
    none-late x (Acted a) none = λ home. absurd (none (sym home.0) (sym home.1))

    -- a process hears what its home said, which changed nothing
    pub legal-heard : (x : Place) → IsLegal opening (history (behind ++ before) (left ++ o ∷ right)) → MayHear opening behind before (left ++ right) o (entry_of o x phase reply)
        → IsLegal opening (history (behind ++ Answered (entry_of o x phase reply) ∷ before) (left ++ right))
    legal-heard x l m = legal-put_in opening left right o x phase reply before behind l (record {
      no_effect = m.no_effect;
      allowed = m.allowed;
      rising = m.rising;
      not_before = not-before_below o.begun x m.begun_before;
      apart = m.apart;
      acts_behind = All-weaker (IsNoneAtHome o) (IsStillIts o (entry_of o x phase reply)) (λ i none it. absurd (none-of_it i none it)) behind m.no_act_behind;
      acts_before = m.no_act_before;
      in_order = All-weaker (IsNoneAtHome o) (IsLaterAct opening (entry_of o x phase reply)) (none-late x) behind m.no_act_behind;
    })
