-- What one home decides for one process stands in the order of the operations.
use Rattle.std.proofs.Common.{◌≡◌, List, [], ◌∷◌, ◌++◌, ap, subst}
use Rattle.std.specs.Prelude.{All, IsTrue}
use Rattle.std.proofs.lemmas.List.Elements.{All-head, All-tail}
use Rattle.uid_names.specs.Openings.{Start}
use Rattle.uid_names.specs.declared.ids.Place.{Place}
use Rattle.dom_history.specs.StoreEffects.{store_effects}
use Rattle.dom_history.specs.Histories.{Item, Answered, Acted, Act, Pending, History, deeds, deed_of, place_of, place_lt, IsRising}
use Rattle.dom_history.specs.Legal.{AreLegal, IsLegal, IsLegalItem, IsEarlier, IsAtHomeOf, begun_of, home_of}
use Rattle.dom_history.proofs.Places.{place_lt-trans, place_lt-not_self}
use Rattle.dom_history.proofs.Items.{act_of_home}

-- what holds of each holds of one behind others
at_later : {X : Type 0} (P : X → Type 0) (newer : List X) (x : X) (older : List X) → All P (newer ++ x ∷ older) → P x
at_later P [] x older h = All-head P x older h
at_later P (y ∷ newer) x older h = at_later P newer x older (All-tail P y (newer ++ x ∷ older) h)

-- an item is legal over what stands before it, and rises above it
rising_at : (newer : List Item) (i : Item) (older : List Item) → IsRising (newer ++ i ∷ older) → IsRising (i ∷ older)
rising_at [] i older h = h
rising_at (j ∷ newer) i older h = rising_at newer i older h.1

-- an item further back is legal too
legal_at : (opening : Start) (pending : List Pending) (newer : List Item) (i : Item) (older : List Item) → AreLegal opening pending (newer ++ i ∷ older) → AreLegal opening pending (i ∷ older)
legal_at opening pending [] i older h = h
legal_at opening pending (j ∷ newer) i older h = legal_at opening pending newer i older h.1

-- each operation began at its item's place or before
module _ (opening : Start) (pending : List Pending) where
  -- an operation began before all that stands above its item
  before_entry : (i : Item) (older : List Item) → IsLegalItem opening pending older i → (x : Place) → IsTrue (place_lt (place_of i) x) → IsTrue (place_lt (begun_of i) x)
  before_entry (Answered e) older h x below = below
  before_entry (Acted a) older h x below = place_lt-trans a.begun a.place x h.begun_before below

  -- of two items for one process at one home the earlier is of the earlier operation
  decided_in_order : (middle older : List Item) (i j : Item) → IsRising (j ∷ (middle ++ i ∷ older)) → AreLegal opening pending (j ∷ (middle ++ i ∷ older)) → IsAtHomeOf opening (deed_of i) (deed_of j) → IsTrue (place_lt (begun_of i) (begun_of j))
  decided_in_order middle older i (Answered e) rising legal same =
      before_entry i older (legal_at opening pending middle i older legal.1).0 e.place
      (at_later (λ k. IsTrue (place_lt (place_of k) e.place)) middle i older rising.0)
  decided_in_order middle older i (Acted a) rising legal same = at_later (IsEarlier opening a) middle i older legal.0.in_order same

-- and so it is anywhere in a history
pub decided_in_history : (opening : Start) (h : History) → IsLegal opening h → (newer middle older : List Item) (i j : Item) → h.items ≡ newer ++ j ∷ (middle ++ i ∷ older) → IsAtHomeOf opening (deed_of i) (deed_of j) → IsTrue (place_lt (begun_of i) (begun_of j))
decided_in_history opening h l newer middle older i j is same =
    decided_in_order opening h.open_ops middle older i j
    (rising_at newer j (middle ++ i ∷ older) (subst IsRising is l.rising))
    (legal_at opening h.open_ops newer j (middle ++ i ∷ older) (subst (AreLegal opening h.open_ops) is l.legal))
    same

-- no operation acts twice
pub acts_apart : (opening : Start) (h : History) → IsLegal opening h → (newer middle older : List Item) (a b : Act) → h.items ≡ newer ++ Acted b ∷ (middle ++ Acted a ∷ older) → a.begun ≡ b.begun → a.deed.proc ≡ b.deed.proc → a.deed.op ≡ b.deed.op → ⊥
acts_apart opening h l newer middle older a b is begun proc op =
    let older_act = legal_at opening h.open_ops middle (Acted a) older (legal_at opening h.open_ops newer (Acted b) (middle ++ Acted a ∷ older) (subst (AreLegal opening h.open_ops) is l.legal)).1 in
    let decided = act_of_home opening (store_effects (deeds older)) a.deed.proc a.deed.op a.deed.reply older_act.0.may_act in
    let earlier = decided_in_history opening h l newer middle older (Acted a) (Acted b) is (proc, ap home_of op, decided) in
    place_lt-not_self b.begun (rw begun at earlier)
