-- A history with one entry at its end.
use Rattle.std.proofs.Common.{List, ◌∷◌}
use Rattle.std.specs.Prelude.{All}
use Rattle.std.proofs.lemmas.List.Elements.{All-cons, All-head, All-tail}
use Rattle.uid_names.specs.Openings.{Start}
use Rattle.dom_history.specs.declared.op.Entry.{Entry}
use Rattle.dom_history.specs.Histories.{Answered, History, place_of}
use Rattle.dom_history.specs.Legal.{IsLegal, MayEnd, IsElsewhere, IsBefore, with_entry}

module _ {X Y : Type 0} (R : X → Y → Type 0) where
  -- each is so to one and to the rest
  pub each_to_both : (xs : List X) (y : Y) (ys : List Y) → All (λ x. R x y) xs → All (λ x. All (R x) ys) xs → All (λ x. All (R x) (y ∷ ys)) xs
  each_to_both xs y ys h t k d below = All-cons (R _) y ys (h k d below) (t k d below)

  -- each is so to the one
  pub each_to_head : (xs : List X) (y : Y) (ys : List Y) → All (λ x. All (R x) (y ∷ ys)) xs → All (λ x. R x y) xs
  each_to_head xs y ys h k d below = All-head (R _) y ys (h k d below)

  -- each is so to the rest
  pub each_to_tail : (xs : List X) (y : Y) (ys : List Y) → All (λ x. All (R x) (y ∷ ys)) xs → All (λ x. All (R x) ys) xs
  each_to_tail xs y ys h k d below = All-tail (R _) y ys (h k d below)

module _ (opening : Start) (h : History) (e : Entry) where
  -- a history is legal without its last entry
  pub legal_without : IsLegal opening (with_entry e h) → IsLegal opening h
  legal_without l = record {
    rising = l.rising.1;
    one_open = l.one_open;
    opens_apart = l.opens_apart;
    items_apart = each_to_tail (λ o i. IsElsewhere o (place_of i)) h.open_ops (Answered e) h.items l.items_apart;
    open_last = each_to_tail IsBefore h.open_ops (Answered e) h.items l.open_last;
    legal = l.legal.1;
  }

  -- whose reply and place are then as they must be
  pub ended_by : IsLegal opening (with_entry e h) → MayEnd opening h e
  ended_by l = record {
    allowed = l.legal.0;
    above = l.rising.0;
    apart = each_to_head (λ o i. IsElsewhere o (place_of i)) h.open_ops (Answered e) h.items l.items_apart;
    own_later = each_to_head IsBefore h.open_ops (Answered e) h.items l.open_last;
  }

  -- and an entry that may end a legal history makes a legal one
  pub legal_with : IsLegal opening h × MayEnd opening h e → IsLegal opening (with_entry e h)
  legal_with l = record {
    rising = (l.1.above, l.0.rising);
    one_open = l.0.one_open;
    opens_apart = l.0.opens_apart;
    items_apart = each_to_both (λ o i. IsElsewhere o (place_of i)) h.open_ops (Answered e) h.items l.1.apart l.0.items_apart;
    open_last = each_to_both IsBefore h.open_ops (Answered e) h.items l.1.own_later l.0.open_last;
    legal = (l.1.allowed, l.0.legal);
  }
