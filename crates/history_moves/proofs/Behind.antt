-- What stands behind a place stays legal when the past changes.
use Rattle.std.proofs.Common.{◌≡◌, false, List, [], ◌∷◌, ◌++◌, ap, inl, inr}
use Rattle.std.specs.Prelude.{All, if◌then◌else◌}
use Rattle.std.proofs.lemmas.List.Elements.{All-head, All-tail, All-append}
use Rattle.uid_names.specs.Names.{ProcName, same_proc}
use Rattle.uid_names.specs.Openings.{Start}
use Rattle.dom_history.specs.declared.deed.Deed.{Deed}
use Rattle.dom_history.specs.StoreEffects.{store_effects, store_effect, own}
use Rattle.dom_history.specs.Histories.{Item, Answered, Acted, Act, Pending, deeds, deed_of, told, entries}
use Rattle.dom_history.specs.Legal.{AreLegal, Belongs, IsInOrder, IsEarlier, IsLeftOpen}
use Rattle.history_moves.specs.Behind.{IsAlikeBut, MayStay}
use Rattle.history_moves.proofs.Lists.{All-left, All-right, SomeOf-either, SomeOf-left, SomeOf-right}

module _ (p : ProcName) (old new : List Item) (alike : IsAlikeBut p old new) where
  -- the same was done, with what stands behind
  pub store_effects-behind : (behind : List Item) → store_effects (deeds (behind ++ new)) ≡ store_effects (deeds (behind ++ old))
  store_effects-behind [] = alike.done
  store_effects-behind (i ∷ behind) = ap (λ es. store_effect (deed_of i).proc (deed_of i).op (deed_of i).reply ++ es) (store_effects-behind behind)

  -- others were told the same
  pub heard-behind : (q : ProcName) → same_proc q p ≡ false → (behind : List Item) → own q (told (entries (behind ++ new))) ≡ own q (told (entries (behind ++ old)))
  heard-behind q other [] = alike.heard q other
  heard-behind q other (Answered f ∷ behind) =
      ap (λ (ds : List Deed). if same_proc f.proc q then record { proc = f.proc; op = f.op; reply = f.reply } ∷ ds else ds) (heard-behind q other behind)
  heard-behind q other (Acted a ∷ behind) = heard-behind q other behind

  module _ (opening : Start) (pending open_now : List Pending) where
    -- an act behind has its operation still
    belongs-behind : (a : Act) (behind : List Item) → (Belongs pending old a → Belongs open_now new a) → Belongs pending (behind ++ old) a → Belongs open_now (behind ++ new) a
    belongs-behind a behind still belongs = elim belongs [
      | inl left_open ↦ elim (SomeOf-either (IsLeftOpen a.begun a.deed.proc a.deed.op) behind old left_open) [
        | inl here ↦ inl (SomeOf-left (IsLeftOpen a.begun a.deed.proc a.deed.op) behind new here)
        | inr there ↦ lifted (still (inl there))
      ]
      | inr is_open ↦ lifted (still (inr is_open))
    ]
      where
        lifted : Belongs open_now new a → Belongs open_now (behind ++ new) a
        lifted (inl there) = inl (SomeOf-right (IsLeftOpen a.begun a.deed.proc a.deed.op) behind new there)
        lifted (inr is_open) = inr is_open

    -- and its order
    in_order-behind : (a : Act) (behind : List Item) → (IsInOrder opening old a → IsInOrder opening new a) → IsInOrder opening (behind ++ old) a → IsInOrder opening (behind ++ new) a
    in_order-behind a behind still in_order =
        All-append (IsEarlier opening a) behind new (All-left (IsEarlier opening a) behind old in_order) (still (All-right (IsEarlier opening a) behind old in_order))

    -- all that may stay is legal still
    pub legal-behind : (behind : List Item) → All (MayStay opening p pending open_now old new) behind → AreLegal opening pending (behind ++ old) → AreLegal opening open_now new → AreLegal opening open_now (behind ++ new)
    legal-behind [] stay legal here = here
    legal-behind (Answered f ∷ behind) stay legal here = (
      rw (store_effects-behind behind, heard-behind f.proc (All-head (MayStay opening p pending open_now old new) (Answered f) behind stay) behind) legal.0,
      legal-behind behind (All-tail (MayStay opening p pending open_now old new) (Answered f) behind stay) legal.1 here,
    )
    legal-behind (Acted a ∷ behind) stay legal here =
        let mine = All-head (MayStay opening p pending open_now old new) (Acted a) behind stay in (
          record {
            may_act = rw (store_effects-behind behind) legal.0.may_act;
            belongs = belongs-behind a behind mine.0 legal.0.belongs;
            begun_before = legal.0.begun_before;
            in_order = in_order-behind a behind mine.1 legal.0.in_order;
          },
          legal-behind behind (All-tail (MayStay opening p pending open_now old new) (Acted a) behind stay) legal.1 here,
        )
