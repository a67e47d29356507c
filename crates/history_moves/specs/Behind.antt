-- What may stay behind a place at which the history changes.
use Rattle.std.specs.Prelude.{◌≡◌, false, List, ◌++◌, All}
use Rattle.uid_names.specs.Names.{ProcName, same_proc}
use Rattle.uid_names.specs.Openings.{Start}
use Rattle.dom_history.specs.StoreEffects.{store_effects, own}
use Rattle.dom_history.specs.Histories.{Item, Answered, Acted, Pending, deeds, told, entries}
use Rattle.dom_history.specs.Legal.{AreLegal, Belongs, IsInOrder}

-- two pasts in which the same was done, and all but p were told the same
pub record IsAlikeBut (p : ProcName) (old new : List Item) : Type 0 where
  pub done : store_effects (deeds new) ≡ store_effects (deeds old)
  pub heard : (q : ProcName) → same_proc q p ≡ false → own q (told (entries new)) ≡ own q (told (entries old))

-- an item may stay behind when the past changes: it is no entry of p; an act has its operation and its order still
abbrev pub MayStay : Start → ProcName → List Pending → List Pending → List Item → List Item → Item → Type 0
MayStay opening p pending open_now old new (Answered f) = same_proc f.proc p ≡ false
MayStay opening p pending open_now old new (Acted a) = (Belongs pending old a → Belongs open_now new a) × (IsInOrder opening old a → IsInOrder opening new a)

-- the items that may stay behind stay legal
abbrev pub StayLegal : Start → ProcName → List Pending → List Pending → List Item → List Item → Type 0
StayLegal opening p pending open_now old new =
    (behind : List Item) → All (MayStay opening p pending open_now old new) behind → AreLegal opening pending (behind ++ old) → AreLegal opening open_now new → AreLegal opening open_now (behind ++ new)
