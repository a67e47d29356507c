-- All that the plain store keeps beside its deeds. This file and those whose names begin so are for its private code
-- alone: no public clause cites them, and they decide nothing.
use Rattle.std.specs.Prelude.{◌≡◌, List, All}
use Rattle.uid_names.specs.Names.{ProcName}
use Rattle.uid_names.specs.Openings.{Start, IsStart}
use Rattle.uid_names.specs.Beginnings.{CanBegin}
use Rattle.plain_store.specs.declared.kept.Kept.{Kept}
use Rattle.plain_store.specs.declared.maps.MapTable.{MapTable}
use Rattle.plain_store.specs.declared.pages.Pages.{Pages}
use Rattle.plain_store.specs.declared.lengths.Lengths.{Lengths}
use Rattle.dom_history.specs.declared.op.Reply.{Reply}
use Rattle.dom_history.specs.declared.deed.Deed.{Deed}
use Rattle.dom_history.specs.StoreEffects.{StoreEffect, store_effects}
use Rattle.dom_history.specs.Ranges.{IsOp}
use Rattle.dom_history.specs.Replies.{Before, before_of}
use Rattle.dom_history.specs.Runs.{AreAnswered}
use Rattle.plain_store.specs.KeptObjects.{HoldObjects, HaveRoom as HaveObjectRoom, with_deed}
use Rattle.plain_store.specs.KeptLocks.{HoldLocks, HaveRoom as HaveLockRoom}
use Rattle.plain_store.specs.KeptMaps.{HoldMaps, HasRoom as HasMapRoom}
use Rattle.plain_store.specs.KeptPages.{HoldBytes}
use Rattle.plain_store.specs.KeptLengths.{HoldLengths, HasLengthRoom}

-- what these deeds, the newest first, left of an opening
pub record HoldDeeds (kept : Kept) (opening : Start) (deeds : List Deed) : Type 0 where
  pub objects : HoldObjects kept.objects opening (store_effects deeds)
  pub locks : HoldLocks kept.locks deeds
  pub maps : HoldMaps kept.maps opening (store_effects deeds)
  pub bytes : HoldBytes kept.pages opening (store_effects deeds)
  pub lengths : HoldLengths kept.lengths opening (store_effects deeds)

-- what a rule gives over what stood before, whatever deeds left this
abbrev pub IsReplyBy : Kept → ProcName → (Before → Reply) → Reply → Type 0
IsReplyBy kept p rule reply = (opening : Start) → (deeds : List Deed) → HoldDeeds kept opening deeds → reply ≡ rule (before_of opening deeds p)

-- pages that hold what was stored hold it after one deed more
abbrev pub TakeBytes : MapTable → Deed → Pages → Pages → Type 0
TakeBytes maps d old new = (opening : Start) → (past : List StoreEffect) → HoldMaps maps opening past → HoldBytes old opening past → HoldBytes new opening (with_deed d past)

-- and so do lengths
abbrev pub TakeLengths : MapTable → Deed → Lengths → Lengths → Type 0
TakeLengths maps d old new = (opening : Start) → (past : List StoreEffect) → HoldMaps maps opening past → HoldLengths old opening past → HoldLengths new opening (with_deed d past)

-- there is room for one deed more
pub record HaveRooms (kept : Kept) : Type 0 where
  pub objects : HaveObjectRoom kept.objects
  pub locks : HaveLockRoom kept.locks
  pub maps : HasMapRoom kept.maps
  pub lengths : HasLengthRoom kept.lengths

-- what each plain store keeps: it could begin, each deed was answered as one store answers it,
-- and it holds what the deeds left; the newest deed is first
pub record IsPlain (opening : Start) (deeds : List Deed) (kept : Kept) : Type 0 where
  pub start : IsStart opening
  pub begun : CanBegin opening
  pub ranges : All (λ d. IsOp d.op) deeds
  pub answered : AreAnswered opening deeds
  pub held : HoldDeeds kept opening deeds
