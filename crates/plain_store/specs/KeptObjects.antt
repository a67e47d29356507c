-- The objects that the plain store keeps, for its private code alone (see Kept).
use Rattle.std.specs.Prelude.{ℕ, ◌≡◌, ◌<◌, ◌^◌, List, ◌++◌, fold, max, vec_len, vec_capacity}
use Rattle.std.specs.HashSet.{contains, spare, HashSet}
use Rattle.std.specs.declared.hash.FoldHasher.{FoldHasher}
use Rattle.std.specs.declared.hash.BuildHasherDefault.{BuildHasherDefault}
use Rattle.uid_names.specs.Names.{ObjectName, same_uid}
use Rattle.uid_names.specs.Openings.{Start}
use Rattle.uid_names.specs.Beginnings.{at_home}
use Rattle.plain_store.specs.declared.objects.ObjectTable.{ObjectTable}
use Rattle.dom_history.specs.declared.deed.Deed.{Deed}
use Rattle.dom_history.specs.StoreEffects.{StoreEffect, store_effect}
use Rattle.dom_history.specs.Objects.{made, is_deleted}

-- the effects after one deed more
abbrev pub with_deed : Deed → List StoreEffect → List StoreEffect
with_deed d past = store_effect d.proc d.op d.reply ++ past

-- the names are of those that were deleted
abbrev pub AreDeleted : HashSet ObjectName (BuildHasherDefault FoldHasher) → List StoreEffect → Type 0
AreDeleted names past = (u : ObjectName) → contains same_uid names u ≡ is_deleted u past

-- the objects that were made, in order, and the names of those that were deleted
pub record HoldObjects (kept : ObjectTable) (opening : Start) (past : List StoreEffect) : Type 0 where
  pub made : kept.made.items ≡ made opening past
  pub deleted : AreDeleted kept.deleted past

-- there is room for one object more, and for one name
pub record HaveRoom (kept : ObjectTable) : Type 0 where
  pub object : vec_len kept.made < vec_capacity kept.made
  pub name : 0 < spare kept.deleted

-- no counter is near the last that a name can have
abbrev pub HaveSmallCounters : ObjectTable → Type 0
HaveSmallCounters kept = (home : ℕ) → fold (λ a o. max a o.uid.counter) 0 (at_home home kept.made.items) < 2 ^ 41
