-- The lengths that the plain store keeps, for its private code alone (see Kept).
use Rattle.std.specs.Prelude.{ℕ, ◌≡◌, ◌<◌, List, unwrap_or}
use Rattle.std.specs.HashMap.{get, spare}
use Rattle.uid_names.specs.Names.{ObjectName, same_uid}
use Rattle.uid_names.specs.Openings.{Start}
use Rattle.uid_names.specs.Rooms.{IsLength}
use Rattle.plain_store.specs.declared.lengths.Lengths.{Lengths}
use Rattle.dom_history.specs.StoreEffects.{StoreEffect}
use Rattle.dom_history.specs.Bytes.{length_of}

-- the length of an object; one that is missing is 0
abbrev pub length_in : Lengths → ObjectName → ℕ
length_in kept u = unwrap_or (get same_uid kept.ends u) 0

-- each length is what the stores left
pub record HoldLengths (kept : Lengths) (opening : Start) (past : List StoreEffect) : Type 0 where
  pub lengths : (u : ObjectName) → length_in kept u ≡ length_of opening past u

-- there is room for one length more
abbrev pub HasLengthRoom : Lengths → Type 0
HasLengthRoom kept = 0 < spare kept.ends

-- each length is one that an object can have
abbrev pub AreShort : Lengths → Type 0
AreShort kept = (u : ObjectName) → IsLength (length_in kept u)
