-- What each home keeps.
use Rattle.std.specs.Prelude.{◌≡◌, ℕ, ◌*◌, ◌<◌, ◌≤◌, List, [], ◌∷◌, length}
use Rattle.uid_names.specs.declared.limits.TheConstants.{MAX_ROOM, VOLUME_ROOM, PAGE_BYTES}
use Rattle.page_store.specs.Volumes.{page_of, zeros}
use Rattle.object_store.specs.declared.attributes.Attr.{Attr}
use Rattle.object_store.specs.declared.attributes.ObjectRow.{ObjectRow}
use Rattle.object_store.specs.Objects.{attr_at, room_of, rooms}
use Rattle.object_store.specs.HomeStates.{HomeState}

-- the ranges of an object's attributes: room in pages, length in bytes
pub record IsAttr (attr : Attr) : Type 0 where
  pub room_low : 1 ≤ attr.room
  pub room_high : attr.room ≤ MAX_ROOM
  pub length_high : attr.length ≤ PAGE_BYTES * attr.room
  pub stamp_low : 1 ≤ attr.stamp

-- the counters rise, from above the one
abbrev pub AreCountersRising : ℕ → List ObjectRow → Type 0
AreCountersRising low [] = Unit {0}
AreCountersRising low (row ∷ rest) = (low < row.counter) × AreCountersRising row.counter rest

-- each counter is at most the greatest, and the attributes are in their ranges
abbrev pub AreRowsUpTo : ℕ → List ObjectRow → Type 0
AreRowsUpTo greatest [] = Unit {0}
AreRowsUpTo greatest (row ∷ rest) = (row.counter ≤ greatest) × IsAttr row.attr × AreRowsUpTo greatest rest

-- what each home keeps, whatever is asked of it: its rooms fit the volume, each page is whole, and a page past an
-- object's room is zeros, as is one of no object
pub record IsHome (home : HomeState) : Type 0 where
  pub rising : AreCountersRising 0 home.objects
  pub rows : AreRowsUpTo home.greatest home.objects
  pub fits : rooms home.objects ≤ VOLUME_ROOM
  pub whole : (counter page : ℕ) → length (page_of home.pages counter page) ≡ PAGE_BYTES
  pub blank : (counter page : ℕ) → room_of (attr_at home.objects counter) ≤ page → page_of home.pages counter page ≡ zeros
