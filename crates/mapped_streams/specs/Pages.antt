-- Pages of objects that are mapped: how they are loaded and stored by address.
use Rattle.std.specs.Prelude.{◌≡◌, ◌<◌, ◌%◌, ◌*◌, ◌+◌, ◌-◌, ℕ, min, List, [], ◌∷◌, ◌++◌, map, take, drop}
use Rattle.std.specs.List.{range_with_len}
use Rattle.uid_names.specs.Rooms.{IsLength}
use Rattle.uid_names.specs.declared.segment.TheConstants.{SEGMENT_SIZE, SEGMENTS}
use Rattle.uid_names.specs.declared.limits.TheConstants.{PAGE_BYTES}
use Rattle.dom_history.specs.declared.op.Op.{Op}
use Rattle.dom_history.specs.declared.op.Op.TheVariants.{Load, Store}
use Rattle.dom_history.specs.declared.op.Spot.TheVariants.{Addr}
use Rattle.naming_tree.specs.Entering.{pages}
use Rattle.mapped_streams.specs.declared.mapped.Mapped.{Mapped}

-- an object as it is mapped: its length is one of objects, and it lies where mappings lie
pub record IsMapped (m : Mapped) : Type 0 where
  pub long : IsLength m.length
  pub at : m.address % SEGMENT_SIZE ≡ 0
  pub below : m.address < SEGMENTS * SEGMENT_SIZE

-- how many bytes of it lie in a page
abbrev pub bytes_in : Mapped → ℕ → ℕ
bytes_in m page = min PAGE_BYTES (m.length - page * PAGE_BYTES)

-- its pages from one on
abbrev pub pages_from : Mapped → ℕ → List ℕ
pages_from m page = range_with_len page (pages m.length - page)

-- a load of a page, as far as the object is long
abbrev pub page_load : Mapped → ℕ → Op
page_load m page = Load (Addr (m.address + page * PAGE_BYTES)) (bytes_in m page)

-- a load of each page from one on
abbrev pub loads_from : Mapped → ℕ → List Op
loads_from m page = map (page_load m) (pages_from m page)

-- a store of a page
abbrev pub page_store : Mapped → ℕ → List ℕ → Op
page_store m page bytes = Store (Addr (m.address + page * PAGE_BYTES)) bytes

-- where its bytes end
abbrev pub end_of : Mapped → ℕ
end_of m = m.address + m.length

-- how many bytes there are up to the next page border
abbrev pub room_at : ℕ → ℕ
room_at place = PAGE_BYTES - place % PAGE_BYTES

-- a store of bytes, if there are any
abbrev pub store_at : ℕ → List ℕ → List Op
store_at place [] = []
store_at place (byte ∷ bytes) = Store (Addr place) (byte ∷ bytes) ∷ []

-- the stores of a text of at most a page: up to the page border, and behind it
abbrev pub store_before : ℕ → List ℕ → List Op
store_before place text = store_at place (take (room_at place) text)

abbrev pub store_behind : ℕ → List ℕ → List Op
store_behind place text = store_at (place + room_at place) (drop (room_at place) text)

abbrev pub stores_at : ℕ → List ℕ → List Op
stores_at place text = store_before place text ++ store_behind place text
