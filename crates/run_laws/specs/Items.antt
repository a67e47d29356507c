-- What an object holds: its pages and its length. The length is one more item beside the pages.
use Rattle.std.specs.Prelude.{ℕ, ◌==◌, Bool, false, true, Option, Some, None, List}
use Rattle.std.specs.Option.{option_map}
use Rattle.uid_names.specs.Names.{ObjectName}
use Rattle.page_cache.specs.Caches.{Resident, page_at}
use Rattle.page_store.specs.Volumes.{page_of, zeros}
use Rattle.object_store.specs.declared.attributes.Attr.{Attr}
use Rattle.object_store.specs.HomeStates.{HomeState, attr_of}
use Rattle.ring_messages.specs.Bodies.{Ask}
use Rattle.fault_handler.specs.declared.lengths.Known.{Known}
use Rattle.fault_handler.specs.Lengths.{known_of, is_changed}
use Rattle.fault_handler.specs.Desks.{DeskState}
use Rattle.fault_handler.specs.Invariant.{is_dirty}

pub data Item : Type 0 where
  Page : (k : ℕ) → Item
  Size : Item

pub data Value : Type 0 where
  Bytes : (bytes : List ℕ) → Value
  Length : (n : ℕ) → Value

abbrev pub same_item : Item → Item → Bool
same_item (Item.Page k) (Item.Page j) = k == j
same_item Item.Size Item.Size = true
same_item x y = false

-- of an object of which nothing was written
abbrev pub blank : Item → Value
blank (Item.Page k) = Value.Bytes zeros
blank Item.Size = Value.Length 0

-- what a desk has of an item: a resident page, or a known length
abbrev pub page_value : Resident → Value
page_value r = Value.Bytes r.bytes

abbrev pub known_value : Known → Value
known_value k = Value.Length k.length

abbrev pub desk_value : DeskState → ObjectName → Item → Option Value
desk_value d u (Item.Page k) = option_map page_value (page_at d.cache.pages u k)
desk_value d u Item.Size = option_map known_value (known_of u d.known)

-- whether it was changed at the desk, and its home did not take that yet; what is not there is clean
abbrev pub is_dirty_at : DeskState → ObjectName → Item → Bool
is_dirty_at d u (Item.Page k) = is_dirty (page_at d.cache.pages u k)
is_dirty_at d u Item.Size = is_changed (known_of u d.known)

abbrev pub attr_length : Option Attr → ℕ
attr_length None = 0
attr_length (Some attr) = attr.length

-- what the home has of it
abbrev pub home_value : HomeState → ObjectName → Item → Value
home_value home u (Item.Page k) = Value.Bytes (page_of home.pages u.counter k)
home_value home u Item.Size = Value.Length (attr_length (attr_of home u))

-- a write that a request asks for: under a grant, on a stamp
pub record Write : Type 0 where
  pub uid : ObjectName
  pub item : Item
  pub value : Value
  pub grant : ℕ
  pub base : ℕ

abbrev pub write_of : Ask → Option Write
write_of (Ask.PageOut u k grant base bytes) = Some (record { uid = u; item = Item.Page k; value = Value.Bytes bytes; grant = grant; base = base })
write_of (Ask.AttrOut u n grant base) = Some (record { uid = u; item = Item.Size; value = Value.Length n; grant = grant; base = base })
write_of ask = None
