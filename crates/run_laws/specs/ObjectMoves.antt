-- What an event of a run makes of an object: nothing, or one item of it is written at the next stamp, or it is made.
use Rattle.std.specs.Prelude.{◌≡◌, ℕ, ◌+◌, ◌<◌, if◌then◌else◌, true, is_some, Option, Some, ◌∷◌}
use Rattle.uid_names.specs.Names.{ProcName, ObjectName}
use Rattle.object_store.specs.declared.attributes.Attr.{Attr}
use Rattle.object_store.specs.HomeStates.{HomeState, attr_of}
use Rattle.object_store.specs.Rules.{has_page, has_length, stamp_of}
use Rattle.call_once.specs.Calls.{last_of}
use Rattle.ring_messages.specs.Bodies.{Ask, Answer}
use Rattle.page_server.specs.Decisions.{is_granted}
use Rattle.fault_handler.specs.Invariant.{IsProc}
use Rattle.node_runs.specs.Notes.{Note}
use Rattle.node_runs.specs.Runs.{Noted, World}
use Rattle.node_runs.specs.CallsKeep.{IsCallAt}
use Rattle.run_laws.specs.Items.{Item, Value, same_item, blank, home_value, Write, write_of}
use Rattle.run_laws.specs.Contents.{content}
use Rattle.run_laws.specs.Stamps.{home_at, stamp_at, IsThere}

-- the object has this page, or room for this length
abbrev pub HasRoom : Option Attr → Item → Value → Type 0
HasRoom attr (Item.Page k) value = has_page attr k ≡ true
HasRoom attr Item.Size (Value.Length n) = has_length attr n ≡ true
HasRoom attr Item.Size (Value.Bytes bytes) = ⊥

-- its stamp and what it holds stay
pub record IsSameObject (home new : HomeState) (u : ObjectName) : Type 0 where
  pub there : is_some (attr_of home u) ≡ true
  pub stamp : stamp_of (attr_of new u) ≡ stamp_of (attr_of home u)
  pub value : (x : Item) → home_value new u x ≡ home_value home u x

-- a write was taken that is based on its stamp: the stamp is one more, and the one item has the new value
pub record IsWritten (home new : HomeState) (u : ObjectName) (w : Write) : Type 0 where
  pub room : HasRoom (attr_of home u) w.item w.value
  pub there : is_some (attr_of home u) ≡ true
  pub still : is_some (attr_of new u) ≡ true
  pub base : w.base ≡ stamp_of (attr_of home u)
  pub stamp : stamp_of (attr_of new u) ≡ stamp_of (attr_of home u) + 1
  pub value : (x : Item) → home_value new u x ≡ (if same_item w.item x then w.value else home_value home u x)

-- the note of the decision that took the write: of a call to its home that was not decided, under a grant of the process's node
pub record IsTaking (old : World) (u : ObjectName) (w : Write) (j : Noted) : Type 0 where
  pub proc : ProcName
  pub owner : IsProc proc.number
  pub number : ℕ
  pub ask : Ask
  pub home : j.place.node ≡ u.home
  pub note : j.note ≡ Note.Decided proc number ask (Answer.Stored (stamp_at old u + 1))
  pub write : write_of ask ≡ Some w
  pub named : w.uid ≡ u
  pub call : IsCallAt (old.calls proc.node proc.number) number u.home ask
  pub undecided : last_of proc (old.nodes u.home).side.served < number
  pub granted : is_granted (old.nodes u.home).side.locks w.grant u proc.node ≡ true

-- what an object holds at its stamps stays, and itself too, as long as it is there; a write of it was taken; or it was made
pub data ObjectMove (old new : World) (u : ObjectName) : Type 0 where
  keeps : ((t : ℕ) (x : Item) → content new.trace u t x ≡ content old.trace u t x) → (IsThere new u → IsSameObject (home_at old u) (home_at new u) u) → ObjectMove old new u
  writes : (w : Write) (j : Noted) → IsTaking old u w j → new.trace ≡ j ∷ old.trace → IsWritten (home_at old u) (home_at new u) u w → ObjectMove old new u
  makes : ((t : ℕ) (x : Item) → content new.trace u t x ≡ content old.trace u t x) → (home_at old u).greatest < u.counter → stamp_at new u ≡ 1 → ((x : Item) → home_value (home_at new u) u x ≡ blank x) → ObjectMove old new u
