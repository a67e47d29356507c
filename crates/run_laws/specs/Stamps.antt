-- That stamps are in order: what was told, seen, or is the base of a write is not above the stamp of an object, as long as that is there.
use Rattle.std.specs.Prelude.{◌≡◌, ℕ, ◌≤◌, true, is_some, Option, Some, IfSome}
use Rattle.uid_names.specs.Names.{ObjectName}
use Rattle.uid_names.specs.declared.mode.Mode.{Mode}
use Rattle.version_stamps.specs.Stamps.{stamp_of as seen_of}
use Rattle.dom_history.specs.Objects.{is_node}
use Rattle.object_store.specs.HomeStates.{HomeState, attr_of}
use Rattle.object_store.specs.Rules.{stamp_of}
use Rattle.ring_messages.specs.Bodies.{Ask, Answer}
use Rattle.fault_handler.specs.Desks.{base_of}
use Rattle.fault_handler.specs.Invariant.{IsProc}
use Rattle.node_runs.specs.Setups.{Setup}
use Rattle.node_runs.specs.Notes.{Note}
use Rattle.node_runs.specs.Runs.{Noted, World}
use Rattle.node_runs.specs.CallsKeep.{EachOf, IsCallAt}
use Rattle.run_laws.specs.StandingLocks.{IsKeeping}
use Rattle.run_laws.specs.Items.{Item, Value, Write, write_of, home_value}
use Rattle.run_laws.specs.Contents.{content, since}

abbrev pub home_at : World → ObjectName → HomeState
home_at w u = (w.nodes u.home).side.home

abbrev pub stamp_at : World → ObjectName → ℕ
stamp_at w u = stamp_of (attr_of (home_at w u) u)

-- the object is there
abbrev pub IsThere : World → ObjectName → Type 0
IsThere w u = is_some (attr_of (home_at w u) u) ≡ true

-- the stamp of an object that is there: from 1, and not above the home's. The name of one that is gone, or was never made, is not given again
pub record IsStampOf (w : World) (u : ObjectName) (s : ℕ) : Type 0 where
  pub given : u.counter ≤ (home_at w u).greatest
  pub least : 1 ≤ s
  pub most : IsThere w u → s ≤ stamp_at w u

-- what an answer tells of an object at a stamp is what that held there
pub record IsItemTold (w : World) (u : ObjectName) (s : ℕ) (x : Item) (v : Value) : Type 0 where
  pub stamp : IsStampOf w u s
  pub value : IsThere w u → v ≡ content w.trace u s x

abbrev pub TellsWritten : World → Option Write → Answer → Type 0
TellsWritten w (Some written) (Answer.Stored s) = IsStampOf w written.uid s
TellsWritten w (Some written) (Answer.Stale s) = IsStampOf w written.uid s
TellsWritten w written answer = Unit {0}

abbrev pub TellsItem : World → Ask → Answer → Type 0
TellsItem w (Ask.PageIn u k) (Answer.Page s bytes) = IsItemTold w u s (Item.Page k) (Value.Bytes bytes)
TellsItem w (Ask.Lock u m) (Answer.Granted grant s kind room n) = IsItemTold w u s Item.Size (Value.Length n)
TellsItem w ask answer = TellsWritten w (write_of ask) answer

abbrev pub TellsStamp : World → Note → Type 0
TellsStamp w (Note.Decided p number ask answer) = TellsItem w ask answer
TellsStamp w note = Unit {0}

-- the base of a write: not above the stamp of an object that is there, and of a name that was given
pub record IsBaseOf (w : World) (written : Write) : Type 0 where
  pub given : written.uid.counter ≤ (home_at w written.uid).greatest
  pub most : IsThere w written.uid → written.base ≤ stamp_at w written.uid

pub record AreStamped (s : Setup) (w : World) : Type 0 where
  -- a home has what its object holds at its stamp
  pub homes : (u : ObjectName) → is_node s.opening u.home ≡ true → IsThere w u → (x : Item) → home_value (home_at w u) u x ≡ content w.trace u (stamp_at w u) x
  pub told : EachOf (λ (j : Noted). TellsStamp w j.note) w.trace
  -- each write that was ever asked for
  pub bases : (n p : ℕ) → is_node s.opening n ≡ true → IsProc p → (number home : ℕ) (ask : Ask) (written : Write) → IsCallAt (w.calls n p) number home ask → write_of ask ≡ Some written → IsBaseOf w written
  pub seen : (n : ℕ) → is_node s.opening n ≡ true → (u : ObjectName) → IfSome (seen_of u (w.nodes n).desk.seen) (IsStampOf w u)
  -- a node that keeps an object has seen the stamp that was told with the grant
  pub kept : (n p : ℕ) → is_node s.opening n ≡ true → (u : ObjectName) (m : Mode) (grant : ℕ) → IsKeeping w n p u m grant → since w.trace u grant ≤ base_of (w.nodes n).desk.seen u
