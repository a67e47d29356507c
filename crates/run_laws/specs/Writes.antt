-- Which writes may still be taken, and which open write is of what the desk still has.
use Rattle.std.specs.Prelude.{◌≡◌, ℕ, ◌<◌, true, Option, Some, None}
use Rattle.uid_names.specs.Names.{ObjectName}
use Rattle.page_cache.specs.Caches.{Resident, page_at}
use Rattle.object_store.specs.HomeStates.{HomeState, attr_of}
use Rattle.object_store.specs.Rules.{has_page, has_length}
use Rattle.ring_messages.specs.Bodies.{Ask, Answer}
use Rattle.page_server.specs.Decisions.{is_granted}
use Rattle.fault_handler.specs.Lengths.{known_of, changed_length}
use Rattle.fault_handler.specs.Desks.{DeskState}
use Rattle.fault_handler.specs.Invariant.{IsProc}
use Rattle.node_runs.specs.NodeStates.{Asked, BegunOp, proc_of}
use Rattle.node_runs.specs.Dones.{asking}
use Rattle.node_runs.specs.Runs.{World}
use Rattle.node_runs.specs.CallsKeep.{IsCallAt}
use Rattle.run_laws.specs.DecidedReplies.{proc_at, WasAnswered}
use Rattle.run_laws.specs.LiveLocks.{served_of}
use Rattle.run_laws.specs.Items.{Item, Value, write_of}
use Rattle.run_laws.specs.Stamps.{home_at, stamp_at}

-- the object has this item, or room for this length
abbrev pub HasRoom : HomeState → ObjectName → Item → Value → Type 0
HasRoom home u (Item.Page k) v = has_page (attr_of home u) k ≡ true
HasRoom home u Item.Size (Value.Length n) = has_length (attr_of home u) n ≡ true
HasRoom home u Item.Size (Value.Bytes bytes) = ⊥

-- a write of a process that is not decided, and that the home would take now
pub record MayStore (w : World) (n p : ℕ) (u : ObjectName) (x : Item) (v : Value) : Type 0 where
  pub owner : IsProc p
  pub number : ℕ
  pub ask : Ask
  pub call : IsCallAt (w.calls n p) number u.home ask
  pub undecided : served_of w (proc_at n p) u.home < number
  pub grant : ℕ
  pub writes : write_of ask ≡ Some (record { uid = u; item = x; value = v; grant = grant; base = stamp_at w u })
  pub room : HasRoom (home_at w u) u x v
  pub granted : is_granted (w.nodes u.home).side.locks grant u n ≡ true

-- the page was not stored to since it was sent
abbrev pub IsStillSent : Option Resident → Type 0
IsStillSent None = ⊥
IsStillSent (Some r) = r.flags.sent ≡ true

-- the desk still has what the write carries, and it is dirty there
abbrev pub IsUnchanged : DeskState → ObjectName → Item → Value → Type 0
IsUnchanged d u (Item.Page k) v = IsStillSent (page_at d.cache.pages u k)
IsUnchanged d u Item.Size (Value.Length n) = changed_length (known_of u d.known) ≡ Some n
IsUnchanged d u Item.Size (Value.Bytes bytes) = ⊥

-- the open call of a process is a write that the home took, giving this stamp; the process does not know yet, and the desk still has
-- what it carries
pub record IsAcknowledged (w : World) (n p : ℕ) (u : ObjectName) (x : Item) (v : Value) (s : ℕ) : Type 0 where
  pub owner : IsProc p
  pub began : BegunOp
  pub open_call : Asked
  pub doing : (proc_of (w.nodes n) p).doing ≡ asking began open_call
  pub grant : ℕ
  pub base : ℕ
  pub writes : write_of open_call.ask ≡ Some (record { uid = u; item = x; value = v; grant = grant; base = base })
  pub answered : WasAnswered w.trace u.home (proc_at n p) open_call.waiting.number (Answer.Stored s)
  pub unchanged : IsUnchanged (w.nodes n).desk u x v
