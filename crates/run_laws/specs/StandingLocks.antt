-- What a home would do on the requests of a process that keeps a lock, and that keepers do not clash.
use Rattle.std.specs.Prelude.{◌≡◌, ℕ, true, false, is_some, Some}
use Rattle.uid_names.specs.Names.{ObjectName, same_proc}
use Rattle.uid_names.specs.Modes.{mode_writes, modes_clash}
use Rattle.uid_names.specs.declared.mode.Mode.{Mode}
use Rattle.dom_history.specs.declared.deed.LockState.TheVariants.{Held}
use Rattle.object_store.specs.HomeStates.{attr_of}
use Rattle.page_server.specs.Decisions.{is_granted}
use Rattle.fault_handler.specs.declared.entries.LockEntry.{LockEntry}
use Rattle.fault_handler.specs.Entries.{entry_of, keeps}
use Rattle.fault_handler.specs.Desks.{entries_of}
use Rattle.fault_handler.specs.Invariant.{IsProc}
use Rattle.node_runs.specs.Runs.{World}
use Rattle.run_laws.specs.DecidedReplies.{proc_at}

-- the process keeps the object in this mode, under this grant
pub record IsKeeping (w : World) (n p : ℕ) (u : ObjectName) (m : Mode) (grant : ℕ) : Type 0 where
  pub owner : IsProc p
  pub entry : LockEntry
  pub found : entry_of u (entries_of (w.nodes n).desk p) ≡ Some entry
  pub kept : keeps (Some entry) ≡ true
  pub state : entry.state ≡ Held m
  pub number : entry.grant ≡ grant

pub record AreStanding (w : World) : Type 0 where
  -- the object is there
  pub there : (n p : ℕ) (u : ObjectName) (m : Mode) (grant : ℕ) → IsKeeping w n p u m grant → is_some (attr_of (w.nodes u.home).side.home u) ≡ true
  -- where the mode writes, the grant is one under which a process of the node writes
  pub granted : (n p : ℕ) (u : ObjectName) (m : Mode) (grant : ℕ) → IsKeeping w n p u m grant → mode_writes m ≡ true → is_granted (w.nodes u.home).side.locks grant u n ≡ true
  -- two processes that keep an object keep it in modes that go together
  pub apart : (a p b q : ℕ) (u : ObjectName) (m k : Mode) (grant number : ℕ) → IsKeeping w a p u m grant → IsKeeping w b q u k number → same_proc (proc_at a p) (proc_at b q) ≡ false
      → modes_clash (proc_at a p) m (proc_at b q) k ≡ false
