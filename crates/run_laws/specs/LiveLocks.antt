-- A lock that is kept stands at its home, and no request that may still be decided is about it.
use Rattle.std.specs.Prelude.{◌≡◌, ℕ, ◌<◌, true, false, Option, Some, List, length}
use Rattle.uid_names.specs.Names.{ProcName, ObjectName}
use Rattle.uid_names.specs.Modes.{mode_removes}
use Rattle.uid_names.specs.declared.mode.Mode.{Mode}
use Rattle.uid_names.specs.declared.mode.ObjKind.{ObjKind}
use Rattle.dom_history.specs.declared.deed.LockState.TheVariants.{Held}
use Rattle.lock_manager.specs.Grants.{grant_of, held_in}
use Rattle.lock_manager.specs.Tables.{Table}
use Rattle.call_once.specs.Calls.{last_of}
use Rattle.ring_messages.specs.Bodies.{Ask, Answer}
use Rattle.fault_handler.specs.declared.entries.LockEntry.{LockEntry}
use Rattle.fault_handler.specs.Entries.{entry_of, keeps}
use Rattle.fault_handler.specs.Desks.{entries_of}
use Rattle.fault_handler.specs.Invariant.{IsProc}
use Rattle.node_runs.specs.NodeStates.{Asked}
use Rattle.node_runs.specs.Runs.{Noted, World}
use Rattle.node_runs.specs.CallsKeep.{IsCallAt}
use Rattle.run_laws.specs.DecidedReplies.{proc_at, WasAnswered}

-- a request about the lock of u
abbrev pub IsAbout : ObjectName → Ask → Type 0
IsAbout u (Ask.Lock v m) = v ≡ u
IsAbout u (Ask.Unlock v) = v ≡ u
IsAbout u (Ask.Remove v) = v ≡ u
IsAbout u ask = ⊥

-- the mode and the grant of a process on u at its home, by the lock tables of the homes
abbrev pub row_at : (ℕ → Table) → ProcName → ObjectName → Option (Mode × ℕ)
row_at locks p u = held_in (grant_of p u (locks u.home).grants)

-- a removal that may still be decided: its row is there, in a mode that removes, and no other request about the object may be
-- decided. What a home has served of the process is the number of its last decision
pub record IsLeaving (locks : ℕ → Table) (served : ℕ → ℕ) (p : ProcName) (calls : List Asked) (u : ObjectName) : Type 0 where
  pub mode : Mode
  pub grant : ℕ
  pub removes : mode_removes mode ≡ true
  pub row : row_at locks p u ≡ Some (mode, grant)
  pub alone : (k to : ℕ) (ask : Ask) → IsCallAt calls k to ask → IsAbout u ask → served u.home < k → k ≡ length calls

-- the lock entries of a process, and its calls, against the homes
pub record IsLive (locks : ℕ → Table) (served : ℕ → ℕ) (notes : List Noted) (p : ProcName) (calls : List Asked) (entries : List LockEntry) : Type 0 where
  -- a lock that is Held, and whose release or removal was not sent, has its row with its grant
  pub row : (u : ObjectName) (e : LockEntry) (m : Mode) → entry_of u entries ≡ Some e → keeps (Some e) ≡ true → e.state ≡ Held m → row_at locks p u ≡ Some (m, e.grant)
  -- a request about it that may still be decided is of none that is kept
  pub late : (k to : ℕ) (u : ObjectName) (ask : Ask) → IsCallAt calls k to ask → IsAbout u ask → served u.home < k → keeps (entry_of u entries) ≡ false
  -- a grant that was decided for the last call, and may not have arrived, has its row
  pub granted : (to : ℕ) (u : ObjectName) (m : Mode) (grant stamp : ℕ) (kind : ObjKind) (room n : ℕ) → IsCallAt calls (length calls) to (Ask.Lock u m)
      → WasAnswered notes u.home p (length calls) (Answer.Granted grant stamp kind room n) → row_at locks p u ≡ Some (m, grant)
  -- the last call is a removal, which is not decided
  pub leaving : (to : ℕ) (u : ObjectName) → IsCallAt calls (length calls) to (Ask.Remove u) → served u.home < length calls → IsLeaving locks served p calls u

abbrev pub locks_of : World → ℕ → Table
locks_of w a = (w.nodes a).side.locks

abbrev pub served_of : World → ProcName → ℕ → ℕ
served_of w p a = last_of p (w.nodes a).side.served

abbrev pub AreLive : World → Type 0
AreLive w = (n p : ℕ) → IsProc p → IsLive (locks_of w) (served_of w (proc_at n p)) w.trace (proc_at n p) (w.calls n p) (entries_of (w.nodes n).desk p)
