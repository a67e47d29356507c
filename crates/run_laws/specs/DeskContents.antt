-- What desks have of an object that is there, against what it held at its stamps. "Clean" is everything that is not dirty, also what is
-- not there. Each speaks of one item; the length is one of them.
use Rattle.std.specs.Prelude.{◌≡◌, ℕ, ◌≤◌, max, true, false, Some}
use Rattle.uid_names.specs.Names.{ObjectName}
use Rattle.uid_names.specs.declared.mode.Mode.{Mode}
use Rattle.version_stamps.specs.Stamps.{stamp_of as seen_of}
use Rattle.dom_history.specs.Objects.{is_node}
use Rattle.fault_handler.specs.Desks.{base_of}
use Rattle.node_runs.specs.Setups.{Setup}
use Rattle.node_runs.specs.Runs.{World}
use Rattle.fault_handler.specs.Invariant.{IsProc}
use Rattle.run_laws.specs.DecidedReplies.{proc_at}
use Rattle.run_laws.specs.LiveLocks.{row_at, locks_of}
use Rattle.run_laws.specs.Items.{Item, Value, desk_value, is_dirty_at}
use Rattle.run_laws.specs.Contents.{content, since}
use Rattle.run_laws.specs.Stamps.{IsThere, stamp_at}
use Rattle.run_laws.specs.Writes.{MayStore, IsAcknowledged}

-- acknowledged: what the home took stays, as long as the process does not know; and each write of its node that may still be taken carries the same
pub record IsKeptSince (w : World) (n : ℕ) (u : ObjectName) (x : Item) (v : Value) (s : ℕ) : Type 0 where
  pub stays : (t : ℕ) → s ≤ t → t ≤ stamp_at w u → content w.trace u t x ≡ v
  pub alike : (q : ℕ) (other : Value) → MayStore w n q u x other → other ≡ v

abbrev pub AreAcknowledged : Setup → World → Type 0
AreAcknowledged s w = (n p : ℕ) → is_node s.opening n ≡ true → (u : ObjectName) (x : Item) (v : Value) (t : ℕ) → IsThere w u → IsAcknowledged w n p u x v t → IsKeptSince w n u x v t

-- harmless: a write that may still be taken, of what is clean at its node, carries what the home has
abbrev pub AreHarmless : Setup → World → Type 0
AreHarmless s w = (n p : ℕ) → is_node s.opening n ≡ true → (u : ObjectName) (x : Item) (v : Value) → IsThere w u → is_dirty_at (w.nodes n).desk u x ≡ false → MayStore w n p u x v → v ≡ content w.trace u (stamp_at w u) x

-- quiet: where a process has a lock at the home, what is clean at its node did not change since the grant, or since the stamp that the node has seen
abbrev pub AreQuiet : Setup → World → Type 0
AreQuiet s w = (n p : ℕ) → is_node s.opening n ≡ true → IsProc p → (u : ObjectName) (x : Item) (m : Mode) (grant : ℕ) → IsThere w u → row_at (locks_of w) (proc_at n p) u ≡ Some (m, grant) → is_dirty_at (w.nodes n).desk u x ≡ false
    → (t : ℕ) → max (since w.trace u grant) (base_of (w.nodes n).desk.seen u) ≤ t → t ≤ stamp_at w u → content w.trace u t x ≡ content w.trace u (stamp_at w u) x

-- clean is as seen: whether anybody holds the object or not
abbrev pub AreAsSeen : Setup → World → Type 0
AreAsSeen s w = (n : ℕ) → is_node s.opening n ≡ true → (u : ObjectName) (x : Item) (v : Value) (t : ℕ) → IsThere w u → desk_value (w.nodes n).desk u x ≡ Some v → is_dirty_at (w.nodes n).desk u x ≡ false
    → seen_of u (w.nodes n).desk.seen ≡ Some t → v ≡ content w.trace u t x

pub record AreContents (s : Setup) (w : World) : Type 0 where
  pub acknowledged : AreAcknowledged s w
  pub harmless : AreHarmless s w
  pub quiet : AreQuiet s w
  pub as_seen : AreAsSeen s w
