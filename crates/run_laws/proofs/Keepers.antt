-- Who keeps what is dirty, and whose rows stand beside his.
use Rattle.std.proofs.Common.{◌≡◌, ◌≢◌, ℕ, Bool, true, false, List, Option, Some, None, inl, inr, refl, sym, ap, ◌∙◌, arith}
use Rattle.std.specs.Prelude.{◌&&◌, not}
use Rattle.std.proofs.lemmas.Bool.{cases_eq}
use Rattle.uid_names.specs.Names.{ProcName, ObjectName, same_proc}
use Rattle.uid_names.specs.Modes.{mode_writes}
use Rattle.uid_names.specs.declared.mode.Mode.{Mode}
use Rattle.uid_names.proofs.Codes.{writes-together}
use Rattle.uid_names.proofs.ListLemmas.{by_cases}
use Rattle.uid_names.proofs.Orders.{same_proc_is}
use Rattle.dom_history.specs.declared.deed.LockState.{LockState}
use Rattle.dom_history.specs.declared.deed.LockState.TheVariants as states
use Rattle.dom_history.specs.Locks.{is_held}
use Rattle.dom_history.specs.Replies.{may_write}
use Rattle.fault_handler.specs.declared.entries.LockEntry.{LockEntry}
use Rattle.fault_handler.specs.Entries.{keeps, keeps_writing}
use Rattle.fault_handler.specs.Desks.{DeskState, entry_at, any_writes}
use Rattle.fault_handler.specs.Invariant.{IsProc, IsDesk}
use Rattle.fault_handler.proofs.Fours.{any-of}
use Rattle.fault_handler.proofs.TransitKeeps.{dirty-writes}
use Rattle.node_runs.specs.Setups.{Setup, IsSetup}
use Rattle.node_runs.specs.NodesKeep.{IsTimely}
use Rattle.node_runs.specs.Runs.{World, Choice, world_after}
use Rattle.run_laws.specs.DecidedReplies.{proc_at}
use Rattle.run_laws.specs.StandingLocks.{IsKeeping}
use Rattle.run_laws.proofs.Standing.{standing-are}
use Rattle.run_laws.specs.Items.{Item, is_dirty_at}

-- a process that keeps an object keeps it in some mode, under some grant
pub record Keeper (w : World) (n p : ℕ) (u : ObjectName) : Type 0 where
  pub mode : Mode
  pub grant : ℕ
  pub keeping : IsKeeping w n p u mode grant

keeper-of : (w : World) (n p : ℕ) → IsProc p → (u : ObjectName) (o : Option LockEntry) → entry_at (w.nodes n).desk.entries p u ≡ o → keeps o ≡ true → Keeper w n p u
keeper-of w n p proc u None found kept = absurd (cc)
keeper-of w n p proc u (Some e) found kept = by e.state refl kept
  where
    by : (state : LockState) → e.state ≡ state → (is_held state && not e.released) ≡ true → Keeper w n p u
    by (states.Held m) is held = record { mode = m; grant = e.grant; keeping = record { owner = proc; entry = e; found = found; kept = kept; state = is; number = refl } }
    by states.Free is held = absurd (cc)
    by (states.Taking m) is held = absurd (cc)
    by (states.Releasing m) is held = absurd (cc)
    by states.Deleting is held = absurd (cc)

pub keeper : (w : World) (n p : ℕ) → IsProc p → (u : ObjectName) → keeps (entry_at (w.nodes n).desk.entries p u) ≡ true → Keeper w n p u
keeper w n p proc u kept = keeper-of w n p proc u (entry_at (w.nodes n).desk.entries p u) refl kept

-- one that writes
pub record Writer (w : World) (n : ℕ) (u : ObjectName) : Type 0 where
  pub proc : ℕ
  pub mode : Mode
  pub grant : ℕ
  pub keeping : IsKeeping w n proc u mode grant
  pub writes : mode_writes mode ≡ true

writer-of : (w : World) (n p : ℕ) → IsProc p → (u : ObjectName) (o : Option LockEntry) → entry_at (w.nodes n).desk.entries p u ≡ o → keeps_writing o ≡ true → Writer w n u
writer-of w n p proc u None found kept = absurd (cc)
writer-of w n p proc u (Some e) found kept = by e.state e.released refl refl kept
  where
    by : (state : LockState) (released : Bool) → e.state ≡ state → e.released ≡ released → (may_write state && not released) ≡ true → Writer w n u
    by (states.Held m) false is still held = record {
      proc = p;
      mode = m;
      grant = e.grant;
      keeping = record { owner = proc; entry = e; found = found; kept = ap (λ x. is_held x && not e.released) is ∙ ap (λ b. not b) still; state = is; number = refl };
      writes = left (mode_writes m) held;
    }
      where
        left : (b : Bool) → (b && true) ≡ true → b ≡ true
        left true h = refl
        left false h = h
    by (states.Held m) true is still held = absurd (right (mode_writes m) held)
      where
        right : (b : Bool) → (b && false) ≡ true → ⊥
        right true h = absurd (cc)
        right false h = absurd (cc)
    by states.Free released is still held = absurd (cc)
    by (states.Taking m) released is still held = absurd (cc)
    by (states.Releasing m) released is still held = absurd (cc)
    by states.Deleting released is still held = absurd (cc)

pub writer : (w : World) (n : ℕ) (u : ObjectName) → any_writes (w.nodes n).desk.entries u ≡ true → Writer w n u
writer w n u writes =
    let found = any-of (λ q. keeps_writing (entry_at (w.nodes n).desk.entries q u)) writes in
    writer-of w n found.0 found.1 u (entry_at (w.nodes n).desk.entries found.0 u) refl found.2

-- what is dirty is of an object that a process of the node keeps in a mode that writes
pub dirty-any : (d : DeskState) → IsDesk d → (u : ObjectName) (x : Item) → is_dirty_at d u x ≡ true → any_writes d.entries u ≡ true
dirty-any d desk u (Item.Page k) dirty = dirty-writes d 1 desk first u k dirty
  where
    first : IsProc 1
    first = (omega arith, omega arith)
dirty-any d desk u Item.Size dirty = desk.lengths u dirty

other-node : (a p b q : ℕ) → a ≢ b → same_proc (proc_at a p) (proc_at b q) ≡ false
other-node a p b q differs = by_cases (same_proc (proc_at a p) (proc_at b q)) (same_proc (proc_at a p) (proc_at b q) ≡ false)
    (λ same. absurd (differs (ap (λ (r : ProcName). r.node) (same_proc_is (proc_at a p) (proc_at b q) same)))) (λ h. h)

module _ (s : Setup) (setup : IsSetup s) (cs : List Choice) (w : World) (e : world_after s cs ≡ Some w) (timely : IsTimely w) where
  -- where a process of a node keeps an object, no other node writes it
  pub writes-alone : (n p : ℕ) (u : ObjectName) (m : Mode) (grant : ℕ) → IsKeeping w n p u m grant → (a : ℕ) → Writer w a u → a ≡ n
  writes-alone n p u m grant keeping a writes = elim (cases_eq a n) [
    | inl same ↦ same
    | inr differs ↦
        (let together = writes-together (proc_at n p) m (proc_at a writes.proc) writes.mode writes.writes
        ((standing-are s setup cs w e timely).apart n p a writes.proc u m writes.mode grant writes.grant keeping writes.keeping (other-node n p a writes.proc (λ same. differs (sym same)))) in
        sym together.1.1)
  ]
