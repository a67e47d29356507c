-- What is left is at home: of a process that does not keep an object, the home has the bytes whose last store is its, and a length that is not
-- below its stores; and so has each write of the object that may still be taken.
use Rattle.std.specs.Prelude.{◌≡◌, ℕ, ◌+◌, ◌*◌, ◌<◌, ◌≤◌, true, false, Some, List, slice_index}
use Rattle.uid_names.specs.Names.{ProcName, ObjectName}
use Rattle.uid_names.specs.Openings.{Start}
use Rattle.uid_names.specs.declared.limits.TheConstants.{PAGE_BYTES}
use Rattle.dom_history.specs.StoreEffects.{StoreEffect}
use Rattle.dom_history.specs.Bytes.{byte, last_storer, end_of}
use Rattle.dom_history.specs.Objects.{is_node}
use Rattle.fault_handler.specs.Entries.{keeps}
use Rattle.fault_handler.specs.Desks.{entry_at}
use Rattle.fault_handler.specs.Invariant.{IsProc}
use Rattle.node_runs.specs.Setups.{Setup}
use Rattle.node_runs.specs.Runs.{World}
use Rattle.run_laws.specs.NotedEffects.{noted_past}
use Rattle.run_laws.specs.Items.{Item, Value, home_value}
use Rattle.run_laws.specs.Stamps.{IsThere, home_at}
use Rattle.run_laws.specs.Writes.{MayStore}

-- a page has the bytes whose last store is p's, as the store has them; a length is not below the ends of p's stores
abbrev pub HasOwn : Start → List StoreEffect → ProcName → ObjectName → Item → Value → Type 0
HasOwn opening past p u (Item.Page k) (Value.Bytes bytes) = (i : ℕ) → i < PAGE_BYTES → last_storer opening past u (PAGE_BYTES * k + i) ≡ Some p → slice_index bytes i ≡ byte opening past u (PAGE_BYTES * k + i)
HasOwn opening past p u Item.Size (Value.Length n) = end_of opening past p u ≤ n
HasOwn opening past p u x v = ⊥

-- the process does not keep the object: it is Free on it, or unsettled, or has sent its release or its removal
abbrev pub IsUnkept : World → ProcName → ObjectName → Type 0
IsUnkept w p u = keeps (entry_at (w.nodes p.node).desk.entries p.number u) ≡ false

-- one item: what the home has, and each write of it that may still be taken, of any process
pub record IsLeft (s : Setup) (w : World) (p : ProcName) (u : ObjectName) (x : Item) : Type 0 where
  pub home : HasOwn s.opening (noted_past w.trace) p u x (home_value (home_at w u) u x)
  pub late : (n q : ℕ) (v : Value) → is_node s.opening n ≡ true → MayStore w n q u x v → HasOwn s.opening (noted_past w.trace) p u x v

abbrev pub AreLeft : Setup → World → Type 0
AreLeft s w = (p : ProcName) → is_node s.opening p.node ≡ true → IsProc p.number → (u : ObjectName) (x : Item) → is_node s.opening u.home ≡ true → IsThere w u → IsUnkept w p u → IsLeft s w p u x
