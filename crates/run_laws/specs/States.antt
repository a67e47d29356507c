-- What a desk has of its processes' locks is what they were told.
use Rattle.std.specs.Prelude.{◌≡◌, ℕ, true, List, length}
use Rattle.uid_names.specs.Names.{ObjectName}
use Rattle.dom_history.specs.declared.deed.Deed.{Deed}
use Rattle.dom_history.specs.Locks.{state, not_free}
use Rattle.dom_history.specs.Objects.{is_node}
use Rattle.dom_history.specs.StoreEffects.{own}
use Rattle.fault_handler.specs.Desks.{entries_of, state_of}
use Rattle.fault_handler.specs.Invariant.{IsProc}
use Rattle.node_runs.specs.Setups.{Setup}
use Rattle.node_runs.specs.Runs.{World}
use Rattle.run_laws.specs.DecidedReplies.{proc_at}
use Rattle.run_laws.specs.NotedDeeds.{noted_deeds}

-- what a process was told
abbrev pub told_to : World → ℕ → ℕ → List Deed
told_to w n p = own (proc_at n p) (noted_deeds w.trace)

-- its lock states, and how many objects it is not Free on
pub record AreStatesTold (s : Setup) (w : World) : Type 0 where
  pub states : (n p : ℕ) → is_node s.opening n ≡ true → IsProc p → (u : ObjectName) → state u (told_to w n p) ≡ state_of (w.nodes n).desk p u
  pub counts : (n p : ℕ) → is_node s.opening n ≡ true → IsProc p → length (not_free (told_to w n p)) ≡ length (entries_of (w.nodes n).desk p)
