-- Which locks of a node were given up: exactly those of which the release or the removal is open.
use Rattle.std.specs.Prelude.{◌≡◌, ℕ, Bool, true, false, Option, Some, None}
use Rattle.uid_names.specs.Names.{ObjectName, same_uid}
use Rattle.dom_history.specs.Locks.{is_held}
use Rattle.ring_messages.specs.Bodies.{Ask}
use Rattle.fault_handler.specs.Entries.{is_released}
use Rattle.fault_handler.specs.Desks.{entry_at, state_of}
use Rattle.fault_handler.specs.Invariant.{IsProc}
use Rattle.node_runs.specs.NodeStates.{Await, OpenOp, NodeState, proc_of}

-- whether the call gives up this object
abbrev pub gives_up : Ask → ObjectName → Bool
gives_up (Ask.Unlock v) u = same_uid v u
gives_up (Ask.Remove v) u = same_uid v u
gives_up ask u = false

abbrev pub awaits_release : Await → ObjectName → Bool
awaits_release (Await.Answer c) u = gives_up c.ask u
awaits_release (Await.Page v k) u = false

abbrev pub is_being_released : Option OpenOp → ObjectName → Bool
is_being_released None u = false
is_being_released (Some o) u = awaits_release o.awaits u

-- a lock that is Held was given up exactly where its process's open call does so
abbrev pub AreReleased : NodeState → Type 0
AreReleased n = (p : ℕ) → IsProc p → (u : ObjectName) → is_held (state_of n.desk p u) ≡ true → is_released (entry_at n.desk.entries p u) ≡ is_being_released (proc_of n p).doing u
