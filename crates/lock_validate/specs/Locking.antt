-- A lock begins.
use Rattle.std.specs.Prelude.{ℕ, nat_le, Bool, true, false, length}
use Rattle.uid_names.specs.Names.{ObjectName}
use Rattle.uid_names.specs.declared.mode.Mode.{Mode}
use Rattle.dom_history.specs.declared.deed.LockState.{LockState}
use Rattle.dom_history.specs.declared.op.Reply.TheVariants.{NoObject, AlreadyHeld, Unsettled, TooMany}
use Rattle.dom_history.specs.Locks.{is_held, is_unsettled}
use Rattle.uid_names.specs.declared.limits.TheConstants.{PROCESS_LOCKS}
use Rattle.ring_messages.specs.Bodies.{Ask}
use Rattle.fault_handler.specs.Desks.{DeskState, is_node, entries_of, state_of}
use Rattle.fault_handler.specs.Outcomes.{Moved, ended}
use Rattle.fault_handler.specs.LockCalls.{LockCall}
use Rattle.lock_validate.specs.Steps.{sent}

-- whether the process is Held on the object, whether it is unsettled, whether as many of its objects as may be are not Free,
-- and whether the home is a node
abbrev pub lock_by : DeskState → ℕ → ObjectName → Mode → Bool → Bool → Bool → Bool → Moved
lock_by d p u m true unsettled full at_node = ended d AlreadyHeld
lock_by d p u m false true full at_node = ended d Unsettled
lock_by d p u m false false true at_node = ended d TooMany
lock_by d p u m false false false false = ended d NoObject
lock_by d p u m false false false true = sent d p (LockCall.Lock u m) u.home (Ask.Lock u m)

-- by the process's state on the object
abbrev pub lock_from : DeskState → ℕ → ObjectName → Mode → LockState → Moved
lock_from d p u m s = lock_by d p u m (is_held s) (is_unsettled s) (nat_le PROCESS_LOCKS (length (entries_of d p))) (is_node d.nodes u.home)

abbrev pub begin_lock_of : DeskState → ℕ → ObjectName → Mode → Moved
begin_lock_of d p u m = lock_from d p u m (state_of d p u)
