-- Where the last call of a process is kept.
use Rattle.std.specs.Prelude.{ℕ, suc, ◌+◌, ◌/◌, ◌%◌, Option, Some, None, List, [], ◌∷◌}
use Rattle.uid_names.specs.Names.{ProcName}
use Rattle.uid_names.specs.declared.limits.TheConstants.{NODE_PROCESSES}
use Rattle.call_once.specs.Calls.{Call}
use Rattle.call_once.specs.declared.served.Kept.{Kept}

-- the process at a place
abbrev pub proc_at : ℕ → ProcName
proc_at place = record { node = place / NODE_PROCESSES + 1; number = place % NODE_PROCESSES + 1 }

-- the call in the slot of a process
abbrev pub call_in : {B : Type 0} → ProcName → Option (Kept B) → Option (Call B)
call_in p None = None
call_in p (Some kept) = Some (record { proc = p; number = kept.number; body = kept.body })

-- the calls in the slots from a place on
abbrev pub calls_in : {B : Type 0} → ℕ → List (Option (Kept B)) → List (Call B)
calls_in place [] = []
calls_in place (None ∷ slots) = calls_in (suc place) slots
calls_in place (Some kept ∷ slots) = record { proc = proc_at place; number = kept.number; body = kept.body } ∷ calls_in (suc place) slots
