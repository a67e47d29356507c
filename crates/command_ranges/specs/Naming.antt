-- What commands come to has names, and how it is taken where nobody tests that.
use Rattle.std.specs.Prelude.{◌≡◌, ℕ, true, Option, Some, None, List, [], ◌∷◌, IfSome}
use Rattle.uid_names.specs.Names.{ObjectName, ProcName, IsName}
use Rattle.uid_names.specs.declared.lock_row.LockRow.{LockRow}
use Rattle.dom_history.specs.Ranges.{IsNamedReply, IsRowName}
use Rattle.dom_history.specs.declared.op.Reply.TheVariants.{Made}
use Rattle.dir_records.specs.Components.{is_component}
use Rattle.script_reader.specs.declared.command.Command.{Command}
use Rattle.script_reader.specs.declared.command.Command.TheVariants.{New, Bind}
use Rattle.naming_tree.specs.declared.step.NameResult.{NameResult}
use Rattle.naming_tree.specs.declared.step.NameResult.TheVariants.{Added, Found, Under}
use Rattle.naming_tree.specs.declared.step.Walked.{Walked}
use Rattle.naming_tree.specs.declared.step.Walked.TheVariants.{At, Root}
use Rattle.naming_tree.specs.declared.step.Within.{Within}
use Rattle.command_talks.specs.declared.outcome.Outcome.{Outcome}
use Rattle.command_talks.specs.declared.outcome.Outcome.TheVariants.{Came, Replied}

-- where a path leads, objects have names
abbrev pub IsNamedWalked : Walked → Type 0
IsNamedWalked Root = Unit {0}
IsNamedWalked (At u kind within) = IsName u × IfSome within (λ (w : Within). IsName w.dir)

-- and so do those that a command on names came to; a name that is to stand in a directory can
abbrev pub IsNamedResult : NameResult → Type 0
IsNamedResult (Found at) = IsNamedWalked at
IsNamedResult (Added u) = IsName u
IsNamedResult (Under p) = IsName p.dir × (is_component p.name ≡ true)
IsNamedResult _ = Unit {0}

-- and those that any command came to
abbrev pub IsNamedOutcome : Outcome → Type 0
IsNamedOutcome (Came result) = IsNamedResult result
IsNamedOutcome (Replied reply) = IsNamedReply reply
IsNamedOutcome _ = Unit {0}

-- the variable that a command binds, with what it made or found
abbrev pub plainly_bound : Command → Outcome → Option (List ℕ × ObjectName)
plainly_bound (New var room home) (Replied (Made u)) = Some (var, u)
plainly_bound (Bind var path) (Came (Found (At u kind within))) = Some (var, u)
plainly_bound command outcome = None

-- a row of locks names an object and a process
abbrev pub IsNamedRow : LockRow → Type 0
IsNamedRow row = IsRowName (row.uid, row.proc)

-- the last of some rows
abbrev pub plainly_last : List LockRow → Option (ObjectName × ProcName)
plainly_last [] = None
plainly_last (row ∷ []) = Some (row.uid, row.proc)
plainly_last (_ ∷ rows) = plainly_last rows
