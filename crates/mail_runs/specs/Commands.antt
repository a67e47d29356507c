-- The command of each entry of a script's history.
use Rattle.std.specs.Prelude.{ℕ, ◌-◌, Option, List}
use Rattle.std.specs.List.{slice_get}
use Rattle.std.specs.Option.{option_map}
use Rattle.uid_names.specs.Names.{ProcName}
use Rattle.dom_history.specs.declared.op.Entry.{Entry}
use Rattle.dom_history.specs.Follows.{entries_of}
use Rattle.dom_history.specs.Histories.{History, Item, entries}
use Rattle.script_reader.specs.declared.command.Command.{Command}
use Rattle.script_reader.specs.Scripts.{Content}
use Rattle.aegis_shell.specs.Asking.{answers}
use Rattle.aegis_shell.specs.Work.{jobs_of}
use Rattle.script_runs.specs.Answers.{command_behind, heard_as}

-- the entries of a process among these
abbrev pub own_in : List Item → ProcName → List Entry
own_in items p = entries_of p (entries items)

module _ (s : Content) where
  -- the command of a process by its number, counted from 1
  abbrev pub command_at : ProcName → ℕ → Option Command
  command_at p number = option_map (λ job. job.command) (slice_get (jobs_of s p) (number - 1))

  -- the number of the command for which a process asks behind these
  abbrev pub number_behind : List Item → ProcName → ℕ
  number_behind past p = command_behind s p (own_in past p)

  -- the command of an entry that stands behind these
  abbrev pub command_of : List Item → Entry → Option Command
  command_of past e = command_at e.proc (number_behind past e.proc)

  -- the answer of a command, as a history has it
  abbrev pub answer_at : History → ProcName → ℕ → Option (List ℕ)
  answer_at h p number = slice_get (answers s p (heard_as s h p)) (number - 1)
