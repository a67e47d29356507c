-- What is noted of the variables that commands name.
use Rattle.std.specs.Prelude.{ℕ, List, [], ◌∷◌, ◌++◌}
use Rattle.uid_names.specs.Names.{ProcName}
use Rattle.script_reader.specs.Walk.Named.{HoldsNamed}
use Rattle.script_reader.specs.declared.command.Command.{Command}
use Rattle.script_reader.specs.declared.script.CommandRow.{CommandRow}

-- sets that held what commands named hold it with this command behind them
abbrev pub NotesCommand : List (List (List ℕ)) → List (List (List ℕ)) → ProcName → Command → Type 0
NotesCommand old new proc command = (commands : List CommandRow) (phase : ℕ) → HoldsNamed old commands → HoldsNamed new (commands ++ record { proc = proc; phase = phase; command = command } ∷ [])
