-- Where the commands of a process stand among all.
use Rattle.std.specs.Prelude.{ℕ, ◌+◌, if◌then◌else◌, List, [], ◌∷◌}
use Rattle.uid_names.specs.Names.{ProcName, same_proc}
use Rattle.script_reader.specs.declared.script.CommandRow.{CommandRow}

-- the places of a process's commands, rising; the first command has the place n
abbrev pub places_of : ℕ → ProcName → List CommandRow → List ℕ
places_of n proc [] = []
places_of n proc (row ∷ rows) = if same_proc row.proc proc then n ∷ places_of (n + 1) proc rows else places_of (n + 1) proc rows
