-- The processes of a script.
use Rattle.std.specs.Prelude.{List, [], ◌∷◌, fold, if◌then◌else◌}
use Rattle.uid_names.specs.Names.{ProcName, same_proc, proc_lt}
use Rattle.script_reader.specs.declared.script.CommandRow.{CommandRow}

-- processes in order, with this one
abbrev pub procs_with : ProcName → List ProcName → List ProcName
procs_with p [] = p ∷ []
procs_with p (q ∷ rest) = if proc_lt q p then q ∷ procs_with p rest else (if same_proc q p then q ∷ rest else p ∷ q ∷ rest)

-- the processes that have a command, each once, in order of node and number
abbrev pub processes_of : List CommandRow → List ProcName
processes_of rows = fold (λ procs row. procs_with row.proc procs) [] rows
