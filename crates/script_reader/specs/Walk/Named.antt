-- The variables that processes named, kept as a set for each process.
use Rattle.std.specs.Prelude.{ℕ, ◌↔◌, List, [], slice_index_or, Contains, IsTrue}
use Rattle.uid_names.specs.Names.{ProcName, place_of_process}
use Rattle.dom_history.specs.Ranges.{IsProcName}
use Rattle.script_reader.specs.Variables.{is_named}
use Rattle.script_reader.specs.declared.script.CommandRow.{CommandRow}

-- the variables of a process's set are those that it named
abbrev pub HoldsNamed : List (List (List ℕ)) → List CommandRow → Type 0
HoldsNamed sets commands = (proc : ProcName) → IsProcName proc → (var : List ℕ) → Contains (slice_index_or sets (place_of_process proc) []) var ↔ IsTrue (is_named commands proc var)
