-- The places of commands, kept as a list for each process.
use Rattle.std.specs.Prelude.{ℕ, ◌≡◌, List, [], slice_index_or}
use Rattle.uid_names.specs.Names.{ProcName, place_of_process}
use Rattle.dom_history.specs.Ranges.{IsProcName}
use Rattle.script_reader.specs.Places.{places_of}
use Rattle.script_reader.specs.declared.script.CommandRow.{CommandRow}

-- the list of each process has the places of its commands
abbrev pub HoldsPlaces : List (List ℕ) → List CommandRow → Type 0
HoldsPlaces lists commands = (proc : ProcName) → IsProcName proc → slice_index_or lists (place_of_process proc) [] ≡ places_of 0 proc commands
