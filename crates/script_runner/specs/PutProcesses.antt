-- Processes that were put among others.
use Rattle.std.specs.Prelude.{◌≡◌, List, Option, IfSome, All}
use Rattle.uid_names.specs.Names.{ProcName}
use Rattle.script_runs.specs.Processes.{procs_with}

-- each that a table names is there
abbrev pub IsThere : List ProcName → Option ProcName → Type 0
IsThere procs entry = IfSome entry (λ p. procs_with p procs ≡ procs)

abbrev pub AreThere : List ProcName → List (Option ProcName) → Type 0
AreThere procs table = All (IsThere procs) table
