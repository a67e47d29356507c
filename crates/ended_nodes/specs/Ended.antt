-- The programs of nodes, under the names of their processes.
use Rattle.std.specs.Prelude.{ℕ, ◌==◌, Bool, true, false, IsSome, Option, Some, None, List, [], ◌∷◌}
use Rattle.std.specs.Option.{option_map}
use Rattle.std.specs.List.{find}
use Rattle.uid_names.specs.Names.{ProcName, IsProcNumber, same_proc}
use Rattle.node_core.specs.Nodes.{Noted, program_of}

module _ {P : Type 0} where
  -- the program under this name
  abbrev pub named : List (ProcName × P) → ProcName → Option P
  named programs p = option_map (λ e. e.1) (find (λ e. same_proc e.0 p) programs)

  -- a program of a node, under the name of its process
  abbrev pub with_name : ℕ → ℕ × P → ProcName × P
  with_name node e = (record { node = node; number = e.0 }, e.1)

  abbrev pub own_if : Bool → Option P → Option P
  own_if true program = program
  own_if false program = None

  -- the program of a process, if that is one of this node
  abbrev pub own_of : Noted P → ProcName → Option P
  own_of x p = own_if (x.log.node == p.node) (program_of x p.number)

  abbrev pub or_else : Option P → Option P → Option P
  or_else None other = other
  or_else (Some y) other = Some y

  -- the program of a process, by these nodes
  abbrev pub program_at : List (Noted P) → ProcName → Option P
  program_at [] p = None
  program_at (x ∷ more) p = or_else (own_of x p) (program_at more p)

  -- each program of the node is that of a process
  abbrev pub AreNumbered : Noted P → Type 0
  AreNumbered x = (p : ℕ) → IsSome (program_of x p) → IsProcNumber p
