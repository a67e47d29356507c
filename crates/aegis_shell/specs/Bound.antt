-- What the variables of a process are bound to.
use Rattle.std.specs.Prelude.{ℕ, Option, Some, None, List, if◌then◌else◌}
use Rattle.std.specs.Str.{bytes_eq}
use Rattle.uid_names.specs.Names.{ObjectName}

-- the object of each variable that has one
abbrev pub Bound : Type 0
Bound = List ℕ → Option ObjectName

abbrev pub unbound : Bound
unbound var = None

-- a variable stands for this object from now on
abbrev pub bind : List ℕ → ObjectName → Bound → Bound
bind var u bound other = if bytes_eq var other then Some u else bound other
