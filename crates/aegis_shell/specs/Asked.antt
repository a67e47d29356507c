-- What a command asks for, as the code has it.
use Rattle.std.specs.Prelude.{List, [], ◌∷◌, length}
use Rattle.dom_history.specs.declared.op.Op.{Op}
use Rattle.dom_history.specs.Ranges.{IsOp}
use Rattle.aegis_shell.specs.declared.operation.Asked.{Asked}
use Rattle.aegis_shell.specs.declared.operation.Asked.TheVariants.{One, Load, Store}
use Rattle.aegis_shell.specs.Operations.{loads, stores}
use Rattle.aegis_shell.specs.Ranges.{IsRange}

-- the operations that serve it
abbrev pub ops_asked : Asked → List Op
ops_asked (One op) = op ∷ []
ops_asked (Load spot count) = loads spot count
ops_asked (Store spot text) = stores spot text.now

-- it is such as a script can ask for
abbrev pub IsAsked : Asked → Type 0
IsAsked (One op) = IsOp op
IsAsked (Load spot count) = IsRange spot count
IsAsked (Store spot text) = IsRange spot (length text.now)
