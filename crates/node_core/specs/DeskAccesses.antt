-- What a desk says to the access that an operation asks for.
use Rattle.std.specs.Prelude.{ℕ}
use Rattle.std.specs.Option.{ForSome}
use Rattle.dom_history.specs.declared.op.Op.{Op}
use Rattle.fault_handler.specs.declared.access.Access.{Access}
use Rattle.fault_handler.specs.Desks.{DeskState}
use Rattle.fault_handler.specs.Outcomes.{as_access, Gives}
use Rattle.fault_handler.specs.Accesses.{Comes, desk_op, access_of}

-- the access of the process that one desk made of the operation, and the desk after it, are those of the definition
abbrev pub IsAccessOf : DeskState → DeskState → ℕ → Op → Access → Type 0
IsAccessOf old new p op access = ForSome (desk_op op) (λ o. Comes p (λ m. Gives as_access new m access) (access_of old p o))
