-- What contracts see of a command's turn.
use Rattle.std.specs.Prelude.{◌≡◌, Option, Some, List}
use Rattle.dom_history.specs.declared.op.Op.{Op}
use Rattle.dom_history.specs.declared.op.Reply.{Reply}
use Rattle.dom_history.specs.Ranges.{IsOp}
use Rattle.naming_tree.specs.Turns.{FitsAsked}
use Rattle.aegis_shell.specs.States.{Going, Goes as GoesOn, Comes as ComesTo, op_in}
use Rattle.aegis_shell.specs.declared.stage.Stage.{Stage}
use Rattle.aegis_shell.specs.declared.stage.Turn.{Turn}
use Rattle.aegis_shell.specs.declared.stage.Turn.TheVariants.{Goes, Comes}

-- where it leads
abbrev pub going : Turn → Going
going (Goes stage op) = GoesOn stage
going (Comes outcome) = ComesTo outcome

-- its operation is that of its stage, and in its ranges; these are the operations of a command that makes one or two
abbrev pub AsksIn : Option (List Op) → Turn → Type 0
AsksIn list (Goes stage op) = (op_in list stage ≡ Some op) × IsOp op
AsksIn list (Comes outcome) = Unit {0}

-- a reply fits the operation that is open
abbrev pub FitsStage : Option (List Op) → Stage → Reply → Type 0
FitsStage list stage reply = FitsAsked (op_in list stage) (Some reply)
