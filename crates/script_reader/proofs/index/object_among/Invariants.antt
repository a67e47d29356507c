use Rattle.std.proofs.Common.{◌≡◌, drop}
use Rattle.script_reader.specs.Variables.{declared_object}
use Rattle.script_reader.proofs.index.object_among.Given as goal

abbrev pub invariant-loop-row : goal.invariant-loop-row
invariant-loop-row l = declared_object l.rows l.var ≡ declared_object (drop l.row-index l.rows) l.var
