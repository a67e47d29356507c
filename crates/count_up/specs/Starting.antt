-- What there is at the start: three nodes, and an object with room for the number, whose home is the first.
use Rattle.std.specs.Prelude.{[], ◌∷◌}
use Rattle.uid_names.specs.Names.{ObjectName}
use Rattle.uid_names.specs.Openings.{Start}
use Rattle.uid_names.specs.declared.opening.Object.{Object}
use Rattle.uid_names.specs.declared.mode.ObjKind.TheVariants.{File}

abbrev pub object : ObjectName
object = record { counter = 2; home = 1 }

abbrev pub object_row : Object
object_row = record { uid = object; kind = File; room = 1 }

abbrev pub start : Start
start = record { nodes = 3; greatest = 1; objects = object_row ∷ [] }
