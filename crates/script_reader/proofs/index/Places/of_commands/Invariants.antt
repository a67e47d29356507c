use Rattle.std.proofs.Common.{take}
use Rattle.script_reader.specs.Walk.Placed.{HoldsPlaces}
use Rattle.script_reader.proofs.index.Places.of_commands.Given as goal

abbrev pub invariant-loop-at : goal.invariant-loop-at
invariant-loop-at l = HoldsPlaces l.places (take l.at l.commands)
