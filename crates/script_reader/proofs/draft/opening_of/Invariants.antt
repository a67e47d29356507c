use Rattle.std.proofs.Common.{◌≡◌, take}
use Rattle.script_reader.proofs.draft.opening_of.Given as goal

abbrev pub invariant-loop-object : goal.invariant-loop-object
invariant-loop-object l = l.opening ≡ record { nodes = l.nodes; greatest = l.greatest; objects = take l.object-index l.starts }
