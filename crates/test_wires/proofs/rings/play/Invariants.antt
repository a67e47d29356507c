use Rattle.std.proofs.Common.{◌≡◌}
use Rattle.wire_links.specs.Wires.{wire_of, from_of, to_of}
use Rattle.test_wires.proofs.rings.play.Given as goal

abbrev pub invariant-loop-i : goal.invariant-loop-i
invariant-loop-i l = (from_of l.out ≡ 1) × (to_of l.out ≡ 2) × ((wire_of l.out).frames ≡ l.i)
