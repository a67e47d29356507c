use Rattle.std.proofs.Common.{◌≡◌, ◌≤◌, length}
use Rattle.wire_links.specs.Wires.{wire_of, outbox, free, SameOut}
use Rattle.wire_links.proofs.wire.WireOut.flush_outbox.Given as goal

abbrev pub invariant-loop-self : goal.invariant-loop-self
invariant-loop-self l =
    (wire_of l.self ≡ wire_of l.initial.self) × SameOut l.initial.self l.self
    × (length (outbox l.initial.self) ≤ free l.initial.self → length (outbox l.self) ≤ free l.self)

abbrev pub decreases-loop-self : goal.decreases-loop-self
decreases-loop-self l = length l.self.outbox.items
