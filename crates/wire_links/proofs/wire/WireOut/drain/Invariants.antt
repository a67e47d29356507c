use Rattle.std.proofs.Common.{◌≡◌, length}
use Rattle.wire_links.specs.Wires.{wire_of}
use Rattle.wire_links.proofs.wire.WireOut.drain.Given as goal

abbrev pub invariant-loop-self : goal.invariant-loop-self
invariant-loop-self l =
    (wire_of l.self ≡ wire_of l.initial.self)
    × (l.self.producer ≡ l.initial.self.producer) × (l.self.fates ≡ l.initial.self.fates)

abbrev pub decreases-loop-self : goal.decreases-loop-self
decreases-loop-self l = length l.self.link.queue
