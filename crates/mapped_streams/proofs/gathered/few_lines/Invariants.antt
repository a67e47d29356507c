use Rattle.std.proofs.Common.{◌≡◌, ◌≤◌, take}
use Rattle.mapped_streams.specs.Gathering.{lines}
use Rattle.mapped_streams.proofs.gathered.few_lines.Given as goal

abbrev pub invariant-loop-byte : goal.invariant-loop-byte
invariant-loop-byte l = (l.count ≤ l.byte-index) × (l.count ≡ lines (take l.byte-index l.bytes))
