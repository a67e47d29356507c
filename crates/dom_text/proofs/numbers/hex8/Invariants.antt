use Rattle.std.proofs.Common.{◌≡◌, ◌<◌, ◌^◌, ◌*◌, drop}
use Rattle.dom_text.specs.Numbers.{hex_on}
use Rattle.dom_text.proofs.numbers.hex8.Given as goal

abbrev pub invariant-loop-byte : goal.invariant-loop-byte
invariant-loop-byte l = (hex_on l.word 0 ≡ hex_on (drop l.byte-index l.word) l.number) × (l.number < 2 ^ (4 * l.byte-index))
