use Rattle.std.proofs.Common.{◌≡◌, ◌<◌, ◌^◌, drop}
use Rattle.dom_text.specs.Walk.{number_of_digits}
use Rattle.dom_text.proofs.Spelling.{digits_on}
use Rattle.dom_text.proofs.numbers.digits.Given as goal

abbrev pub invariant-loop-byte : goal.invariant-loop-byte
invariant-loop-byte l = (number_of_digits l.text ≡ digits_on l.number (drop l.byte-index l.text)) × (l.number < 2 ^ 64)
