use Rattle.std.proofs.Common.{◌+◌, drop, sym, ap, ◌∙◌, arith}
use Rattle.dom_text.proofs.Spelling.{digits_behind, digits_end, one_more}
use Rattle.dom_text.proofs.numbers.digits.Goals as goal

pub returns-in-None : goal.returns-in-None
returns-in-None c =
    let text = c.args.text.now in
    let more = one_more text c.loop-byte.byte-index c.loop-byte.number (omega arith) in
    let none = sym c.with_digit.ensures ∙ c.in-None.is in
    sym (c.loop-byte.invariant.0 ∙ more ∙ ap (λ v. digits_behind v (drop (c.loop-byte.byte-index + 1) text)) none)

pub returns : goal.returns
returns c = sym (c.loop-byte.invariant.0 ∙ digits_end c.args.text.now c.loop-byte.byte-index c.loop-byte.number (omega arith) c.loop-byte.invariant.1)
