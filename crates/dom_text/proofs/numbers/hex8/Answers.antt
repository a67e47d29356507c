use Rattle.std.proofs.Common.{sym, ◌∙◌, arith}
use Rattle.dom_text.proofs.Spelling.{hex_bound, hex_step}
use Rattle.dom_text.proofs.numbers.hex8.Goals as goal

pub overflow_mul-number : goal.overflow_mul-number
overflow_mul-number c =
    let b = hex_bound c.loop-byte.byte-index c.loop-byte.number c.in-Some.digit (omega arith) c.loop-byte.invariant.1 c.in-Some.ensures.small in
    omega (arith, b.1)

pub overflow_add-number : goal.overflow_add-number
overflow_add-number c =
    let b = hex_bound c.loop-byte.byte-index c.loop-byte.number c.in-Some.digit (omega arith) c.loop-byte.invariant.1 c.in-Some.ensures.small in
    omega (arith, b.1)

pub loop-byte-preserved : goal.loop-byte-preserved
loop-byte-preserved c =
    let b = hex_bound c.loop-byte.byte-index c.loop-byte.number c.in-Some.digit (omega arith) c.loop-byte.invariant.1 c.in-Some.ensures.small in
    let s = hex_step c.args.word.now c.loop-byte.byte-index c.loop-byte.number c.in-Some.digit (omega arith) (sym c.in-Some.ensures.value) in
    (c.loop-byte.invariant.0 ∙ s, b.0)
