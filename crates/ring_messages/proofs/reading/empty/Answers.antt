use Rattle.std.proofs.Common.{◌≡◌, ◌∙◌, Some, refl, arith}
use Rattle.ring_messages.specs.ReaderBodies.{body_at}
use Rattle.ring_messages.proofs.WhatIsRead.{in-range, in-within}
use Rattle.ring_messages.proofs.reading.empty.Goals as goal

pub framed-requires-clause-body : goal.framed-requires-clause-body
framed-requires-clause-body c =
    let read : body_at c.args.head.now.version c.args.head.now.kind c.args.head.now.to c.args.rest.now ≡ Some c.args.body = c.requires.body ∙ rw c.in_ok-end.ensures refl in
    in-range c.args.head.now.version c.args.head.now.kind c.args.head.now.to c.args.rest.now c.args.body (λ i. omega (arith, c.type_inv.rest i)) read

pub framed-requires-clause-within : goal.framed-requires-clause-within
framed-requires-clause-within c =
    let read : body_at c.args.head.now.version c.args.head.now.kind c.args.head.now.to c.args.rest.now ≡ Some c.args.body = c.requires.body ∙ rw c.in_ok-end.ensures refl in
    in-within c.args.head.now.version c.args.head.now.kind c.args.head.now.to c.args.rest.now c.args.body (λ i. omega (arith, c.type_inv.rest i)) read
