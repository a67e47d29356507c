use Rattle.std.proofs.Common.{arith}
use Rattle.uid_names.specs.declared.frame_kind.FrameKind.TheVariants as kinds
use Rattle.ring_messages.specs.declared.body.Body.TheVariants as bodies
use Rattle.ring_messages.proofs.WhatIsRead.{in-range, in-within}
use Rattle.ring_messages.proofs.reading.page.Goals as goal

pub framed-requires-clause-body : goal.framed-requires-clause-body
framed-requires-clause-body c = in-range c.args.head.now.version kinds.Page c.args.head.now.to c.args.rest.now (bodies.Page c.in_ok-stamp.stamp c.in_ok-stamp.bytes) (λ i. omega (arith, c.type_inv.rest i)) (c.in_ok-stamp.ensures c.args.head.now.to)

pub framed-requires-clause-within : goal.framed-requires-clause-within
framed-requires-clause-within c = in-within c.args.head.now.version kinds.Page c.args.head.now.to c.args.rest.now (bodies.Page c.in_ok-stamp.stamp c.in_ok-stamp.bytes) (λ i. omega (arith, c.type_inv.rest i)) (c.in_ok-stamp.ensures c.args.head.now.to)
