use Rattle.std.proofs.Common.{arith}
use Rattle.uid_names.specs.declared.frame_kind.FrameKind.TheVariants as kinds
use Rattle.ring_messages.specs.declared.body.Body.TheVariants as bodies
use Rattle.ring_messages.proofs.WhatIsRead.{in-range, in-within}
use Rattle.ring_messages.proofs.reading.granted.Goals as goal

pub framed-requires-clause-body : goal.framed-requires-clause-body
framed-requires-clause-body c = in-range c.args.head.now.version kinds.Granted c.args.head.now.to c.args.rest.now (bodies.Granted c.in_ok-grant.grant c.in_ok-grant.stamp c.in_ok-grant.kind c.in_ok-grant.room c.in_ok-grant.length) (λ i. omega (arith, c.type_inv.rest i)) (c.in_ok-grant.ensures c.args.head.now.to)

pub framed-requires-clause-within : goal.framed-requires-clause-within
framed-requires-clause-within c = in-within c.args.head.now.version kinds.Granted c.args.head.now.to c.args.rest.now (bodies.Granted c.in_ok-grant.grant c.in_ok-grant.stamp c.in_ok-grant.kind c.in_ok-grant.room c.in_ok-grant.length) (λ i. omega (arith, c.type_inv.rest i)) (c.in_ok-grant.ensures c.args.head.now.to)
