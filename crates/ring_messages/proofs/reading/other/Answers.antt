use Rattle.std.proofs.Common.{arith}
use Rattle.uid_names.specs.declared.frame_kind.FrameKind.TheVariants as kinds
use Rattle.ring_messages.specs.declared.body.Body.TheVariants as bodies
use Rattle.ring_messages.proofs.WhatIsRead.{in-range, in-within}
use Rattle.ring_messages.proofs.reading.other.Goals as goal

pub framed-requires-clause-body : goal.framed-requires-clause-body
framed-requires-clause-body c = in-range c.args.head.now.version kinds.PageIn c.args.head.now.to c.args.rest.now (bodies.PageIn c.in_ok-uid-in-PageIn.uid c.in_ok-uid-in-PageIn.page) (λ i. omega (arith, c.type_inv.rest i)) c.in_ok-uid-in-PageIn.ensures

pub framed-requires-clause-within : goal.framed-requires-clause-within
framed-requires-clause-within c = in-within c.args.head.now.version kinds.PageIn c.args.head.now.to c.args.rest.now (bodies.PageIn c.in_ok-uid-in-PageIn.uid c.in_ok-uid-in-PageIn.page) (λ i. omega (arith, c.type_inv.rest i)) c.in_ok-uid-in-PageIn.ensures

pub framed-requires-in-Unlock-clause-body : goal.framed-requires-in-Unlock-clause-body
framed-requires-in-Unlock-clause-body c = in-range c.args.head.now.version kinds.Unlock c.args.head.now.to c.args.rest.now (bodies.Unlock c.in_ok-uid-in-Unlock.uid) (λ i. omega (arith, c.type_inv.rest i)) (c.in_ok-uid-in-Unlock.ensures.unlock c.args.head.now.version)

pub framed-requires-in-Unlock-clause-within : goal.framed-requires-in-Unlock-clause-within
framed-requires-in-Unlock-clause-within c = in-within c.args.head.now.version kinds.Unlock c.args.head.now.to c.args.rest.now (bodies.Unlock c.in_ok-uid-in-Unlock.uid) (λ i. omega (arith, c.type_inv.rest i)) (c.in_ok-uid-in-Unlock.ensures.unlock c.args.head.now.version)

pub framed-requires-in-Remove-clause-body : goal.framed-requires-in-Remove-clause-body
framed-requires-in-Remove-clause-body c = in-range c.args.head.now.version kinds.Remove c.args.head.now.to c.args.rest.now (bodies.Remove c.in_ok-uid-in-Remove.uid) (λ i. omega (arith, c.type_inv.rest i)) (c.in_ok-uid-in-Remove.ensures.remove c.args.head.now.version)

pub framed-requires-in-Remove-clause-within : goal.framed-requires-in-Remove-clause-within
framed-requires-in-Remove-clause-within c = in-within c.args.head.now.version kinds.Remove c.args.head.now.to c.args.rest.now (bodies.Remove c.in_ok-uid-in-Remove.uid) (λ i. omega (arith, c.type_inv.rest i)) (c.in_ok-uid-in-Remove.ensures.remove c.args.head.now.version)

pub framed-requires-in-Make-clause-body : goal.framed-requires-in-Make-clause-body
framed-requires-in-Make-clause-body c = in-range c.args.head.now.version kinds.Make c.args.head.now.to c.args.rest.now (bodies.Make c.in_ok-kind-in-Make.kind c.in_ok-kind-in-Make.room) (λ i. omega (arith, c.type_inv.rest i)) (c.in_ok-kind-in-Make.ensures c.args.head.now.to)

pub framed-requires-in-Make-clause-within : goal.framed-requires-in-Make-clause-within
framed-requires-in-Make-clause-within c = in-within c.args.head.now.version kinds.Make c.args.head.now.to c.args.rest.now (bodies.Make c.in_ok-kind-in-Make.kind c.in_ok-kind-in-Make.room) (λ i. omega (arith, c.type_inv.rest i)) (c.in_ok-kind-in-Make.ensures c.args.head.now.to)
