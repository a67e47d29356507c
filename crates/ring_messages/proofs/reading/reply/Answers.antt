use Rattle.std.proofs.Common.{refl, arith}
use Rattle.uid_names.specs.declared.frame_kind.FrameKind.TheVariants as kinds
use Rattle.ring_messages.specs.declared.body.Body.TheVariants as bodies
use Rattle.ring_messages.specs.ReaderBodies.{body_at}
use Rattle.ring_messages.proofs.WhatIsRead.{in-range, in-within}
use Rattle.ring_messages.proofs.reading.reply.Goals as goal

pub framed-requires-clause-body : goal.framed-requires-clause-body
framed-requires-clause-body c = in-range c.args.head.now.version kinds.Stored c.args.head.now.to c.args.rest.now (bodies.Stored c.in_ok-stamp-in-Stored.stamp) (λ i. omega (arith, c.type_inv.rest i)) (c.in_ok-stamp-in-Stored.ensures.stored c.args.head.now.version c.args.head.now.to)

pub framed-requires-clause-within : goal.framed-requires-clause-within
framed-requires-clause-within c = in-within c.args.head.now.version kinds.Stored c.args.head.now.to c.args.rest.now (bodies.Stored c.in_ok-stamp-in-Stored.stamp) (λ i. omega (arith, c.type_inv.rest i)) (c.in_ok-stamp-in-Stored.ensures.stored c.args.head.now.version c.args.head.now.to)

pub framed-requires-in-Stale-clause-body : goal.framed-requires-in-Stale-clause-body
framed-requires-in-Stale-clause-body c = in-range c.args.head.now.version kinds.Stale c.args.head.now.to c.args.rest.now (bodies.Stale c.in_ok-stamp-in-Stale.stamp) (λ i. omega (arith, c.type_inv.rest i)) (c.in_ok-stamp-in-Stale.ensures.stale c.args.head.now.version c.args.head.now.to)

pub framed-requires-in-Stale-clause-within : goal.framed-requires-in-Stale-clause-within
framed-requires-in-Stale-clause-within c = in-within c.args.head.now.version kinds.Stale c.args.head.now.to c.args.rest.now (bodies.Stale c.in_ok-stamp-in-Stale.stamp) (λ i. omega (arith, c.type_inv.rest i)) (c.in_ok-stamp-in-Stale.ensures.stale c.args.head.now.version c.args.head.now.to)

pub framed-requires-in-Listed-clause-body : goal.framed-requires-in-Listed-clause-body
framed-requires-in-Listed-clause-body c = in-range c.args.head.now.version kinds.Listed c.args.head.now.to c.args.rest.now (bodies.Listed c.in_ok-rows-in-Listed.rows c.in_ok-rows-in-Listed.more) (λ i. omega (arith, c.type_inv.rest i)) (c.in_ok-rows-in-Listed.ensures c.args.head.now.version c.args.head.now.to)

pub framed-requires-in-Listed-clause-within : goal.framed-requires-in-Listed-clause-within
framed-requires-in-Listed-clause-within c = in-within c.args.head.now.version kinds.Listed c.args.head.now.to c.args.rest.now (bodies.Listed c.in_ok-rows-in-Listed.rows c.in_ok-rows-in-Listed.more) (λ i. omega (arith, c.type_inv.rest i)) (c.in_ok-rows-in-Listed.ensures c.args.head.now.version c.args.head.now.to)

pub empty-requires-clause-body : goal.empty-requires-clause-body
unfolding body_at
empty-requires-clause-body c = rw c.in-NoGrant.is refl

pub empty-requires-in-NoObject-clause-body : goal.empty-requires-in-NoObject-clause-body
unfolding body_at
empty-requires-in-NoObject-clause-body c = rw c.in-NoObject.is refl

pub empty-requires-in-Done-clause-body : goal.empty-requires-in-Done-clause-body
unfolding body_at
empty-requires-in-Done-clause-body c = rw c.in-Done.is refl

pub empty-requires-in-NoSpace-clause-body : goal.empty-requires-in-NoSpace-clause-body
unfolding body_at
empty-requires-in-NoSpace-clause-body c = rw c.in-NoSpace.is refl
