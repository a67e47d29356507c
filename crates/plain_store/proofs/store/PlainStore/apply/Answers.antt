use Rattle.std.proofs.Common.{◌≡◌, ◌<◌, ◌^◌, reverse, length, ap, arith}
use Rattle.std.proofs.lemmas.List.{length-reverse}
use Rattle.plain_store.specs.Plain.{Plain}
use Rattle.dom_history.proofs.Bounds.{past_bounded}
use Rattle.plain_store.proofs.Counters.{counters-small}
use Rattle.dom_history.proofs.HeldObjects.{mapped-was_made}
use Rattle.plain_store.proofs.store.PlainStore.apply.Goals as goal

pub reply_to-requires-clause-counters : goal.reply_to-requires-clause-counters
reply_to-requires-clause-counters c = λ home.
    let done = c.self.inside.deeds.items in
    let same : length (reverse done) ≡ length c.args.self.now.deeds = ap (λ (s : Plain). length s.deeds) c.self.view_is in
    let few : length done < 2 ^ 40 = omega (arith, same, length-reverse done, c.requires.few) in
    rw c.self.invariant.held.objects.made (counters-small c.self.inside.opening done home c.self.invariant.begun c.self.invariant.start c.self.invariant.answered few)

pub reply_to-requires-clause-lengths : goal.reply_to-requires-clause-lengths
reply_to-requires-clause-lengths c = λ u.
    rw (c.self.invariant.held.lengths.lengths u) ((past_bounded c.self.inside.opening c.self.invariant.start (reverse c.self.inside.deeds.items) c.self.invariant.answered c.self.invariant.ranges).lengths u)

pub take_in-requires-clause-made : goal.take_in-requires-clause-made
take_in-requires-clause-made c =
    let deeds = reverse c.self.inside.deeds.items in
    let held = c.reserve.ensures.held c.self.inside.opening deeds c.self.invariant.held in
    rw (held.objects.made, c.in_ok-copy.ensures, c.in_ok-copy-2.ensures)
    (mapped-was_made c.self.inside.opening deeds c.args.proc c.args.op.now c.in_ok-reply.reply c.self.invariant.answered (c.in_ok-reply.ensures.value deeds c.self.invariant.held))
