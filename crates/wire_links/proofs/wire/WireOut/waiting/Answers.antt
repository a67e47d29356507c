use Rattle.std.proofs.Common.{arith}
use Rattle.wire_links.proofs.Outboxes.{waiting_counted}
use Rattle.wire_links.proofs.wire.WireOut.waiting.Goals as goal

pub returns : goal.returns
returns c =
    let o = c.args.self.now in
    omega (arith, c.len.ensures, o.outbox.ok.0, c.waiting.ensures.count, waiting_counted o.outbox.items o.link.queue)
