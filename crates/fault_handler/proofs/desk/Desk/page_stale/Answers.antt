use Rattle.std.proofs.Common.{◌∙◌, ap}
use Rattle.fault_handler.specs.Changes.{with_sent_again}
use Rattle.fault_handler.proofs.Replying.{seen-going, there-going, gives-again}
use Rattle.fault_handler.proofs.desk.Desk.page_stale.Goals as goal

pub raise-requires-clause-known : goal.raise-requires-clause-known
raise-requires-clause-known c =
    seen-going c.args.self.now c.args.proc.number c.kept.ensures.desk c.kept.ensures.process c.args.transit.uid c.args.transit.page c.requires.access c.requires.going

pub page_out-body-requires : goal.page_out-body-requires
page_out-body-requires c =
    rw c.raise.ensures (there-going c.args.self.now c.args.proc.number c.kept.ensures.desk c.kept.ensures.process c.args.transit.uid c.args.transit.page c.requires.access c.requires.going)

pub send_again-requires : goal.send_again-requires
send_again-requires c =
    rw c.raise.ensures c.requires.going

pub returns-clause-outcome : goal.returns-clause-outcome
returns-clause-outcome c =
    let sent = c.send_again.ensures ∙ ap (λ d. with_sent_again d c.args.transit.uid c.args.transit.page) c.raise.ensures in
    gives-again c.args.self.now c.args.proc.number c.kept.ensures.desk c.kept.ensures.process c.args.transit.uid c.args.transit.page c.requires.access c.requires.going
    c.send_again.new.self c.args.stamp c.home.result c.page_out-body.result c.new.result sent c.home.ensures.value (rw c.raise.ensures at c.page_out-body.ensures) c.new.ensures
