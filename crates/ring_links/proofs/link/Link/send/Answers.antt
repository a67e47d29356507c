use Rattle.std.proofs.Common.{◌≡◌, OnOk, sym, subst}
use Rattle.dom_history.specs.declared.plan.Fate.{Fate}
use Rattle.ring_links.specs.Carried.{frame_sent}
use Rattle.ring_links.proofs.link.Link.send.Goals as goal

pub returns-in-Lose-clause-sent : goal.returns-in-Lose-clause-sent
returns-in-Lose-clause-sent g c =
    subst (λ (f : Fate). OnOk c.lose.result (c.lose.new.self ≡ frame_sent f c.args.frame c.args.self.now)) (sym c.in-Lose.is)
    (c.lose.ensures.sent c.args.frame)
