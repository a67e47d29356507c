use Rattle.std.proofs.Common.{sym, subst}
use Rattle.std.proofs.lemmas.Result.{on_ok_weaker}
use Rattle.world_core.specs.Reached.{came_of, framed_ins, AreReached, AreSent}
use Rattle.world_core.proofs.world.World.send.Goals as goal

pub returns-in-Some-frame-clause-sent : goal.returns-in-Some-frame-clause-sent
returns-in-Some-frame-clause-sent g c =
    let at = c.args.at in
    let plan = c.args.self.now.plan in
    let old = c.args.self.now.stations.items in
    let new = c.send_frame.new.self.stations.items in
    on_ok_weaker c.send_frame.result (λ reached.
    subst (λ mark. AreSent at plan mark c.args.emitted.frame old new) (sym c.in-None.is)
    (subst (λ frame. AreReached at (came_of plan frame) (framed_ins plan at frame) old new) (sym c.in-Some-frame.is) reached)) c.send_frame.ensures.reached
