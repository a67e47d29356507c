use Rattle.std.proofs.Common.{ap, ◌∙◌}
use Rattle.std.specs.Prelude.{◌==◌, ◌-◌}
use Rattle.std.proofs.lemmas.Result.{on_ok_weaker}
use Rattle.world_core.specs.Sending.{delivered}
use Rattle.world_core.specs.Reached.{ins_if}
use Rattle.world_core.proofs.Reaching.{gone-told, frame-reached}
use Rattle.world_core.proofs.world.World.send_gone.Goals as goal

pub returns-clause-reached : goal.returns-clause-reached
returns-clause-reached g c =
    let at = c.args.at in
    let m = c.args.frame in
    let plan = c.args.self.now.plan in
    let old = c.args.self.now.stations.items in
    let f = c.args.fate in
    let to = c.place_of-to.result in
    let caller = c.place_of-caller.result in
    let notice = c.of-notice.result in
    let to-is = c.place_of-to.ensures.value ∙ ap (λ k. k - 1) c.to.ensures.value in
    let caller-is = c.place_of-caller.ensures.value ∙ ap (λ k. k - 1) (c.node.ensures.value ∙ ap (λ p. p.node) c.caller.ensures) in
    on_ok_weaker c.tell_at.result (λ second. frame-reached plan at c.args.index m old c.tell_at.new.self.stations.items f to caller notice c.requires.fate to-is caller-is c.of-notice.ensures
    (gone-told at caller f notice (λ n ls. ins_if (n == to) (delivered at f m ls) ls) old c.deliver_at.new.self.stations.items c.tell_at.new.self.stations.items
    c.requires.gone c.in_ok-deliver_at.ensures.others.many c.in_ok-deliver_at.ensures.reached second)) c.tell_at.ensures.reached
