use Rattle.std.proofs.Common.{refl, sym, ap, ◌∙◌}
use Rattle.std.specs.Prelude.{◌==◌, ◌-◌}
use Rattle.std.proofs.lemmas.Result.{on_ok_weaker}
use Rattle.dom_history.specs.Plans.{fate_of}
use Rattle.ring_messages.specs.Frames.{caller_of}
use Rattle.ring_links.specs.Notices.{notice_for}
use Rattle.world_core.specs.Sending.{delivered}
use Rattle.world_core.specs.Reached.{ins_if}
use Rattle.world_core.proofs.Reaching.{not-told, frame-reached}
use Rattle.world_core.proofs.world.World.send_frame.Goals as goal

pub returns-clause-reached : goal.returns-clause-reached
returns-clause-reached g c =
    let at = c.args.at in
    let m = c.args.frame in
    let plan = c.args.self.now.plan in
    let old = c.args.self.now.stations.items in
    let new = c.deliver_at.new.self.stations.items in
    let f = c.fate_by-fate.result in
    let to = c.place_of-to.result in
    let caller = (caller_of m).node - 1 in
    let notice = notice_for m c.args.index in
    let fate-is = c.fate_by-fate.ensures ∙ ap (λ n. fate_of plan n c.to.result c.args.index) c.from.ensures.value ∙ ap (λ n. fate_of plan m.from n c.args.index) c.to.ensures.value in
    let to-is = c.place_of-to.ensures.value ∙ ap (λ k. k - 1) c.to-2.ensures.value in
    on_ok_weaker c.deliver_at.result (λ reached. frame-reached plan at c.args.index m old new f to caller notice fate-is to-is refl refl
    (not-told at caller f notice (λ n ls. ins_if (n == to) (delivered at f m ls) ls) old new new (sym c.is_gone.ensures ∙ c.if-is_gone.false) reached)) c.deliver_at.ensures.reached

pub send_gone-requires-clause-fate : goal.send_gone-requires-clause-fate
send_gone-requires-clause-fate g c =
    let m = c.args.frame in
    let plan = c.args.self.now.plan in
    c.fate_by-fate.ensures ∙ ap (λ n. fate_of plan n c.to.result c.args.index) c.from.ensures.value ∙ ap (λ n. fate_of plan m.from n c.args.index) c.to.ensures.value
