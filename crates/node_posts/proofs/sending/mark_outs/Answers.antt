use Rattle.std.proofs.Common.{◌≤◌, ◌<◌, length, refl, ap, ◌∙◌, rules}
use Rattle.std.proofs.Math.ListN.{length-set}
use Rattle.wire_links.specs.declared.wire.WireOut.{WireOut}
use Rattle.wire_links.specs.Carrying.{mark_sent}
use Rattle.wire_links.specs.Wires.{wire_of}
use Rattle.node_posts.proofs.Going.{unpushed-none}
use Rattle.node_posts.proofs.Marking.{none-marked, mark-more, all-marked, unpushed-more}
use Rattle.node_posts.proofs.sending.mark_outs.Goals as goal

pub loop-at-init : goal.loop-at-init
loop-at-init c = record {
  many = refl;
  marked = none-marked c.args.phase c.args.tick c.args.outs.now.items;
  unpushed = unpushed-none c.args.outs.now.items;
}

pub returns-in_err-send_mark-clause-unpushed : goal.returns-in_err-send_mark-clause-unpushed
returns-in_err-send_mark-clause-unpushed c =
    let within : c.loop-at.at < length c.loop-at.outs.items = search rules in
    unpushed-more c.args.outs.now.items c.loop-at.outs.items c.loop-at.at c.send_mark.new.self c.index_mut.result.now c.loop-at.invariant.unpushed within c.index_mut.ensures.value
    c.send_mark.ensures.same c.send_mark.ensures.pushed

pub loop-at-preserved : goal.loop-at-preserved
loop-at-preserved c =
    let olds = c.args.outs.now.items in
    let items = c.loop-at.outs.items in
    let here = c.index_mut.result.now in
    let within : c.loop-at.at < length c.loop-at.outs.items = search rules in
    record {
      many = length-set items c.loop-at.at c.send_mark.new.self ∙ c.loop-at.invariant.many;
      marked =
          mark-more c.args.phase c.args.tick c.loop-at.at olds items c.send_mark.new.self here c.loop-at.invariant.marked within
          (c.in_ok-send_mark.ensures.sent ∙ ap (λ (o : WireOut). mark_sent c.args.phase c.args.tick (wire_of o)) c.index_mut.ensures.value);
      unpushed =
          unpushed-more olds items c.loop-at.at c.send_mark.new.self here c.loop-at.invariant.unpushed within c.index_mut.ensures.value
          c.send_mark.ensures.same c.send_mark.ensures.pushed;
    }

pub returns-clause-sent : goal.returns-clause-sent
returns-clause-sent c =
    let past : length c.loop-at.outs.items ≤ c.loop-at.at = search rules in
    all-marked c.args.phase c.args.tick c.loop-at.at c.args.outs.now.items c.loop-at.outs.items past c.loop-at.invariant.marked
