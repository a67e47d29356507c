use Rattle.std.proofs.Common.{◌<◌, length, ap, rules, ◌∙◌}
use Rattle.wire_links.specs.Wires.{taken}
use Rattle.node_posts.proofs.Going.{same-ins}
use Rattle.node_posts.proofs.Looking.{took-none, took-same, looked-none}
use Rattle.node_posts.proofs.taking.waits_at.Goals as goal

pub returns-then-at-len-clause-none : goal.returns-then-at-len-clause-none
returns-then-at-len-clause-none c = looked-none c.args.ins.now.items

pub returns-then-at-len-clause-same : goal.returns-then-at-len-clause-same
returns-then-at-len-clause-same c = same-ins c.args.ins.now.items

pub returns-clause-none : goal.returns-clause-none
returns-clause-none c =
    let within : c.args.at < length c.args.ins.now.items = search rules in
    took-none c.args.ins.now.items c.args.at c.is_empty.new.self c.index_mut.result.now within (c.is_empty.ensures.taken ∙ ap taken c.index_mut.ensures.value)

pub returns-clause-same : goal.returns-clause-same
returns-clause-same c =
    let within : c.args.at < length c.args.ins.now.items = search rules in
    took-same c.args.ins.now.items c.args.at c.is_empty.new.self c.index_mut.result.now within c.index_mut.ensures.value c.is_empty.ensures.same
