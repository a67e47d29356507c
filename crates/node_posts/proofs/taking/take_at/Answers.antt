use Rattle.std.proofs.Common.{◌++◌, ◌∷◌, [], ap, ◌∙◌, ◌<◌, length, rules}
use Rattle.std.proofs.lemmas.Option.{IfSome_then}
use Rattle.wire_links.specs.declared.wire.WireIn.{WireIn}
use Rattle.wire_links.specs.Wires.{taken}
use Rattle.node_posts.proofs.Going.{same-ins}
use Rattle.node_posts.proofs.Looking.{took-some, took-nothing, took-same, looked-none}
use Rattle.node_posts.proofs.taking.take_at.Goals as goal

pub returns-then-at-len-clause-none : goal.returns-then-at-len-clause-none
returns-then-at-len-clause-none c = looked-none c.args.ins.now.items

pub returns-then-at-len-clause-same : goal.returns-then-at-len-clause-same
returns-then-at-len-clause-same c = same-ins c.args.ins.now.items

pub returns-clause-some : goal.returns-clause-some
returns-clause-some c =
    let within : c.args.at < length c.args.ins.now.items = search rules in
    took-some c.args.ins.now.items c.args.at c.take.new.self c.index_mut.result.now c.take.result within c.index_mut.ensures.value c.take.ensures.some

pub returns-clause-none : goal.returns-clause-none
returns-clause-none c =
    let within : c.args.at < length c.args.ins.now.items = search rules in
    took-nothing c.args.ins.now.items c.args.at c.take.new.self c.index_mut.result.now c.take.result within c.index_mut.ensures.value c.take.ensures.none

pub returns-clause-same : goal.returns-clause-same
returns-clause-same c =
    let within : c.args.at < length c.args.ins.now.items = search rules in
    took-same c.args.ins.now.items c.args.at c.take.new.self c.index_mut.result.now within c.index_mut.ensures.value c.take.ensures.same
