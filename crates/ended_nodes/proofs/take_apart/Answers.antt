use Rattle.std.proofs.Common.{◌++◌, ◌∷◌, [], Option, List, map, sym, ap, ◌∙◌}
use Rattle.std.proofs.lemmas.List.{map-append}
use Rattle.std.proofs.iter.Next.{Yields-more}
use Rattle.std.specs.Vec.Iter.{into_iter_steps}
use Rattle.dom_history.specs.declared.event.NodeLog.{NodeLog}
use Rattle.node_core.specs.Nodes.{Noted}
use Rattle.ended_nodes.specs.Ended.{own_of, or_else, program_at, AreNumbered}
use Rattle.ended_nodes.proofs.Elements.{at_all, all_taken, taken-one}
use Rattle.ended_nodes.proofs.Programs.{at-more}
use Rattle.ended_nodes.proofs.take_apart.Goals as goal

pub take_one-requires : goal.take_one-requires
take_one-requires g c =
    let x = c.in-Some.node in
    let xs = c.loop-node.yielded in
    let more = Yields-more into_iter_steps c.into_iter-node-iterator.result xs c.loop-node.node-iterator x c.next.new.self c.loop-node.yielded_by c.in-Some.ensures.steps in
    at_all (λ (y : Noted g.row.P.Denot). AreNumbered y) c.args.nodes.items _ x c.requires.numbers
    (taken-one c.into_iter-node-iterator.result xs x c.next.new.self c.args.nodes.items more c.into_iter-node-iterator.ensures.into_iter_gives.0)

pub loop-node-preserved : goal.loop-node-preserved
loop-node-preserved g c =
    let x = c.in-Some.node in
    let xs = c.loop-node.yielded in (
      c.in_ok-take_one.ensures.log
          ∙ ap (λ (ls : List NodeLog). ls ++ x.log ∷ []) c.loop-node.invariant.0
          ∙ sym (map-append (λ (y : Noted g.row.P.Denot). y.log) xs (x ∷ [])),
      λ p.
          c.in_ok-take_one.ensures.programs p
          ∙ ap (λ (o : Option g.row.P.Denot). or_else o (own_of x p)) (c.loop-node.invariant.1 p)
          ∙ sym (at-more xs x p),
    )

pub returns-clause-logs : goal.returns-clause-logs
returns-clause-logs g c =
    let all = all_taken c.into_iter-node-iterator.result c.loop-node.yielded c.loop-node.node-iterator c.args.nodes.items c.loop-node.yielded_by c.into_iter-node-iterator.ensures.into_iter_gives.0 c.in-None.ensures.steps.0 in
    c.loop-node.invariant.0 ∙ ap (map (λ (y : Noted g.row.P.Denot). y.log)) all

pub returns-clause-programs : goal.returns-clause-programs
returns-clause-programs g c = λ p.
    (let all = all_taken c.into_iter-node-iterator.result c.loop-node.yielded c.loop-node.node-iterator c.args.nodes.items c.loop-node.yielded_by c.into_iter-node-iterator.ensures.into_iter_gives.0 c.in-None.ensures.steps.0 in
    c.loop-node.invariant.1 p ∙ ap (λ (ys : List (Noted g.row.P.Denot)). program_at ys p) all)
