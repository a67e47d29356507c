use Rattle.std.proofs.Common.{◌≡◌, List, ◌++◌, ◌∷◌, [], map, refl, sym, subst, ◌∙◌}
use Rattle.std.proofs.iter.Next.{Yields-more}
use Rattle.std.specs.Vec.Iter.{into_iter_steps}
use Rattle.ended_nodes.proofs.Elements.{all_taken, taken-one}
use Rattle.node_posts.specs.declared.post.Post.{Post}
use Rattle.node_posts.specs.Starts.{AreJoined}
use Rattle.node_posts.proofs.Starting.{posts-are, none-joined, next-number, more-joined}
use Rattle.node_posts.proofs.making.make_posts.Goals as goal

pub returns-clause-posts : goal.returns-clause-posts
returns-clause-posts g c = λ limit least made s are.
    (let all = all_taken c.into_iter-node-iterator.result c.loop-node.yielded c.loop-node.node-iterator c.args.nodes.items c.loop-node.yielded_by c.into_iter-node-iterator.ensures.into_iter_gives.0 c.in-None.ensures.steps.0 in
    posts-are g.P.Program.wants g.P.Program.becomes limit least made s c.args.plan.now c.rows-rows.ensures.plan c.args.nodes.items are c.loop-node.posts.items (c.loop-node.invariant.1 ∙ all) c.loop-node.invariant.0)

pub loop-node-init : goal.loop-node-init
loop-node-init g c =
    subst (λ (ys : List (Post g.row.P.Denot g.row.G.Denot)). AreJoined c.args.plan.now ys × (map (λ y. y.node) ys ≡ [])) (sym c.in_ok-posts.ensures.items)
    (none-joined c.args.plan.now, refl)

pub joined-requires-clause-next : goal.joined-requires-clause-next
joined-requires-clause-next g c =
    let x = c.in-Some.node in
    let xs = c.loop-node.yielded in
    let more = Yields-more into_iter_steps c.into_iter-node-iterator.result xs c.loop-node.node-iterator x c.next.new.self c.loop-node.yielded_by c.in-Some.ensures.steps in
    let given = c.requires.nodes in
    next-number g.P.Program.wants g.P.Program.becomes given.0 given.1 c.args.nodes.items given.2 c.loop-node.posts.items xs x c.loop-node.invariant.1
    (taken-one c.into_iter-node-iterator.result xs x c.next.new.self c.args.nodes.items more c.into_iter-node-iterator.ensures.into_iter_gives.0)

pub loop-node-preserved : goal.loop-node-preserved
loop-node-preserved g c =
    let x = c.in-Some.node in
    let xs = c.loop-node.yielded in
    subst (λ (ys : List (Post g.row.P.Denot g.row.G.Denot)). AreJoined c.args.plan.now ys × (map (λ y. y.node) ys ≡ xs ++ x ∷ [])) (sym c.in_ok-push.ensures.items)
    (more-joined c.args.plan.now x c.loop-node.posts.items c.joined.new.posts.items c.in_ok-post.post xs c.loop-node.invariant.1 c.in_ok-post.ensures)
