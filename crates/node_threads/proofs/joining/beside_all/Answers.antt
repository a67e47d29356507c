use Rattle.std.proofs.Common.{refl, map, sym, ap, subst, ◌∙◌}
use Rattle.wire_links.specs.Wires.{AreEnds}
use Rattle.node_threads.specs.Joined.{IsFifo, OfLinks}
use Rattle.ended_nodes.proofs.Elements.{all_taken}
use Rattle.node_threads.proofs.Beside.{rings-of, beside-of}
use Rattle.node_threads.proofs.joining.beside_all.Goals as goal

pub beside_every-requires : goal.beside_every-requires
beside_every-requires g c =
    let all = all_taken c.into_iter-post-iterator.result c.loop-post.yielded c.loop-post.post-iterator c.args.posts.items c.loop-post.yielded_by c.into_iter-post-iterator.ensures.into_iter_gives.0 c.in-None.ensures.steps.0 in
    let outs = c.loop-post.invariant.1 ∙ ap (map (λ x. x.outs)) all in
    let ins = c.loop-post.invariant.2 ∙ ap (map (λ x. x.ins)) all in
    record {
      rings = subst (λ os. OfLinks AreEnds os c.loop-post.ins.items) (sym outs)
          (subst (λ is. OfLinks AreEnds (map (λ x. x.outs) c.args.posts.items) is) (sym ins) (rings-of c.args.posts.items (λ x. x.outs) (λ x. x.ins) (λ x. refl) (λ x. refl) c.requires.rings));
    }

pub returns-clause-nodes : goal.returns-clause-nodes
returns-clause-nodes g c =
    let all = all_taken c.into_iter-post-iterator.result c.loop-post.yielded c.loop-post.post-iterator c.args.posts.items c.loop-post.yielded_by c.into_iter-post-iterator.ensures.into_iter_gives.0 c.in-None.ensures.steps.0 in
    c.loop-post.invariant.0 ∙ ap (map (λ x. x.node)) all

pub returns-clause-fifo : goal.returns-clause-fifo
returns-clause-fifo g c =
    let all = all_taken c.into_iter-post-iterator.result c.loop-post.yielded c.loop-post.post-iterator c.args.posts.items c.loop-post.yielded_by c.into_iter-post-iterator.ensures.into_iter_gives.0 c.in-None.ensures.steps.0 in
    let outs = c.loop-post.invariant.1 ∙ ap (map (λ x. x.outs)) all in
    let ins = c.loop-post.invariant.2 ∙ ap (map (λ x. x.ins)) all in
    beside-of c.args.posts.items (λ x. x.outs) (λ x. x.ins) (λ x. refl) (λ x. refl)
    (subst (λ os. OfLinks IsFifo os (map (λ x. x.ins) c.args.posts.items)) outs (subst (λ is. OfLinks IsFifo c.loop-post.outs.items is) ins c.beside_every.ensures.fifo))
