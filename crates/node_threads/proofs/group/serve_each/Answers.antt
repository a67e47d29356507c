use Rattle.std.proofs.Common.{rules, sym, subst}
use Rattle.node_posts.specs.Posts.{HasRun, GoesOn}
use Rattle.node_posts.proofs.Zips.{all-set-more}
use Rattle.node_posts.proofs.Going.{goes-then}
use Rattle.node_threads.proofs.Groups.{all-goes-same, all-run}
use Rattle.node_threads.proofs.group.serve_each.Goals as goal

pub loop-at-init : goal.loop-at-init
loop-at-init g c = (search rules, all-goes-same g.P.Program.wants g.P.Program.becomes c.args.last_tick c.args.group.now.items)

-- the post at the place is one of those that went on
pub serve_post-requires-clause-run : goal.serve_post-requires-clause-run
serve_post-requires-clause-run g c κs within =
    let all = all-run g.P.Program.wants g.P.Program.becomes c.args.last_tick c.args.group.now.items c.loop-at.group.items c.loop-at.invariant.1 c.requires.run in
    subst (HasRun g.P.Program.wants g.P.Program.becomes c.args.last_tick) (sym c.index_mut.ensures.value) (all c.loop-at.at c.index_mut.result.now (search rules))

pub loop-at-preserved : goal.loop-at-preserved
loop-at-preserved g c = (
  search rules,
  all-set-more (GoesOn g.P.Program.wants g.P.Program.becomes c.args.last_tick) (goes-then g.P.Program.wants g.P.Program.becomes c.args.last_tick) c.args.group.now.items c.loop-at.group.items c.loop-at.at c.serve_post.new.post c.index_mut.result.now
      c.loop-at.invariant.1 (search rules) (subst (λ x. GoesOn g.P.Program.wants g.P.Program.becomes c.args.last_tick x c.serve_post.new.post) c.index_mut.ensures.value c.serve_post.ensures),
)
