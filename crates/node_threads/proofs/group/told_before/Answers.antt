use Rattle.std.proofs.Common.{sym, subst}
use Rattle.node_posts.specs.Posts.{HasRun}
use Rattle.node_threads.proofs.group.told_before.Goals as goal

pub pass-requires : goal.pass-requires
pass-requires g c = record {
  run = (
    c.requires.run.0,
    subst (HasRun g.P.Program.wants g.P.Program.becomes c.requires.run.0) (sym c.post-item.is) (c.requires.run.1 c.loop-post.post-index c.post-item.result c.loop-post-test.true),
  );
}
