use Rattle.node_posts.proofs.Going.{goes-then, run-goes}
use Rattle.node_threads.proofs.serving.serve_post.Goals as goal

pub begin_all-begun-requires-clause-run : goal.begin_all-begun-requires-clause-run
begin_all-begun-requires-clause-run g c κs within =
    run-goes g.P.Program.wants g.P.Program.becomes c.args.last_tick c.args.post.now c.serve_round-moved.new.self c.requires.run c.serve_round-moved.ensures.goes

pub returns-then-moved-2 : goal.returns-then-moved-2
returns-then-moved-2 g c =
    goes-then g.P.Program.wants g.P.Program.becomes c.args.last_tick c.args.post.now c.begin_all-begun.new.post c.push_all.new.post
    (goes-then g.P.Program.wants g.P.Program.becomes c.args.last_tick c.args.post.now c.serve_round-moved.new.self c.begin_all-begun.new.post c.serve_round-moved.ensures.goes c.begin_all-begun.ensures)
    (c.push_all.ensures c.args.last_tick c.requires.last)

pub returns-else-moved-2 : goal.returns-else-moved-2
returns-else-moved-2 g c =
    goes-then g.P.Program.wants g.P.Program.becomes c.args.last_tick c.args.post.now c.begin_all-begun.new.post c.push_all.new.post
    (goes-then g.P.Program.wants g.P.Program.becomes c.args.last_tick c.args.post.now c.serve_round-moved.new.self c.begin_all-begun.new.post c.serve_round-moved.ensures.goes c.begin_all-begun.ensures)
    (c.push_all.ensures c.args.last_tick c.requires.last)

pub tell-requires-clause-run : goal.tell-requires-clause-run
tell-requires-clause-run g c κs within = (
  c.args.last_tick,
  run-goes g.P.Program.wants g.P.Program.becomes c.args.last_tick c.args.post.now c.serve_round-moved.new.self c.requires.run c.serve_round-moved.ensures.goes,
)

pub tell-requires-then-begun-clause-run : goal.tell-requires-then-begun-clause-run
tell-requires-then-begun-clause-run g c κs within = (
  c.args.last_tick,
  run-goes g.P.Program.wants g.P.Program.becomes c.args.last_tick c.args.post.now c.begin_all-begun.new.post c.requires.run
      (goes-then g.P.Program.wants g.P.Program.becomes c.args.last_tick c.args.post.now c.serve_round-moved.new.self c.begin_all-begun.new.post c.serve_round-moved.ensures.goes c.begin_all-begun.ensures),
)
