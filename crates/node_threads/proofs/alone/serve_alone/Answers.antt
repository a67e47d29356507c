use Rattle.node_posts.proofs.Going.{goes-same, goes-then, run-goes}
use Rattle.node_threads.proofs.alone.serve_alone.Goals as goal

pub loop-init : goal.loop-init
loop-init g c = goes-same g.P.Program.wants g.P.Program.becomes c.args.last_tick c.args.post

pub serve_post-round-requires-clause-run : goal.serve_post-round-requires-clause-run
serve_post-round-requires-clause-run g c κs within = run-goes g.P.Program.wants g.P.Program.becomes c.args.last_tick c.args.post c.loop.post c.requires.run c.loop.invariant

pub returns-then-has_fault : goal.returns-then-has_fault
returns-then-has_fault g c =
    goes-then g.P.Program.wants g.P.Program.becomes c.args.last_tick c.args.post c.loop.post c.serve_post-round.new.post c.loop.invariant c.serve_post-round.ensures

pub returns-then-is_over : goal.returns-then-is_over
returns-then-is_over g c =
    goes-then g.P.Program.wants g.P.Program.becomes c.args.last_tick c.args.post c.loop.post c.serve_post-round.new.post c.loop.invariant c.serve_post-round.ensures

pub loop-preserved : goal.loop-preserved
loop-preserved g c =
    goes-then g.P.Program.wants g.P.Program.becomes c.args.last_tick c.args.post c.serve_post-round.new.post c.rest.new.post
    (goes-then g.P.Program.wants g.P.Program.becomes c.args.last_tick c.args.post c.loop.post c.serve_post-round.new.post c.loop.invariant c.serve_post-round.ensures)
    (c.rest.ensures c.args.last_tick c.requires.last)

pub loop-preserved-then-are_enough : goal.loop-preserved-then-are_enough
loop-preserved-then-are_enough g c =
    goes-then g.P.Program.wants g.P.Program.becomes c.args.last_tick c.args.post c.loop.post c.serve_post-round.new.post c.loop.invariant c.serve_post-round.ensures

pub pass-requires : goal.pass-requires
pass-requires g c = record { run = (c.args.last_tick, c.requires.run) }
