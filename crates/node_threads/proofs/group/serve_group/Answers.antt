use Rattle.std.proofs.Common.{sym, subst}
use Rattle.std.specs.Prelude.{All}
use Rattle.node_posts.specs.Posts.{HasRun}
use Rattle.node_threads.proofs.Groups.{all-goes-same, all-goes-then, all-run, none-set}
use Rattle.node_threads.proofs.group.serve_group.Goals as goal

pub loop-init : goal.loop-init
loop-init g c = all-goes-same g.P.Program.wants g.P.Program.becomes c.args.last_tick c.args.group.items

pub serve_each-round-requires-clause-run : goal.serve_each-round-requires-clause-run
serve_each-round-requires-clause-run g c κs within = all-run g.P.Program.wants g.P.Program.becomes c.args.last_tick c.args.group.items c.loop.group.items c.loop.invariant c.requires.run

pub returns-then-has_fault-clause-goes : goal.returns-then-has_fault-clause-goes
returns-then-has_fault-clause-goes g c =
    all-goes-then g.P.Program.wants g.P.Program.becomes c.args.last_tick c.args.group.items c.loop.group.items c.serve_each-round.new.group.items c.loop.invariant c.serve_each-round.ensures

pub returns-then-are_over-clause-goes : goal.returns-then-are_over-clause-goes
returns-then-are_over-clause-goes g c =
    all-goes-then g.P.Program.wants g.P.Program.becomes c.args.last_tick c.args.group.items c.loop.group.items c.serve_each-round.new.group.items c.loop.invariant c.serve_each-round.ensures

pub returns-then-is_set-clause-goes : goal.returns-then-is_set-clause-goes
returns-then-is_set-clause-goes g c =
    all-goes-then g.P.Program.wants g.P.Program.becomes c.args.last_tick c.args.group.items c.loop.group.items c.serve_each-round.new.group.items c.loop.invariant c.serve_each-round.ensures

pub returns-then-is_set-clause-ends : goal.returns-then-is_set-clause-ends
returns-then-is_set-clause-ends g c none = absurd (none-set _ c.is_set.result c.if-is_set.true c.is_set.ensures none)

pub loop-preserved : goal.loop-preserved
loop-preserved g c =
    all-goes-then g.P.Program.wants g.P.Program.becomes c.args.last_tick c.args.group.items c.loop.group.items c.serve_each-round.new.group.items c.loop.invariant c.serve_each-round.ensures

pub told_before-told-requires : goal.told_before-told-requires
told_before-told-requires g c = record { run = (c.args.last_tick, subst (All (HasRun g.P.Program.wants g.P.Program.becomes c.args.last_tick)) (sym c.as_slice.ensures.value) c.requires.run) }
