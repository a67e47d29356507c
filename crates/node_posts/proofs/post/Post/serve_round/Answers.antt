use Rattle.node_posts.proofs.Going.{goes-then, run-goes}
use Rattle.node_posts.proofs.post.Post.serve_round.Goals as goal

pub hear_all-heard-requires-clause-run : goal.hear_all-heard-requires-clause-run
hear_all-heard-requires-clause-run g c =
    let wants = g.P.Program.wants in
    let becomes = g.P.Program.becomes in
    let x = c.args.self.now in
    let a0 = c.go_all-went.ensures.goes in
    run-goes wants becomes c.args.last_tick x c.go_all-went.new.self c.requires.run a0

pub take_own_some-took_own-requires-clause-run : goal.take_own_some-took_own-requires-clause-run
take_own_some-took_own-requires-clause-run g c =
    let wants = g.P.Program.wants in
    let becomes = g.P.Program.becomes in
    let x = c.args.self.now in
    let a0 = c.go_all-went.ensures.goes in
    let a1 = goes-then wants becomes c.args.last_tick x c.go_all-went.new.self c.hear_all-heard.new.self a0 c.hear_all-heard.ensures.goes in
    run-goes wants becomes c.args.last_tick x c.hear_all-heard.new.self c.requires.run a1

pub take_all-took-requires-clause-run : goal.take_all-took-requires-clause-run
take_all-took-requires-clause-run g c =
    let wants = g.P.Program.wants in
    let becomes = g.P.Program.becomes in
    let x = c.args.self.now in
    let a0 = c.go_all-went.ensures.goes in
    let a1 = goes-then wants becomes c.args.last_tick x c.go_all-went.new.self c.hear_all-heard.new.self a0 c.hear_all-heard.ensures.goes in
    let a2 = goes-then wants becomes c.args.last_tick x c.hear_all-heard.new.self c.take_own_some-took_own.new.self a1 c.take_own_some-took_own.ensures.goes in
    run-goes wants becomes c.args.last_tick x c.take_own_some-took_own.new.self c.requires.run a2

pub make_ready-ready-requires-clause-run : goal.make_ready-ready-requires-clause-run
make_ready-ready-requires-clause-run g c =
    let wants = g.P.Program.wants in
    let becomes = g.P.Program.becomes in
    let x = c.args.self.now in
    let a0 = c.go_all-went.ensures.goes in
    let a1 = goes-then wants becomes c.args.last_tick x c.go_all-went.new.self c.hear_all-heard.new.self a0 c.hear_all-heard.ensures.goes in
    let a2 = goes-then wants becomes c.args.last_tick x c.hear_all-heard.new.self c.take_own_some-took_own.new.self a1 c.take_own_some-took_own.ensures.goes in
    let a3 = goes-then wants becomes c.args.last_tick x c.take_own_some-took_own.new.self c.take_all-took.new.self a2 c.take_all-took.ensures.goes in
    run-goes wants becomes c.args.last_tick x c.take_all-took.new.self c.requires.run a3

pub returns-then-took : goal.returns-then-took
returns-then-took g c =
    let wants = g.P.Program.wants in
    let becomes = g.P.Program.becomes in
    let x = c.args.self.now in
    let a0 = c.go_all-went.ensures.goes in
    let a1 = goes-then wants becomes c.args.last_tick x c.go_all-went.new.self c.hear_all-heard.new.self a0 c.hear_all-heard.ensures.goes in
    let a2 = goes-then wants becomes c.args.last_tick x c.hear_all-heard.new.self c.take_own_some-took_own.new.self a1 c.take_own_some-took_own.ensures.goes in
    let a3 = goes-then wants becomes c.args.last_tick x c.take_own_some-took_own.new.self c.take_all-took.new.self a2 c.take_all-took.ensures.goes in
    let a4 = goes-then wants becomes c.args.last_tick x c.take_all-took.new.self c.make_ready-ready.new.self a3 c.make_ready-ready.ensures.goes in
    record { goes = a4 }

pub returns-else-took : goal.returns-else-took
returns-else-took g c =
    let wants = g.P.Program.wants in
    let becomes = g.P.Program.becomes in
    let x = c.args.self.now in
    let a0 = c.go_all-went.ensures.goes in
    let a1 = goes-then wants becomes c.args.last_tick x c.go_all-went.new.self c.hear_all-heard.new.self a0 c.hear_all-heard.ensures.goes in
    let a2 = goes-then wants becomes c.args.last_tick x c.hear_all-heard.new.self c.take_own_some-took_own.new.self a1 c.take_own_some-took_own.ensures.goes in
    let a3 = goes-then wants becomes c.args.last_tick x c.take_own_some-took_own.new.self c.take_all-took.new.self a2 c.take_all-took.ensures.goes in
    let a4 = goes-then wants becomes c.args.last_tick x c.take_all-took.new.self c.make_ready-ready.new.self a3 c.make_ready-ready.ensures.goes in
    record { goes = a4 }
