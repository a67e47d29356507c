use Rattle.node_threads.proofs.Groups.{AllGo}
use Rattle.node_threads.proofs.group.serve_group.Given as goal

abbrev pub invariant-loop : goal.invariant-loop
invariant-loop g l = AllGo g.P.Program.wants g.P.Program.becomes l.last_tick l.initial.group.items l.group.items
