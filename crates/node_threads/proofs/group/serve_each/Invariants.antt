use Rattle.std.proofs.Common.{◌≡◌}
use Rattle.std.specs.Prelude.{vec_len}
use Rattle.node_threads.proofs.Groups.{AllGo}
use Rattle.node_threads.proofs.group.serve_each.Given as goal

abbrev pub invariant-loop-at : goal.invariant-loop-at
invariant-loop-at g l = (vec_len l.group ≡ vec_len l.fn.group) × AllGo g.P.Program.wants g.P.Program.becomes l.last_tick l.fn.group.items l.group.items
