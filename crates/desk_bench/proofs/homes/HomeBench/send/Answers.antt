use Rattle.std.proofs.Common.{rules, arith}
use Rattle.ring_messages.proofs.Versions.{second-carries}
use Rattle.desk_bench.proofs.homes.HomeBench.send.Goals as goal

pub new-frame-requires : goal.new-frame-requires
new-frame-requires c = record {
  proc_low = c.number.ensures.least;
  proc_high = c.number.ensures.greatest;
  number = omega arith;
  tick = omega arith;
  body = search rules;
  version = (omega arith, omega arith);
  within = second-carries c.node-to.result c.args.body (search rules);
}
