use Rattle.std.proofs.Common.{rules, arith}
use Rattle.ring_messages.proofs.Versions.{second-carries}
use Rattle.test_wires.proofs.rings.frame.Goals as goal

pub new-requires : goal.new-requires
new-requires c = record {
  proc_low = omega arith;
  proc_high = omega arith;
  number = c.requires.low;
  tick = c.requires.low;
  body = search rules;
  version = (omega arith, omega arith);
  within = second-carries 2 c.args.body c.requires.body;
}
