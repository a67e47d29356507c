use Rattle.std.proofs.Common.{rules, arith}
use Rattle.ring_messages.proofs.Versions.{second-carries}
use Rattle.timed_work.proofs.wires.frame.Goals as goal

pub new-requires : goal.new-requires
new-requires c = record {
  proc_low = omega arith;
  proc_high = omega arith;
  number = omega arith;
  tick = omega arith;
  body = search rules;
  version = (omega arith, omega arith);
  within = second-carries 2 c.in_ok-body.field-0 c.in_ok-body.ensures;
}
