use Rattle.std.proofs.Common.{rules, arith}
use Rattle.ring_messages.proofs.Versions.{second-carries}
use Rattle.timed_work.proofs.home.Side.ask.Goals as goal

pub new-frame-requires : goal.new-frame-requires
new-frame-requires c = record {
  proc_low = omega arith;
  proc_high = omega arith;
  number = omega arith;
  tick = omega arith;
  body = search rules;
  version = (omega arith, omega arith);
  within = second-carries _ _ c.in_ok-body.ensures.range;
}
