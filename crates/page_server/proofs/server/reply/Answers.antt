use Rattle.page_server.proofs.server.reply.Goals as goal

pub new-requires : goal.new-requires
new-requires c = record {
  proc_low = rw c.proc.ensures.value c.proc.ensures.ranges.proc_low;
  proc_high = rw c.proc.ensures.value c.proc.ensures.ranges.proc_high;
  number = rw c.number.ensures.value c.number.ensures.ranges.number;
  tick = c.requires.tick;
  body = c.into_body.ensures.ranges c.from.result;
  version = rw c.version.ensures.value c.version.ensures.ranges.version;
  within = rw (c.version.ensures.value, c.into_body.ensures.value) c.requires.within;
}
