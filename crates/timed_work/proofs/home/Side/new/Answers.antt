use Rattle.page_server.proofs.Within.{second-holds}
use Rattle.timed_work.proofs.home.Side.new.Goals as goal

pub new-requires-3-clause-rooms : goal.new-requires-3-clause-rooms
new-requires-3-clause-rooms c = second-holds c.in_ok-home.home c.node-node.ensures.kept
