use Rattle.uid_names.specs.Beginnings.{at_home}
use Rattle.page_server.proofs.Begun.{IsBegun-first_home}
use Rattle.page_server.proofs.Within.{second-holds}
use Rattle.desk_bench.proofs.homes.HomeBench.begun.Goals as goal

pub new-requires-3-clause-rooms : goal.new-requires-3-clause-rooms
new-requires-3-clause-rooms c = second-holds c.in_ok-home.home c.node-node.ensures.kept

pub new-requires-3-clause-begun : goal.new-requires-3-clause-begun
new-requires-3-clause-begun c = IsBegun-first_home c.in_ok-home.home c.args.node (at_home c.args.node c.args.opening.now.objects) c.in_ok-home.ensures.first c.in_ok-home.ensures.few
