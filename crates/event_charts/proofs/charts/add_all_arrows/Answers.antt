use Rattle.event_charts.proofs.Drawing.{named-at}
use Rattle.event_charts.proofs.charts.add_all_arrows.Goals as goal

pub add_arrows-requires-clause-named : goal.add_arrows-requires-clause-named
add_arrows-requires-clause-named c = named-at c.args.run.now.names c.args.shown.now c.loop-at.at c.index-shown-at.result c.loop-at-test.true c.index-shown-at.is c.requires.named
