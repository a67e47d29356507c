use Rattle.event_charts.proofs.Drawing.{named-at}
use Rattle.event_charts.proofs.charts.add_all_rows.Goals as goal

pub add_row-requires-clause-named : goal.add_row-requires-clause-named
add_row-requires-clause-named c =
    (named-at c.args.run.now.names c.args.shown.now c.loop-view.view-index c.view-item.result c.loop-view-test.true c.view-item.is c.requires.named).place
