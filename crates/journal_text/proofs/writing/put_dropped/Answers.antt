use Rattle.journal_text.specs.Lines.{drop_text}
use Rattle.journal_text.proofs.Drops.{one_more_fits}
use Rattle.journal_text.proofs.writing.put_dropped.Goals as goal

pub put_drop-requires : goal.put_drop-requires
put_drop-requires c =
    rw c.loop-uid.invariant
    (one_more_fits drop_text c.args.to.now.text c.args.pages.now c.loop-uid.uid-index c.args.to.now.room c.loop-uid-item.result c.loop-uid-item.is c.loop-uid-test.true c.requires)
