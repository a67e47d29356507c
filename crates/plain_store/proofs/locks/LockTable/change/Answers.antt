use Rattle.plain_store.specs.declared.locks.Change.TheVariants.{Taken, Freed}
use Rattle.dom_history.proofs.RowOrder.{set_rise, without_rise}
use Rattle.plain_store.proofs.KeptLocks.{held-step, rows-step, lines_of-set, lines_of-without, rows_of-set, rows_of-without}
use Rattle.plain_store.proofs.locks.LockTable.change.Goals as goal

pub returns-in-Taken : goal.returns-in-Taken
returns-in-Taken c = λ deeds held.
    let row = c.in-Taken.row in
    let changes = c.in-Taken.ensures in
    record {
      held = held-step (Taken row) c.args.deed.now deeds c.args.self.now.held.items c.set_last.new.held.items changes held.held
          (λ p. rw (c.set_last.ensures, changes.proc) (lines_of-set row c.args.self.now.held.items p));
      rising = rw c.set_row.ensures (set_rise row c.args.self.now.rows.items held.rising);
      rows = rows-step (Taken row) c.args.deed.now deeds c.args.self.now.rows.items c.set_row.new.rows.items changes held.rows
          (λ home. rw c.set_row.ensures (rows_of-set row c.args.self.now.rows.items home held.rising));
    }

pub returns-in-Freed : goal.returns-in-Freed
returns-in-Freed c = λ deeds held.
    let p = c.in-Freed.p in
    let uid = c.in-Freed.uid in
    let changes = c.in-Freed.ensures in
    record {
      held = held-step (Freed p uid) c.args.deed.now deeds c.args.self.now.held.items c.remove_row.new.rows.items changes held.held
          (λ q. rw (c.remove_row.ensures.rows, changes.proc) (lines_of-without p uid c.args.self.now.held.items q));
      rising = rw c.remove_row-in-Freed.ensures.rows (without_rise p uid c.args.self.now.rows.items held.rising);
      rows = rows-step (Freed p uid) c.args.deed.now deeds c.args.self.now.rows.items c.remove_row-in-Freed.new.rows.items changes held.rows
          (λ home. rw c.remove_row-in-Freed.ensures.rows (rows_of-without p uid c.args.self.now.rows.items home));
    }
