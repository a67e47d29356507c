use Rattle.std.proofs.Common.{◌∙◌, sym, ap}
use Rattle.std.specs.Prelude.{find, ◌==◌}
use Rattle.uid_names.specs.Rows.{is_in_conflict}
use Rattle.plain_store.proofs.KeptLocks.{find-within, conflict-at_home}
use Rattle.plain_store.proofs.locks.LockTable.conflict.Goals as goal

pub returns : goal.returns
returns c = λ deeds held.
    c.conflict_in.ensures
    ∙ ap (find (is_in_conflict c.args.p c.args.uid c.args.mode)) c.deref.ensures.value
    ∙ sym (find-within (is_in_conflict c.args.p c.args.uid c.args.mode) (λ row. row.uid.home == c.args.uid.home) c.args.self.now.rows.items (conflict-at_home c.args.p c.args.uid c.args.mode))
    ∙ ap (find (is_in_conflict c.args.p c.args.uid c.args.mode)) (held.rows c.args.uid.home)
