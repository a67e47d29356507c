use Rattle.std.proofs.Common.{sym}
use Rattle.lock_manager.specs.Grants.{is_on, writes_under}
use Rattle.uid_names.proofs.Finds.{list_any-and}
use Rattle.lock_manager.proofs.locks.Locks.writes.Goals as goal

pub returns : goal.returns
returns c =
    rw (c.any_writes.ensures, c.on_object.ensures, c.deref.ensures.value, ← c.self.view_is)
    (sym (list_any-and (is_on c.args.uid) (writes_under c.args.grant c.args.node) c.self.inside.grants.items))
