use Rattle.std.proofs.Common.{◌∙◌}
use Rattle.fault_handler.proofs.Reached.{free-dropped, absent-dropped, comes-dropped}
use Rattle.fault_handler.proofs.desk.Desk.make_room.Goals as goal

pub fetch_page-access-requires-clause-free : goal.fetch_page-access-requires-clause-free
fetch_page-access-requires-clause-free c = rw c.drop_page.ensures (free-dropped c.args.self.now c.chosen-uid.result.0 c.chosen-uid.result.1 c.chosen-uid.ensures.resident c.requires.limit)

pub fetch_page-access-requires-clause-absent : goal.fetch_page-access-requires-clause-absent
fetch_page-access-requires-clause-absent c = rw c.drop_page.ensures (absent-dropped c.args.self.now c.chosen-uid.result.0 c.chosen-uid.result.1 c.args.task.uid _ c.requires.absent)

pub returns : goal.returns
returns c = record {
  outcome = rw c.keep_spare.ensures (comes-dropped c.args.self.now c.fetch_page-access.new.self c.args.proc.number c.args.task c.chosen-uid.result.0 c.chosen-uid.result.1 c.fetch_page-access.result c.chosen-uid.ensures.chosen c.chosen-uid.ensures.resident
      c.drop_page.new.self _ c.drop_page.ensures c.one.ensures (c.chosen-uid.ensures.dirty ∙ c.if-dirty.false) c.fetch_page-access.ensures.outcome);
}
