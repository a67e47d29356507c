use Rattle.fault_handler.proofs.Nothing.{unkept-clean, unkept-still}
use Rattle.lock_validate.proofs.Dropping.{alone-unkept}
use Rattle.lock_validate.proofs.answers.gone.Goals as goal

-- No process keeps the object, so none of its pages is dirty or on its way home.
pub drop_pages-requires-clause-clean : goal.drop_pages-requires-clause-clean
drop_pages-requires-clause-clean c alone =
    unkept-clean c.args.desk.now c.args.uid c.requires.kept (alone-unkept c.args.desk.now c.args.proc.number c.args.uid c.requires.given_up c.others_keep-gone.result c.others_keep-gone.ensures alone)

pub drop_pages-requires-clause-still : goal.drop_pages-requires-clause-still
drop_pages-requires-clause-still c alone =
    unkept-still c.args.desk.now c.args.uid c.requires.kept (alone-unkept c.args.desk.now c.args.proc.number c.args.uid c.requires.given_up c.others_keep-gone.result c.others_keep-gone.ensures alone)
