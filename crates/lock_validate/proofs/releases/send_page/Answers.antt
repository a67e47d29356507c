use Rattle.fault_handler.proofs.Nothing.{none-there}
use Rattle.lock_validate.proofs.releases.send_page.Goals as goal

-- No process has a page of the object in transit.
pub send_page-requires-clause-still : goal.send_page-requires-clause-still
send_page-requires-clause-still c none = none-there c.args.desk.now c.args.proc.number c.args.uid none c.requires.alone c.args.page
