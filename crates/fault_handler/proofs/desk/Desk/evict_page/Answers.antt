use Rattle.fault_handler.proofs.Reached.{gives-evicted}
use Rattle.fault_handler.proofs.desk.Desk.evict_page.Goals as goal

pub returns : goal.returns
returns c = record {
  outcome = gives-evicted c.args.self.now c.evict.new.self c.args.proc.number c.args.task c.args.uid c.args.page c.home.result c.page_out-body.result c.new.result c.evict.ensures c.home.ensures.value c.page_out-body.ensures c.new.ensures;
}
