use Rattle.page_server.proofs.Writes.{old-unchanged}
use Rattle.page_server.proofs.laws.an_old_number_changes_nothing.Goals as goal

pub returns : goal.returns
returns c = old-unchanged
