use Rattle.page_server.proofs.Again.{decided-once}
use Rattle.page_server.proofs.laws.a_number_is_decided_once.Goals as goal

pub returns : goal.returns
returns c = decided-once
