use Rattle.page_server.proofs.Unchanged.{others-held}
use Rattle.page_server.proofs.laws.a_process_holds_what_it_held.Goals as goal

pub returns : goal.returns
returns c = others-held
