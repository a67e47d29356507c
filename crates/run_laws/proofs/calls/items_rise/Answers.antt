use Rattle.run_laws.proofs.Rising.{history-rises}
use Rattle.run_laws.proofs.calls.items_rise.Goals as goal

pub returns : goal.returns
returns c = history-rises
