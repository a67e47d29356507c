use Rattle.run_laws.proofs.KeptLocks.{kept-without}
use Rattle.run_laws.proofs.desks.an_operation_answered_kept_has_no_act.Goals as goal

pub returns : goal.returns
returns c = kept-without
