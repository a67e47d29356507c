use Rattle.fault_handler.proofs.Idle.{OnTrue-idle}
use Rattle.fault_handler.proofs.desk.Desk.is_idle.Goals as goal

pub returns-clause-idle : goal.returns-clause-idle
returns-clause-idle c = OnTrue-idle c.args.self.now c.args.proc.number c.may_go_on.result c.may_go_on.ensures
