use Rattle.run_laws.proofs.EndedOps.{step-ended}
use Rattle.run_laws.proofs.desks.an_operation_ends_by_its_desk_an_answer_or_a_fault.Goals as goal

pub returns : goal.returns
returns c = step-ended
