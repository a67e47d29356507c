use Rattle.page_server.proofs.Sides.{decided-answer, told-carried}
use Rattle.page_server.proofs.laws.answers_can_be_carried.Goals as goal

pub returns : goal.returns
returns c = record { decided = λ home locks p ask kept table. decided-answer home locks kept table p ask; told = told-carried }
