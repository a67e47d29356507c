use Rattle.dom_history.proofs.Endings.{legal_without, ended_by, legal_with}
use Rattle.dom_history.proofs.laws.entry_at_the_end.Goals as goal

pub returns-clause-exactly : goal.returns-clause-exactly
returns-clause-exactly c = λ opening h e. (λ l. (legal_without opening h e l, ended_by opening h e l), legal_with opening h e)
