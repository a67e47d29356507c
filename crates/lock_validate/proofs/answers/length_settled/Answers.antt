use Rattle.lock_validate.proofs.answers.length_settled.Goals as goal

pub returns-clause-outcome : goal.returns-clause-outcome
returns-clause-outcome c = rw c.length_done.ensures.done at c.settled.ensures.outcome

pub returns-clause-memory : goal.returns-clause-memory
returns-clause-memory c = rw c.length_done.ensures.done at c.settled.ensures.memory
