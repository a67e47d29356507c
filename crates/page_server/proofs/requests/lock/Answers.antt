use Rattle.page_server.proofs.Refusals.{answer-refused, locks-refused, memory-refused}
use Rattle.page_server.proofs.requests.lock.Goals as goal

pub returns-in-Err-ask-clause-answer : goal.returns-in-Err-ask-clause-answer
returns-in-Err-ask-clause-answer g c =
    rw (← c.in-Ok.ensures.value)
    (answer-refused c.ask.result c.in-Err-ask.refusal c.in-Ok.attr _ _ c.refused.result c.refused.ensures.conflict c.refused.ensures.memory c.in-Err-ask.is c.ask.ensures.conflict)

pub returns-in-Err-ask-clause-locks : goal.returns-in-Err-ask-clause-locks
returns-in-Err-ask-clause-locks g c =
    rw (← c.in-Ok.ensures.value)
    (locks-refused c.ask.result c.in-Err-ask.refusal _ c.refused.result c.args.locks.now _ _ c.in-Err-ask.ensures.refused c.refused.ensures.memory c.in-Err-ask.is c.ask.ensures.conflict)

pub returns-in-Err-ask-clause-memory : goal.returns-in-Err-ask-clause-memory
returns-in-Err-ask-clause-memory g c =
    rw (← c.in-Ok.ensures.value)
    (memory-refused c.ask.result c.in-Err-ask.refusal c.in-Ok.attr _ _ _ c.refused.result c.refused.ensures.conflict c.ask.ensures.memory c.in-Err-ask.is c.ask.ensures.conflict)
