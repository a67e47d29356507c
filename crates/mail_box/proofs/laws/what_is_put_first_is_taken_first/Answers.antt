use Rattle.mail_box.proofs.Holding.{holds_nothing}
use Rattle.mail_box.proofs.Queueing.{puts_last, takes_first}
use Rattle.mail_box.proofs.laws.what_is_put_first_is_taken_first.Goals as goal

pub returns-clause-nothing : goal.returns-clause-nothing
returns-clause-nothing c opening past u none = holds_nothing opening past u none

pub returns-clause-put : goal.returns-clause-put
returns-clause-put c opening past u = puts_last opening past u

pub returns-clause-taken : goal.returns-clause-taken
returns-clause-taken c opening past u h text texts box = takes_first opening past u h text texts box
