use Rattle.mail_box.proofs.Bad.{bad_message, bad_numbers}
use Rattle.mail_box.proofs.laws.bad_bytes_are_these.Goals as goal

pub returns-clause-numbers : goal.returns-clause-numbers
returns-clause-numbers c h = bad_numbers h

pub returns-clause-message : goal.returns-clause-message
returns-clause-message c bytes = bad_message bytes
