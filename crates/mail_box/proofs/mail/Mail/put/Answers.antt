use Rattle.mail_box.proofs.Beginnings.{put_begins, put_made}
use Rattle.mail_box.proofs.mail.Mail.put.Goals as goal

pub returns-clause-made : goal.returns-clause-made
returns-clause-made c = put_made c.args.uid c.new.result c.in_ok-text.text c.args.text.now c.new.ensures c.in_ok-text.ensures

pub returns-clause-left : goal.returns-clause-left
returns-clause-left c = put_begins c.args.uid c.new.result c.in_ok-text.text c.args.text.now c.new.ensures c.in_ok-text.ensures
