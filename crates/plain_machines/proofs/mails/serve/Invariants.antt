use Rattle.mail_box.specs.Dialogues.{MayHear}
use Rattle.mail_box.specs.States.{rest}
use Rattle.plain_machines.proofs.mails.serve.Given as goal

abbrev pub invariant-calls : goal.invariant-calls
invariant-calls l = MayHear (rest l.machine) l.last
