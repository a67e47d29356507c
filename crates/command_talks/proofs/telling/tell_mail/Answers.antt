use Rattle.std.proofs.Common.{Some, ap, ◌∙◌, sym, subst}
use Rattle.std.specs.Option.{option_copied}
use Rattle.naming_tree.specs.Dialogues.{IsStep}
use Rattle.mail_box.specs.States.{rest}
use Rattle.command_talks.specs.FileTalks.{op_left}
use Rattle.command_talks.proofs.Machines.{left_asking}
use Rattle.command_talks.proofs.telling.tell_mail.Goals as goal

pub returns-in-Do-clause-asks : goal.returns-in-Do-clause-asks
returns-in-Do-clause-asks c = (
  ap op_left c.in_ok-op.ensures.left ∙ left_asking (rest c.args.mail.now) (option_copied c.args.last) c.in-Do.op (sym (ap Some c.in-Do.is) ∙ c.in_ok-op.ensures.step),
  subst IsStep c.in-Do.is c.in_ok-op.ensures.range,
)
