use Rattle.std.proofs.Common.{◌≡◌, Option, Some, ap, ◌∙◌, sym, subst}
use Rattle.std.specs.Option.{option_copied}
use Rattle.std.proofs.lemmas.Result.{IfOk-weaker}
use Rattle.naming_tree.specs.Dialogues.{IsStep}
use Rattle.mail_box.specs.States.{rest}
use Rattle.mail_box.specs.declared.mailing.Mailing.{Mailing}
use Rattle.command_talks.specs.FileTalks.{file_turn, op_left}
use Rattle.command_talks.specs.Mailed.{mail_outcome}
use Rattle.command_talks.specs.declared.file_talk.FileTalk.TheVariants.{Mails}
use Rattle.command_talks.specs.declared.file_talk.FileTurn.{FileTurn}
use Rattle.command_talks.specs.declared.file_talk.FileTurn.TheVariants.{Comes, Goes}
use Rattle.command_talks.proofs.Boxes.{mail_comes, mail_goes}
use Rattle.command_talks.proofs.Machines.{left_asking}
use Rattle.command_talks.proofs.seeking.mail_on.Goals as goal

pub returns-in-Do-clause-turn : goal.returns-in-Do-clause-turn
returns-in-Do-clause-turn c =
    ap (λ (m : Option Mailing). Some (Goes (Mails m) c.in-Do.op)) c.in_ok-op.ensures.after
    ∙ mail_goes c.args.machine (option_copied c.args.last) c.in-Do.op (sym (ap Some c.in-Do.is) ∙ c.in_ok-op.ensures.step)

pub returns-in-Do-clause-asks : goal.returns-in-Do-clause-asks
returns-in-Do-clause-asks c = (
  ap op_left c.in_ok-op.ensures.left ∙ left_asking (rest c.args.machine) (option_copied c.args.last) c.in-Do.op (sym (ap Some c.in-Do.is) ∙ c.in_ok-op.ensures.step),
  subst IsStep c.in-Do.is c.in_ok-op.ensures.range,
)

pub returns-in-Over-clause-turn : goal.returns-in-Over-clause-turn
returns-in-Over-clause-turn c =
    let come = c.in-Over.come in
    IfOk-weaker c.mail_over.result (λ (turn : FileTurn). turn ≡ Comes (mail_outcome come)) (λ (turn : FileTurn). Some turn ≡ file_turn (Mails c.args.machine) (option_copied c.args.last))
    (λ turn is. ap Some is ∙ mail_comes c.args.machine (option_copied c.args.last) come (sym (ap Some c.in-Over.is) ∙ c.in_ok-op.ensures.step)) c.mail_over.ensures.turn

pub returns-in-Over-clause-asks : goal.returns-in-Over-clause-asks
returns-in-Over-clause-asks c = c.mail_over.ensures.asks
