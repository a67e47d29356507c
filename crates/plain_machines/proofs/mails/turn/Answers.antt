use Rattle.std.proofs.Common.{Some, ap, sym, ◌∙◌}
use Rattle.std.specs.Option.{option_copied}
use Rattle.mail_box.specs.States.{rest}
use Rattle.naming_tree.proofs.Standing.{ready}
use Rattle.plain_machines.proofs.mails.turn.Goals as goal

pub returns : goal.returns
returns c =
    ready (rest c.args.machine.now) (rest c.next.new.self) (option_copied c.args.last) c.in-Do.op c.in_ok-reply.reply
    c.in_ok-result.ensures.left (ap Some (sym c.in-Do.is) ∙ c.in_ok-result.ensures.step) c.in_ok-reply.ensures
