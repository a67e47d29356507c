use Rattle.std.proofs.Common.{Option, sym, subst}
use Rattle.std.specs.Option.{option_copied}
use Rattle.naming_tree.specs.Walking.{walking_after, walking_asks}
use Rattle.naming_tree.specs.declared.walking.Walking.{Walking}
use Rattle.command_talks.specs.FileTalks.{asked_at}
use Rattle.command_talks.specs.FileTurns.{AsksOne}
use Rattle.command_talks.proofs.Streams.{name_asks}
use Rattle.command_talks.proofs.telling.tell_walk.Goals as goal

pub returns-clause-asks : goal.returns-clause-asks
returns-clause-asks c =
    subst (λ (m : Option Walking). AsksOne (asked_at walking_asks m) c.of_name.result) (sym c.in_ok-next.ensures.after)
    (name_asks walking_asks walking_after c.args.walk.now (option_copied c.args.last) c.in_ok-next.field-0 c.of_name.result c.in_ok-next.ensures.step c.in_ok-next.ensures.range c.of_name.ensures)
