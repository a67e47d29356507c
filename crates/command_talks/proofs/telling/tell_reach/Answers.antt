use Rattle.std.proofs.Common.{Option, sym, subst}
use Rattle.std.specs.Option.{option_copied}
use Rattle.naming_tree.specs.ByPaths.{by_path_after, by_path_asks}
use Rattle.naming_tree.specs.declared.by_path.ByPath.{ByPath}
use Rattle.command_talks.specs.FileTalks.{asked_at}
use Rattle.command_talks.specs.FileTurns.{AsksOne}
use Rattle.command_talks.proofs.Streams.{name_asks}
use Rattle.command_talks.proofs.telling.tell_reach.Goals as goal

pub returns-clause-asks : goal.returns-clause-asks
returns-clause-asks c =
    subst (λ (m : Option ByPath). AsksOne (asked_at by_path_asks m) c.of_name.result) (sym c.in_ok-next.ensures.after)
    (name_asks by_path_asks by_path_after c.args.walk.now (option_copied c.args.last) c.in_ok-next.field-0 c.of_name.result c.in_ok-next.ensures.step c.in_ok-next.ensures.range c.of_name.ensures)
